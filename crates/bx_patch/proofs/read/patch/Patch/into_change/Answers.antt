use Rattle.std.proofs.Common.{Option, List, ℕ, ap, ◌∙◌}
use Rattle.bx_image.specs.declared.change.Change.{Change}
use Rattle.bx_text.specs.declared.owned.pieces.Piece.{Piece}
use Rattle.std.specs.Option.{option_and_then}
use Rattle.bx_patch.specs.Patch.{new_length}
use Rattle.bx_patch.specs.Read.{asked_of}
use Rattle.bx_patch.proofs.OtherLemmas.{written_pieces}
use Rattle.bx_patch.proofs.read.patch.Patch.into_change.Goals as goal

pub returns : goal.returns
returns g c =
    let By : Option ℕ → List (Piece g.row.A.Denot) → Change g.row.A.Denot = λ b w. record { base = b; writes = w } in
    ap (λ b. By b c.from_vec.result) c.base_of-base.ensures ∙ ap (λ w. By (option_and_then new_length (asked_of c.args.self).lengths) w) (c.from_vec.ensures ∙ written_pieces c.args.self.written.items)
