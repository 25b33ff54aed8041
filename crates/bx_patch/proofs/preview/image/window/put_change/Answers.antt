use Rattle.std.proofs.Common.{List, ℕ, subst}
use Rattle.bx_image.proofs.Changes.{placed_effect}
use Rattle.bx_patch.specs.private.preview.Window.{IsWindow}
use Rattle.bx_patch.proofs.preview.image.window.put_change.Goals as goal

pub put_reaching-requires : goal.put_reaching-requires
put_reaching-requires g c = record { ordered = rw c.as_slice-pieces.ensures (c.requires.ordered c.if-known.true) }

pub put_any-requires : goal.put_any-requires
put_any-requires g c = record { index = λ is. rw c.as_slice-pieces.ensures (c.requires.index is) }

pub returns-then-known-clause-put : goal.returns-then-known-clause-put
returns-then-known-clause-put g c y win =
    let P : List ℕ → Type 0 = λ w. IsWindow c.put_reaching.new.buf c.args.at w in
    subst P (placed_effect c.args.change.now y) (rw c.as_slice-pieces.ensures at (c.put_reaching.ensures.put _ (c.cut_window.ensures.put y win)))

pub returns-else-known-clause-put : goal.returns-else-known-clause-put
returns-else-known-clause-put g c y win =
    let P : List ℕ → Type 0 = λ w. IsWindow c.put_any.new.buf c.args.at w in
    subst P (placed_effect c.args.change.now y) (rw c.as_slice-pieces.ensures at (c.put_any.ensures.put _ (c.cut_window.ensures.put y win)))
