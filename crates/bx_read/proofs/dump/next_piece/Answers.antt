use Rattle.std.proofs.Common.{ap, sym, ◌∙◌, ◌∷◌, inr}
use Rattle.bx_read.specs.Lines.{coming, line_view}
use Rattle.bx_read.proofs.dump.next_piece.Goals as goal

pub returns-in-Some-Err : goal.returns-in-Some-Err
returns-in-Some-Err g c =
    let later = coming c.next.new.self in
    inr (later, ap coming (sym c.in_default.ensures.none) ∙ c.in-Some-Err.ensures.steps ∙ ap (λ a. line_view a ∷ later) c.in-Some-Err.field-0-is)
