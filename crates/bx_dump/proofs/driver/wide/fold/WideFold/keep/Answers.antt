use Rattle.std.proofs.Common.{◌≡◌, length, ap, ◌∙◌, arith}
use Rattle.std.proofs.lemmas.List.{take_all, take_at}
use Rattle.bx_dump.proofs.driver.wide.fold.WideFold.keep.Goals as goal

pub returns-then-line-eq16-clause-last : goal.returns-then-line-eq16-clause-last
returns-then-line-eq16-clause-last c =
    let text = c.copy_from_slice.new.self in
    let same : text ≡ c.args.line.now = c.copy_from_slice.ensures.after ∙ take_all 16 c.args.line.now (omega (arith, c.if-line-eq16.true)) in
    take_at text _ (length c.args.line.now) (ap length same) ∙ same
