use Rattle.std.proofs.Common.{arith}
use Rattle.bx_patch.proofs.ChangesOrder.{none_before, none_behind}
use Rattle.bx_patch.proofs.preview.untouched.until_next.Goals as goal

pub returns-in-Some-clause-untouched : goal.returns-in-Some-clause-untouched
returns-in-Some-clause-untouched g c j above below =
    let found = c.in-Some.ensures.lookup in
    none_before c.args.pieces.now c.count_ended.result c.in-Some.piece.now c.args.at j c.requires.ordered found.3.0 found.1 c.count_ended.ensures.ended above
    (omega (arith, above, below, c.min.ensures, c.max.ensures))

pub returns-in-None-clause-untouched : goal.returns-in-None-clause-untouched
returns-in-None-clause-untouched g c j above below =
    none_behind c.args.pieces.now c.count_ended.result c.args.at j c.in-None.ensures.lookup.3 c.count_ended.ensures.ended above
