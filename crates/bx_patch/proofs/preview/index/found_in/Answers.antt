use Rattle.bx_patch.proofs.IndexLemmas.{found_all}
use Rattle.bx_patch.proofs.preview.index.found_in.Goals as goal

pub returns-clause-all : goal.returns-clause-all
returns-clause-all c k above less has =
    let front = c.split_at.ensures.front in
    rw (c.split_at-2.ensures.back, front) (found_all c.args.keys.now c.args.first _ c.count_below-2.result c.count_below.result k
    c.count_below.ensures.rest (rw (← front) c.count_below-2.ensures.below) above less has)
