use Rattle.std.proofs.Common.{◌+◌, ◌*◌, ◌/◌, arith}
use Rattle.std.proofs.lemmas.List.{get_or_default}
use Rattle.bx_patch.proofs.IndexLemmas.{none_met}
use Rattle.bx_patch.proofs.preview.untouched.until_found.Goals as goal

pub returns-in-Some-clause-untouched : goal.returns-in-Some-clause-untouched
returns-in-Some-clause-untouched g c j above below =
    let found = c.in-Some.ensures.lookup in
    none_met c.args.keys.now c.args.pieces.now c.args.at c.count_below.result j c.in-Some.key.now c.requires.index above c.count_below.ensures.below
    (λ q d late within.
    let key = c.in-Some.key.now in
    omega (arith, found.1, c.requires.index.1 c.count_below.result q key late within, get_or_default c.args.keys.now q key d within))
    (omega (arith, below, above, c.min.ensures, c.max.ensures))

pub returns-in-None-clause-untouched : goal.returns-in-None-clause-untouched
returns-in-None-clause-untouched g c j above below =
    none_met c.args.keys.now c.args.pieces.now c.args.at c.count_below.result j (j / 32768 * 1073741824 + 1073741824) c.requires.index above c.count_below.ensures.below
    (λ q d late within. absurd (omega (arith, late, within, c.in-None.ensures.lookup.3))) (omega arith)
