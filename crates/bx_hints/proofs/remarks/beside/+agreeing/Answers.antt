use Rattle.std.proofs.Common.{rules, arith, ◌≡◌, ◌≢◌, length, ℕ, ◌<◌, slice_index}
use Rattle.std.proofs.lemmas.List.{take_rest}
use Rattle.bx_hints.proofs.AgreeingLemmas.{agreeing_same, agreeing_other}
use Rattle.bx_hints.proofs.remarks.beside.+agreeing.Goals as goal

pub returns-then-shown-text-clause-count : goal.returns-then-shown-text-clause-count
returns-then-shown-text-clause-count t c =
    let shown = c.args.shown.now in
    let text = c.args.text.now in
    let some : 0 < length shown = search rules in
    let some_text : 0 < length text = search rules in
    let first : slice_index shown 0 ≡ slice_index text 0 = search rules in
    grind (arith, agreeing_same shown text some some_text first, take_rest shown 1, take_rest text 1, c.agreeing-behind.ensures.count)

pub returns-else-shown-text-clause-count : goal.returns-else-shown-text-clause-count
returns-else-shown-text-clause-count t c =
    let shown = c.args.shown.now in
    let text = c.args.text.now in
    let some : 0 < length shown = search rules in
    let some_text : 0 < length text = search rules in
    let first : slice_index shown 0 ≢ slice_index text 0 = search rules in
    grind (arith, agreeing_other shown text some some_text first, take_rest shown 1, take_rest text 1, c.agreeing-behind.ensures.count)
