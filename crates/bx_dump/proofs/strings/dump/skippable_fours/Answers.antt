use Rattle.std.proofs.Common.{◌≡◌, ◌+◌, ◌<◌, ◌≤◌, ℕ, false, length, take, arith, inl, inr}
use Rattle.std.proofs.lemmas.Bool.{cases_lt}
use Rattle.std.proofs.lemmas.List.{take-take, length-take-le}
use Rattle.bx_dump_columns.specs.Printing.{four_print}
use Rattle.bx_dump.specs.private.Scan.{EndsQuiet}
use Rattle.bx_dump.proofs.QuietLemmas.{fours_quiet, before_four}
use Rattle.bx_dump.proofs.strings.dump.skippable_fours.Goals as goal

pub returns-then-more-lt32-clause-quiet : goal.returns-then-more-lt32-clause-quiet
returns-then-more-lt32-clause-quiet c =
    let bytes = c.args.bytes.now in
    let before = c.loop-done.invariant in
    let done = c.loop-done.done in
    let more = c.four_in-more.result in
    let none : (k : ℕ) → k < done + more → four_print bytes k ≡ false =
    λ k lt. elim (cases_lt k done) [ inl early ↦ before.none k early | inr late ↦ c.four_in-more.ensures.none k late lt ] in
    let inside : done + more ≤ length bytes = omega (arith, c.loop-done-test.true, c.four_in-more.ensures.most, before.inside) in
    fours_quiet c.args.least (done + more) (done + more) bytes c.requires (omega arith)
    (before_four (done + more) bytes inside (c.four_in-more.ensures.found (omega (arith, c.if-more-lt32.true))) none) none

pub returns-clause-quiet : goal.returns-clause-quiet
returns-clause-quiet c =
    let bytes = c.args.bytes.now in
    let before = c.loop-done.invariant in
    let done = c.loop-done.done in
    let n = c.last_other.result in
    let long = length-take-le done bytes before.inside in
    let few : n ≤ done = omega (arith, long, c.last_other.ensures.within) in
    let quiet : EndsQuiet (take n bytes) = rw (take-take n done bytes few) at c.last_other.ensures.other in
    fours_quiet c.args.least n done bytes c.requires few quiet before.none
