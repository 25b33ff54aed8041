use Rattle.std.proofs.Common.{◌≡◌, ℕ, ◌+◌, ◌<◌, length, slice_index, refl, arith, rules}
use Rattle.std.proofs.lemmas.Grind.{common_steps}
use Rattle.bx_image.proofs.FillLemmas.{zero_run_of}
use Rattle.bx_image.proofs.record.fill.zero_run.Goals as goal

pub returns-clause-run : goal.returns-clause-run
returns-clause-run g c len within =
    let e = c.in_ok-resize.ensures in
    let total : c.args.at + length c.from_vec.result ≡ c.args.end = first_of (search rules, grind (arith, common_steps)) in
    let none : (j : ℕ) → j < length c.from_vec.result → slice_index c.from_vec.result j ≡ 0 = λ j h.
    rw c.from_vec.ensures (e.by_index.1 j 0 refl (omega (arith, c.in_ok-bytes.ensures.len)) (omega (arith, h, total))) in
    zero_run_of (record { at = c.args.at; bytes = c.from_vec.result }) len none (omega (arith, total, within))
