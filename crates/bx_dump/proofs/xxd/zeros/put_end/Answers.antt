use Rattle.std.proofs.Common.{◌≡◌, ◌+◌, ◌-◌, ◌*◌, ◌<◌, ◌≤◌, ℕ, false, ◌++◌, length, take, replicate, arith, sym, ap, ◌∙◌}
use Rattle.std.specs.Prelude.{nat_lt}
use Rattle.std.proofs.lemmas.Bool.Decides.{nat_tests}
use Rattle.std.proofs.Math.Seq.{take-append-add}
use Rattle.bx_dump.specs.private.Zeros.{dump_end, row_end}
use Rattle.bx_dump.proofs.xxd.zeros.put_end.Goals as goal

pub returns-clause-text : goal.returns-clause-text
returns-clause-text g c =
    let C = g.F.LineForm.cols c.args.form.now in
    let line = g.F.LineForm.line c.args.form.now in
    let front = c.split_at_mut-rest.result.0.now in
    let more = c.put_zero_line.new.text in
    let back : c.saturating_sub-back.result ≡ c.args.at - C = omega (arith, c.saturating_sub-back.ensures, c.line_len.ensures.value) in
    let zeros = c.args.zeros in
    let some : nat_lt zeros 2 ≡ false = not_less zeros c.if-zeros-lt2.false in
    let text : take (c.put_row_end-first.result + c.put_zero_line.result) (front ++ more) ≡ row_end line C c.saturating_sub-back.result (zeros - 1) ++ line c.saturating_sub-back.result (replicate C 0) =
    ap (λ n. take (n + c.put_zero_line.result) (front ++ more)) (sym c.split_at_mut-rest.ensures.front_len)
    ∙ take-append-add front more c.put_zero_line.result
    ∙ ap (λ t. t ++ take c.put_zero_line.result more) (c.split_at_mut-rest.ensures.front ∙ c.put_row_end-first.ensures.text)
    ∙ ap (λ t. row_end line C c.saturating_sub-back.result (zeros - 1) ++ t) c.put_zero_line.ensures.text in
    rw (some, ← back) text
  where
    not_less : (n : ℕ) → 2 ≤ n → nat_lt n 2 ≡ false
    not_less n some = grind (arith, nat_tests)
