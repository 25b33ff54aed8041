use Rattle.std.proofs.Common.{arith, sym, ap, ◌∙◌, ◌-◌, ◌^◌, get_or, take}
use Rattle.std.specs.Char.{digit_value}
use Rattle.std.specs.Str.Parse.{digits_value}
use Rattle.std.proofs.lemmas.Int.Digits.{digits_value_more}
use Rattle.bx_text.specs.private.Capped.{capped}
use Rattle.bx_text.proofs.NumberLemmas.{digit_more}
use Rattle.bx_dd.proofs.operands.number.number_of.Goals as goal

pub loop-byte-preserved : goal.loop-byte-preserved
loop-byte-preserved c =
    let digits = c.args.digits.now in
    let i = c.loop-byte.byte-index in
    digit_more c.loop-byte.value c.saturating_mul.result c.from.result c.saturating_add-value.result (digit_value (get_or digits i 0)) 10 (2 ^ 64 - 1) (digits_value 10 (take i digits))
    c.loop-byte.invariant c.saturating_mul.ensures (c.from.ensures ∙ c.value_of.ensures) c.saturating_add-value.ensures (omega arith)
    ∙ ap capped (sym (digits_value_more 10 digits i c.loop-byte-test.true))
