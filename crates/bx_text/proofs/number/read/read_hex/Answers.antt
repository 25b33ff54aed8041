use Rattle.std.proofs.Common.{arith, sym, ◌∙◌, length}
use Rattle.std.proofs.lemmas.Bool.{eqb-false}
use Rattle.bx_text.proofs.NumberLemmas.{hex_read}
use Rattle.bx_text.proofs.number.read.read_hex.Goals as goal

pub returns : goal.returns
returns c =
    let some = eqb-false (length c.args.text.now) 0 (sym c.is_empty.ensures ∙ c.if-is_empty.false) in
    hex_read c.args.text.now c.number_of.result (omega (arith, some)) c.if-text-gt16.false (sym c.count_digits.ensures.value ∙ c.if-count_digits-text.false) c.number_of.ensures
