use Rattle.std.proofs.Common.{◌++◌, ap, sym, ◌∙◌, arith, length-append}
use Rattle.std.specs.Str.{bytes_eq}
use Rattle.bx_journal_format.specs.Hex.{hex_digits}
use Rattle.bx_journal_format.proofs.HexLemmas.{length-hex_digits}
use Rattle.bx_journal_format.proofs.PartLemmas.{other_length, other_word, number_tells}
use Rattle.bx_journal_format.proofs.format.words.is_numbered.Goals as goal

pub returns-then-line-word : goal.returns-then-line-word
returns-then-line-word c =
    let word = c.args.word.now in
    let number = hex_digits 8 c.args.number in
    sym (other_length c.args.line.now (word ++ number) (λ e. c.if-line-word.true (e ∙ length-append word number ∙ omega (arith, length-hex_digits 8 c.args.number))))

pub returns-then-not-is_same : goal.returns-then-not-is_same
returns-then-not-is_same c =
    sym (other_word c.args.word.now (hex_digits 8 c.args.number) c.args.line.now c.split_at.result.0.now c.split_at.result.1.now
    c.split_at.ensures.by_index.0 c.split_at.ensures.front_len (sym c.is_same.ensures ∙ c.if-not-is_same.true))

pub returns : goal.returns
returns c =
    c.is_same-2.ensures ∙ ap (bytes_eq c.split_at.result.1.now) c.eight_digits.ensures
    ∙ sym (number_tells c.args.word.now (hex_digits 8 c.args.number) c.args.line.now c.split_at.result.0.now c.split_at.result.1.now
    c.split_at.ensures.by_index.0 c.split_at.ensures.front_len (sym c.is_same.ensures ∙ c.if-not-is_same.false))
