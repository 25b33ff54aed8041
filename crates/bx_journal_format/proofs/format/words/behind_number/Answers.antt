use Rattle.std.proofs.Common.{◌++◌, ◌∷◌, [], ap, sym, ◌∙◌, arith, length-append}
use Rattle.std.specs.Str.{bytes_eq}
use Rattle.bx_journal_format.specs.Hex.{hex_digits}
use Rattle.bx_journal_format.proofs.HexLemmas.{length-hex_digits}
use Rattle.bx_journal_format.proofs.PartLemmas.{too_short, no_word, no_number, no_space, all_there}
use Rattle.bx_journal_format.proofs.format.words.behind_number.Goals as goal

pub returns-then-line-word : goal.returns-then-line-word
returns-then-line-word c =
    let word = c.args.word.now in
    let number = hex_digits 8 c.args.number in
    too_short (word ++ number ++ 32 ∷ []) c.args.line.now
    (omega (arith, c.if-line-word.true, length-append (word ++ number) (32 ∷ []), length-append word number, length-hex_digits 8 c.args.number))

pub returns-then-not-is_same : goal.returns-then-not-is_same
returns-then-not-is_same c =
    no_word c.args.word.now (hex_digits 8 c.args.number) c.args.line.now c.split_at.result.0.now c.split_at.result.1.now c.split_at-2.result.0.now c.split_at-2.result.1.now c.split_at-3.result.0.now c.split_at-3.result.1.now
    c.split_at.ensures.by_index.0 c.split_at-2.ensures.by_index.0 c.split_at-3.ensures.by_index.0
    c.split_at.ensures.front_len (c.split_at-2.ensures.front_len ∙ sym (length-hex_digits 8 c.args.number))
    (sym c.is_same.ensures ∙ c.if-not-is_same.true)

pub returns-then-not-is_same-2 : goal.returns-then-not-is_same-2
returns-then-not-is_same-2 c =
    no_number c.args.word.now (hex_digits 8 c.args.number) c.args.line.now c.split_at.result.0.now c.split_at.result.1.now c.split_at-2.result.0.now c.split_at-2.result.1.now c.split_at-3.result.0.now c.split_at-3.result.1.now
    c.split_at.ensures.by_index.0 c.split_at-2.ensures.by_index.0 c.split_at-3.ensures.by_index.0
    c.split_at.ensures.front_len (c.split_at-2.ensures.front_len ∙ sym (length-hex_digits 8 c.args.number))
    (ap (bytes_eq c.split_at-2.result.0.now) (sym c.eight_digits.ensures) ∙ sym c.is_same-2.ensures ∙ c.if-not-is_same-2.true)

pub returns-then-space-ne32 : goal.returns-then-space-ne32
returns-then-space-ne32 c =
    no_space c.args.word.now (hex_digits 8 c.args.number) c.args.line.now c.split_at.result.0.now c.split_at.result.1.now c.split_at-2.result.0.now c.split_at-2.result.1.now c.split_at-3.result.0.now c.split_at-3.result.1.now
    c.split_at.ensures.by_index.0 c.split_at-2.ensures.by_index.0 c.split_at-3.ensures.by_index.0
    c.split_at.ensures.front_len (c.split_at-2.ensures.front_len ∙ sym (length-hex_digits 8 c.args.number))
    c.split_at-3.ensures.front_len c.if-space-ne32.true

pub returns : goal.returns
returns c =
    all_there c.args.word.now (hex_digits 8 c.args.number) c.args.line.now c.split_at.result.0.now c.split_at.result.1.now c.split_at-2.result.0.now c.split_at-2.result.1.now c.split_at-3.result.0.now c.split_at-3.result.1.now
    c.split_at.ensures.by_index.0 c.split_at-2.ensures.by_index.0 c.split_at-3.ensures.by_index.0
    c.split_at.ensures.front_len (c.split_at-2.ensures.front_len ∙ sym (length-hex_digits 8 c.args.number))
    (sym c.is_same.ensures ∙ c.if-not-is_same.false)
    (ap (bytes_eq c.split_at-2.result.0.now) (sym c.eight_digits.ensures) ∙ sym c.is_same-2.ensures ∙ c.if-not-is_same-2.false)
    c.split_at-3.ensures.front_len c.if-space-ne32.false
