use Rattle.std.proofs.Common.{◌≡◌, ◌++◌, map, length, take, drop, ap, ◌∙◌, arith}
use Rattle.std.specs.Prelude.{codes}
use Rattle.std.proofs.lemmas.List.{length-map, length-take-le, length-drop, take_all, take-map}
use Rattle.bx_text.specs.Dump.{shown_byte}
use Rattle.bx_dump_columns.specs.Bits.{spaced_bits}
use Rattle.bx_dump_columns.proofs.BinaryLemmas.{body_of, body_is, spaced_long}
use Rattle.bx_dump_columns.proofs.xxd.binary.put_six.Goals as goal

pub returns : goal.returns
returns c =
    let bytes = c.args.bytes.now in
    let body = c.args.body.now in
    let v = take 16 bytes in
    let all = take_all 16 bytes (omega (arith, c.requires.bytes)) in
    let six = take 6 (map shown_byte bytes) in
    let few : length six ≡ 6 = length-take-le 6 (map shown_byte bytes) (omega (arith, length-map bytes shown_byte, c.requires.bytes)) in
    let first : length (take 6 v) ≡ 6 = length-take-le 6 v (omega (arith, ap length all, c.requires.bytes)) in
    let shown = c.copy_from_slice-2.ensures.after ∙ ap (take 6) c.put_shown.ensures in
    (λ i. body_of (c.copy_from_slice.ensures.after i ++ drop 2 body) (c.front_digits.ensures i) (c.middle_digits.ensures i) (c.last_digits.ensures i) (shown i))
    ∙ body_is (drop 2 body) (spaced_bits (take 6 v)) six (omega (arith, length-drop 2 body, c.requires.body)) (spaced_long (take 6 v) first) few
    ∙ (λ i. codes ": " ++ spaced_bits (take 6 (all i)) ++ codes " " ++ take-map shown_byte 6 bytes i ++ codes "\n")
