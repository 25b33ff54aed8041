-- Values that are spread over a line.
use Rattle.std.proofs.Common.{◌≡◌, ℕ, ◌+◌, ◌-◌, ◌*◌, ◌/◌, ◌<◌, ◌≤◌, List, ◌++◌, length, min, replicate, take, drop, refl, sym, ap, ◌∙◌, arith}
use Rattle.std.proofs.Math.Nat.{div-eq_of_lt, mul-le-mul_left}
use Rattle.std.proofs.lemmas.List.{length-drop, length-take-le}
use borrow.Rule.Slice.PartMut.{put_mid}
use Rattle.bx_text.proofs.FieldLemmas.{div_mono}
use Rattle.bx_text.proofs.KnownLemmas.{take-put_mid_more}
use Rattle.bx_text.proofs.RangeLemmas.{flat_map_along}
use Rattle.bx_dump_columns.specs.Lines.{in_lines}
use Rattle.bx_dump_columns.specs.Values.{blanks_from, field_width, spread_text, value_text_in, width_of}
use Rattle.bx_dump_columns.specs.declared.od.options.Endian.{Endian}
use Rattle.bx_dump_columns.specs.declared.od.options.Kind.{Kind}
use Rattle.bx_dump_columns.proofs.LinesLemmas.{line_begin, lines_next_at}

-- fewer blanks stand further behind
pub fewer_blanks : (pad n a b : ℕ) → 0 < n → a ≤ b → blanks_from pad n b ≤ blanks_from pad n a
fewer_blanks pad n a b pos le = div_mono (pad * (n - b)) (pad * (n - a)) n pos (mul-le-mul_left {m = n - b} {n = n - a} pad (omega arith))

-- where there are none, the values stand alone
pub none_spread : (kind : Kind) (endian : Endian) (n : ℕ) (bytes : List ℕ) → 0 < n →
    in_lines (value_text_in endian kind) (width_of kind) 0 bytes ≡ in_lines (spread_text endian kind 0 n) (width_of kind) 0 bytes
none_spread kind endian n bytes pos =
    flat_map_along (λ k. value_text_in endian kind (0 + width_of kind * k) (take (width_of kind) (drop (width_of kind * k) bytes)))
    (λ k. spread_text endian kind 0 n (0 + width_of kind * k) (take (width_of kind) (drop (width_of kind * k) bytes))) 0 0 ((length bytes + width_of kind - 1) / width_of kind) (λ k inside.
    let one = 0 + width_of kind * (0 + k) in
    let value = value_text_in endian kind one (take (width_of kind) (drop (width_of kind * (0 + k)) bytes)) in
    let few : blanks_from 0 n one - blanks_from 0 n (one + width_of kind) ≡ 0 = omega (arith, none one) in
    ap (λ m. replicate m 32 ++ value) (sym few))
  where
    none : (at : ℕ) → blanks_from 0 n at ≡ 0
    none at = let z : 0 * (n - at) ≡ 0 = omega arith in ap (λ m. m / n) z ∙ div-eq_of_lt pos

-- one value more with its blanks, behind those of a line so far
pub spread_next : (kind : Kind) (endian : Endian) (pad cols : ℕ) (bytes text new : List ℕ) (k width used left rest n : ℕ) →
    used + (left - rest) + (field_width kind + 1) ≤ length text → width ≡ width_of kind → 0 < width_of kind → k < (length bytes + width_of kind - 1) / width_of kind →
    left ≡ blanks_from pad cols (width_of kind * k) → rest ≡ blanks_from pad cols (width * k + width) →
    length new ≡ length (take (length text - used) (drop used text)) → n ≡ left - rest + (field_width kind + 1) →
    take used text ≡ in_lines (spread_text endian kind pad cols) (width_of kind) 0 (take (width_of kind * k) bytes) →
    take n new ≡ replicate (left - rest) 32 ++ value_text_in endian kind (0 + width * k) (take (min (width * k + width_of kind) (length bytes) - width * k) (drop (width * k) bytes)) →
    take (used + n) (put_mid used (length text - used) text new) ≡ in_lines (spread_text endian kind pad cols) (width_of kind) 0 (take (width_of kind * (k + 1)) bytes)
spread_next kind endian pad cols bytes text new k width used left rest n fits value pos below now next long one before put =
    let W = width_of kind in
    let inside : W * k < length bytes = line_begin (length bytes) W k pos below in
    let begin : width * k ≡ W * k = ap (λ n. n * k) value in
    let front : W * k ≡ 0 + width * k = omega (arith, begin) in
    let behind : width * k + width ≡ 0 + width * k + W = omega (arith, value) in
    let room : length new ≡ length text - used = long ∙ length-take-le (length text - used) (drop used text) (omega (arith, length-drop used text)) in
    let blanks : left - rest ≡ blanks_from pad cols (0 + width * k) - blanks_from pad cols (0 + width * k + W) =
    rw (now, next, front, behind) refl in
    let more = take-put_mid_more text new used (length text - used) n (omega arith) (omega (arith, room, one)) in
    let value = value_text_in endian kind (0 + width * k) (take (min (width * k + W) (length bytes) - width * k) (drop (width * k) bytes)) in
    more ∙ lines_next_at (spread_text endian kind pad cols) W 0 k (width * k) bytes _ _ pos begin (omega (arith, inside, begin)) before (put ∙ ap (λ m. replicate m 32 ++ value) blanks)
