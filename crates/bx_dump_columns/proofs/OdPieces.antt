-- od's values of 16 bytes at once, in either order of their bytes.
use Rattle.std.proofs.Common.{◌≡◌, ℕ, ◌+◌, ◌-◌, ◌*◌, ◌/◌, ◌≤◌, List, ◌++◌, length, take, drop, refl, sym, ap, ◌∙◌, subst, arith}
use Rattle.std.proofs.Math.Nat.{mul-le-mul_left}
use Rattle.std.proofs.Math.Seq.{take-add}
use Rattle.std.proofs.lemmas.List.{length-drop, length-take-le}
use Rattle.std.proofs.lemmas.Simd.{pick_l_whole}
use borrow.Rule.Slice.PartMut.{put_mid}
use Rattle.bx_text.proofs.KnownLemmas.{take-put_mid_more}
use Rattle.bx_dump_columns.specs.Lines.{in_lines}
use Rattle.bx_dump_columns.specs.Values.{field_width, line_width, value_text_in, values_text, width_of}
use Rattle.bx_dump_columns.specs.Words.{turned_groups}
use Rattle.bx_dump_columns.specs.declared.od.options.Endian.{Endian}
use Rattle.bx_dump_columns.specs.declared.od.options.Endian.TheVariants.{Big}
use Rattle.bx_dump_columns.specs.declared.od.options.NumForm.TheVariants as form
use Rattle.bx_dump_columns.specs.declared.od.options.Size.TheVariants.{One, Two, Four, Eight}
use Rattle.bx_dump_columns.specs.declared.od.options.Kind.{Kind}
use Rattle.bx_dump_columns.specs.declared.od.options.Kind.TheVariants.{Chars, Number}
use Rattle.bx_dump_columns.proofs.LinesLemmas.{in_lines-append}
use Rattle.bx_dump_columns.proofs.OdLemmas.{some_width, values_fit}

-- the highest byte first is the lowest first of the turned bytes
abbrev ShowsTurned : Kind → List ℕ → Type 0
ShowsTurned kind bytes = values_text kind (turned_groups (width_of kind) bytes) ≡ in_lines (value_text_in Big kind) (width_of kind) 0 bytes

pub highest_first : (kind : Kind) (bytes : List ℕ) → length bytes ≡ 16 → ShowsTurned kind bytes
highest_first Chars bytes long = subst (ShowsTurned Chars) (pick_l_whole 0 bytes 16 long) refl
highest_first (Number form One) bytes long = subst (ShowsTurned (Number form One)) (pick_l_whole 0 bytes 16 long) refl
highest_first (Number form Two) bytes long = subst (ShowsTurned (Number form Two)) (pick_l_whole 0 bytes 16 long) refl
highest_first (Number form Four) bytes long = subst (ShowsTurned (Number form Four)) (pick_l_whole 0 bytes 16 long) refl
highest_first (Number form Eight) bytes long = subst (ShowsTurned (Number form Eight)) (pick_l_whole 0 bytes 16 long) refl

pub ones_turned : (bytes : List ℕ) → length bytes ≡ 16 → turned_groups 1 bytes ≡ bytes
ones_turned bytes long = subst (λ l. turned_groups 1 l ≡ l) (pick_l_whole 0 bytes 16 long) refl

-- the values of 16 bytes
pub whole_width : (kind : Kind) → width_of kind * (16 / width_of kind) ≡ 16
whole_width Chars = refl
whole_width (Number form One) = refl
whole_width (Number form Two) = refl
whole_width (Number form Four) = refl
whole_width (Number form Eight) = refl

count_is : (kind : Kind) → (16 + width_of kind - 1) / width_of kind ≡ 16 / width_of kind
count_is Chars = refl
count_is (Number form One) = refl
count_is (Number form Two) = refl
count_is (Number form Four) = refl
count_is (Number form Eight) = refl

pub line_few : (kind : Kind) → line_width kind ≤ 80
line_few kind = subst (λ n. (field_width kind + 1) * n ≤ 80) (count_is kind) (values_fit kind 16 (omega arith))

pub line_room : (kind : Kind) (k used : ℕ) → used ≡ line_width kind * k → used ≤ 80 * k
line_room kind k used at = let most : k * line_width kind ≤ k * 80 = mul-le-mul_left {m = line_width kind} {n = 80} k (line_few kind) in omega arith

-- the values of 16 bytes more
pub piece_next : (kind : Kind) (endian : Endian) (bytes text new : List ℕ) (k used n : ℕ) → 16 * k + 16 ≤ length bytes → 80 * (k + 1) ≤ length text →
    used ≡ line_width kind * k → n ≡ line_width kind → length new ≡ length (take (length text - used) (drop used text)) →
    take used text ≡ in_lines (value_text_in endian kind) (width_of kind) 0 (take (16 * k) bytes) →
    take n new ≡ in_lines (value_text_in endian kind) (width_of kind) 0 (take (16 * k + 16 - 16 * k) (drop (16 * k) bytes)) →
    (used + n ≡ line_width kind * (k + 1)) × (take (used + n) (put_mid used (length text - used) text new) ≡ in_lines (value_text_in endian kind) (width_of kind) 0 (take (16 * (k + 1)) bytes))
piece_next kind endian bytes text new k used n inside room at one long before put =
    let L = line_width kind in
    let W = width_of kind in
    let show = in_lines (value_text_in endian kind) W 0 in
    let front = take (16 * k) bytes in
    let next : L * (k + 1) ≡ L * k + L = omega arith in
    let fits : used + n ≤ length text = omega (arith, one, line_room kind k used at, line_few kind, room) in
    let left : length new ≡ length text - used = long ∙ length-take-le (length text - used) (drop used text) (omega (arith, length-drop used text)) in
    let more = take-put_mid_more text new used (length text - used) n (omega (arith, fits)) (omega (arith, left, fits)) in
    let cut : 16 * k + 16 - 16 * k ≡ 16 = omega arith in
    let front_len : length front ≡ 16 * k = length-take-le (16 * k) bytes (omega (arith, inside)) in
    let whole : W * (16 / W) * k ≡ 16 * k = ap (λ m. m * k) (whole_width kind) in
    let values : length front ≡ W * (16 / W * k) = omega (arith, front_len, whole) in
    let join = in_lines-append (value_text_in endian kind) W 0 (16 / W * k) front (take 16 (drop (16 * k) bytes)) (some_width kind) values in
    let end : 16 * k + 16 ≡ 16 * (k + 1) = omega arith in (
      omega (arith, at, one, next),
      more ∙ ap (λ t. t ++ take n new) before ∙ ap (λ t. show front ++ t) (put ∙ ap (λ m. show (take m (drop (16 * k) bytes))) cut)
          ∙ sym join ∙ ap show (sym (take-add (16 * k) 16 bytes) ∙ ap (λ m. take m bytes) end),
    )
