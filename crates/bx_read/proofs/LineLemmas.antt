-- A line, by its parts.
use Rattle.std.proofs.Common.{◌≡◌, ℕ, zero, suc, ◌+◌, ◌-◌, ◌/◌, ◌^◌, ◌<◌, ◌≤◌, Bool, false, Some, List, [], ◌∷◌, ◌++◌, length, get_or, map, replicate, refl, arith, sym, ap, ◌∙◌, inr, ⊎_elim, append_assoc}
use Rattle.std.specs.Fmt.{digits}
use Rattle.std.specs.List.{All}
use Rattle.std.proofs.lemmas.Bool.{cases_lt}
use Rattle.std.proofs.lemmas.Fmt.{digits_is_IsNumeral}
use Rattle.std.proofs.lemmas.List.{length-append, length-replicate, get_or_past, take_all}
use Rattle.std.proofs.Math.Nat.{add-div_right}
use Rattle.bx_text.specs.Field.{hex_text, laid_out}
use Rattle.bx_text.specs.Dump.{pair_of, shown_byte}
use Rattle.bx_text.specs.private.Dump.{hex_place, hex_columns, hex_width}
use Rattle.bx_text.proofs.FieldLemmas.{div_mono}
use Rattle.bx_read.specs.Grammar.{IsLine, EndsData}
use Rattle.bx_read.proofs.PackedLemmas.{packed, packed-pairs, length-packed, packed-before, two_each, apart_each, laid_out-packed}
use Rattle.bx_read.proofs.AddressLemmas.{all_hex, value-zeros, digits-zeros, length-hex}

-- spaces and one more are two spaces and a rest
ends_of : (m : ℕ) (text : List ℕ) → EndsData (replicate (suc m) 32 ++ 32 ∷ text)
ends_of zero text = inr (inr (text, refl))
ends_of (suc m) text = inr (inr (replicate m 32 ++ 32 ∷ text, refl))

-- the bytes are below 256 also past the end
pub each_small : (bytes : List ℕ) → All (λ b. b < 256) bytes → (i : ℕ) → get_or bytes i 0 < 256
each_small bytes all i = ⊎_elim (λ lt. all i 0 lt) (λ le. let z = get_or_past bytes i 0 le in omega (arith, z)) (cases_lt i (length bytes))

-- a line without its newline
abbrev pub front_of : Bool → ℕ → ℕ → ℕ → List ℕ → List ℕ
front_of upper cols group at bytes = hex_text false 8 at ++ (58 ∷ 32 ∷ []) ++ hex_columns upper group bytes (hex_width cols group) ++ (32 ∷ []) ++ map shown_byte bytes

pub line_of : (upper : Bool) (cols group at n : ℕ) (bytes : List ℕ) → 0 < group → length bytes ≡ suc n → suc n ≤ cols → cols ≤ 256 → All (λ b. b < 256) bytes → at < 2 ^ 62 →
    (hex : List ℕ) × IsLine (front_of upper cols group at bytes) at hex bytes
line_of upper cols group at n bytes pos len fits few all small =
    let text = λ (i : ℕ). pair_of upper (get_or bytes i 0) in
    let place = hex_place group in
    let below = each_small bytes all in
    let two = two_each upper group bytes pos below in
    let apart = apart_each upper group bytes pos below in
    let hex = packed place text (suc n) in
    let hex_len = length-packed place text two apart n (packed-before place text two apart n) in
    let width = hex_width cols group in
    let quotient : n / group + 1 ≤ (cols + group - 1) / group = omega (arith, div_mono (n + group) (cols + group - 1) group pos (omega arith), add-div_right n pos) in
    let m : ℕ = width - length hex - 1 in
    let gap : width - length hex ≡ suc m = omega (arith, hex_len) in
    let columns : hex_columns upper group bytes width ≡ hex ++ replicate (suc m) 32 =
    ap (λ k. laid_out place text k width) len ∙ laid_out-packed place text two apart (suc n) width (omega (arith, gap)) ∙ ap (λ k. hex ++ replicate k 32) gap in
    let ds = digits 16 false at in
    let numeral = digits_is_IsNumeral 16 false (omega arith) (omega arith) at (omega arith) in
    let zeros : ℕ = 8 - length ds in
    let address = hex_text false 8 at in
    let shown = map shown_byte bytes in
    let few_ds = length-hex 15 at (omega arith) in
    let tail = replicate (suc m) 32 ++ 32 ∷ shown in
    let line = λ (c : List ℕ). address ++ (58 ∷ 32 ∷ []) ++ c ++ (32 ∷ []) ++ shown in
    let spelled : line (hex ++ replicate (suc m) 32) ≡ address ++ 58 ∷ 32 ∷ (hex ++ tail) = simp append_assoc in (
      hex,
      record {
        digits = address;
        tail = tail;
        spelled = ap line columns ∙ spelled;
        address = all_hex (replicate zeros 48 ++ ds) (digits-zeros zeros ds numeral.0.1);
        some_digits = omega (arith, length-append (replicate zeros 48) ds, numeral.0.0);
        few_digits = omega (arith, length-append (replicate zeros 48) ds, length-replicate {A = ℕ} zeros 48, few_ds);
        value = sym (value-zeros zeros ds ∙ numeral.1);
        small = small;
        pairs = packed-pairs upper group bytes pos below n (omega arith) ∙ ap Some (take_all (n + 1) bytes (omega arith));
        few_pairs = omega arith;
        ends = ends_of m shown;
      },
    )

pub line_reads : (upper : Bool) (cols group at : ℕ) (bytes : List ℕ) → 0 < group → 0 < length bytes → length bytes ≤ cols → cols ≤ 256 → All (λ b. b < 256) bytes → at < 2 ^ 62 →
    (hex : List ℕ) × IsLine (front_of upper cols group at bytes) at hex bytes
line_reads upper cols group at [] pos some fits few all small = absurd (omega arith)
line_reads upper cols group at (b ∷ bytes) pos some fits few all small = line_of upper cols group at (length bytes) (b ∷ bytes) pos refl fits few all small
