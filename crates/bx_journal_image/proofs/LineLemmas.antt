-- The fields of the line, one behind another.
use Rattle.std.proofs.Common.{◌≡◌, ℕ, ◌+◌, ◌<◌, ◌≤◌, ◌^◌, List, [], ◌∷◌, ◌++◌, length, refl, ap, sym, ◌∙◌, arith, append_assoc, length-append, Some}
use Rattle.std.proofs.Math.Nat.{pow-le-pow_right}
use Rattle.bx_journal_format.specs.Hex.{hex_digits, number_after}
use Rattle.bx_journal_format.proofs.HexLemmas.{length-hex_digits, number_after-hex_digits}
use Rattle.bx_journal_image.specs.Line.{field}

-- two fronts of one length
pub fronts : (a w r s : List ℕ) → length a ≡ length w → a ++ r ≡ w ++ s → (a ≡ w) × (r ≡ s)
fronts [] [] r s long e = (refl, e)
fronts [] (y ∷ w) r s long e = absurd (omega (arith, long))
fronts (x ∷ a) [] r s long e = absurd (omega (arith, long))
fronts (x ∷ a) (y ∷ w) r s long e =
    let head : x ≡ y = cc in
    let tail : a ++ r ≡ w ++ s = cc in
    let more = fronts a w r s (omega (arith, long)) tail in
    ((λ i. head i ∷ more.0 i), more.1)

-- a text that begins with a field, in three parts
pub parts_of : (front more a behind digits rest text : List ℕ) (width n : ℕ) → text ≡ field front width n ++ more → text ≡ a ++ behind → length a ≡ length front
    → behind ≡ digits ++ rest → length digits ≡ width → (digits ≡ hex_digits width n) × (rest ≡ more)
parts_of front more a behind digits rest text width n is first la second ld =
    let spelled : a ++ (digits ++ rest) ≡ front ++ (hex_digits width n ++ more) =
    ap (λ s. a ++ s) (sym second) ∙ sym first ∙ is ∙ append_assoc front (hex_digits width n) more in
    let one = fronts a front (digits ++ rest) (hex_digits width n ++ more) la spelled in
    fronts digits (hex_digits width n) rest more (ld ∙ sym (length-hex_digits width n)) one.1

pub field_long : (front more text : List ℕ) (width n : ℕ) → text ≡ field front width n ++ more → length text ≡ length front + width + length more
field_long front more text width n is =
    omega (arith, ap length is, length-append (front ++ hex_digits width n) more, length-append front (hex_digits width n), length-hex_digits width n)

pub number_is : (digits : List ℕ) (width n : ℕ) → n < 16 ^ width → digits ≡ hex_digits width n → number_after 0 digits ≡ Some n
number_is digits width n fits is =
    ap (number_after 0) is ∙ number_after-hex_digits width n 0 fits ∙ ap Some (omega arith)

pub assoc_of : (a b c d e f g h i j k l : List ℕ) → a ++ b ++ c ++ d ++ e ++ f ++ g ++ h ++ i ++ j ++ k ++ l ≡ a ++ (b ++ (c ++ (d ++ (e ++ (f ++ (g ++ (h ++ (i ++ (j ++ (k ++ l))))))))))
assoc_of a b c d e f g h i j k l =
    append_assoc (a ++ b ++ c ++ d ++ e ++ f ++ g ++ h ++ i ++ j) k l
    ∙ append_assoc (a ++ b ++ c ++ d ++ e ++ f ++ g ++ h ++ i) j (k ++ l)
    ∙ append_assoc (a ++ b ++ c ++ d ++ e ++ f ++ g ++ h) i (j ++ (k ++ l))
    ∙ append_assoc (a ++ b ++ c ++ d ++ e ++ f ++ g) h (i ++ (j ++ (k ++ l)))
    ∙ append_assoc (a ++ b ++ c ++ d ++ e ++ f) g (h ++ (i ++ (j ++ (k ++ l))))
    ∙ append_assoc (a ++ b ++ c ++ d ++ e) f (g ++ (h ++ (i ++ (j ++ (k ++ l)))))
    ∙ append_assoc (a ++ b ++ c ++ d) e (f ++ (g ++ (h ++ (i ++ (j ++ (k ++ l))))))
    ∙ append_assoc (a ++ b ++ c) d (e ++ (f ++ (g ++ (h ++ (i ++ (j ++ (k ++ l)))))))
    ∙ append_assoc (a ++ b) c (d ++ (e ++ (f ++ (g ++ (h ++ (i ++ (j ++ (k ++ l))))))))
    ∙ append_assoc a b (c ++ (d ++ (e ++ (f ++ (g ++ (h ++ (i ++ (j ++ (k ++ l)))))))))

power_at : (i j : ℕ) → i ≤ j → 16 ^ i ≤ 16 ^ j
power_at i j h = pow-le-pow_right (omega arith) h

pub power_some : (width : ℕ) → 0 < 16 ^ width
power_some width =
    let least : 16 ^ 0 ≤ 16 ^ width = power_at 0 width (omega arith) in
    omega (arith, least)
