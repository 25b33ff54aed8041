-- When a text may be a front of a line that ends in a number.
use Rattle.std.proofs.Common.{◌≡◌, ℕ, zero, suc, ◌+◌, ◌-◌, ◌*◌, ◌/◌, ◌^◌, ◌<◌, ◌≤◌, ◌↔◌, Bool, true, false, List, [], ◌∷◌, ◌++◌, length, take, drop, refl, ap, sym, ◌∙◌, subst, arith, append_assoc, Option, Some, None, length-append, get_or, add-one, not}
use Rattle.std.specs.Prelude.{nat_le, option_and_then, replicate}
use Rattle.std.proofs.lemmas.Grind.{common_steps}
use Rattle.std.proofs.lemmas.List.{take-append-drop, length-replicate}
use Rattle.std.specs.Str.{bytes_eq}
use Rattle.std.proofs.Math.Seq.{take-append_seam, drop-cons}
use Rattle.std.specs.List.{list_all}
use Rattle.bx_text.specs.Ascii.{is_printable}
use Rattle.std.proofs.Math.Nat.{pow-suc, le-div_iff_mul-le}
use Rattle.bx_image.specs.declared.change.TheConstants.{MAX_LEN}
use Rattle.bx_journal_format.specs.Hex.{hex_digits, hex_nibble, number_after}
use Rattle.bx_journal_format.specs.Text.{IsPrefix, Entry, may_begin}
use Rattle.bx_journal_format.specs.count.Front.{IsNumberFront}
use Rattle.bx_journal_format.specs.Parsed.{told_by}
use Rattle.bx_journal_format.proofs.HexLemmas.{number_after-append, number_after-hex_digits, length-hex_digits}
use Rattle.bx_journal_format.proofs.Inverse.{bind_some, digits_after, below_after, same_bytes}
use Rattle.bx_journal_format.proofs.LineLemmas.{bytes_eq-same}

zeros_after : (k p : ℕ) → number_after p (replicate k 48) ≡ Some (p * 16 ^ k)
unfolding number_after
zeros_after zero p = ap Some (omega arith)
zeros_after (suc k) p = zeros_after k (16 * p + 0) ∙ ap Some (rw (pow-suc 16 k) (omega arith))

-- the number of a front
front_number : (t more : List ℕ) (a n : ℕ) → number_after a (t ++ more) ≡ Some n → (p : ℕ) × (number_after a t ≡ Some p) × (number_after p more ≡ Some n)
unfolding number_after
front_number [] more a n e = (a, refl, e)
front_number (c ∷ t) more a n e =
    let d = bind_some (λ d. number_after (16 * a + d) (t ++ more)) (hex_nibble c) n e in
    let f = front_number t more (16 * a + d.0) n d.2 in
    (f.0, step_is (hex_nibble c) d.0 d.1 f.0 f.1, f.2)
  where
    step_is : (o : Option ℕ) (d : ℕ) → o ≡ Some d → (p : ℕ) → number_after (16 * a + d) t ≡ Some p → option_and_then (λ d. number_after (16 * a + d) t) o ≡ Some p
    step_is o d is p q = rw is q

least_after : (more : List ℕ) (p n : ℕ) → number_after p more ≡ Some n → p * 16 ^ length more ≤ n
unfolding number_after
least_after [] p n e = let same : p ≡ n = cc in omega arith
least_after (c ∷ more) p n e =
    let d = bind_some (λ d. number_after (16 * p + d) more) (hex_nibble c) n e in
    let least : (16 * p + d.0) * 16 ^ length more ≤ n = least_after more (16 * p + d.0) n d.2 in
    rw (pow-suc 16 (length more)) (times p d.0 (16 ^ length more) n least)
  where
    times : (p d q n : ℕ) → (16 * p + d) * q ≤ n → p * (q * 16) ≤ n
    times p d q n h = omega (arith, h)

-- digits with zeros behind them
pub zeros_fill : (t : List ℕ) (w p : ℕ) → number_after 0 t ≡ Some p → length t ≤ w → (p * 16 ^ (w - length t) < 16 ^ w) × IsPrefix t (hex_digits w (p * 16 ^ (w - length t)))
unfolding hex_digits
zeros_fill t w p e le =
    let k : ℕ = w - length t in
    let zeros : List ℕ = replicate k 48 in
    let n : ℕ = p * 16 ^ k in
    let all : number_after 0 (t ++ zeros) ≡ Some n = number_after-append 0 t zeros p e ∙ zeros_after k p in
    let long : length (t ++ zeros) ≡ w = length-append t zeros ∙ ap (λ k. length t + k) (length-replicate (w - length t) 48) ∙ omega (arith, le) in
    let text : hex_digits (length (t ++ zeros) + 0) n ≡ t ++ zeros = digits_after (t ++ zeros) 0 0 n all in
    let below : n < (0 + 1) * 16 ^ length (t ++ zeros) = below_after (t ++ zeros) 0 n all in
    let count : w ≡ length (t ++ zeros) + 0 = omega (arith, long) in
    let same : hex_digits w n ≡ hex_digits (length (t ++ zeros) + 0) n = ap (λ j. hex_digits j n) count in
    (subst (λ j. n < 16 ^ j) long (omega (arith, below)), (zeros, same ∙ text))

-- the digits of a number that begin with others
pub zeros_least : (t more : List ℕ) (w n : ℕ) → n < 16 ^ w → hex_digits w n ≡ t ++ more → (p : ℕ) × (number_after 0 t ≡ Some p) × (p * 16 ^ (w - length t) ≤ n) × (length t ≤ w)
zeros_least t more w n fits is =
    let all : number_after 0 (t ++ more) ≡ Some n = ap (number_after 0) (sym is) ∙ number_after-hex_digits w n 0 fits ∙ ap Some (omega arith) in
    let f = front_number t more 0 n all in
    let long : length t + length more ≡ w = sym (length-append t more) ∙ ap length (sym is) ∙ length-hex_digits w n in
    let count : w - length t ≡ length more = omega (arith, long) in
    (f.0, f.1, subst (λ k. f.0 * 16 ^ k ≤ n) (sym count) (least_after more f.0 n f.2), omega (arith, long))

pub front_by : (front line : List ℕ) → bytes_eq (take (length front) line) front ≡ true → IsPrefix front line
front_by front line e =
    let same : take (length front) line ≡ front = same_bytes (take (length front) line) front e in
    (drop (length front) line, sym (take-append-drop (length front) line) ∙ ap (λ s. s ++ drop (length front) line) same)

pub front_of : (front line : List ℕ) → IsPrefix front line → bytes_eq (take (length front) line) front ≡ true
front_of front line p =
    let same : take (length front) line ≡ front = ap (take (length front)) p.1 ∙ take-append_seam front p.0 in
    rw same (bytes_eq-same front)

power_of : (k : ℕ) → 2 ^ (4 * k) ≡ 16 ^ k
power_of zero = refl
power_of (suc k) =
    let four : 4 * suc k ≡ suc (suc (suc (suc (4 * k)))) = omega arith in
    rw (four, pow-suc 2 (suc (suc (suc (4 * k)))), pow-suc 2 (suc (suc (4 * k))), pow-suc 2 (suc (4 * k)), pow-suc 2 (4 * k), pow-suc 16 k, power_of k) (omega arith)

positive : (k : ℕ) → 0 < 16 ^ k
positive zero = omega arith
positive (suc k) = rw (pow-suc 16 k) (omega (arith, positive k))

-- the test on the number of the digits behind the head
pub digits_fit : (head t : List ℕ) (w p : ℕ) → number_after 0 t ≡ Some p → length t ≤ w → p ≤ MAX_LEN / 2 ^ (4 * (w - length t)) → IsNumberFront head w (head ++ t)
digits_fit head t w p e le most =
    let k : ℕ = w - length t in
    let small : p * 16 ^ k ≤ MAX_LEN = (le-div_iff_mul-le {k = 16 ^ k} {x = p} {y = MAX_LEN} (positive k)).0 (subst (λ q. p ≤ MAX_LEN / q) (power_of k) most) in
    let fill = zeros_fill t w p e le in
    (p * 16 ^ k, small, fill.0, (fill.1.0, ap (λ s. head ++ s) fill.1.1 ∙ sym (append_assoc head t fill.1.0)))

tail_same : (head a b : List ℕ) → head ++ a ≡ head ++ b → a ≡ b
tail_same [] a b e = e
tail_same (c ∷ head) a b e = tail_same head a b (cc)

pub digits_test : (head t : List ℕ) (w : ℕ) → IsNumberFront head w (head ++ t) → (p : ℕ) × (number_after 0 t ≡ Some p) × (p ≤ MAX_LEN / 2 ^ (4 * (w - length t))) × (length t ≤ w)
digits_test head t w f =
    let is : hex_digits w f.0 ≡ t ++ f.3.0 = tail_same head (hex_digits w f.0) (t ++ f.3.0) (f.3.1 ∙ append_assoc head t f.3.0) in
    let least = zeros_least t f.3.0 w f.0 f.2 is in
    let k : ℕ = w - length t in
    let small : least.0 * 16 ^ k ≤ MAX_LEN = omega (arith, least.2, f.1) in
    (least.0, least.1, subst (λ q. least.0 ≤ MAX_LEN / q) (sym (power_of k)) ((le-div_iff_mul-le {k = 16 ^ k} {x = least.0} {y = MAX_LEN} (positive k)).1 small), least.3)

-- a text that is no longer than the head
pub head_front : (head rest : List ℕ) (w : ℕ) → IsPrefix rest head → IsNumberFront head w rest
head_front head rest w f = (0, omega arith, positive w, (f.0 ++ hex_digits w 0, ap (λ s. s ++ hex_digits w 0) f.1 ∙ append_assoc rest f.0 (hex_digits w 0)))

pub short_prefix : (rest head more tail : List ℕ) → head ++ tail ≡ rest ++ more → length rest ≤ length head → IsPrefix rest head
short_prefix [] head more tail e le = (head, refl)
short_prefix (b ∷ rest) [] more tail e le = absurd (omega (arith, le))
short_prefix (b ∷ rest) (c ∷ head) more tail e le =
    let same : c ≡ b = cc in
    let tails : head ++ tail ≡ rest ++ more = cc in
    let f = short_prefix rest head more tail tails (omega (arith, le)) in
    (f.0, rw same (ap (λ s. b ∷ s) f.1))

pub front_head : (head rest : List ℕ) (w : ℕ) → IsNumberFront head w rest → length rest ≤ length head → IsPrefix rest head
front_head head rest w f le = short_prefix rest head f.3.0 (hex_digits w f.0) f.3.1 le

-- a longer text begins with the head
pub front_begins : (head rest : List ℕ) (w : ℕ) → IsNumberFront head w rest → length head ≤ length rest → IsPrefix head rest
front_begins head rest w f le = short_prefix head rest (hex_digits w f.0) f.3.0 (sym f.3.1) le

pub told_none : (es : List Entry) (len : ℕ) → None ≡ told_by es → may_begin es len ≡ true
told_none [] len e = refl
told_none (entry ∷ es) len e = rw (← e) refl

all_on : (text : List ℕ) (i : ℕ) → i < length text → is_printable (get_or text i 0) ≡ true → list_all is_printable (drop (i + 1) text) ≡ list_all is_printable (drop i text)
all_on text i h is = rw (drop-cons text i 0 h, is, add-one) refl

pub prefix_long : (front line : List ℕ) → IsPrefix front line → length front ≤ length line
prefix_long front line p = omega (arith, ap length p.1, length-append front p.0)

pub joined_at : (head rest front t : List ℕ) → bytes_eq (take (length head) rest) head ≡ true → t ≡ drop (length head) rest → rest ≡ head ++ t
joined_at head rest front t e is =
    let same : take (length head) rest ≡ head = same_bytes (take (length head) rest) head e in
    sym (take-append-drop (length head) rest) ∙ ap (λ s. s ++ drop (length head) rest) same ∙ ap (λ s. head ++ s) (sym is)

pub not_true : (r b : Bool) → r ≡ true → r ≡ not b → b ≡ true → false ≡ true
not_true r true e is h = sym (sym e ∙ is)
not_true r false e is h = h

pub not_false : (b : Bool) → false ≡ not b → b ≡ true
not_false true e = refl
not_false false e = e

pub one_number : {p n : ℕ} → Some p ≡ Some n → p ≡ n
one_number e = cc

pub le_test : {a b : ℕ} → (nat_le a b ≡ true) ↔ (a ≤ b)
le_test = ((λ h. grind (arith, common_steps)), λ h. grind (arith, common_steps))
