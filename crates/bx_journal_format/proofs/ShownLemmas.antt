-- What is left of a text after a loss of power is read as a front of it.
use Rattle.std.proofs.Common.{◌≡◌, ◌⊎◌, ◌<◌, ◌≤◌, ℕ, zero, suc, ◌+◌, ◌-◌, ◌==◌, ◌&&◌, Bool, true, false, not, cond, eqb, inl, inr, List, [], ◌∷◌, ◌++◌, length, take, drop, get_or, slice_index, codes, if◌then◌else◌, refl, ap, sym, subst, ◌∙◌, arith, append-nil}
use Rattle.std.specs.List.{list_all}
use Rattle.std.proofs.lemmas.List.{drop-drop, take-append-drop, take-take, take_all, drop-append-le}
use Rattle.std.proofs.lemmas.List.Folds.{list_all-append}
use Rattle.std.proofs.Math.ListN.{drop_of_length-le}
use Rattle.std.proofs.Math.Seq.{drop-cons}
use Rattle.std.proofs.lemmas.Bool.{and_parts, and_from, or_cases, or_left, or_right, or_parts, eqb-true, eq-eqb, ne_eqb, eqb-false, both_ways, false_from_ne_true, and_right}
use Rattle.bx_image.specs.Power.{IsFaded}
use Rattle.bx_journal_format.specs.Shown.{before_zero, from_zero, begins_with, ends_line, has_end, is_begun, is_lost, is_text_byte, is_left, shown}
use Rattle.bx_journal_format.specs.read.Faded.{HasFirst, IsCalm, ShowsFront}

-- byte by byte: as it was, or zero
abbrev pub AreFaded : List ℕ → List ℕ → Type 0
AreFaded t [] = Unit {0}
AreFaded [] (d ∷ c) = ⊥
AreFaded (b ∷ t) (d ∷ c) = ((d ≡ b) ⊎ (d ≡ 0)) × AreFaded t c

AreFaded-bytes : (t c : List ℕ) → length c ≤ length t → ((i : ℕ) → i < length c → (slice_index c i ≡ slice_index t i) ⊎ (slice_index c i ≡ 0)) → AreFaded t c
AreFaded-bytes t [] fits bytes = tt
AreFaded-bytes [] (d ∷ c) fits bytes = absurd (omega (arith, fits))
AreFaded-bytes (b ∷ t) (d ∷ c) fits bytes = (bytes 0 (omega arith), AreFaded-bytes t c (omega (arith, fits)) (λ i h. bytes (suc i) (omega (arith, h))))

AreFaded-drop : (m : ℕ) (t c : List ℕ) → AreFaded t c → AreFaded (drop m t) (drop m c)
AreFaded-drop zero t c fades = fades
AreFaded-drop (suc m) t [] fades = tt
AreFaded-drop (suc m) [] (d ∷ c) fades = absurd fades
AreFaded-drop (suc m) (b ∷ t) (d ∷ c) fades = AreFaded-drop m t c fades.1

-- a byte that isn't zero is as it was
same_byte : (b d : ℕ) → (d ≡ b) ⊎ (d ≡ 0) → (d ≡ 0 → ⊥) → d ≡ b
same_byte b d (inl same) some = same
same_byte b d (inr none) some = absurd (some none)

AllSome : List ℕ → Type 0
AllSome [] = Unit {0}
AllSome (a ∷ front) = (a ≡ 0 → ⊥) × AllSome front

begins_faded : (front t c : List ℕ) → AllSome front → AreFaded t c → begins_with front c ≡ true → begins_with front t ≡ true
unfolding begins_with AllSome
begins_faded [] t c some fades is = refl
begins_faded (a ∷ front) t [] some fades is = absurd (both_ways false refl is)
begins_faded (a ∷ front) [] (d ∷ c) some fades is = absurd fades
begins_faded (a ∷ front) (b ∷ t) (d ∷ c) some fades is =
    let parts = and_parts (eqb d a) (begins_with front c) is in
    let first : d ≡ a = eqb-true d a parts.0 in
    let same : d ≡ b = same_byte b d fades.0 (λ none. some.0 (sym first ∙ none)) in
    and_from (eqb b a) (begins_with front t) (eq-eqb b a (sym same ∙ first)) (begins_faded front t c some.1 fades.1 parts.1)

-- what a line's next byte makes of the rest of it
goes_on : ℕ → Bool → Bool
goes_on b rest = if b == 10 then true else if b == 0 then false else rest

goes_on-newline : (b : ℕ) (rest : Bool) → (b == 10) ≡ true → goes_on b rest ≡ true
unfolding goes_on
goes_on-newline b rest e = rw e refl

goes_on-zero : (b : ℕ) (rest : Bool) → (b == 10) ≡ false → (b == 0) ≡ true → goes_on b rest ≡ false
unfolding goes_on
goes_on-zero b rest e none = rw (e, none) refl

goes_on-other : (b : ℕ) (rest : Bool) → (b == 10) ≡ false → (b == 0) ≡ false → goes_on b rest ≡ rest
unfolding goes_on
goes_on-other b rest e some = rw (e, some) refl

ends_faded : (t c : List ℕ) → AreFaded t c → ends_line c ≡ true → ends_line t ≡ true
unfolding ends_line goes_on
ends_faded t [] fades is = absurd (both_ways false refl is)
ends_faded [] (d ∷ c) fades is = absurd fades
ends_faded (b ∷ t) (d ∷ c) fades is = by_newline (ends_faded t c fades.1) (eqb d 10) refl
  where
    by_zero : (ends_line c ≡ true → ends_line t ≡ true) → (none : Bool) → eqb d 0 ≡ none → eqb d 10 ≡ false → goes_on b (ends_line t) ≡ true
    by_zero later true none e = absurd (both_ways (goes_on d (ends_line c)) (goes_on-zero d (ends_line c) e none) is)
    by_zero later false some e =
        let same : d ≡ b = same_byte b d fades.0 (eqb-false d 0 some) in
        let rest : ends_line c ≡ true = sym (goes_on-other d (ends_line c) e some) ∙ is in
        subst (λ x. goes_on x (ends_line t) ≡ true) same (goes_on-other d (ends_line t) e some ∙ later rest)

    by_newline : (ends_line c ≡ true → ends_line t ≡ true) → (newline : Bool) → eqb d 10 ≡ newline → goes_on b (ends_line t) ≡ true
    by_newline later true e =
        let at : d ≡ 10 = eqb-true d 10 e in
        let same : d ≡ b = same_byte b d fades.0 (λ none. omega (arith, at, none)) in
        goes_on-newline b (ends_line t) (eq-eqb b 10 (sym same ∙ at))
    by_newline later false e = by_zero later (eqb d 0) refl e

-- an end line that is left was there
has_end_faded : (t c : List ℕ) → AreFaded t c → has_end c ≡ true → has_end t ≡ true
unfolding has_end AllSome
has_end_faded t [] fades is = absurd (both_ways false refl is)
has_end_faded [] (d ∷ c) fades is = absurd fades
has_end_faded (b ∷ t) (d ∷ c) fades is = elim (or_cases (eqb d 10 && begins_with (codes "done") c && ends_line c) (has_end c) is) [
  | inl here ↦
      let line = and_parts (eqb d 10 && begins_with (codes "done") c) (ends_line c) here in
      let front = and_parts (eqb d 10) (begins_with (codes "done") c) line.0 in
      let at : d ≡ 10 = eqb-true d 10 front.0 in
      let same : d ≡ b = same_byte b d fades.0 (λ none. omega (arith, at, none)) in
      or_left (eqb b 10 && begins_with (codes "done") t && ends_line t) (has_end t)
      (and_from (eqb b 10 && begins_with (codes "done") t) (ends_line t)
      (and_from (eqb b 10) (begins_with (codes "done") t) (eq-eqb b 10 (sym same ∙ at)) (begins_faded (codes "done") t c letters fades.1 front.1))
      (ends_faded t c fades.1 line.1))
  | inr later ↦ or_right (eqb b 10 && begins_with (codes "done") t && ends_line t) (has_end t) (has_end_faded t c fades.1 later)
]
  where
    letters : AllSome (codes "done")
    letters = (λ e. omega (arith, e), (λ e. omega (arith, e), (λ e. omega (arith, e), (λ e. omega (arith, e), tt))))

has_end_drop : (k : ℕ) (t : List ℕ) → has_end t ≡ false → has_end (drop k t) ≡ false
unfolding has_end
has_end_drop zero t none = none
has_end_drop (suc k) [] none = refl
has_end_drop (suc k) (b ∷ t) none = has_end_drop k t (or_parts (eqb b 10 && begins_with (codes "done") t && ends_line t) (has_end t) none).1

-- what stands before the first zero is as it was
front_faded : (t c : List ℕ) → AreFaded t c → before_zero c ≡ take (length (before_zero c)) t
unfolding before_zero
front_faded t [] fades = refl
front_faded [] (d ∷ c) fades = absurd fades
front_faded (b ∷ t) (d ∷ c) fades = by_zero (front_faded t c fades.1) (eqb d 0) refl
  where
    by_zero : before_zero c ≡ take (length (before_zero c)) t → (none : Bool) → eqb d 0 ≡ none → cond (eqb d 0) [] (d ∷ before_zero c) ≡ take (length (cond (eqb d 0) [] (d ∷ before_zero c))) (b ∷ t)
    by_zero later true e = rw e refl
    by_zero later false e =
        let same : d ≡ b = same_byte b d fades.0 (eqb-false d 0 e) in
        rw e (ap (λ x. x ∷ before_zero c) same ∙ ap (λ l. b ∷ l) later)

front_short : (c : List ℕ) → length (before_zero c) ≤ length c
unfolding before_zero
front_short [] = omega arith
front_short (d ∷ c) = by_zero (front_short c) (eqb d 0) refl
  where
    by_zero : length (before_zero c) ≤ length c → (none : Bool) → eqb d 0 ≡ none → length (cond (eqb d 0) [] (d ∷ before_zero c)) ≤ suc (length c)
    by_zero later true e = rw e (omega arith)
    by_zero later false e = rw e (omega (arith, later))

-- the bytes that are sure have no zero
front_long : (n : ℕ) (c : List ℕ) → n ≤ length c → ((i : ℕ) → i < n → slice_index c i ≡ 0 → ⊥) → n ≤ length (before_zero c)
unfolding before_zero
front_long zero c long some = omega arith
front_long (suc n) [] long some = absurd (omega (arith, long))
front_long (suc n) (d ∷ c) long some = by_zero (front_long n c (omega (arith, long)) (λ i h none. some (suc i) (omega (arith, h)) none)) (eqb d 0) refl
  where
    by_zero : n ≤ length (before_zero c) → (none : Bool) → eqb d 0 ≡ none → suc n ≤ length (cond (eqb d 0) [] (d ∷ before_zero c))
    by_zero later true e = absurd (some 0 (omega arith) (eqb-true d 0 e))
    by_zero later false e = rw e (omega (arith, later))

-- bytes that are left of a text are its bytes and zeros
left_faded : (t c : List ℕ) → list_all is_text_byte t ≡ true → AreFaded t c → list_all is_left c ≡ true
left_faded t [] plain fades = refl
left_faded [] (d ∷ c) plain fades = absurd fades
left_faded (b ∷ t) (d ∷ c) plain fades =
    let parts = and_parts (is_text_byte b) (list_all is_text_byte t) plain in
    and_from (is_left d) (list_all is_left c) (byte fades.0 parts.0) (left_faded t c parts.1 fades.1)
  where
    byte : (d ≡ b) ⊎ (d ≡ 0) → is_text_byte b ≡ true → is_left d ≡ true
    byte (inl same) is = or_right (d == 0) (is_text_byte d) (subst (λ x. is_text_byte x ≡ true) (sym same) is)
    byte (inr none) is = or_left (d == 0) (is_text_byte d) (eq-eqb d 0 none)

all_drop : (k : ℕ) (t : List ℕ) → list_all is_text_byte t ≡ true → list_all is_text_byte (drop k t) ≡ true
all_drop zero t plain = plain
all_drop (suc k) [] plain = refl
all_drop (suc k) (b ∷ t) plain = all_drop k t (and_parts (is_text_byte b) (list_all is_text_byte t) plain).1

-- no byte of a text is zero
text_some : (t : List ℕ) (i : ℕ) → list_all is_text_byte t ≡ true → i < length t → slice_index t i ≡ 0 → ⊥
text_some [] i plain h none = omega (arith, h)
text_some (b ∷ t) zero plain h none =
    let first = (and_parts (is_text_byte b) (list_all is_text_byte t) plain).0 in
    both_ways (is_text_byte 0) refl (subst (λ x. is_text_byte x ≡ true) none first)
text_some (b ∷ t) (suc i) plain h none = text_some t i (and_parts (is_text_byte b) (list_all is_text_byte t) plain).1 (omega (arith, h)) none

drops : (m n : ℕ) (t : List ℕ) → n ≤ m → drop m t ≡ drop (m - n) (drop n t)
drops m n t few = ap (λ k. drop k t) (let e : m ≡ n + (m - n) = omega (arith, few) in e) ∙ sym (drop-drop (m - n) n t)

-- a text that is begun
pub begun_short : (t : List ℕ) → length t ≤ 1 → is_begun t ≡ true
unfolding is_begun
begun_short [] few = refl
begun_short (b ∷ []) few = refl
begun_short (b ∷ d ∷ t) few = absurd (omega (arith, few))

pub begun_some : (t : List ℕ) → (slice_index t 0 ≡ 0 → ⊥) → is_begun t ≡ true
unfolding is_begun
begun_some [] some = refl
begun_some (b ∷ []) some = refl
begun_some (b ∷ d ∷ t) some = rw (ne_eqb b 0 some) refl

-- and one that isn't
pub unbegun : (t : List ℕ) → length (before_zero t) ≡ 0 → 1 < length t → is_begun t ≡ false
unfolding is_begun before_zero
unbegun [] none long = absurd (omega (arith, long))
unbegun (b ∷ []) none long = absurd (omega (arith, long))
unbegun (b ∷ d ∷ t) none long = by (eqb b 0) refl none
  where
    by : (zero_is : Bool) → eqb b 0 ≡ zero_is → length (cond (eqb b 0) [] (b ∷ before_zero (d ∷ t))) ≡ 0 → not (eqb b 0) ≡ false
    by true e none = rw e refl
    by false e none = absurd (let f : suc (length (before_zero (d ∷ t))) ≡ 0 = subst (λ (x : Bool). length (cond x [] (b ∷ before_zero (d ∷ t))) ≡ 0) e none in omega (arith, f))

-- what is left of a text that is begun, and has its first byte
pub begun_left : (text c : List ℕ) → is_begun text ≡ true → HasFirst text c → is_begun c ≡ true
unfolding is_begun
begun_left text c begun (inr few) = begun_short c few
begun_left text [] begun (inl fades) = refl
begun_left text (d ∷ []) begun (inl fades) = refl
begun_left [] (d ∷ e ∷ c) begun (inl fades) = absurd (omega (arith, fades.no_longer))
begun_left (b ∷ []) (d ∷ e ∷ c) begun (inl fades) = absurd (omega (arith, fades.no_longer))
begun_left (b ∷ a ∷ text) (d ∷ e ∷ c) begun (inl fades) = ap (λ x. not (eqb x 0)) (fades.front 0 (omega arith)) ∙ begun

pub begun_plain : (t : List ℕ) → list_all is_text_byte t ≡ true → is_begun t ≡ true
begun_plain [] plain = begun_short [] (omega arith)
begun_plain (b ∷ t) plain = begun_some (b ∷ t) (text_some (b ∷ t) 0 plain (omega arith))

pub shown_front : (n : ℕ) (text c : List ℕ) → IsCalm n text → IsFaded n text c → HasFirst text c → ShowsFront n text c
shown_front n text c calm fades first =
    let plain : list_all is_text_byte text ≡ true = calm.plain in
    let faded : AreFaded text c = AreFaded-bytes text c fades.no_longer fades.bytes in
    let m : ℕ = length (before_zero c) in
    let long : n ≤ m = front_long n c fades.kept (λ i h none. text_some text i plain (omega (arith, h, fades.kept, fades.no_longer)) (sym (fades.front i h) ∙ none)) in
    let most : m ≤ length text = omega (arith, front_short c, fades.no_longer) in
    let rest : AreFaded (drop m text) (drop m c) = AreFaded-drop m text c faded in
    let left : list_all is_left (drop m c) ≡ true = left_faded (drop m text) (drop m c) (all_drop m text plain) rest in
    let calm_here : has_end (drop m text) ≡ false = subst (λ l. has_end l ≡ false) (sym (drops m n text long)) (has_end_drop (m - n) (drop n text) calm.no_end) in
    let none : has_end (drop m c) ≡ false = false_from_ne_true _ (λ is. both_ways (has_end (drop m text)) calm_here (has_end_faded (drop m text) (drop m c) rest is)) in
    let begun : is_begun c ≡ true = begun_left text c (begun_plain text plain) first in
    record { count = m; least = long; most = most; is = rw (begun, left, none) (front_faded text c faded) }

-- a text without zeros is read as it is
pub before_plain : (t : List ℕ) → list_all is_text_byte t ≡ true → before_zero t ≡ t
unfolding before_zero
before_plain [] plain = refl
before_plain (b ∷ t) plain =
    let parts = and_parts (is_text_byte b) (list_all is_text_byte t) plain in
    let some : eqb b 0 ≡ false = false_from_ne_true _ (λ is. both_ways (is_text_byte 0) refl (subst (λ x. is_text_byte x ≡ true) (eqb-true b 0 is) parts.0)) in
    rw (some) (ap (λ l. b ∷ l) (before_plain t parts.1))

pub plain_shown : (t : List ℕ) → list_all is_text_byte t ≡ true → shown t ≡ t
plain_shown t plain = both (is_begun t && is_lost (from_zero t)) (before_plain t plain)
  where
    both : (b : Bool) → before_zero t ≡ t → (if b then before_zero t else t) ≡ t
    both true same = same
    both false same = refl

-- byte by byte, as a loop looks at them
pub before_at : (t : List ℕ) (i b : ℕ) → i < length t → get_or t i 0 ≡ b → (b ≡ 0 → ⊥) → length (before_zero (drop i t)) ≡ suc (length (before_zero (drop (suc i) t)))
unfolding before_zero
before_at t i b within is some =
    rw (drop-cons t i 0 within, is, ne_eqb b 0 some) refl

pub before_none : (t : List ℕ) (i b : ℕ) → i < length t → get_or t i 0 ≡ b → b ≡ 0 → length (before_zero (drop i t)) ≡ 0
unfolding before_zero
before_none t i b within is none = rw (drop-cons t i 0 within, is, eq-eqb b 0 none) refl

pub before_short : (t : List ℕ) → length (before_zero t) ≤ length t
before_short = front_short

before_first : (t : List ℕ) → 0 < length (before_zero t) → slice_index t 0 ≡ 0 → ⊥
unfolding before_zero
before_first [] some none = omega (arith, some)
before_first (b ∷ t) some none =
    let e : eqb b 0 ≡ true = eq-eqb b 0 none in
    let less : 0 < 0 = subst (λ (x : Bool). 0 < length (cond x [] (b ∷ before_zero t))) e some in
    omega (arith, less)

-- where a zero stands behind the first byte, or no other byte stands
begun_from : (t : List ℕ) (n : ℕ) → n ≡ length (before_zero t) → (n ≡ 0 → length t ≤ 1) → is_begun t ≡ true
begun_from t zero is first = begun_short t (first refl)
begun_from t (suc n) is first = begun_some t (before_first t (omega (arith, is)))

-- how far a text is read
pub shown_to : (t : List ℕ) (n : ℕ) → n ≡ length (before_zero t) → (n ≡ 0 → length t ≤ 1) → list_all is_left (drop n t) ≡ true → has_end (drop n t) ≡ false → take n t ≡ shown t
shown_to t n is first left none =
    let begun : is_begun t ≡ true = begun_from t n is first in
    let same : before_zero t ≡ take (length (before_zero t)) t = front_faded t t (unfaded t) in
    let l : list_all is_left (from_zero t) ≡ true = subst (λ k. list_all is_left (drop k t) ≡ true) is left in
    let e : has_end (from_zero t) ≡ false = subst (λ k. has_end (drop k t) ≡ false) is none in
    ap (λ k. take k t) is ∙ sym same ∙ (rw (begun, l, e) refl)
  where
    unfaded : (t : List ℕ) → AreFaded t t
    unfaded [] = tt
    unfaded (b ∷ t) = (inl refl, unfaded t)

pub shown_whole : (t : List ℕ) (n : ℕ) → n ≡ length (before_zero t) → is_lost (drop n t) ≡ false → shown t ≡ t
shown_whole t n is whole =
    let e : is_lost (from_zero t) ≡ false = subst (λ k. is_lost (drop k t) ≡ false) is whole in
    rw (e, and_right (is_begun t) false refl) refl

-- a text that isn't begun is read as it is
pub shown_unbegun : (t : List ℕ) → is_begun t ≡ false → shown t ≡ t
shown_unbegun t none = rw none refl

drop_past : (t : List ℕ) (i : ℕ) → length t ≤ i → drop i t ≡ []
drop_past [] zero long = refl
drop_past [] (suc i) long = refl
drop_past (b ∷ t) zero long = absurd (omega (arith, long))
drop_past (b ∷ t) (suc i) long = drop_past t i (omega (arith, long))

pub before_end : (t : List ℕ) (i : ℕ) → length t ≤ i → length (before_zero (drop i t)) ≡ 0
unfolding before_zero
before_end t i long = rw (drop_past t i long) refl

pub plus_one : (t : List ℕ) (i : ℕ) → drop (i + 1) t ≡ drop (suc i) t
plus_one t i = ap (λ k. drop k t) (let e : i + 1 ≡ suc i = omega arith in e)

-- a text whose end a loss of power left as zeros, and another one leaves less of it
same_faded : (t : List ℕ) → AreFaded t t
same_faded [] = tt
same_faded (b ∷ t) = (inl refl, same_faded t)

before_take : (t : List ℕ) → before_zero t ≡ take (length (before_zero t)) t
before_take t = front_faded t t (same_faded t)

pub before_from : (t : List ℕ) → before_zero t ++ from_zero t ≡ t
before_from t = ap (λ l. l ++ from_zero t) (before_take t) ∙ take-append-drop (length (before_zero t)) t

left_again : (t c : List ℕ) → list_all is_left t ≡ true → AreFaded t c → list_all is_left c ≡ true
left_again t [] left fades = refl
left_again [] (d ∷ c) left fades = absurd fades
left_again (b ∷ t) (d ∷ c) left fades =
    let parts = and_parts (is_left b) (list_all is_left t) left in
    and_from (is_left d) (list_all is_left c) (byte fades.0 parts.0) (left_again t c parts.1 fades.1)
  where
    byte : (d ≡ b) ⊎ (d ≡ 0) → is_left b ≡ true → is_left d ≡ true
    byte (inl same) is = subst (λ x. is_left x ≡ true) (sym same) is
    byte (inr none) is = or_left (d == 0) (is_text_byte d) (eq-eqb d 0 none)

left_drop : (k : ℕ) (t : List ℕ) → list_all is_left t ≡ true → list_all is_left (drop k t) ≡ true
left_drop zero t left = left
left_drop (suc k) [] left = refl
left_drop (suc k) (b ∷ t) left = left_drop k t (and_parts (is_left b) (list_all is_left t) left).1

pub plain_left : (t : List ℕ) → list_all is_text_byte t ≡ true → list_all is_left t ≡ true
plain_left t plain = left_faded t t plain (same_faded t)

before_some : (t : List ℕ) (i : ℕ) → i < length (before_zero t) → slice_index t i ≡ 0 → ⊥
unfolding before_zero
before_some [] i less none = omega (arith, less)
before_some (b ∷ t) i less none = by (before_some t) (eqb b 0) refl i less none
  where
    by : ((i : ℕ) → i < length (before_zero t) → slice_index t i ≡ 0 → ⊥) → (zero_is : Bool) → eqb b 0 ≡ zero_is → (i : ℕ) → i < length (cond (eqb b 0) [] (b ∷ before_zero t)) → slice_index (b ∷ t) i ≡ 0 → ⊥
    by later true e i less none = omega (arith, (subst (λ (x : Bool). i < length (cond x [] (b ∷ before_zero t))) e less))
    by later false e zero less none = eqb-false b 0 e none
    by later false e (suc i) less none = later i (let l : suc i < length (b ∷ before_zero t) = subst (λ (x : Bool). suc i < length (cond x [] (b ∷ before_zero t))) e less in omega (arith, l)) none

before_least : (t c : List ℕ) → AreFaded t c → length (before_zero c) ≤ length (before_zero t)
unfolding before_zero
before_least t [] fades = omega arith
before_least [] (d ∷ c) fades = absurd fades
before_least (b ∷ t) (d ∷ c) fades = by (eqb d 0) refl (before_least t c fades.1)
  where
    by : (none : Bool) → eqb d 0 ≡ none → length (before_zero c) ≤ length (before_zero t) → length (cond (eqb d 0) [] (d ∷ before_zero c)) ≤ length (cond (eqb b 0) [] (b ∷ before_zero t))
    by true e later = rw e (omega arith)
    by false e later =
        let same : d ≡ b = same_byte b d fades.0 (eqb-false d 0 e) in
        let f : eqb b 0 ≡ false = ap (λ x. eqb x 0) (sym same) ∙ e in
        rw (e, f) (omega (arith, later))

-- what is left of such a text is read as a front of what the text is read as
pub shown_left : (n : ℕ) (text c : List ℕ) → list_all is_left text ≡ true → has_end (drop n text) ≡ false → n ≤ length (before_zero text) → IsFaded n text c → is_begun c ≡ true
    → ShowsFront n (before_zero text) c
shown_left n text c left calm within fades begun =
    let faded : AreFaded text c = AreFaded-bytes text c fades.no_longer fades.bytes in
    let m : ℕ = length (before_zero c) in
    let long : n ≤ m = front_long n c fades.kept (λ i h none. before_some text i (omega (arith, h, within)) (sym (fades.front i h) ∙ none)) in
    let most : m ≤ length (before_zero text) = before_least text c faded in
    let is_front : before_zero c ≡ take m (before_zero text) =
    front_faded text c faded ∙ sym (take-take m (length (before_zero text)) text most) ∙ ap (take m) (sym (before_take text)) in
    let here : list_all is_left (drop m c) ≡ true = left_drop m c (left_again text c left faded) in
    let calm_here : has_end (drop m text) ≡ false = subst (λ l. has_end l ≡ false) (sym (drops m n text long)) (has_end_drop (m - n) (drop n text) calm) in
    let none : has_end (drop m c) ≡ false = false_from_ne_true _ (λ is. both_ways (has_end (drop m text)) calm_here (has_end_faded (drop m text) (drop m c) (AreFaded-drop m text c faded) is)) in
    record { count = m; least = long; most = most; is = rw (begun, here, none) is_front }

-- What a text is whose part that is read is plain
pub record IsLeft (text : List ℕ) : Type 0 where
  pub is : shown text ≡ before_zero text
  pub left : list_all is_left text ≡ true
  pub no_end : has_end (from_zero text) ≡ false
  pub begun : is_begun text ≡ true

pub left_of_plain : (text : List ℕ) → list_all is_text_byte (shown text) ≡ true → IsLeft text
unfolding has_end
left_of_plain text plain = by (is_begun text) (list_all is_left (from_zero text)) (has_end (from_zero text)) refl refl refl
  where
    whole : (is_begun text && is_lost (from_zero text)) ≡ false → IsLeft text
    whole e =
        let same : shown text ≡ text = rw e refl in
        let here : list_all is_text_byte text ≡ true = subst (λ t. list_all is_text_byte t ≡ true) same plain in
        let all : before_zero text ≡ text = before_plain text here in
        record {
          is = same ∙ sym all;
          left = plain_left text here;
          no_end = ap has_end (drop_of_length-le text (omega (arith, ap length all)));
          begun = begun_plain text here;
        }

    by : (a b e : Bool) → is_begun text ≡ a → list_all is_left (from_zero text) ≡ b → has_end (from_zero text) ≡ e → IsLeft text
    by true true false a b e =
        let same : shown text ≡ before_zero text = rw (a, b, e) refl in
        let front : list_all is_left (before_zero text) ≡ true = plain_left (before_zero text) (subst (λ t. list_all is_text_byte t ≡ true) same plain) in
        record {
          is = same;
          left = ap (list_all is_left) (sym (before_from text)) ∙ list_all-append is_left (before_zero text) (from_zero text) ∙ and_from (list_all is_left (before_zero text)) (list_all is_left (from_zero text)) front b;
          no_end = e;
          begun = a;
        }
    by true true true a b e = whole (rw (a, b, e) refl)
    by true false e a b f = whole (rw (a, b) refl)
    by false b e a f h = whole (rw a refl)

begins_front : (front a z : List ℕ) → AllSome front → begins_with front (a ++ 0 ∷ z) ≡ true → begins_with front a ≡ true
unfolding begins_with AllSome
begins_front [] a z some is = refl
begins_front (d ∷ front) [] z some is = absurd (some.0 (sym (eqb-true 0 d (and_parts (eqb 0 d) (begins_with front z) is).0)))
begins_front (d ∷ front) (b ∷ a) z some is =
    let parts = and_parts (eqb b d) (begins_with front (a ++ 0 ∷ z)) is in
    and_from (eqb b d) (begins_with front a) parts.0 (begins_front front a z some.1 parts.1)

ends_front : (a z : List ℕ) → ends_line (a ++ 0 ∷ z) ≡ true → ends_line a ≡ true
unfolding ends_line goes_on
ends_front [] z is = absurd (both_ways false refl is)
ends_front (b ∷ a) z is = by (eqb b 10) (eqb b 0) refl refl (ends_front a z)
  where
    by : (newline none : Bool) → eqb b 10 ≡ newline → eqb b 0 ≡ none → (ends_line (a ++ 0 ∷ z) ≡ true → ends_line a ≡ true) → goes_on b (ends_line a) ≡ true
    by true none e f later = goes_on-newline b (ends_line a) e
    by false true e f later = absurd (both_ways (goes_on b (ends_line (a ++ 0 ∷ z))) (goes_on-zero b (ends_line (a ++ 0 ∷ z)) e f) is)
    by false false e f later = goes_on-other b (ends_line a) e f ∙ later (sym (goes_on-other b (ends_line (a ++ 0 ∷ z)) e f) ∙ is)

-- no end line reaches over a zero
has_end_front : (a z : List ℕ) → has_end (a ++ 0 ∷ z) ≡ true → has_end z ≡ false → has_end a ≡ true
unfolding has_end AllSome
has_end_front [] z is none = absurd (both_ways (has_end z) none is)
has_end_front (b ∷ a) z is none = elim (or_cases (eqb b 10 && begins_with (codes "done") (a ++ 0 ∷ z) && ends_line (a ++ 0 ∷ z)) (has_end (a ++ 0 ∷ z)) is) [
  | inl here ↦
      let line = and_parts (eqb b 10 && begins_with (codes "done") (a ++ 0 ∷ z)) (ends_line (a ++ 0 ∷ z)) here in
      let front = and_parts (eqb b 10) (begins_with (codes "done") (a ++ 0 ∷ z)) line.0 in
      or_left (eqb b 10 && begins_with (codes "done") a && ends_line a) (has_end a)
      (and_from (eqb b 10 && begins_with (codes "done") a) (ends_line a)
      (and_from (eqb b 10) (begins_with (codes "done") a) front.0 (begins_front (codes "done") a z letters front.1)) (ends_front a z line.1))
  | inr later ↦ or_right (eqb b 10 && begins_with (codes "done") a && ends_line a) (has_end a) (has_end_front a z later none)
]
  where
    letters : AllSome (codes "done")
    letters = (λ e. omega (arith, e), (λ e. omega (arith, e), (λ e. omega (arith, e), (λ e. omega (arith, e), tt))))

from_is : (t : List ℕ) → (from_zero t ≡ []) ⊎ ((z : List ℕ) × (from_zero t ≡ 0 ∷ z))
unfolding before_zero
from_is [] = inl refl
from_is (b ∷ t) = by (eqb b 0) refl (from_is t)
  where
    by : (none : Bool) → eqb b 0 ≡ none → (from_zero t ≡ []) ⊎ ((z : List ℕ) × (from_zero t ≡ 0 ∷ z))
        → (drop (length (cond (eqb b 0) [] (b ∷ before_zero t))) (b ∷ t) ≡ []) ⊎ ((z : List ℕ) × (drop (length (cond (eqb b 0) [] (b ∷ before_zero t))) (b ∷ t) ≡ 0 ∷ z))
    by true e later = inr (t, rw e (ap (λ x. x ∷ t) (eqb-true b 0 e)))
    by false e (inl none) = inl (rw e none)
    by false e (inr some) = inr (some.0, rw e some.1)

-- where what is read has no end line behind n bytes, the text has none
pub calm_left : (n : ℕ) (text : List ℕ) → IsLeft text → n ≤ length (before_zero text) → has_end (drop n (before_zero text)) ≡ false → has_end (drop n text) ≡ false
unfolding has_end
calm_left n text is within calm =
    let parts : drop n text ≡ drop n (before_zero text) ++ from_zero text = ap (drop n) (sym (before_from text)) ∙ drop-append-le n (before_zero text) (from_zero text) within in
    elim (from_is text) [
      | inl none ↦ ap has_end (parts ∙ ap (λ z. drop n (before_zero text) ++ z) none ∙ append-nil (drop n (before_zero text))) ∙ calm
      | inr some ↦
          let none : has_end some.0 ≡ false = sym (ap has_end some.1) ∙ is.no_end in
          ap has_end (parts ∙ ap (λ z. drop n (before_zero text) ++ z) some.1)
          ∙ false_from_ne_true (has_end (drop n (before_zero text) ++ 0 ∷ some.0)) (λ e. both_ways (has_end (drop n (before_zero text))) calm (has_end_front (drop n (before_zero text)) some.0 e none))
    ]

-- what is read is a front
pub shown_is_front : (t : List ℕ) → shown t ≡ take (length (shown t)) t
shown_is_front t = by (is_begun t && is_lost (from_zero t))
  where
    by : (b : Bool) → (if b then before_zero t else t) ≡ take (length (if b then before_zero t else t)) t
    by true = before_take t
    by false = sym (take_all (length t) t (omega arith))

pub shown_short : (t : List ℕ) → length (shown t) ≤ length t
shown_short t = by (is_begun t && is_lost (from_zero t))
  where
    by : (b : Bool) → length (if b then before_zero t else t) ≤ length t
    by true = front_short t
    by false = omega arith

pub take_shown : (n : ℕ) (t : List ℕ) → n ≤ length (shown t) → take n t ≡ take n (shown t)
take_shown n t within = sym (ap (take n) (shown_is_front t) ∙ take-take n (length (shown t)) t within)
