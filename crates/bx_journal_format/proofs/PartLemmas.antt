-- The parts of a line beside those that it is to have.
use Rattle.std.proofs.Common.{◌≡◌, ℕ, zero, suc, ◌<◌, Bool, true, false, List, [], ◌∷◌, ◌++◌, length, take, drop, get_or, refl, ap, sym, ◌∙◌, arith, append_assoc, Some, None}
use Rattle.std.specs.Prelude.{if◌then◌else◌}
use Rattle.std.specs.Str.{bytes_eq}
use Rattle.std.proofs.lemmas.List.{ext_get_or, length-append, take-append-drop}
use Rattle.bx_journal_format.specs.Line.{after_prefix}
use Rattle.bx_journal_format.proofs.Inverse.{same_bytes}
use Rattle.bx_journal_format.proofs.LineLemmas.{bytes_eq-same, behind_front}

bytes_apart : (a b : List ℕ) → (a ≡ b → ⊥) → bytes_eq a b ≡ false
bytes_apart a b apart = by (bytes_eq a b) refl
  where
    by : (t : Bool) → bytes_eq a b ≡ t → t ≡ false
    by false is = refl
    by true is = absurd (apart (same_bytes a b is))

differ : (a b : List ℕ) → bytes_eq a b ≡ false → a ≡ b → ⊥
differ a b other same =
    let is : bytes_eq a b ≡ true = ap (λ s. bytes_eq a s) (sym same) ∙ bytes_eq-same a in
    let clash : true ≡ false = sym is ∙ other in
    absurd (cc)

-- what a loop over two texts found
pub same_is : (same : Bool) (a b : List ℕ) → length a ≡ length b → (same ≡ true → (k : ℕ) → k < length a → get_or a k 0 ≡ get_or b k 0) → (same ≡ false → a ≡ b → ⊥) → same ≡ bytes_eq a b
same_is true a b long kept apart = sym (ap (λ s. bytes_eq a s) (sym (ext_get_or 0 a b long (kept refl))) ∙ bytes_eq-same a)
same_is false a b long kept apart = sym (bytes_apart a b (apart refl))

-- two fronts of one length
fronts : (a w r s : List ℕ) → length a ≡ length w → a ++ r ≡ w ++ s → (a ≡ w) × (r ≡ s)
fronts [] [] r s long e = (refl, e)
fronts [] (y ∷ w) r s long e = absurd (omega (arith, long))
fronts (x ∷ a) [] r s long e = absurd (omega (arith, long))
fronts (x ∷ a) (y ∷ w) r s long e =
    let head : x ≡ y = cc in
    let tail : a ++ r ≡ w ++ s = cc in
    let more = fronts a w r s (omega (arith, long)) tail in
    ((λ i. head i ∷ more.0 i), more.1)

behind_not : (front line : List ℕ) → ((rest : List ℕ) → line ≡ front ++ rest → ⊥) → after_prefix front line ≡ None
behind_not front line apart = by (bytes_eq (take (length front) line) front) refl
  where
    by : (t : Bool) → bytes_eq (take (length front) line) front ≡ t → (if t then Some (drop (length front) line) else None) ≡ None
    by false is = refl
    by true is = absurd (apart (drop (length front) line) (sym (take-append-drop (length front) line) ∙ ap (λ s. s ++ drop (length front) line) (same_bytes (take (length front) line) front is)))

-- a line in four parts: three are to be a word, a number and a space
module _ (word number line a r b s c rest : List ℕ) (first : line ≡ a ++ r) (second : r ≡ b ++ s) (third : s ≡ c ++ rest) (la : length a ≡ length word) (lb : length b ≡ length number) where
  is : line ≡ a ++ (b ++ (c ++ rest))
  is = first ∙ ap (λ x. a ++ x) (second ∙ ap (λ x. b ++ x) third)

  parts_of : (more : List ℕ) → line ≡ word ++ number ++ 32 ∷ [] ++ more → (a ≡ word) × (b ≡ number) × (c ++ rest ≡ 32 ∷ more)
  parts_of more e =
      let spelled : a ++ (b ++ (c ++ rest)) ≡ word ++ (number ++ (32 ∷ more)) =
      sym is ∙ e ∙ append_assoc (word ++ number) (32 ∷ []) more ∙ append_assoc word number (32 ∷ more) in
      let one = fronts a word (b ++ (c ++ rest)) (number ++ (32 ∷ more)) la spelled in
      let two = fronts b number (c ++ rest) (32 ∷ more) lb one.1 in
      (one.0, two.0, two.1)

  pub no_word : bytes_eq a word ≡ false → after_prefix (word ++ number ++ 32 ∷ []) line ≡ None
  no_word other = behind_not (word ++ number ++ 32 ∷ []) line (λ more e. differ a word other (parts_of more e).0)

  pub no_number : bytes_eq b number ≡ false → after_prefix (word ++ number ++ 32 ∷ []) line ≡ None
  no_number other = behind_not (word ++ number ++ 32 ∷ []) line (λ more e. differ b number other (parts_of more e).1)

  pub no_space : length c ≡ 1 → (get_or c 0 0 ≡ 32 → ⊥) → after_prefix (word ++ number ++ 32 ∷ []) line ≡ None
  no_space lc other = behind_not (word ++ number ++ 32 ∷ []) line (λ more e. other (at_head c lc more (parts_of more e).2))
    where
      at_head : (c : List ℕ) → length c ≡ 1 → (more : List ℕ) → c ++ rest ≡ 32 ∷ more → get_or c 0 0 ≡ 32
      at_head [] lc more e = absurd (omega (arith, lc))
      at_head (x ∷ c) lc more e = cc

  pub all_there : bytes_eq a word ≡ true → bytes_eq b number ≡ true → length c ≡ 1 → get_or c 0 0 ≡ 32 → after_prefix (word ++ number ++ 32 ∷ []) line ≡ Some rest
  all_there yes_a yes_b lc space =
      let one : c ≡ 32 ∷ [] = ext_get_or 0 c (32 ∷ []) lc (λ k inside. at_first k (omega (arith, inside, lc))) in
      let spelled : line ≡ word ++ number ++ 32 ∷ [] ++ rest =
      is ∙ (λ i. same_bytes a word yes_a i ++ (same_bytes b number yes_b i ++ (one i ++ rest))) ∙ sym (append_assoc word number (32 ∷ rest)) ∙ sym (append_assoc (word ++ number) (32 ∷ []) rest) in
      ap (after_prefix (word ++ number ++ 32 ∷ [])) spelled ∙ behind_front (word ++ number ++ 32 ∷ []) rest
    where
      at_first : (k : ℕ) → k < 1 → get_or c k 0 ≡ get_or (32 ∷ []) k 0
      at_first zero h = space
      at_first (suc k) h = absurd (omega (arith, h))

-- a line in two parts, that are to be a word and a number
module _ (word number line a b : List ℕ) (is : line ≡ a ++ b) (la : length a ≡ length word) where
  pub other_word : bytes_eq a word ≡ false → bytes_eq line (word ++ number) ≡ false
  other_word other = bytes_apart line (word ++ number) (λ e. differ a word other (fronts a word b number la (sym is ∙ e)).0)

  pub number_tells : bytes_eq a word ≡ true → bytes_eq line (word ++ number) ≡ bytes_eq b number
  number_tells yes_a = ap (λ l. bytes_eq l (word ++ number)) (is ∙ ap (λ s. s ++ b) (same_bytes a word yes_a)) ∙ by (bytes_eq b number) refl
    where
      by : (t : Bool) → bytes_eq b number ≡ t → bytes_eq (word ++ b) (word ++ number) ≡ t
      by true e = ap (λ s. bytes_eq (word ++ b) (word ++ s)) (sym (same_bytes b number e)) ∙ bytes_eq-same (word ++ b)
      by false e = bytes_apart (word ++ b) (word ++ number) (λ h. differ b number e (fronts word word b number refl h).1)

pub other_length : (line front : List ℕ) → (length line ≡ length front → ⊥) → bytes_eq line front ≡ false
other_length line front apart = bytes_apart line front (λ e. apart (ap length e))

pub too_short : (front line : List ℕ) → length line < length front → after_prefix front line ≡ None
too_short front line short = behind_not front line (λ rest e. absurd (omega (arith, short, ap length e, length-append front rest)))
