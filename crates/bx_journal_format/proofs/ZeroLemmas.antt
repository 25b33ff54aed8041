-- What a loss of power left behind the first zero of a text, byte by byte.
use Rattle.std.proofs.Common.{◌≡◌, ◌<◌, ◌≤◌, ℕ, zero, suc, ◌+◌, ◌==◌, Bool, true, false, not, List, [], ◌∷◌, ◌++◌, length, take, drop, get_or, codes, refl, ap, sym, subst, ◌∙◌, arith}
use Rattle.std.specs.List.{list_all}
use Rattle.std.proofs.lemmas.Bool.{and_parts, and_right, ne_eqb}
use Rattle.std.proofs.Math.ListN.{drop_of_length-le}
use Rattle.std.proofs.Math.Seq.{drop-cons}
use Rattle.bx_journal_format.specs.Shown.{before_zero, begins_with, ends_line, has_end, is_left, shown}
use Rattle.bx_journal_format.specs.declared.read.shown.LastLine.{LastLine}
use Rattle.bx_journal_format.specs.declared.read.shown.LastLine.TheVariants.{Other, End}
use Rattle.bx_journal_format.specs.read.Left.{is_torn}
use Rattle.bx_journal_format.proofs.ShownLemmas.{shown_to, shown_whole}

-- no letter stands behind the whole word
behind_word : (k : ℕ) → 4 ≤ k → drop k (codes "done") ≡ []
behind_word k le = drop_of_length-le (codes "done") le

-- a newline ends an end line
pub newline_ends : (k : ℕ) (rest : List ℕ) → 4 ≤ k → is_torn (End k) (10 ∷ rest) ≡ false
unfolding is_torn begins_with ends_line
newline_ends k rest le = rw (behind_word k le) (and_right (list_all is_left rest) false refl)

-- and begins a line elsewhere
pub newline_begins : (k : ℕ) (rest : List ℕ) → k < 4 → is_torn (End k) (10 ∷ rest) ≡ is_torn (End 0) rest
unfolding is_torn begins_with has_end
newline_begins zero rest lt = refl
newline_begins (suc zero) rest lt = refl
newline_begins (suc (suc zero)) rest lt = refl
newline_begins (suc (suc (suc zero))) rest lt = refl
newline_begins (suc (suc (suc (suc k)))) rest lt = absurd (omega (arith, lt))

pub newline_after_other : (rest : List ℕ) → is_torn Other (10 ∷ rest) ≡ is_torn (End 0) rest
unfolding is_torn has_end
newline_after_other rest = refl

-- a line with a zero is no end line
pub zero_ends : (line : LastLine) (rest : List ℕ) → is_torn line (0 ∷ rest) ≡ is_torn Other rest
unfolding is_torn begins_with has_end ends_line
zero_ends Other rest = refl
zero_ends (End k) rest = rw (and_right (begins_with (drop k (codes "done")) (0 ∷ rest)) false refl) refl

-- a byte of another file
pub foreign_ends : (line : LastLine) (b : ℕ) (rest : List ℕ) → is_left b ≡ false → is_torn line (b ∷ rest) ≡ false
unfolding is_torn
foreign_ends line b rest e = rw e refl

-- what a byte that prints is
left_printing : (b : ℕ) → 32 ≤ b → b ≤ 126 → is_left b ≡ true
left_printing b least most = grind arith

no_newline : (b : ℕ) → 32 ≤ b → (b == 10) ≡ false
no_newline b least = ne_eqb b 10 (λ e. omega (arith, e, least))

no_zero : (b : ℕ) → 32 ≤ b → (b == 0) ≡ false
no_zero b least = ne_eqb b 0 (λ e. omega (arith, e, least))

-- behind no line, behind the whole word, and in it
pub printing_after_other : (b : ℕ) (rest : List ℕ) → 32 ≤ b → b ≤ 126 → is_torn Other (b ∷ rest) ≡ is_torn Other rest
unfolding is_torn has_end
printing_after_other b rest least most = rw (left_printing b least most, no_newline b least) refl

pub printing_after_word : (k b : ℕ) (rest : List ℕ) → 4 ≤ k → 32 ≤ b → b ≤ 126 → is_torn (End k) (b ∷ rest) ≡ is_torn (End k) rest
unfolding is_torn begins_with ends_line has_end
printing_after_word k b rest le least most = rw (behind_word k le, left_printing b least most, no_newline b least, no_zero b least) refl

pub next_letter : (k b : ℕ) (rest : List ℕ) → k < 4 → get_or (codes "done") k 0 ≡ b → is_torn (End k) (b ∷ rest) ≡ is_torn (End (k + 1)) rest
unfolding is_torn begins_with ends_line has_end
next_letter zero b rest lt is = subst (λ c. is_torn (End 0) (c ∷ rest) ≡ is_torn (End 1) rest) is refl
next_letter (suc zero) b rest lt is = subst (λ c. is_torn (End 1) (c ∷ rest) ≡ is_torn (End 2) rest) is refl
next_letter (suc (suc zero)) b rest lt is = subst (λ c. is_torn (End 2) (c ∷ rest) ≡ is_torn (End 3) rest) is refl
next_letter (suc (suc (suc zero))) b rest lt is = subst (λ c. is_torn (End 3) (c ∷ rest) ≡ is_torn (End 4) rest) is refl
next_letter (suc (suc (suc (suc k)))) b rest lt is = absurd (omega (arith, lt))

pub other_letter : (k b : ℕ) (rest : List ℕ) → k < 4 → (get_or (codes "done") k 0 ≡ b → ⊥) → 32 ≤ b → b ≤ 126 → is_torn (End k) (b ∷ rest) ≡ is_torn Other rest
unfolding is_torn begins_with ends_line has_end
other_letter zero b rest lt apart least most = rw (ne_eqb b 100 (λ e. apart (sym e)), left_printing b least most, no_newline b least) refl
other_letter (suc zero) b rest lt apart least most = rw (ne_eqb b 111 (λ e. apart (sym e)), left_printing b least most, no_newline b least) refl
other_letter (suc (suc zero)) b rest lt apart least most = rw (ne_eqb b 110 (λ e. apart (sym e)), left_printing b least most, no_newline b least) refl
other_letter (suc (suc (suc zero))) b rest lt apart least most = rw (ne_eqb b 101 (λ e. apart (sym e)), left_printing b least most, no_newline b least) refl
other_letter (suc (suc (suc (suc k)))) b rest lt apart least most = absurd (omega (arith, lt))

-- a byte that neither prints nor is a newline or a zero
pub foreign_below : (b : ℕ) → (b ≡ 10 → ⊥) → (b ≡ 0 → ⊥) → b < 32 → is_left b ≡ false
foreign_below b line some low = grind arith

pub foreign_above : (b : ℕ) → 126 < b → is_left b ≡ false
foreign_above b high = grind arith

-- bytes that a loop went over
pub all_torn : (line : LastLine) (bytes : List ℕ) (i : ℕ) (rest : List ℕ) → length bytes ≤ i → is_torn line (drop i bytes ++ rest) ≡ is_torn line rest
all_torn line bytes i rest long = ap (λ l. is_torn line (l ++ rest)) (drop_of_length-le bytes long)

pub one_torn : (line : LastLine) (bytes : List ℕ) (i b : ℕ) (rest : List ℕ) → i < length bytes → get_or bytes i 0 ≡ b → is_torn line (drop i bytes ++ rest) ≡ is_torn line (b ∷ (drop (suc i) bytes ++ rest))
one_torn line bytes i b rest lt is = ap (λ l. is_torn line (l ++ rest)) (drop-cons bytes i 0 lt ∙ ap (λ c. c ∷ drop (suc i) bytes) is)

-- nothing is left behind the last byte
pub end_torn : (line : LastLine) → is_torn line [] ≡ true
unfolding is_torn begins_with ends_line has_end
end_torn Other = refl
end_torn (End k) = rw (and_right (begins_with (drop k (codes "done")) []) false refl) refl

-- where a loss of power may have left what stands from the first zero on, what stands before it is read, and elsewhere all
pub torn_shown : (t : List ℕ) (n : ℕ) → n ≡ length (before_zero t) → (n ≡ 0 → length t ≤ 1) → is_torn Other (drop n t) ≡ true → take n t ≡ shown t
unfolding is_torn
torn_shown t n is first torn =
    let both = and_parts (list_all is_left (drop n t)) (not (has_end (drop n t))) torn in
    shown_to t n is first both.0 (not_true (has_end (drop n t)) both.1)
  where
    not_true : (b : Bool) → not b ≡ true → b ≡ false
    not_true false e = refl
    not_true true e = sym e

pub whole_shown : (t : List ℕ) (n : ℕ) → n ≡ length (before_zero t) → is_torn Other (drop n t) ≡ false → shown t ≡ t
unfolding is_torn
whole_shown t n is torn = shown_whole t n is torn
