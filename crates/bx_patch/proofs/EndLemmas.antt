-- Whole lines at the front of a text, and what stands behind them.
use Rattle.std.proofs.Common.{◌≡◌, ◌≢◌, ◌⊎◌, ℕ, ◌<◌, ◌≤◌, List, [], ◌∷◌, ◌++◌, length, inl, inr, refl, sym, ap, subst, ◌∙◌, append_assoc, append-nil, arith}
use Rattle.std.specs.List.{All}
use Rattle.std.proofs.lemmas.Bool.{cases_lt}
use Rattle.std.proofs.lemmas.List.{length-append}
use Rattle.std.proofs.lemmas.List.Elements.{All-cons, All-head, All-nil, All-tail}
use Rattle.bx_read.specs.Window.{AreWholeLines}
use Rattle.bx_patch.proofs.UniqueLemmas.{head_same, both_same}

is_ten : (c : ℕ) → (c ≡ 10) ⊎ (c ≢ 10)
is_ten c = elim (cases_lt c 10) [
  | inl below ↦ inr (λ h. absurd (omega (arith, below, h)))
  | inr above ↦ elim (cases_lt 10 c) [ inl past ↦ inr (λ h. absurd (omega (arith, past, h))) | inr most ↦ inl (omega (arith, above, most)) ]
]

-- a text without its first byte, behind a front, and behind whole lines
whole_rest : (c : ℕ) (text : List ℕ) → AreWholeLines (c ∷ text) → AreWholeLines text
whole_rest c text (inl none) = absurd (omega (arith, ap length none))
whole_rest c text (inr ([], is)) = inl (both_same c 10 text [] is)
whole_rest c text (inr (d ∷ front, is)) = inr (front, both_same c d text (front ++ 10 ∷ []) is)

pub whole_behind : (front more : List ℕ) → AreWholeLines (front ++ more) → AreWholeLines more
whole_behind [] more whole = whole
whole_behind (c ∷ front) more whole = whole_behind front more (whole_rest c (front ++ more) whole)

pub whole_both : (text more : List ℕ) → AreWholeLines text → AreWholeLines more → AreWholeLines (text ++ more)
whole_both text more first (inl none) = subst AreWholeLines (sym (append-nil text) ∙ ap (λ t. text ++ t) (sym none)) first
whole_both text more first (inr (front, is)) = inr (text ++ front, ap (λ t. text ++ t) is ∙ sym (append_assoc text front (10 ∷ [])))

pub whole_line : (line : List ℕ) → AreWholeLines (line ++ 10 ∷ [])
whole_line line = inr (line, refl)

some_left : (c : ℕ) (text : List ℕ) → c ≢ 10 → AreWholeLines (c ∷ text) → 0 < length text
some_left c [] apart (inl none) = absurd (omega (arith, ap length none))
some_left c [] apart (inr ([], is)) = absurd (apart (head_same c 10 [] [] is))
some_left c [] apart (inr (d ∷ front, is)) = absurd (omega (arith, ap length is, length-append front (10 ∷ [])))
some_left c (d ∷ text) apart whole = omega arith

-- whole lines in front of a text begin with its first line
pub first_whole : (more rest line later : List ℕ) → AreWholeLines more → 0 < length more → All (λ c. c ≢ 10) line → more ++ rest ≡ line ++ 10 ∷ later →
    (behind : List ℕ) × (more ≡ line ++ 10 ∷ behind)
first_whole [] rest line later whole some one e = absurd (omega arith)
first_whole (c ∷ more) rest [] later whole some one e = (more, ap (λ d. d ∷ more) (head_same c 10 (more ++ rest) later e))
first_whole (c ∷ more) rest (d ∷ line) later whole some one e =
    let same : c ≡ d = head_same c d (more ++ rest) (line ++ 10 ∷ later) e in
    let apart : c ≢ 10 = λ h. All-head (λ c. c ≢ 10) d line one (sym same ∙ h) in
    let on = first_whole more rest line later (whole_rest c more whole) (some_left c more apart whole) (All-tail (λ c. c ≢ 10) d line one) (both_same c d (more ++ rest) (line ++ 10 ∷ later) e) in
    (on.0, ap (λ x. x ∷ more) same ∙ ap (λ t. d ∷ t) on.1)

-- a first line ends at the first newline
pub same_line : (line other later more : List ℕ) → All (λ c. c ≢ 10) line → All (λ c. c ≢ 10) other → line ++ 10 ∷ later ≡ other ++ 10 ∷ more → (line ≡ other) × (later ≡ more)
same_line [] [] later more one two e = (refl, both_same 10 10 later more e)
same_line [] (d ∷ other) later more one two e = absurd (All-head (λ c. c ≢ 10) d other two (sym (head_same 10 d later (other ++ 10 ∷ more) e)))
same_line (c ∷ line) [] later more one two e = absurd (All-head (λ c. c ≢ 10) c line one (head_same c 10 (line ++ 10 ∷ later) more e))
same_line (c ∷ line) (d ∷ other) later more one two e =
    let rest = same_line line other later more (All-tail (λ c. c ≢ 10) c line one) (All-tail (λ c. c ≢ 10) d other two) (both_same c d (line ++ 10 ∷ later) (other ++ 10 ∷ more) e) in
    (ap (λ x. x ∷ line) (head_same c d (line ++ 10 ∷ later) (other ++ 10 ∷ more) e) ∙ ap (λ t. d ∷ t) rest.0, rest.1)

pub no_newline : (front later : List ℕ) → All (λ c. c ≢ 10) (front ++ 10 ∷ later) → ⊥
no_newline [] later all = All-head (λ c. c ≢ 10) 10 later all refl
no_newline (c ∷ front) later all = no_newline front later (All-tail (λ c. c ≢ 10) c (front ++ 10 ∷ later) all)

-- a text is whole lines, and what has no newline
pub record Parted (text : List ℕ) : Type 0 where
  pub lines : List ℕ
  pub left : List ℕ
  pub spelled : text ≡ lines ++ left
  pub whole : AreWholeLines lines
  pub none : All (λ c. c ≢ 10) left

pub parted : (text : List ℕ) → Parted text
parted [] = record { lines = []; left = []; spelled = refl; whole = inl refl; none = All-nil (λ c. c ≢ 10) }
parted (c ∷ text) = go (parted text)
  where
    go : Parted text → Parted (c ∷ text)
    go p = elim p.whole [
      | inr some ↦ record { lines = c ∷ p.lines; left = p.left; spelled = ap (λ t. c ∷ t) p.spelled; whole = inr (c ∷ some.0, ap (λ t. c ∷ t) some.1); none = p.none }
      | inl empty ↦ elim (is_ten c) [
        | inl ten ↦ record {
          lines = 10 ∷ [];
          left = p.left;
          spelled = ap (λ x. x ∷ text) ten ∙ ap (λ t. 10 ∷ t) (p.spelled ∙ ap (λ t. t ++ p.left) empty);
          whole = inr ([], refl);
          none = p.none;
        }
        | inr other ↦ record {
          lines = [];
          left = c ∷ p.left;
          spelled = ap (λ t. c ∷ t) (p.spelled ∙ ap (λ t. t ++ p.left) empty);
          whole = inl refl;
          none = All-cons (λ c. c ≢ 10) c p.left other p.none;
        }
      ]
    ]

-- of two fronts of a text the longer one begins with the other
pub longer_front : (a rest b later : List ℕ) → a ++ rest ≡ b ++ later → length a ≤ length b → (more : List ℕ) × (b ≡ a ++ more) × (rest ≡ more ++ later)
longer_front [] rest b later e most = (b, refl, e)
longer_front (c ∷ a) rest [] later e most = absurd (omega (arith, most))
longer_front (c ∷ a) rest (d ∷ b) later e most =
    let on = longer_front a rest b later (both_same c d (a ++ rest) (b ++ later) e) (omega (arith, most)) in
    (on.0, ap (λ x. x ∷ b) (sym (head_same c d (a ++ rest) (b ++ later) e)) ∙ ap (λ t. c ∷ t) on.1, on.2)
