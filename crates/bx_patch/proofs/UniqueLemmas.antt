-- A text is the patch of one request.
use Rattle.std.proofs.Common.{◌≡◌, ℕ, ◌<◌, Bool, true, false, Option, None, Some, List, [], ◌∷◌, ◌++◌, get_or, inl, inr, refl, sym, ap, subst, ◌∙◌, arith}
use Rattle.std.specs.Prelude.{codes}
use Rattle.std.specs.Char.{digit_value}
use Rattle.std.specs.Str.Parse.{AllDigits, digits_value}
use Rattle.bx_read.specs.Grammar.{IsLine}
use Rattle.bx_read.proofs.PieceLemmas.{unique}
use Rattle.bx_patch.specs.Patch.{Asked, Pieces}
use Rattle.bx_patch.specs.Text.{sign_of}
use Rattle.bx_patch.specs.Grammar.{IsRemark, IsLength, IsSigned, GivesSigned, GivesPatch}

-- the first character of a line, which tells its kind
abbrev pub first_of : List ℕ → ℕ
first_of line = get_or line 0 0

pub remark_first : (line : List ℕ) → IsRemark line → first_of line < 36
remark_first line (inl none) = omega (arith, ap first_of none)
remark_first line (inr some) = omega (arith, ap first_of some.1)

pub signed_first : (new : Bool) (line : List ℕ) (piece : ℕ × List ℕ) → IsSigned new line piece → first_of line ≡ sign_of new
signed_first new line piece is = ap first_of is.spelled

pub length_first : (line : List ℕ) (old new : ℕ) → IsLength line old new → first_of line ≡ 108
length_first line old new is = ap first_of is.spelled

pub no_remark : (new : Bool) (line : List ℕ) (piece : ℕ × List ℕ) → IsSigned new line piece → IsRemark line → ⊥
no_remark true line piece is remark = absurd (omega (arith, signed_first true line piece is, remark_first line remark))
no_remark false line piece is remark = absurd (omega (arith, signed_first false line piece is, remark_first line remark))

pub one_sign : (line : List ℕ) (piece other : ℕ × List ℕ) → IsSigned false line piece → IsSigned true line other → ⊥
one_sign line piece other old new = absurd (omega (arith, signed_first false line piece old, signed_first true line other new))

pub no_length : (new : Bool) (line : List ℕ) (piece : ℕ × List ℕ) (o n : ℕ) → IsSigned new line piece → IsLength line o n → ⊥
no_length true line piece o n is long = absurd (omega (arith, signed_first true line piece is, length_first line o n long))
no_length false line piece o n is long = absurd (omega (arith, signed_first false line piece is, length_first line o n long))

pub length_no_remark : (line : List ℕ) (o n : ℕ) → IsLength line o n → IsRemark line → ⊥
length_no_remark line o n long remark = absurd (omega (arith, length_first line o n long, remark_first line remark))

tail_same : (c : ℕ) (x y : List ℕ) → c ∷ x ≡ c ∷ y → x ≡ y
tail_same c x y e = cc

pub one_piece : (new : Bool) (line : List ℕ) (piece other : ℕ × List ℕ) → IsSigned new line piece → IsSigned new line other → piece ≡ other
one_piece new line piece other a b =
    let text : b.text ≡ a.text = tail_same (sign_of new) b.text a.text (sym b.spelled ∙ a.spelled) in
    let is : IsLine a.text other.0 b.hex other.1 = subst (λ (t : List ℕ). IsLine t other.0 b.hex other.1) text b.is in
    let same = unique a.text a.hex b.hex piece.1 other.1 piece.0 other.0 a.is is in
    ap (λ a. (a, piece.1)) same.0 ∙ ap (λ b. (other.0, b)) same.2

no_space : (c : ℕ) → digit_value c < 10 → 32 ≡ c → ⊥
no_space c digit e = let h : digit_value 32 < 10 = subst (λ (n : ℕ). digit_value n < 10) (sym e) digit in absurd (omega (arith, h))

pub head_same : (c d : ℕ) (x y : List ℕ) → c ∷ x ≡ d ∷ y → c ≡ d
head_same c d x y e = cc

pub both_same : (c d : ℕ) (x y : List ℕ) → c ∷ x ≡ d ∷ y → x ≡ y
both_same c d x y e = cc

-- digits end at a space
split : (a c t u : List ℕ) → AllDigits 10 a → AllDigits 10 c → a ++ 32 ∷ t ≡ c ++ 32 ∷ u → (a ≡ c) × (t ≡ u)
split [] [] t u all others e = (refl, both_same 32 32 t u e)
split [] (d ∷ c) t u all others e = absurd (no_space d others.0 (head_same 32 d t (c ++ 32 ∷ u) e))
split (b ∷ a) [] t u all others e = absurd (no_space b all.0 (sym (head_same b 32 (a ++ 32 ∷ t) u e)))
split (b ∷ a) (d ∷ c) t u all others e =
    let rest = split a c t u all.1 others.1 (both_same b d (a ++ 32 ∷ t) (c ++ 32 ∷ u) e) in
    (ap (λ x. x ∷ a) (head_same b d (a ++ 32 ∷ t) (c ++ 32 ∷ u) e) ∙ ap (λ x. d ∷ x) rest.0, rest.1)

pub behind : (x y : List ℕ) → codes "length " ++ x ≡ codes "length " ++ y → x ≡ y
behind x y e = cc

pub behind_to : (x y : List ℕ) → 116 ∷ 111 ∷ 32 ∷ x ≡ 116 ∷ 111 ∷ 32 ∷ y → x ≡ y
behind_to x y e = cc

pub one_length : (line : List ℕ) (old new others news : ℕ) → IsLength line old new → IsLength line others news → (old ≡ others) × (new ≡ news)
one_length line old new others news a b =
    let tails = behind (a.first ++ (codes " to " ++ a.second)) (b.first ++ (codes " to " ++ b.second)) (sym a.spelled ∙ b.spelled) in
    let parts = split a.first b.first (116 ∷ 111 ∷ 32 ∷ a.second) (116 ∷ 111 ∷ 32 ∷ b.second) a.old_digits.1 b.old_digits.1 tails in
    (sym a.old_value ∙ ap (digits_value 10) parts.0 ∙ b.old_value, sym a.new_value ∙ ap (digits_value 10) (behind_to a.second b.second parts.1) ∙ b.new_value)

-- what lines give is one pair of lists
pub one_pair : (lines : List (List ℕ)) (e w f v : Pieces) → GivesSigned lines e w → GivesSigned lines f v → (e ≡ f) × (w ≡ v)
one_pair [] e w f v a b = (a.0 ∙ sym b.0, a.1 ∙ sym b.1)
one_pair (line ∷ lines) e w f v (inl a) (inl b) = one_pair lines e w f v a.1 b.1
one_pair (line ∷ lines) e w f v (inl a) (inr (inl b)) = absurd (no_remark false line b.0 b.2 a.0)
one_pair (line ∷ lines) e w f v (inl a) (inr (inr b)) = absurd (no_remark true line b.0 b.2 a.0)
one_pair (line ∷ lines) e w f v (inr (inl a)) (inl b) = absurd (no_remark false line a.0 a.2 b.0)
one_pair (line ∷ lines) e w f v (inr (inr a)) (inl b) = absurd (no_remark true line a.0 a.2 b.0)
one_pair (line ∷ lines) e w f v (inr (inl a)) (inr (inr b)) = absurd (one_sign line a.0 b.0 a.2 b.2)
one_pair (line ∷ lines) e w f v (inr (inr a)) (inr (inl b)) = absurd (one_sign line b.0 a.0 b.2 a.2)
one_pair (line ∷ lines) e w f v (inr (inl a)) (inr (inl b)) =
    let rest = one_pair lines a.1 w b.1 v a.4 b.4 in
    (a.3 ∙ ap (λ p. p ∷ a.1) (one_piece false line a.0 b.0 a.2 b.2) ∙ ap (λ ps. b.0 ∷ ps) rest.0 ∙ sym b.3, rest.1)
one_pair (line ∷ lines) e w f v (inr (inr a)) (inr (inr b)) =
    let rest = one_pair lines e a.1 f b.1 a.4 b.4 in
    (rest.0, a.3 ∙ ap (λ p. p ∷ a.1) (one_piece true line a.0 b.0 a.2 b.2) ∙ ap (λ ps. b.0 ∷ ps) rest.1 ∙ sym b.3)

-- a line that tells the lengths gives no piece
no_signed : (line : List ℕ) (lines : List (List ℕ)) (o n : ℕ) (e w : Pieces) → IsLength line o n → GivesSigned (line ∷ lines) e w → ⊥
no_signed line lines o n e w long (inl a) = length_no_remark line o n long a.0
no_signed line lines o n e w long (inr (inl a)) = no_length false line a.0 o n a.2 long
no_signed line lines o n e w long (inr (inr a)) = no_length true line a.0 o n a.2 long

same_asked : (p q : Asked) → p.lengths ≡ q.lengths → (p.expected ≡ q.expected) × (p.written ≡ q.written) → p ≡ q
same_asked p q l b =
    let mid : Asked = record { lengths = q.lengths; expected = p.expected; written = p.written } in
    let first : p ≡ mid = ap (λ lengths. record { lengths = lengths; expected = p.expected; written = p.written }) l in
    let next : mid ≡ record { lengths = q.lengths; expected = q.expected; written = p.written } = ap (λ e. record { lengths = q.lengths; expected = e; written = p.written }) b.0 in
    first ∙ next ∙ ap (λ w. record { lengths = q.lengths; expected = q.expected; written = w }) b.1

lengths_same : (o n a b : ℕ) → (o ≡ a) × (n ≡ b) → ◌≡◌ {A = Option (ℕ × ℕ)} (Some (o, n)) (Some (a, b))
lengths_same o n a b e = ap (λ k. Some (k, n)) e.0 ∙ ap (λ k. Some (a, k)) e.1

-- remarks aside, what signed lines give is what the patch without lengths does
signed_patch : (lines : List (List ℕ)) (p : Asked) → p.lengths ≡ None → GivesPatch lines p → GivesSigned lines p.expected p.written
signed_patch [] p none is = is.1
signed_patch (line ∷ lines) p none (inl a) = inl (a.0, signed_patch lines p none a.1)
signed_patch (line ∷ lines) p none (inr (inl a)) = absurd (differ (a.0, a.1) (sym none ∙ a.3))
  where
    differ : (l : ℕ × ℕ) → ◌≡◌ {A = Option (ℕ × ℕ)} None (Some l) → ⊥
    differ l e = cc
signed_patch (line ∷ lines) p none (inr (inr a)) = a.1

-- signed lines tell no lengths
patch_signed : (lines : List (List ℕ)) (p : Asked) (e w : Pieces) → GivesPatch lines p → GivesSigned lines e w → p.lengths ≡ None
patch_signed [] p e w is signed = is.0
patch_signed (line ∷ lines) p e w (inl a) (inl s) = patch_signed lines p e w a.1 s.1
patch_signed (line ∷ lines) p e w (inl a) (inr (inl s)) = absurd (no_remark false line s.0 s.2 a.0)
patch_signed (line ∷ lines) p e w (inl a) (inr (inr s)) = absurd (no_remark true line s.0 s.2 a.0)
patch_signed (line ∷ lines) p e w (inr (inl a)) s = absurd (no_signed line lines a.0 a.1 e w a.2 s)
patch_signed (line ∷ lines) p e w (inr (inr a)) s = a.0

after_remark : (line : List ℕ) (lines : List (List ℕ)) (p q : Asked) → IsRemark line × GivesPatch lines p → q.lengths ≡ None →
    GivesSigned (line ∷ lines) q.expected q.written → p ≡ q
after_remark line lines p q a none (inl s) =
    let told = patch_signed lines p q.expected q.written a.1 s.1 in
    same_asked p q (told ∙ sym none) (one_pair lines p.expected p.written q.expected q.written (signed_patch lines p told a.1) s.1)
after_remark line lines p q a none (inr (inl s)) = absurd (no_remark false line s.0 s.2 a.0)
after_remark line lines p q a none (inr (inr s)) = absurd (no_remark true line s.0 s.2 a.0)

pub one_patch : (lines : List (List ℕ)) (p q : Asked) → GivesPatch lines p → GivesPatch lines q → p ≡ q
one_patch [] p q a b = same_asked p q (a.0 ∙ sym b.0) (one_pair [] p.expected p.written q.expected q.written a.1 b.1)
one_patch (line ∷ lines) p q (inl a) (inl b) = one_patch lines p q a.1 b.1
one_patch (line ∷ lines) p q (inl a) (inr (inl b)) = absurd (length_no_remark line b.0 b.1 b.2 a.0)
one_patch (line ∷ lines) p q (inr (inl a)) (inl b) = absurd (length_no_remark line a.0 a.1 a.2 b.0)
one_patch (line ∷ lines) p q (inr (inl a)) (inr (inl b)) =
    same_asked p q (a.3 ∙ lengths_same a.0 a.1 b.0 b.1 (one_length line a.0 a.1 b.0 b.1 a.2 b.2) ∙ sym b.3)
    (one_pair lines p.expected p.written q.expected q.written a.4 b.4)
one_patch (line ∷ lines) p q (inr (inl a)) (inr (inr b)) = absurd (no_signed line lines a.0 a.1 q.expected q.written a.2 b.1)
one_patch (line ∷ lines) p q (inr (inr a)) (inr (inl b)) = absurd (no_signed line lines b.0 b.1 p.expected p.written b.2 a.1)
one_patch (line ∷ lines) p q (inr (inr a)) (inr (inr b)) =
    same_asked p q (a.0 ∙ sym b.0) (one_pair (line ∷ lines) p.expected p.written q.expected q.written a.1 b.1)
one_patch (line ∷ lines) p q (inl a) (inr (inr b)) = after_remark line lines p q a b.0 b.1
one_patch (line ∷ lines) p q (inr (inr a)) (inl b) = sym (after_remark line lines q p b a.0 a.1)
