-- What the lines of a patch give.
use Rattle.std.proofs.Common.{◌≡◌, ◌≢◌, ℕ, zero, suc, ◌+◌, ◌*◌, ◌/◌, ◌%◌, ◌<◌, ◌≤◌, ◌^◌, Bool, true, false, not, cond, Some, None, List, [], ◌∷◌, ◌++◌, length, map, slice_index, inl, inr, refl, sym, ap, subst, ◌∙◌, append_assoc, add-one, ⊎_elim, arith}
use Rattle.std.specs.Prelude.{codes, flat_map}
use Rattle.std.specs.Fmt.{decimal, digits_onto, digit_glyph}
use Rattle.std.specs.Char.{digit_value}
use Rattle.std.specs.List.{All}
use Rattle.std.specs.Str.Parse.{AllDigits}
use Rattle.std.proofs.lemmas.Bool.{cases_eq}
use Rattle.std.proofs.lemmas.Fmt.{decimal_is_IsNumeral, length-decimal-le}
use Rattle.std.proofs.lemmas.List.Elements.{All-cons}
use Rattle.bx_read.specs.Laws.{wide_line_text}
use Rattle.bx_read.specs.Text.{lines_of}
use Rattle.bx_read.specs.Window.{AreWholeLines}
use Rattle.bx_read.proofs.FullLines.{first_line}
use Rattle.bx_read.proofs.PackedLemmas.{glyph_value}
use Rattle.bx_text.proofs.FieldLemmas.{digits_onto-last, digits_onto-more, digits_start}
use Rattle.bx_read.proofs.WrittenLemmas.{reads_back}
use Rattle.bx_text.specs.Dump.{dump_line, pair_of, shown_byte}
use Rattle.bx_text.specs.Field.{hex_text, laid_out}
use Rattle.bx_patch.specs.Patch.{Asked, Pieces}
use Rattle.bx_patch.specs.Text.{PatchLine, patch_end, sign_of, signed_line_text, length_text, headed}
use Rattle.bx_patch.specs.Grammar.{IsPatchEnd, IsLength, IsSigned, GivesSigned, GivesPatch}
use Rattle.bx_patch.proofs.EndLemmas.{whole_both, whole_line}

-- a line with 1 to 16 bytes at an address that can be read
pub record IsFine (l : PatchLine) : Type 0 where
  pub some : 0 < length l.2
  pub few : length l.2 ≤ 16
  pub bytes : All (λ b. b < 256) l.2
  pub small : l.1 < 2 ^ 62

-- each of the lines has a property
abbrev pub Each : (PatchLine → Type 0) → List PatchLine → Type 0
Each P [] = Unit {0}
Each P (l ∷ ls) = P l × Each P ls

pub Each-append : (P : PatchLine → Type 0) (ls ms : List PatchLine) → Each P ls → Each P ms → Each P (ls ++ ms)
Each-append P [] ms a b = b
Each-append P (l ∷ ls) ms a b = (a.0, Each-append P ls ms a.1 b)

-- the pieces of the lines of one side
abbrev pub pieces_of : Bool → List PatchLine → Pieces
pieces_of new [] = []
pieces_of new (l ∷ ls) = cond (cond new l.0 (not l.0)) ((l.1, l.2) ∷ pieces_of new ls) (pieces_of new ls)

no_newline_in : List ℕ → Type 0
no_newline_in line = All (λ c. c ≢ 10) line

-- a line in front of a text
front_line : (sign at : ℕ) (bytes rest : List ℕ) → sign ≢ 10 → 0 < length bytes → length bytes ≤ 16 → All (λ b. b < 256) bytes → at < 2 ^ 62 →
    lines_of ((sign ∷ dump_line false 16 2 at bytes) ++ rest) ≡ (sign ∷ wide_line_text false 16 2 at bytes) ∷ lines_of rest
front_line sign at bytes rest apart some few are small =
    let back = reads_back false 16 2 at bytes (omega arith) some few (omega arith) are small in
    let text = wide_line_text false 16 2 at bytes in
    let spelled : (sign ∷ dump_line false 16 2 at bytes) ++ rest ≡ (sign ∷ text) ++ (10 ∷ rest) =
    ap (λ t. (sign ∷ t) ++ rest) back.0 ∙ append_assoc (sign ∷ text) (10 ∷ []) rest in
    ap lines_of spelled ∙ first_line (sign ∷ text) rest (All-cons (λ c. c ≢ 10) sign text apart back.3)

signed : (new : Bool) (at : ℕ) (bytes : List ℕ) → IsFine (new, at, bytes) → IsSigned new (sign_of new ∷ wide_line_text false 16 2 at bytes) (at, bytes)
signed new at bytes fine =
    let back = reads_back false 16 2 at bytes (omega arith) fine.some fine.few (omega arith) fine.bytes fine.small in
    record { text = wide_line_text false 16 2 at bytes; hex = back.1.0; spelled = refl; is = back.1.1 }

pub gives : (ls : List PatchLine) → Each IsFine ls → GivesSigned (lines_of (flat_map signed_line_text ls)) (pieces_of false ls) (pieces_of true ls)
gives [] fine = (refl, refl)
gives ((true, at, bytes) ∷ ls) fine =
    let l = fine.0 in
    rw (front_line 43 at bytes (flat_map signed_line_text ls) (λ h. absurd (omega (arith, h))) l.some l.few l.bytes l.small)
    (inr (inr ((at, bytes), pieces_of true ls, signed true at bytes l, refl, gives ls fine.1)))
gives ((false, at, bytes) ∷ ls) fine =
    let l = fine.0 in
    rw (front_line 45 at bytes (flat_map signed_line_text ls) (λ h. absurd (omega (arith, h))) l.some l.few l.bytes l.small)
    (inr (inl ((at, bytes), pieces_of false ls, signed false at bytes l, refl, gives ls fine.1)))

-- the line that tells the lengths
abbrev pub IsOneLine : List ℕ → Type 0
IsOneLine [] = Unit {0}
IsOneLine (c ∷ text) = (c ≢ 10) × IsOneLine text

pub one_line : (text : List ℕ) → IsOneLine text → All (λ c. c ≢ 10) text
one_line [] is = λ k d inside. absurd (omega arith)
one_line (c ∷ text) is = All-cons (λ c. c ≢ 10) c text is.0 (one_line text is.1)

no_ten : (c : ℕ) → digit_value c < 10 → c ≢ 10
no_ten c digit = λ e. let h : digit_value 10 < 10 = subst (λ (n : ℕ). digit_value n < 10) e digit in absurd (omega (arith, h))

digits_line : (ds rest : List ℕ) → AllDigits 10 ds → IsOneLine rest → IsOneLine (ds ++ rest)
digits_line [] rest all later = later
digits_line (c ∷ ds) rest all later = (no_ten c all.0, digits_line ds rest all.1 later)

pub length_line : (old new : ℕ) → old < 2 ^ 59 → new < 2 ^ 59 → IsOneLine (length_text old new)
length_line old new small little =
    let first = decimal_is_IsNumeral old (omega arith) in
    let second = decimal_is_IsNumeral new (omega arith) in
    let last : IsOneLine (decimal new) = ends (decimal new) second.0.1 in
    let to : IsOneLine (codes " to " ++ decimal new) = (λ h. absurd (omega (arith, h)), (λ h. absurd (omega (arith, h)), (λ h. absurd (omega (arith, h)), (λ h. absurd (omega (arith, h)), last)))) in
    let mid : IsOneLine (decimal old ++ (codes " to " ++ decimal new)) = digits_line (decimal old) (codes " to " ++ decimal new) first.0.1 to in
    (λ h. absurd (omega (arith, h)), (λ h. absurd (omega (arith, h)), (λ h. absurd (omega (arith, h)), (λ h. absurd (omega (arith, h)), (λ h. absurd (omega (arith, h)), (λ h. absurd (omega (arith, h)), (λ h. absurd (omega (arith, h)), mid)))))))
  where
    ends : (ds : List ℕ) → AllDigits 10 ds → IsOneLine ds
    ends [] all = tt
    ends (c ∷ ds) all = (no_ten c all.0, ends ds all.1)

-- the digits of any number
digits_one : (k n : ℕ) (acc : List ℕ) → IsOneLine acc → IsOneLine (digits_onto k 10 false n acc)
digits_one zero n acc one = one
digits_one (suc k) n acc one =
    let digit : digit_value (digit_glyph false (n % 10)) ≡ n % 10 = glyph_value false (n % 10) (omega arith) in
    let first = no_ten (digit_glyph false (n % 10)) (omega (arith, digit)) in
    ⊎_elim
    (λ z. subst IsOneLine (sym (digits_onto-last (suc k) k 10 false n acc (sym (add-one k)) z)) (first, one))
    (λ z. subst IsOneLine (sym (digits_onto-more (suc k) k 10 false n acc (sym (add-one k)) z)) (digits_one k (n / 10) (digit_glyph false (n % 10) ∷ acc) (first, one)))
    (cases_eq (n / 10) 0)

decimal_one : (k n : ℕ) → k ≡ 64 → IsOneLine (decimal n)
decimal_one k n e = subst IsOneLine (digits_start k 10 false n e) (digits_one k n [] tt)

-- the last line
pub end_one : (n : ℕ) (line : List ℕ) → IsPatchEnd n line → All (λ c. c ≢ 10) line
end_one n line (inl is) = subst (All (λ c. c ≢ 10)) (sym is) (one_line (codes "end") (λ h. absurd (omega (arith, h)), (λ h. absurd (omega (arith, h)), (λ h. absurd (omega (arith, h)), tt))))
end_one n line (inr is) =
    subst (All (λ c. c ≢ 10)) (sym is)
    (one_line (patch_end n) (λ h. absurd (omega (arith, h)), (λ h. absurd (omega (arith, h)), (λ h. absurd (omega (arith, h)), (λ h. absurd (omega (arith, h)), decimal_one 64 n refl)))))

pub few_digits : (n : ℕ) → n < 2 ^ 59 → length (decimal n) ≤ 18
few_digits n small = length-decimal-le 18 n (omega arith) (omega arith) (omega arith)

pub tells : (old new : ℕ) → old < 2 ^ 59 → new < 2 ^ 59 → IsLength (length_text old new) old new
tells old new small little =
    let first = decimal_is_IsNumeral old (omega arith) in
    let second = decimal_is_IsNumeral new (omega arith) in
    record {
      first = decimal old;
      second = decimal new;
      spelled = refl;
      old_digits = first.0;
      new_digits = second.0;
      old_value = first.1;
      new_value = second.1;
      old_few = few_digits old small;
      new_few = few_digits new little;
    }

-- what a text asks, by its lines and the lengths
abbrev pub asked_by : ℕ → ℕ → List PatchLine → Asked
asked_by old new [] = record { lengths = None; expected = []; written = [] }
asked_by old new (l ∷ ls) = record { lengths = Some (old, new); expected = pieces_of false (l ∷ ls); written = pieces_of true (l ∷ ls) }

pub headed_gives : (old new : ℕ) (ls : List PatchLine) → old < 2 ^ 59 → new < 2 ^ 59 → Each IsFine ls → GivesPatch (lines_of (headed (length_text old new ++ codes "\n") ls)) (asked_by old new ls)
headed_gives old new [] small little fine = (refl, (refl, refl))
headed_gives old new (l ∷ ls) small little fine =
    let body = flat_map signed_line_text (l ∷ ls) in
    let text = length_text old new in
    let line : lines_of (headed (length_text old new ++ codes "\n") (l ∷ ls)) ≡ text ∷ lines_of body =
    ap lines_of (append_assoc text (10 ∷ []) body) ∙ first_line text body (one_line text (length_line old new small little)) in
    rw line (inr (inl (old, new, tells old new small little, refl, gives (l ∷ ls) fine)))

-- each line of the text has its newline
pub flat_whole : (ls : List PatchLine) → AreWholeLines (flat_map signed_line_text ls)
flat_whole [] = inl refl
flat_whole (l ∷ ls) =
    let front : List ℕ = hex_text false 8 l.1 ++ codes ": " ++ laid_out (λ i. 2 * i + i / 2) (λ i. pair_of false (slice_index l.2 i)) (length l.2) 40 ++ codes " " ++ map shown_byte l.2 in
    whole_both (signed_line_text l) (flat_map signed_line_text ls) (whole_line (sign_of l.0 ∷ front)) (flat_whole ls)

pub headed_whole : (text : List ℕ) (ls : List PatchLine) → AreWholeLines (headed (text ++ codes "\n") ls)
headed_whole text [] = inl refl
headed_whole text (l ∷ ls) = whole_both (text ++ codes "\n") (flat_map signed_line_text (l ∷ ls)) (whole_line text) (flat_whole (l ∷ ls))
