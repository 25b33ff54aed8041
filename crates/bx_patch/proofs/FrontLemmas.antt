-- What a text gives that begins with a line of a patch.
use Rattle.std.proofs.Common.{◌≡◌, ◌≢◌, ℕ, ◌<◌, ◌≤◌, ◌^◌, false, true, Some, None, List, [], ◌∷◌, ◌++◌, length, inl, inr, refl, sym, subst, arith}
use Rattle.std.specs.Prelude.{codes}
use Rattle.std.specs.List.{All}
use Rattle.std.proofs.lemmas.List.Elements.{All-cons}
use Rattle.bx_read.specs.Grammar.{IsLine}
use Rattle.bx_read.specs.Laws.{dump_line_text}
use Rattle.bx_read.specs.Text.{lines_of}
use Rattle.bx_read.proofs.DumpLemmas.{small}
use Rattle.bx_read.proofs.FullLines.{first_line}
use Rattle.bx_read.proofs.WrittenLemmas.{reads_back}
use Rattle.bx_patch.specs.Patch.{Asked, Pieces}
use Rattle.bx_patch.specs.Text.{length_text}
use Rattle.bx_patch.specs.Grammar.{IsInLengths, IsPatch, IsRemark, IsSigned, GivesSigned, GivesPatch}
use Rattle.bx_patch.proofs.LineLemmas.{length_line, one_line, tells}

-- the pieces that a text gives, and what it asks
abbrev pub TextGives : List ℕ → Pieces → Pieces → Type 0
TextGives text expected written = GivesSigned (lines_of text) expected written

abbrev pub TextAsks : List ℕ → Asked → Type 0
TextAsks text p = GivesPatch (lines_of text) p

-- a line of a dump gives some bytes, at an address that can be read
pub line_sizes : (line hex bytes : List ℕ) (at : ℕ) → IsLine line at hex bytes → (0 < length bytes) × (length bytes ≤ 256) × (at < 2 ^ 62) × All (λ b. b < 256) bytes
line_sizes line hex bytes at is = small (line ∷ []) ((at, bytes) ∷ []) (inr (at, hex, bytes, [], is, refl, refl)) 0 (at, bytes) (omega arith)

-- a remark in front
pub remark_in_front : (line rest : List ℕ) (p : Asked) → All (λ c. c ≢ 10) line → IsRemark line → TextAsks rest p → TextAsks (line ++ 10 ∷ rest) p
remark_in_front line rest p one remark is = subst (λ ls. GivesPatch ls p) (sym (first_line line rest one)) (inl (remark, is))

-- no line that tells lengths
pub no_lengths : (text : List ℕ) (e w : Pieces) → TextGives text e w → TextAsks text (record { lengths = None; expected = e; written = w })
no_lengths text e w is = by (lines_of text) is
  where
    by : (ls : List (List ℕ)) → GivesSigned ls e w → GivesPatch ls (record { lengths = None; expected = e; written = w })
    by [] is = (refl, is)
    by (line ∷ ls) is = inr (inr (refl, is))

-- one in front
pub lengths_in_front : (old new : ℕ) (rest : List ℕ) (e w : Pieces) → old < 2 ^ 59 → new < 2 ^ 59 → TextGives rest e w
    → TextAsks (length_text old new ++ 10 ∷ rest) (record { lengths = Some (old, new); expected = e; written = w })
lengths_in_front old new rest e w small little is =
    let text = length_text old new in
    let p : Asked = record { lengths = Some (old, new); expected = e; written = w } in
    subst (λ ls. GivesPatch ls p) (sym (first_line text rest (one_line text (length_line old new small little)))) (inr (inl (old, new, tells old new small little, refl, is)))

-- an empty line alone
pub gives_none : TextGives (10 ∷ []) [] []
gives_none = inl (inl refl, (refl, refl))

module _ (at : ℕ) (bytes rest : List ℕ) (some : 0 < length bytes) (few : length bytes ≤ 16) (are : All (λ b. b < 256) bytes) (near : at < 2 ^ 62) (e w : Pieces) (is : TextGives rest e w) where
  abbrev line : List ℕ
  line = dump_line_text at bytes

  split_at : (sign : ℕ) → sign ≢ 10 → lines_of ((sign ∷ line) ++ 10 ∷ rest) ≡ (sign ∷ line) ∷ lines_of rest
  split_at sign apart =
      first_line (sign ∷ line) rest (All-cons (λ c. c ≢ 10) sign line apart (reads_back false 16 2 at bytes (omega arith) some few (omega arith) are near).3)

  read_line : (hex : List ℕ) × IsLine line at hex bytes
  read_line = (reads_back false 16 2 at bytes (omega arith) some few (omega arith) are near).1

  -- a line of old bytes in front
  pub old_in_front : TextGives ((45 ∷ line) ++ 10 ∷ rest) ((at, bytes) ∷ e) w
  old_in_front =
      let own : IsSigned false (45 ∷ line) (at, bytes) = record { text = line; hex = read_line.0; spelled = refl; is = read_line.1 } in
      subst (λ ls. GivesSigned ls ((at, bytes) ∷ e) w) (sym (split_at 45 (λ h. absurd (omega (arith, h))))) (inr (inl ((at, bytes), e, own, refl, is)))

  -- a line of new bytes in front
  pub new_in_front : TextGives ((43 ∷ line) ++ 10 ∷ rest) e ((at, bytes) ∷ w)
  new_in_front =
      let own : IsSigned true (43 ∷ line) (at, bytes) = record { text = line; hex = read_line.0; spelled = refl; is = read_line.1 } in
      subst (λ ls. GivesSigned ls e ((at, bytes) ∷ w)) (sym (split_at 43 (λ h. absurd (omega (arith, h))))) (inr (inr ((at, bytes), w, own, refl, is)))

-- whole lines that ask something, and a last line that doesn't count them
pub ended_by_hand : (text front : List ℕ) (p : Asked) → text ≡ front ++ codes "\n" → TextAsks text p → IsInLengths p → IsPatch (text ++ codes "end\n") p
ended_by_hand text front p e asks fits = record {
  lines = text;
  last = codes "end";
  before = record { spelled = refl; whole = inr (front, e); gives = asks; fits = fits };
  ends = inl refl;
}
