-- The first line of a text, and the line that ends an entry.
use Rattle.std.proofs.Common.{◌≡◌, ℕ, ◌+◌, List, ◌∷◌, ◌++◌, length, length-append, take, drop, ap, sym, ◌∙◌, arith, append_assoc}
use Rattle.std.specs.Prelude.{◌-◌, codes}
use Rattle.std.proofs.Math.Seq.{drop-append_seam}
use Rattle.bx_journal_format.specs.Hex.{hex_digits}
use Rattle.bx_journal_format.specs.Text.{split}
use Rattle.bx_journal_format.specs.read.Plain.{HasNoNewline}
use Rattle.bx_journal_format.proofs.HexLemmas.{length-hex_digits}
use Rattle.bx_journal_format.proofs.Splits.{split-ended}
use Rattle.bx_journal_image.specs.Line.{field}
use Rattle.bx_journal_image.specs.Ranges.{ending_line}

-- the lines behind the first one
pub lines_behind : (rest behind : List ℕ) (i : ℕ) → HasNoNewline (take i rest) → rest ≡ take i rest ++ 10 ∷ drop (i + 1) rest → behind ≡ drop (i + 1) rest
    → (split rest).lines ≡ take i rest ∷ (split behind).lines
lines_behind rest behind i plain is left =
    ap (λ t. (split t).lines) is ∙ ap (λ s. s.lines) (split-ended (take i rest) (drop (i + 1) rest) plain) ∙ ap (λ t. take i rest ∷ (split t).lines) (sym left)

-- the line that ends an entry
pub end_long : (n after : ℕ) → length (ending_line n after) ≡ 32
unfolding ending_line
end_long n after =
    omega (
      arith,
      length-append (field (codes "done2 ") 8 n ++ field (codes " ") 16 after) (codes "\n"),
      length-append (field (codes "done2 ") 8 n) (field (codes " ") 16 after),
      length-append (codes "done2 ") (hex_digits 8 n),
      length-append (codes " ") (hex_digits 16 after),
      length-hex_digits 8 n,
      length-hex_digits 16 after,
    )

-- a text's last bytes, where the line stands there
pub last_of : (text front : List ℕ) (n after k : ℕ) → text ≡ front ++ ending_line n after → k ≡ length text - 32 → drop k text ≡ ending_line n after
last_of text front n after k is at =
    let place : k ≡ length front = omega (arith, at, ap length is, length-append front (ending_line n after), end_long n after) in
    ap (drop k) is ∙ ap (λ i. drop i (front ++ ending_line n after)) place ∙ drop-append_seam front (ending_line n after)

-- its fields
pub fields_in : (line : List ℕ) (n after : ℕ) → line ≡ ending_line n after → line ≡ field (codes "done2 ") 8 n ++ (field (codes " ") 16 after ++ codes "\n")
unfolding ending_line
fields_in line n after is = is ∙ append_assoc (field (codes "done2 ") 8 n) (field (codes " ") 16 after) (codes "\n")
