-- The grammar of patches.
use Rattle.std.specs.Prelude.{◌≡◌, ◌⊎◌, ℕ, ◌+◌, ◌≤◌, Bool, true, false, None, Some, IfSome, List, [], ◌∷◌, ◌++◌, length, codes, All}
use Rattle.std.specs.Str.Parse.{IsNumeral, digits_value}
use Rattle.bx_read.specs.Grammar.{IsLine}
use Rattle.bx_read.specs.Text.{lines_of}
use Rattle.bx_read.specs.Window.{AreWholeLines}
use Rattle.bx_patch.specs.Patch.{Asked, Pieces}
use Rattle.bx_patch.specs.Text.{patch_end, sign_of}

-- a line that counts for nothing: an empty one, or one that begins with `#`
abbrev pub IsRemark : List ℕ → Type 0
IsRemark line = (line ≡ []) ⊎ ((text : List ℕ) × (line ≡ 35 ∷ text))

-- The line tells the lengths, each by 1 to 18 decimal digits.
pub record IsLength (line : List ℕ) (old new : ℕ) : Type 0 where
  pub first : List ℕ
  pub second : List ℕ
  pub spelled : line ≡ codes "length " ++ (first ++ (codes " to " ++ second))
  pub old_digits : IsNumeral 10 first
  pub new_digits : IsNumeral 10 second
  pub old_value : digits_value 10 first ≡ old
  pub new_value : digits_value 10 second ≡ new
  pub old_few : length first ≤ 18
  pub new_few : length second ≤ 18

-- The line is a sign and a line of a dump that gives an address and bytes.
pub record IsSigned (new : Bool) (line : List ℕ) (piece : ℕ × List ℕ) : Type 0 where
  pub text : List ℕ
  pub hex : List ℕ
  pub spelled : line ≡ sign_of new ∷ text
  pub is : IsLine text piece.0 hex piece.1

-- The lines are in the grammar; those behind a `-` give the pieces that are expected, and those behind a `+` the ones that are written.
abbrev pub GivesSigned : List (List ℕ) → Pieces → Pieces → Type 0
GivesSigned [] expected written = (expected ≡ []) × (written ≡ [])
GivesSigned (line ∷ lines) expected written =
    (IsRemark line × GivesSigned lines expected written)
    ⊎ (((piece : ℕ × List ℕ) × (rest : Pieces) × IsSigned false line piece × (expected ≡ piece ∷ rest) × GivesSigned lines rest written)
    ⊎ ((piece : ℕ × List ℕ) × (rest : Pieces) × IsSigned true line piece × (written ≡ piece ∷ rest) × GivesSigned lines expected rest))

-- The lines are those of a patch. The lengths are stated once and first, or not at all.
abbrev pub GivesPatch : List (List ℕ) → Asked → Type 0
GivesPatch [] p = (p.lengths ≡ None) × GivesSigned [] p.expected p.written
GivesPatch (line ∷ lines) p =
    (IsRemark line × GivesPatch lines p)
    ⊎ (((old new : ℕ) × IsLength line old new × (p.lengths ≡ Some (old, new)) × GivesSigned lines p.expected p.written)
    ⊎ ((p.lengths ≡ None) × GivesSigned (line ∷ lines) p.expected p.written))

-- a piece that ends within a length
abbrev pub EndsWithin : ℕ → ℕ × List ℕ → Type 0
EndsWithin n piece = piece.0 + length piece.1 ≤ n

-- Where lengths are stated, what is expected ends within the old one, and what is written within the new one.
abbrev pub IsInLengths : Asked → Type 0
IsInLengths p = IfSome p.lengths (λ lengths. All (EndsWithin lengths.0) p.expected × All (EndsWithin lengths.1) p.written)

-- The text begins with whole lines that ask this, each with its newline, and goes on with the rest.
pub record AsksBefore (text lines rest : List ℕ) (p : Asked) : Type 0 where
  pub spelled : text ≡ lines ++ rest
  pub whole : AreWholeLines lines
  pub gives : GivesPatch (lines_of lines) p
  pub fits : IsInLengths p

-- The line is the last one of a text that has n lines before it: `end`, or that and their number.
abbrev pub IsPatchEnd : ℕ → List ℕ → Type 0
IsPatchEnd n line = (line ≡ codes "end") ⊎ (line ≡ patch_end n)

-- The text is a patch that asks this: lines that ask it, and then the last one with its newline, and nothing else.
pub record IsPatch (text : List ℕ) (p : Asked) : Type 0 where
  pub lines : List ℕ
  pub last : List ℕ
  pub before : AsksBefore text lines (last ++ codes "\n") p
  pub ends : IsPatchEnd (length (lines_of lines)) last

-- a text asks this
abbrev pub IsReadPatch : Asked → Type 0
IsReadPatch p = (text : List ℕ) × IsPatch text p
