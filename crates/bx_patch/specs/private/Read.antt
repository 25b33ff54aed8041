-- A text that is read line by line.
use Rattle.std.specs.Prelude.{◌≡◌, ◌≢◌, ◌<◌, ℕ, length, drop, Bool, List, [], ◌∷◌, ◌++◌, slice_index}
use Rattle.bx_read.specs.FaultTable.{IsFaultOf}
use Rattle.bx_read.specs.Grammar.{IsLine}
use Rattle.bx_read.specs.Text.{lines_of}
use Rattle.bx_patch.specs.declared.read.fault.PatchFault.{PatchFault}
use Rattle.bx_patch.specs.declared.read.fault.PatchFault.TheVariants.{Line}
use Rattle.bx_patch.specs.declared.read.line.Kind.{Kind}
use Rattle.bx_patch.specs.declared.read.line.Kind.TheVariants.{Remark, Lengths, Signed, Count, Other}
use Rattle.bx_patch.specs.Fault.{HasNoSign, IsToTell, TellsLines}
use Rattle.bx_patch.specs.Grammar.{AsksBefore, IsInLengths, GivesPatch, IsRemark}
use Rattle.bx_patch.specs.Patch.{Asked}
use Rattle.bx_patch.specs.Text.{sign_of}

-- the line gives the address and bytes
abbrev pub Gives : List ℕ → ℕ → List ℕ → Type 0
Gives line at bytes = (hex : List ℕ) × IsLine line at hex bytes

-- a fault of the line behind a sign
abbrev pub IsSignedFault : ℕ → List ℕ → PatchFault → Type 0
IsSignedFault number text (Line fault) = IsFaultOf number text fault
IsSignedFault number text fault = ⊥

-- the line begins with a sign
abbrev pub HasSign : Bool → List ℕ → Type 0
HasSign new line = line ≡ sign_of new ∷ drop 1 line

-- what a line is behind lines that ask this
abbrev pub IsKind : Asked → List ℕ → Kind → Type 0
IsKind before line Remark = IsRemark line
IsKind before line Lengths = IsToTell before line
IsKind before line (Signed new) = HasSign new line
IsKind before line Count = TellsLines line
IsKind before line Other = HasNoSign line × (IsRemark line → ⊥) × (IsToTell before line → ⊥) × (TellsLines line → ⊥)

-- with the line behind them, lines that ask the one ask the other
abbrev pub Adds : Asked → List ℕ → Asked → Type 0
Adds old line new = (before : List (List ℕ)) → GivesPatch before old → IsInLengths old → GivesPatch (before ++ line ∷ []) new × IsInLengths new

-- of a text the first `number` lines were read, which ask this, and the rest wasn't
pub record HasReadLines (text rest : List ℕ) (number : ℕ) (asked : Asked) : Type 0 where
  pub lines : List ℕ
  pub before : AsksBefore text lines rest asked
  pub count : number ≡ length (lines_of lines)

-- the text doesn't begin with the word
abbrev pub BeginsElse : List ℕ → List ℕ → Type 0
BeginsElse text word = (rest : List ℕ) → text ≡ word ++ rest → ⊥

-- the text has no space
abbrev pub HasNoSpace : List ℕ → Type 0
HasNoSpace text = (k : ℕ) → k < length text → slice_index text k ≢ 32
