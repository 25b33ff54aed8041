-- Which fault the text of a patch has: that of the first line that isn't as it has to be; or it has no end.
use Rattle.std.specs.Prelude.{◌≡◌, ◌≢◌, ◌⊎◌, ℕ, ◌+◌, ◌<◌, Bool, if◌then◌else◌, Option, None, Some, List, ◌∷◌, ◌++◌, length, slice_index, codes, All}
use Rattle.bx_read.specs.FaultTable.{IsFaultOf}
use Rattle.bx_read.specs.Text.{lines_of}
use Rattle.bx_patch.specs.declared.read.fault.PatchFault.{PatchFault}
use Rattle.bx_patch.specs.declared.read.fault.PatchFault.TheVariants.{NoMemory, NoEnd, Line, OfNoKind, BadLength, PastLength, BadCount}
use Rattle.bx_patch.specs.Grammar.{AsksBefore, IsPatchEnd, IsLength, IsPatch, IsRemark, IsSigned}
use Rattle.bx_patch.specs.Patch.{Asked, nothing_asked}
use Rattle.bx_patch.specs.Text.{sign_of}

-- the line begins with no sign
abbrev pub HasNoSign : List ℕ → Type 0
HasNoSign line = (slice_index line 0 ≢ 43) × (slice_index line 0 ≢ 45)

-- the line tells no lengths
abbrev pub IsNoLength : List ℕ → Type 0
IsNoLength line = (old new : ℕ) → IsLength line old new → ⊥

-- the line is to tell the lengths: it begins with that word, and no line before it counts
abbrev pub IsToTell : Asked → List ℕ → Type 0
IsToTell before line = (before ≡ nothing_asked) × ((text : List ℕ) × (line ≡ codes "length " ++ text))

-- the length of its image is stated, and a piece ends behind it
abbrev pub IsPast : Option (ℕ × ℕ) → Bool → ℕ × List ℕ → Type 0
IsPast None new piece = ⊥
IsPast (Some lengths) new piece = (if new then lengths.1 else lengths.0) < piece.0 + length piece.1

-- the line tells how many lines stand before it, as the last one may
abbrev pub TellsLines : List ℕ → Type 0
TellsLines line = (text : List ℕ) × (line ≡ codes "end " ++ text)

-- The fault of a line with this number behind lines that ask this, where it isn't the last one.
abbrev pub IsFaultOfLine : Asked → ℕ → List ℕ → PatchFault → Type 0
IsFaultOfLine before number line NoMemory = ⊥
IsFaultOfLine before number line NoEnd = ⊥
IsFaultOfLine before number line (Line fault) = (new : Bool) × (text : List ℕ) × (line ≡ sign_of new ∷ text) × IsFaultOf number text fault
IsFaultOfLine before number line (OfNoKind n) =
    (n ≡ number) × HasNoSign line × (IsRemark line → ⊥) × (IsToTell before line → ⊥) × (TellsLines line → ⊥)
IsFaultOfLine before number line (BadLength n) = (n ≡ number) × IsToTell before line × IsNoLength line
IsFaultOfLine before number line (PastLength n) =
    (n ≡ number) × ((new : Bool) × (piece : ℕ × List ℕ) × IsSigned new line piece × IsPast before.lengths new piece)
IsFaultOfLine before number line (BadCount n) = (n ≡ number) × TellsLines line

-- the text has no newline
abbrev pub HasNoLineEnd : List ℕ → Type 0
HasNoLineEnd text = All (λ c. c ≢ 10) text

-- Behind `count` lines, which ask `before`, the rest begins with a whole line that isn't the last one and has the fault.
pub record BeginsWrong (before : Asked) (count : ℕ) (rest : List ℕ) (fault : PatchFault) : Type 0 where
  pub line : List ℕ
  pub later : List ℕ
  pub spelled : rest ≡ line ++ 10 ∷ later
  pub one : HasNoLineEnd line
  pub no_end : IsPatchEnd count line → ⊥
  pub is : IsFaultOfLine before (count + 1) line fault

-- Behind `count` lines the rest begins with the last one, and more stands behind that: the line there is of no kind.
abbrev pub GoesOnBehind : ℕ → List ℕ → PatchFault → Type 0
GoesOnBehind count rest (OfNoKind n) =
    (n ≡ count + 2) × ((last more : List ℕ) × IsPatchEnd count last × (rest ≡ last ++ 10 ∷ more) × (0 < length more))
GoesOnBehind count rest fault = ⊥

-- No whole line is left, so there is no end.
abbrev pub IsCutOff : List ℕ → PatchFault → Type 0
IsCutOff rest NoEnd = HasNoLineEnd rest
IsCutOff rest fault = ⊥

-- The fault of what stands behind `count` lines, which ask `before`.
abbrev pub IsFaultOfRest : Asked → ℕ → List ℕ → PatchFault → Type 0
IsFaultOfRest before count rest fault = IsCutOff rest fault ⊎ (GoesOnBehind count rest fault ⊎ BeginsWrong before count rest fault)

-- The text has this fault: whole lines at its front are those of a patch, and the rest has the fault behind them. Lines are counted from 1.
pub record IsFaultOfPatch (text : List ℕ) (fault : PatchFault) : Type 0 where
  pub lines : List ℕ
  pub rest : List ℕ
  pub asked : Asked
  pub before : AsksBefore text lines rest asked
  pub is : IsFaultOfRest asked (length (lines_of lines)) rest fault

-- A text that has a fault is no patch.
abbrev pub FaultIsOfPatch : Type 0
FaultIsOfPatch = (text : List ℕ) (fault : PatchFault) (p : Asked) → IsFaultOfPatch text fault → IsPatch text p → ⊥

-- A text has one fault at most.
abbrev pub PatchFaultIsUnique : Type 0
PatchFaultIsUnique = (text : List ℕ) (fault other : PatchFault) → IsFaultOfPatch text fault → IsFaultOfPatch text other → fault ≡ other
