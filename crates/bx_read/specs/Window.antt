-- A dump that is read window by window.
use Rattle.std.specs.Prelude.{◌≡◌, ◌≢◌, ◌⊎◌, ℕ, List, [], ◌∷◌, ◌++◌, length, All, Option, None, Some, Result, Ok, Err, IsErrOf}
use Rattle.bx_text.specs.declared.owned.pieces.Piece.{Piece}
use Rattle.bx_text.specs.declared.fault.IoFault.{IoFault}
use Rattle.bx_text.specs.declared.fault.IoFault.TheVariants.{NoMemory as OutOfMemory}
use Rattle.bx_read.specs.Runs.{joined}
use Rattle.bx_read.specs.Text.{lines_of, answers, gathered, dump_pieces, contents}
use Rattle.bx_read.specs.declared.fault.ReadFault.{ReadFault}
use Rattle.bx_read.specs.declared.fault.ReadFault.TheVariants.{NoMemory}

-- What callers see of a dump that is read window by window: the runs of its whole lines, and how many lines these were; what is held
-- of the line behind them; what stopped the reading.
pub record DumpView : Type 0 where
  pub runs : List (ℕ × List ℕ)
  pub lines : ℕ
  pub held : List ℕ
  pub fault : Option ReadFault

-- whole lines: nothing, or a text that ends in a newline
abbrev pub AreWholeLines : List ℕ → Type 0
AreWholeLines text = (text ≡ []) ⊎ ((front : List ℕ) × (text ≡ front ++ 10 ∷ []))

-- These are the runs of the text's pieces, by their addresses and bytes.
abbrev pub GivesRuns : List ℕ → List (ℕ × List ℕ) → Type 0
GivesRuns text runs = (pieces : List (ℕ × List ℕ)) × (dump_pieces text ≡ Ok pieces) × (runs ≡ joined pieces)

-- These are the runs of the text's pieces.
abbrev pub ArePiecesRuns : {A : Type 0} → List ℕ → List (Piece A) → Type 0
ArePiecesRuns text runs = GivesRuns text (contents runs)

-- Memory was refused, or this is the text's fault.
abbrev pub IsDumpFault : List ℕ → ReadFault → Type 0
IsDumpFault text fault = (fault ≡ NoMemory) ⊎ (dump_pieces text ≡ Err fault)

-- Memory was refused for a text, to its source or behind that.
abbrev pub IsRefused : {V : Type 0} → Result (Result V ReadFault) IoFault → Type 0
IsRefused (Ok read) = IsErrOf read NoMemory
IsRefused (Err fault) = fault ≡ OutOfMemory

-- Memory was refused, or this is the fault of each text that begins so.
abbrev pub IsFaultBehind : List ℕ → ReadFault → Type 0
IsFaultBehind text fault = (fault ≡ NoMemory) ⊎ ((rest : List ℕ) → dump_pieces (text ++ rest) ≡ Err fault)

-- The other text stands for the front of a line: whatever follows, and whichever line it is, both read alike and are as many lines.
pub record ReadsAlike (front other : List ℕ) : Type 0 where
  pub reads : (number : ℕ) (rest : List ℕ) → gathered (answers number (lines_of (front ++ rest))) ≡ gathered (answers number (lines_of (other ++ rest)))
  pub lines : (rest : List ℕ) → length (lines_of (front ++ rest)) ≡ length (lines_of (other ++ rest))
  pub apart : All (λ c. c ≢ 10) other

-- Of the text the whole lines were read, and what is held stands for the front of a line behind them.
pub record HasLines (text : List ℕ) (runs : List (ℕ × List ℕ)) (lines : ℕ) (held : List ℕ) : Type 0 where
  pub whole : List ℕ
  pub front : List ℕ
  pub spelled : text ≡ whole ++ front
  pub ends : AreWholeLines whole
  pub gives : GivesRuns whole runs
  pub counted : lines ≡ length (lines_of whole)
  pub stands : ReadsAlike front held

-- its lines were read, or a fault is known
abbrev pub HasReadBy : List ℕ → DumpView → Option ReadFault → Type 0
HasReadBy text read None = HasLines text read.runs read.lines read.held
HasReadBy text read (Some fault) = IsFaultBehind text fault

-- The text was read, as far as this can be done without what follows it.
abbrev pub HasReadDump : List ℕ → DumpView → Type 0
HasReadDump text read = HasReadBy text read read.fault
