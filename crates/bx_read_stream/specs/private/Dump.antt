-- A dump whose text comes in windows.
use Rattle.std.specs.Prelude.{◌≡◌, ◌≢◌, ℕ, ◌+◌, List, [], ◌++◌, length, Option}
use Rattle.std.specs.Io.KnownBytes.{Appends}
use Rattle.bx_read.specs.Text.{ReadLine, lines_of, answers}
use Rattle.bx_read_stream.specs.Laid.{image_made, reads_then}
use Rattle.bx_read_stream.specs.private.Blocks.{IsPending}
use Rattle.bx_read_stream.specs.declared.laying.Laying.{Laying}

-- The whole lines of the text were read and put, and this is held of the line behind them.
pub record HasLaid {A : Type 0} (laying : Laying A) (held : List ℕ) (w0 w : Option (List ℕ)) (text : List ℕ) : Type 0 where
  pub lines : List ReadLine
  pub holds : IsPending w0 w laying.blocks.sent laying.blocks.pending.items (image_made laying.shift lines)
  pub read : (more : List ℕ) → answers 1 (lines_of (text ++ more)) ≡ reads_then lines (answers (laying.lines + 1) (lines_of (held ++ more)))

-- All lines of the text were read and put.
abbrev pub HasLaidAll : {A : Type 0} → Laying A → Option (List ℕ) → Option (List ℕ) → List ℕ → Type 0
HasLaidAll laying w0 w text = (lines : List ReadLine) × IsPending w0 w laying.blocks.sent laying.blocks.pending.items (image_made laying.shift lines)
    × (answers 1 (lines_of text) ≡ reads_then lines [])

-- All that the lines of the text make was written, n bytes.
abbrev pub HasWritten : ℕ → Option (List ℕ) → Option (List ℕ) → List ℕ → ℕ → Type 0
HasWritten shift w0 w text n = (lines : List ReadLine) × (answers 1 (lines_of text) ≡ reads_then lines []) × (length (image_made shift lines) ≡ n)
    × Appends w0 w (image_made shift lines)
