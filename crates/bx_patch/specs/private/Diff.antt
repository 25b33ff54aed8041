-- Lines that were written so far.
use Rattle.std.specs.Prelude.{◌≡◌, ℕ, ◌+◌, ◌/◌, ◌^◌, ◌<◌, Bool, true, false, Option, List, length, take, drop, ◌++◌, codes}
use Rattle.std.specs.Fmt.{decimal}
use Rattle.std.specs.Io.KnownBytes.{Appends}
use Rattle.bx_patch.specs.declared.diff.fault.DiffFault.{DiffFault}
use Rattle.bx_patch.specs.declared.diff.fault.DiffFault.TheVariants.{TooLarge}
use Rattle.bx_patch.specs.declared.diff.row.Extent.{Extent}
use Rattle.bx_patch.specs.Diff.{TellsWritten, counted, of_new, of_old}
use Rattle.bx_patch.specs.Text.{PatchLine, headed, row_count, rows_from}
use Rattle.bx_read.specs.private.Window.{newlines}
use Rattle.bx_patch.specs.private.Row.{window_lines}

-- the lines were written behind the first one, which was written where there are any, and all of them and their bytes were counted
pub record HasPut (head : List ℕ) (lines : List PatchLine) (number written : ℕ) (first now : Option (List ℕ)) : Type 0 where
  pub put : Appends first now (headed head lines)
  pub number_is : number ≡ counted (newlines (headed head lines))
  pub count : written ≡ counted (length (headed head lines))

-- a first line, with its newline
pub record IsLengthHead (head : List ℕ) : Type 0 where
  pub text : List ℕ
  pub spelled : head ≡ text ++ codes "\n"
  pub short : length head < 2 ^ 63

-- a prefix of the bytes was written behind `before` others, and not all of them
abbrev pub PutsPart : ℕ → Option (List ℕ) → Option (List ℕ) → List ℕ → DiffFault → Type 0
PutsPart before old new text fault =
    (prefix rest : List ℕ) × (text ≡ prefix ++ rest) × (0 < length rest) × Appends old new prefix × TellsWritten (before + length prefix) fault

-- a prefix of a text was written, or all of it, where more is to follow
abbrev pub WritesUpTo : Option (List ℕ) → Option (List ℕ) → List ℕ → DiffFault → Type 0
WritesUpTo old new text fault = (prefix rest : List ℕ) × (text ≡ prefix ++ rest) × Appends old new prefix × TellsWritten (length prefix) fault

-- a fault that isn't one of a write
abbrev pub IsUntold : DiffFault → Type 0
IsUntold fault = (n : ℕ) → TellsWritten n fault

-- whether a length is too large
abbrev pub of_length : DiffFault → Bool
of_length TooLarge = true
of_length fault = false

-- a fault of a device, of a write or of memory
abbrev pub IsLate : DiffFault → Type 0
IsLate fault = of_length fault ≡ false

-- a fault of a write or of memory
pub record IsWritingFault (fault : DiffFault) : Type 0 where
  pub not_old : of_old fault ≡ false
  pub not_new : of_new fault ≡ false
  pub late : IsLate fault

-- the bytes of a window at an address, as far as there are any
abbrev pub part_at : List ℕ → ℕ → List ℕ
part_at x at = take 32768 (drop at x)

-- the lines for a window at an address
abbrev pub lines_of_window : Extent → List ℕ → List ℕ → ℕ → List PatchLine
lines_of_window extent x y at = window_lines extent at (part_at x at) (part_at y at) (row_count (part_at x at) (part_at y at))

-- the lines for the rows before an address
abbrev pub lines_before : Extent → List ℕ → List ℕ → ℕ → List PatchLine
lines_before extent x y at = rows_from extent x y 0 ((at + 15) / 16)

-- the line that tells both lengths, with its newline
abbrev pub lengths_line : ℕ → ℕ → List ℕ
lengths_line old new = codes "length " ++ decimal old ++ codes " to " ++ decimal new ++ codes "\n"
