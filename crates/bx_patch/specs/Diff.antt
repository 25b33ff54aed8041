-- What a comparison of two devices leaves, and which fault it has.
use Rattle.std.specs.Prelude.{◌≡◌, ℕ, ◌-◌, ◌^◌, ◌<◌, ◌≤◌, min, max, Bool, true, false, Result, Ok, Err, List, ◌++◌, length, Option}
use Rattle.std.specs.Io.KnownBytes.{Appends}
use Rattle.bx_image.specs.declared.change.TheConstants.{MAX_LEN}
use Rattle.bx_image.specs.Device.{GoesOn}
use Rattle.bx_image.specs.Power.{NoMore}
use Rattle.bx_patch.specs.declared.diff.fault.DiffFault.{DiffFault}
use Rattle.bx_patch.specs.declared.diff.fault.DiffFault.TheVariants.{NoMemory, TooLarge, OldFailed, NewFailed, WriteFailed}

-- A device is only read: its image stays, no more may be found of it after a loss of power, and it counts this failure if there is one.
pub record OnlyReads {D : Type 0} (faithful : D → Type 0) (image : D → List ℕ) (room failures : D → ℕ) (survives : D → List ℕ → Type 0)
    (failed : Bool) (old new : D) : Type 0 where
  pub stays : faithful old → image new ≡ image old
  pub no_more : faithful old → NoMore (survives old) (survives new)
  pub goes_on : GoesOn faithful room failures failed old new

-- whether the first device failed
abbrev pub of_old : DiffFault → Bool
of_old OldFailed = true
of_old fault = false

-- whether the second device failed
abbrev pub of_new : DiffFault → Bool
of_new NewFailed = true
of_new fault = false

-- whether there is a fault of a kind
abbrev pub fails : {T : Type 0} → (DiffFault → Bool) → Result T DiffFault → Bool
fails kind (Ok t) = false
fails kind (Err fault) = kind fault

-- two lists of bytes, none of them longer than an image can be
abbrev pub AreShort : List ℕ → List ℕ → Type 0
AreShort x y = max (length x) (length y) ≤ MAX_LEN

-- Two lists are called too large exactly where one of them is, unless a device failed first.
abbrev pub IsFaultFor : List ℕ → List ℕ → DiffFault → Type 0
IsFaultFor x y TooLarge = MAX_LEN < max (length x) (length y)
IsFaultFor x y NoMemory = AreShort x y
IsFaultFor x y (WriteFailed n) = AreShort x y
IsFaultFor x y OldFailed = Unit {0}
IsFaultFor x y NewFailed = Unit {0}

-- a count of bytes, at most 2^64 - 1
abbrev pub counted : ℕ → ℕ
counted n = min n (2 ^ 64 - 1)

-- a failed write tells how many bytes were written
abbrev pub TellsWritten : ℕ → DiffFault → Type 0
TellsWritten n (WriteFailed written) = written ≡ counted n
TellsWritten n fault = Unit {0}

-- A prefix of the text was written that isn't the whole text, and a failed write tells its length.
abbrev pub WritesPrefix : Option (List ℕ) → Option (List ℕ) → List ℕ → DiffFault → Type 0
WritesPrefix old new text fault =
    (prefix rest : List ℕ) × (text ≡ prefix ++ rest) × (0 < length rest) × Appends old new prefix × TellsWritten (length prefix) fault
