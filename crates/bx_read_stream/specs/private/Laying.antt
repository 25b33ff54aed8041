-- Lines of a dump that are written one after another.
use Rattle.std.specs.Prelude.{◌≡◌, ◌⊎◌, ℕ, List, Option, Some, Ok}
use Rattle.bx_read.specs.Digits.{pairs_of}
use Rattle.bx_read.specs.Line.{read_line}
use Rattle.std.specs.Io.KnownBytes.{Appends}
use Rattle.bx_text.specs.declared.fault.IoFault.{IoFault}
use Rattle.bx_read_stream.specs.Writing.{FailsIn}
use Rattle.bx_read_stream.specs.declared.fault.StreamFault.{StreamFault}
use Rattle.bx_read_stream.specs.declared.fault.StreamFault.TheVariants.{Io}

-- The line reads as these bytes at this address.
abbrev pub ReadsAs : ℕ → List ℕ → ℕ → List ℕ → Type 0
ReadsAs number line at bytes = (hex : List ℕ) × (read_line number line ≡ Ok (at, hex)) × (pairs_of hex ≡ Some bytes)

-- All of x was written, and the fault is this one; or writing it failed.
abbrev pub IsEnded : Option (List ℕ) → Option (List ℕ) → List ℕ → StreamFault → StreamFault → Type 0
IsEnded w0 w x fault ended = ((ended ≡ fault) × Appends w0 w x) ⊎ ((e : IoFault) × (ended ≡ Io e) × FailsIn w0 w x e)
