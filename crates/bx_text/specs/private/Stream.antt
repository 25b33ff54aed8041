-- Why a read stopped, where there was room for this many bytes.
use Rattle.std.specs.Prelude.{ℕ, List, length, Option}
use Rattle.std.specs.Io.KnownBytes.{Consumes}
use Rattle.bx_text.specs.Stream.{IsReadCause}
use Rattle.bx_text.specs.declared.fault.IoFault.{IoFault}

-- some bytes were read before the fault
abbrev pub StopsAfter : Option (List ℕ) → Option (List ℕ) → ℕ → ℕ → IoFault → Type 0
StopsAfter old new wanted room fault = (bytes : List ℕ) × Consumes old new bytes × IsReadCause fault wanted room (length bytes)
