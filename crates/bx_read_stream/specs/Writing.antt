-- How far bytes were written.
use Rattle.std.specs.Prelude.{◌≡◌, ◌⊎◌, ℕ, ◌≤◌, List, length, take, Option}
use Rattle.std.specs.Io.KnownBytes.{Appends}
use Rattle.bx_text.specs.declared.fault.IoFault.{IoFault}
use Rattle.bx_text.specs.declared.fault.IoFault.TheVariants.{NoMemory, WriteFailed}

-- Of x a front was written, and memory was refused, or the fault counts it.
pub record FailsIn (w0 w : Option (List ℕ)) (x : List ℕ) (fault : IoFault) : Type 0 where
  pub written : ℕ
  pub within : written ≤ length x
  pub appended : Appends w0 w (take written x)
  pub cause : (fault ≡ NoMemory) ⊎ (fault ≡ WriteFailed written)
