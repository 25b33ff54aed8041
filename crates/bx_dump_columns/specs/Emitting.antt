-- What writing a text after others does.
use Rattle.std.specs.Prelude.{◌≡◌, ℕ, ◌+◌, List, length, Option, MatchResult}
use Rattle.std.specs.declared.result.Result.{Result}
use Rattle.std.specs.Io.KnownBytes.{Appends}
use Rattle.bx_text.specs.declared.fault.IoFault.{IoFault}
use Rattle.bx_text.specs.Writing.{WritesFront}

-- The text was written after `before` bytes, and the answer counts all of them; or a front of it was, and the fault counts them.
abbrev pub Emits : ℕ → Option (List ℕ) → Option (List ℕ) → List ℕ → Result ℕ IoFault → Type 0
Emits before old new text outcome = MatchResult outcome (λ n. (n ≡ before + length text) × Appends old new text) (WritesFront before old new text)
