-- Texts that are read from a source, a window at a time.
use Rattle.std.proofs.Common.{◌≡◌, ℕ, ◌+◌, Option, None, Some, Result, Ok, List, [], refl, arith}
use Rattle.std.specs.Io.KnownBytes.{Consumes}
use Rattle.bx_text.specs.Stream.{IsReadCause, IsRestCause}
use Rattle.bx_text.specs.declared.fault.IoFault.{IoFault}
use Rattle.bx_text.specs.declared.fault.IoFault.TheVariants.{NoMemory, ReadFailed, WriteFailed, InputTooLong, SkipPastEnd}

pub consumes_none : (a : Option (List ℕ)) → Consumes a a []
consumes_none None = tt
consumes_none (Some text) = refl

-- why reading stopped, by what was read before
pub cause_more : (fault : IoFault) (wanted room more n m k : ℕ) → IsReadCause fault wanted room n → m ≡ k + n → more ≡ k + room → IsRestCause fault more m
cause_more ReadFailed wanted room more n m k p q r = omega (arith, p.1)
cause_more InputTooLong wanted room more n m k p q r = omega (arith, p.1)
cause_more NoMemory wanted room more n m k p q r = absurd p
cause_more (WriteFailed written) wanted room more n m k p q r = absurd p
cause_more SkipPastEnd wanted room more n m k p q r = absurd p

-- what was read where nothing more could be
pub none_read : (n : ℕ) (r : Result ℕ IoFault) → r ≡ Ok n → r ≡ Ok 0 → n ≡ 0
none_read n r is none = cc
