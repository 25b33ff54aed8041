-- Why a read stopped, and how much was read.
use Rattle.std.proofs.Common.{◌≡◌, ℕ, ◌+◌, ◌≤◌, arith}
use Rattle.bx_text.specs.Stream.{IsReadCause}
use Rattle.bx_text.specs.declared.fault.IoFault.{IoFault}
use Rattle.bx_text.specs.declared.fault.IoFault.TheVariants.{NoMemory, ReadFailed, WriteFailed, InputTooLong, SkipPastEnd}

-- at least k bytes more were wanted, and there was room for k more
pub cause_more : (e : IoFault) (less wanted room more n m k : ℕ) → IsReadCause e less room n → m ≡ k + n → k + less ≤ wanted → more ≡ k + room → IsReadCause e wanted more m
cause_more ReadFailed less wanted room more n m k p q r s = (omega (arith, p.0), omega (arith, p.1))
cause_more InputTooLong less wanted room more n m k p q r s = (omega (arith, p.0), omega (arith, p.1))
cause_more NoMemory less wanted room more n m k p q r s = absurd p
cause_more (WriteFailed written) less wanted room more n m k p q r s = absurd p
cause_more SkipPastEnd less wanted room more n m k p q r s = absurd p

-- no more was read than was asked for
pub read_within : (fault : IoFault) (wanted room n : ℕ) → IsReadCause fault wanted room n → n ≤ wanted
read_within ReadFailed wanted room n p = omega (arith, p.0)
read_within InputTooLong wanted room n p = omega (arith, p.0, p.1)
read_within NoMemory wanted room n p = absurd p
read_within (WriteFailed m) wanted room n p = absurd p
read_within SkipPastEnd wanted room n p = absurd p
