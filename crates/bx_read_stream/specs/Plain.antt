-- What plain hexadecimal makes of nothing, and how far it was written.
use Rattle.std.specs.Prelude.{◌≡◌, ◌⊎◌, ℕ, List, [], length, Option, Ok}
use Rattle.std.specs.Io.KnownBytes.{Appends, Consumes}
use Rattle.bx_image.specs.Image.{place}
use Rattle.bx_read.specs.Plain.{plain_answer}
use Rattle.bx_read.specs.PlainWindow.{IsPlainFault}
use Rattle.bx_read_stream.specs.declared.fault.StreamFault.{StreamFault}
use Rattle.bx_read_stream.specs.declared.fault.StreamFault.TheVariants.{Read, Behind, Io}
use Rattle.bx_read_stream.specs.Writing.{FailsIn}

-- A text was read that is plain hexadecimal, and the n bytes that its bytes make of nothing at a place were written; a gap is zeros.
pub record LaysPlain (at : ℕ) (r0 r1 w0 w1 : Option (List ℕ)) (n : ℕ) : Type 0 where
  pub text : List ℕ
  pub bytes : List ℕ
  pub consumed : Consumes r0 r1 text
  pub read : plain_answer text ≡ Ok bytes
  pub count : length (place [] at bytes) ≡ n
  pub appended : Appends w0 w1 (place [] at bytes)

-- of what the text's bytes make of nothing a front was written
abbrev pub StopsWriting : ℕ → Option (List ℕ) → Option (List ℕ) → Option (List ℕ) → Option (List ℕ) → StreamFault → Type 0
StopsWriting at r0 r1 w0 w1 (Io fault) = (text bytes : List ℕ) × Consumes r0 r1 text × (plain_answer text ≡ Ok bytes) × FailsIn w0 w1 (place [] at bytes) fault
StopsWriting at r0 r1 w0 w1 fault = ⊥

-- Nothing was written, as the text is faulty, or reading it failed; or writing it failed.
abbrev pub StopsPlain : ℕ → Option (List ℕ) → Option (List ℕ) → Option (List ℕ) → Option (List ℕ) → StreamFault → Type 0
StopsPlain at r0 r1 w0 w1 (Read fault) = (text : List ℕ) × Consumes r0 r1 text × IsPlainFault text fault × (w1 ≡ w0)
StopsPlain at r0 r1 w0 w1 (Behind line) = ⊥
StopsPlain at r0 r1 w0 w1 (Io fault) = (w1 ≡ w0) ⊎ StopsWriting at r0 r1 w0 w1 (Io fault)
