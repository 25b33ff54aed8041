-- What a copy to a writer reads and writes, and where it stands in between.
-- ---- a whole copy
use Rattle.std.specs.Prelude.{◌≡◌, ℕ, ◌+◌, ◌-◌, ◌*◌, ◌%◌, ◌^◌, ◌≤◌, min, ◌⊎◌, ◌||◌, if◌then◌else◌, List, ◌++◌, length, take, Option, None, Some, Result, Ok, Err}
use Rattle.std.specs.Io.KnownBytes.{Appends, Consumes, IsAtEnd}
use Rattle.bx_text.specs.declared.fault.IoFault.{IoFault}
use Rattle.bx_text.specs.declared.fault.IoFault.TheVariants.{WriteFailed}
use Rattle.bx_text.specs.Writing.{WritesFront}
use Rattle.bx_dd.specs.declared.convert.records.Tail.{Tail}
use Rattle.bx_dd.specs.declared.counts.Counts.{Counts}
use Rattle.bx_dd.specs.declared.form.Form.{Form}
use Rattle.bx_dd.specs.declared.form.Shape.{Shape}
use Rattle.bx_dd.specs.Counting.{counts_of}
use Rattle.bx_dd.specs.Output.{converted, turned_blocks, shaped}
use Rattle.bx_dd.specs.Standing.{Stands}
use Rattle.bx_dd.specs.Streaming.{IsCopyAhead, IsCopyFault}

-- ---- a copy under way

-- how many bytes went out by what a failed write says
abbrev pub written_by : IoFault → ℕ
written_by (WriteFailed n) = n
written_by fault = 0

-- no fewer bytes went out than before, by what a failed write says, too
abbrev pub Grows : {V : Type 0} → ℕ → ℕ → Result V IoFault → Type 0
Grows before after (Ok v) = before ≤ after
Grows before after (Err fault) = before ≤ written_by fault

-- Of a text, a part of `written` bytes went out, and the rest waits.
pub record Goes (start now : Option (List ℕ)) (waits : List ℕ) (written : ℕ) (text : List ℕ) : Type 0 where
  pub out : List ℕ
  pub went : Appends start now out
  pub all : text ≡ out ++ waits
  pub count : written ≡ length out

-- Where an output stands: what its writer has, what waits and how much went out before it, and what is kept of the record that may go on.
pub record Output : Type 0 where
  pub now : Option (List ℕ)
  pub waits : List ℕ
  pub written : ℕ
  pub kept : List ℕ

-- Of converted bytes, what records that are finished give went out or waits, and the rest is kept.
pub record Flows (shape : Shape) (size : ℕ) (start : Option (List ℕ)) (bytes : List ℕ) (out : Output) (tail : Tail) : Type 0 where
  pub text : List ℕ
  pub stands : Stands shape size bytes text out.kept tail.over tail.cut
  pub goes : Goes start out.now out.waits out.written text

-- whatever follows these converted bytes, a front of what is written of them all went out, as the fault says
abbrev pub StopsFlow : Shape → ℕ → Option (List ℕ) → Option (List ℕ) → List ℕ → IoFault → Type 0
StopsFlow shape size start now bytes fault = (more : List ℕ) → WritesFront 0 start now (shaped shape size (bytes ++ more)) fault

-- how many bytes are converted by themselves: a block where its pairs or its end matter, else one byte
abbrev pub unit_of : Form → ℕ
unit_of form = if form.swab || form.sync then form.ibs else 1

-- Of what was read, whole units were converted and flow, and the rest is pending.
pub record Staged (form : Form) (start : Option (List ℕ)) (input pending : List ℕ) (out : Output) (tail : Tail) : Type 0 where
  pub done : List ℕ
  pub parts : input ≡ done ++ pending
  pub whole : length done % unit_of form ≡ 0
  pub flows : Flows form.shape form.cbs start (turned_blocks form done) out tail

-- whatever is read behind this input, a front of what is written of it all went out, as the fault says
abbrev pub StopsStage : Form → Option (List ℕ) → Option (List ℕ) → List ℕ → IoFault → Type 0
StopsStage form start now input fault = (more : List ℕ) → WritesFront 0 start now (converted form (input ++ more)) fault

-- The rest of an input was read, at most `most` bytes behind the `before` that were read, and all that is made of it was written
-- and counted.
pub record CopiesRest (form : Form) (most before : ℕ) (r0 r1 w0 w1 : Option (List ℕ)) (counts : Counts) : Type 0 where
  pub input : List ℕ
  pub consumed : Consumes r0 r1 input
  pub within : length input ≤ most
  pub ends : (length input ≡ most) ⊎ IsAtEnd r1
  pub few : before + length input ≤ 2 ^ 40
  pub appended : Appends w0 w1 (converted form input)
  pub counted : counts ≡ counts_of form input

-- how many bytes are copied at most: those of `count` blocks, or without a count, or where they are more, as many as a number can say
abbrev pub most_of : Option ℕ → ℕ → ℕ
most_of None ibs = 2 ^ 64 - 1
most_of (Some count) ibs = min (count * ibs) (2 ^ 64 - 1)

-- Some of the rest of an input was read, at most `most` bytes behind the `before` that were read, and a front of what is made of it
-- was written.
pub record StopsPass (form : Form) (most before : ℕ) (r0 r1 w0 w1 : Option (List ℕ)) (fault : IoFault) : Type 0 where
  pub input : List ℕ
  pub written : ℕ
  pub consumed : Consumes r0 r1 input
  pub within : length input ≤ most
  pub appended : Appends w0 w1 (take written (converted form input))
  pub cause : IsCopyFault fault (before + length input) written (length (converted form input))
  pub ahead : IsCopyAhead form.ibs (converted form) input fault
