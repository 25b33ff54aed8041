-- What a dump of a part of an input reads and writes.
use Rattle.std.specs.Prelude.{◌≡◌, ℕ, ◌+◌, ◌^◌, ◌≤◌, ◌⊎◌, List, length, take, Option, None, Some, IfSome, MatchOption}
use Rattle.std.specs.Option.{option_map_or}
use Rattle.std.specs.Io.KnownBytes.{Appends, Consumes, IsAtEnd}
use Rattle.bx_text.specs.declared.fault.IoFault.{IoFault}
use Rattle.bx_dump.specs.Pages.{bytes_dumped}
use Rattle.bx_dump.specs.private.Dumped.{StopsDump, KeepsUp}
use Rattle.bx_dump.specs.declared.driver.pages.Asked.{Asked}
use Rattle.bx_dump.specs.declared.driver.pages.Part.{Part}

-- What a call read and wrote: what was left of the input before and after it, and what was written.
pub record Streams : Type 0 where
  pub old_input : Option (List ℕ)
  pub new_input : Option (List ℕ)
  pub old_output : Option (List ℕ)
  pub new_output : Option (List ℕ)

-- these four, and those of a reader and a writer
abbrev pub streams : Option (List ℕ) → Option (List ℕ) → Option (List ℕ) → Option (List ℕ) → Streams
streams r0 r1 w0 w1 = record { old_input = r0; new_input = r1; old_output = w0; new_output = w1 }

abbrev pub streams_of : {R W : Type 0} → (R → Option (List ℕ)) → R → R → (W → Option (List ℕ)) → W → W → Streams
streams_of remaining r0 r1 contents w0 w1 = streams (remaining r0) (remaining r1) (contents w0) (contents w1)

-- the first `limit` of the bytes, or all where there is no limit
abbrev pub limited_to : Option ℕ → List ℕ → List ℕ
limited_to limit bytes = option_map_or (λ most. take most bytes) limit bytes

-- n bytes were read: all up to the input's end, or as many as are skipped and dumped at most
abbrev pub IsEndOf : ℕ → Option ℕ → ℕ → Option (List ℕ) → Type 0
IsEndOf skip limit n from = MatchOption limit (IsAtEnd from) (λ most. (n ≤ skip + most) × (IsAtEnd from ⊎ (n ≡ skip + most)))

-- The input was read as far as its part needs, and its whole text was written.
pub record WritesPart (text : List ℕ → List ℕ) (skip : ℕ) (limit : Option ℕ) (io : Streams) (read written : ℕ) : Type 0 where
  pub input : List ℕ
  pub consumed : Consumes io.old_input io.new_input input
  pub ends : IsEndOf skip limit (length input) io.new_input
  pub few : length input ≤ 2 ^ 40
  pub dumped : length (bytes_dumped skip limit input) ≡ read
  pub appended : Appends io.old_output io.new_output (text input)
  pub long : length (text input) ≡ written

-- Some input was read after `from` bytes, no more of it than skip and limit ask for, and a front of its text was written
-- after `before` bytes, which the fault counts too; reading is no more than a block ahead.
pub record WritesFrontBut (slack : ℕ) (text : List ℕ → List ℕ) (skip : ℕ) (limit : Option ℕ) (from before : ℕ) (io : Streams) (fault : IoFault) : Type 0 where
  pub input : List ℕ
  pub written : ℕ
  pub consumed : Consumes io.old_input io.new_input input
  pub asked : IfSome limit (λ most. length input ≤ skip + most)
  pub within : written ≤ length (text input)
  pub appended : Appends io.old_output io.new_output (take written (text input))
  pub cause : StopsDump fault (from + length input) (before + written) (before + length (text input))
  pub ahead : KeepsUp slack text input written fault

-- n bytes were dumped: all up to the input's end, or as many as may be
abbrev pub IsLast : Option ℕ → ℕ → Option (List ℕ) → Type 0
IsLast None n from = IsAtEnd from
IsLast (Some most) n from = (n ≤ most) × (IsAtEnd from ⊎ (n ≡ most))

-- The same of what comes after `from` bytes that are skipped, with the text of the part alone.
pub record WritesRest (text : List ℕ → List ℕ) (from : ℕ) (limit : Option ℕ) (io : Streams) (read written : ℕ) : Type 0 where
  pub input : List ℕ
  pub consumed : Consumes io.old_input io.new_input input
  pub ends : IsLast limit read io.new_input
  pub few : from + length input ≤ 2 ^ 40
  pub dumped : length input ≡ read
  pub appended : Appends io.old_output io.new_output (text input)
  pub long : length (text input) ≡ written

-- the text of what comes next was written, behind `from` bytes that were taken
abbrev pub WritesNext : (List ℕ → List ℕ) → ℕ → Option ℕ → Streams → Part → Type 0
WritesNext text from limit io part = WritesRest text from limit io part.read part.written

-- a front of it was written, after `before` bytes of other texts
abbrev pub StopsNextBut : ℕ → (List ℕ → List ℕ) → ℕ → Option ℕ → ℕ → Streams → IoFault → Type 0
StopsNextBut slack text from limit before io fault = WritesFrontBut slack (λ input. text (limited_to limit input)) 0 limit from before io fault

-- the same where no text is kept until more is known
abbrev pub StopsNext : (List ℕ → List ℕ) → ℕ → Option ℕ → ℕ → Streams → IoFault → Type 0
StopsNext text from limit before io fault = StopsNextBut 0 text from limit before io fault

-- the same where a front of what comes next was read before, which `taken` counts too
abbrev pub WritesBegun : List ℕ → (List ℕ → List ℕ) → ℕ → Asked → Streams → Part → Type 0
WritesBegun front text taken asked io part =
    (from : ℕ) (old : Option (List ℕ)) → from + length front ≡ taken → Consumes old io.old_input front →
    WritesNext text from asked.limit (streams old io.new_input io.old_output io.new_output) part

abbrev pub StopsBegun : ℕ → List ℕ → (List ℕ → List ℕ) → ℕ → Asked → Streams → IoFault → Type 0
StopsBegun slack front text taken asked io fault =
    (from : ℕ) (old : Option (List ℕ)) → from + length front ≡ taken → Consumes old io.old_input front →
    StopsNextBut slack text from asked.limit asked.before (streams old io.new_input io.old_output io.new_output) fault

-- the text of the part was written
abbrev pub WritesTextOf : (List ℕ → List ℕ) → ℕ → Option ℕ → Streams → Part → Type 0
WritesTextOf text skip limit io part = WritesPart (λ input. text (bytes_dumped skip limit input)) skip limit io part.read part.written

-- a front of it was written, after `before` bytes of other texts
abbrev pub StopsTextOf : ℕ → (List ℕ → List ℕ) → ℕ → Option ℕ → ℕ → Streams → IoFault → Type 0
StopsTextOf slack text skip limit before io fault = WritesFrontBut slack (λ input. text (bytes_dumped skip limit input)) skip limit 0 before io fault
