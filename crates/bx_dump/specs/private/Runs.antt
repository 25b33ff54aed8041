-- The run that strings keeps, and what is known with it.
use Rattle.std.specs.Prelude.{◌≡◌, ◌≤◌, ◌^◌, ℕ, List, [], length, Option}
use Rattle.std.specs.Io.KnownBytes.{Appends, Consumes, IsAtEnd}
use Rattle.bx_text.specs.declared.fault.IoFault.{IoFault}
use Rattle.bx_dump.specs.private.Dumped.{DumpsFrontBut}
use Rattle.bx_dump.specs.private.Scan.{scan_run, scan_text, IsKept, pending}
use Rattle.bx_dump.specs.declared.strings.dump.Dumped.{Dumped}
use Rattle.bx_dump.specs.declared.strings.dump.Runs.{Runs}

-- a run is kept
abbrev pub Keeps : Runs → List ℕ → Type 0
Keeps runs run = IsKept runs.least runs.count runs.kept run

-- how many of its bytes are not yet written
abbrev pub waiting : Runs → ℕ
waiting runs = pending runs.least runs.count

-- the text that is known with more bytes, which stand from a place on behind a run
abbrev pub known_text : Runs → ℕ → List ℕ → List ℕ → List ℕ
known_text runs at run bytes = scan_text runs.least runs.offsets at run bytes

-- All the input was read from the first run on, what is known of it was written, and the run that it ends in is kept.
pub record Scans (first last : Runs) (r0 r1 w0 w1 : Option (List ℕ)) (done : Dumped) : Type 0 where
  pub input : List ℕ
  pub long : length input ≡ done.read
  pub few : done.read ≤ 2 ^ 40
  pub consumed : Consumes r0 r1 input
  pub ended : IsAtEnd r1
  pub appended : Appends w0 w1 (scan_text first.least first.offsets 0 [] input)
  pub size : length (scan_text first.least first.offsets 0 [] input) ≡ done.written
  pub run : IsKept first.least last.count last.kept (scan_run [] input)

-- a front of it was written
abbrev pub StopsScan : Runs → Option (List ℕ) → Option (List ℕ) → Option (List ℕ) → Option (List ℕ) → IoFault → Type 0
StopsScan first r0 r1 w0 w1 fault = DumpsFrontBut 0 (known_text first 0 []) r0 r1 w0 w1 fault
