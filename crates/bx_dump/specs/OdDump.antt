-- What od reads and writes, and why it stops.
use Rattle.std.specs.Prelude.{◌≡◌, ℕ, ◌+◌, ◌^◌, ◌<◌, ◌≤◌, ◌⊎◌, List, length, Option}
use Rattle.std.specs.Io.KnownBytes.{Consumes, IsAtEnd}
use Rattle.bx_text.specs.declared.fault.IoFault.{IoFault}
use Rattle.bx_text.specs.declared.fault.IoFault.TheVariants.{SkipPastEnd}
use Rattle.bx_dump.specs.Od.{columns_below, od_line, od_rows, od_text, plain_or_rows}
use Rattle.bx_dump.specs.Pages.{Dump, WritesFrontOf}
use Rattle.bx_dump.specs.declared.od.options.OdOptions.{OdOptions}

-- at least `count` bytes were read
abbrev pub Reaches : ℕ → Option (List ℕ) → Option (List ℕ) → Type 0
Reaches count r0 r1 = (input : List ℕ) × Consumes r0 r1 input × (count ≤ length input)

-- the line that the options ask for
abbrev pub shown_line : OdOptions → ℕ → List ℕ → List ℕ
shown_line o = plain_or_rows o.text o.below.count (od_line o.address o.kind o.endian)
    (od_rows o.address o.endian o.width (record { kind = o.kind; text = o.text }) (columns_below o.below))

-- the dump that the options ask for
abbrev pub od_of : OdOptions → Dump
od_of o = record { text = od_text o.address (shown_line o) o.width o.all (o.first + o.skip); skip = o.skip; limit = o.limit; held = 2 ^ 7 }

-- the input ended before `count` bytes
abbrev pub EndsBefore : ℕ → Option (List ℕ) → Option (List ℕ) → Type 0
EndsBefore count r0 r1 = (input : List ℕ) × Consumes r0 r1 input × (length input ≤ 2 ^ 40) × (length input < count) × IsAtEnd r1

-- the input ended among the bytes to skip and nothing was written, or a front of the text was written
abbrev pub StopsReaching : Dump → Option (List ℕ) → Option (List ℕ) → Option (List ℕ) → Option (List ℕ) → IoFault → Type 0
StopsReaching d r0 r1 w0 w1 fault = (fault ≡ SkipPastEnd) × EndsBefore d.skip r0 r1 × (w1 ≡ w0) ⊎ WritesFrontOf d r0 r1 w0 w1 fault

-- the same of the dump that the options ask for
abbrev pub StopsOd : OdOptions → Option (List ℕ) → Option (List ℕ) → Option (List ℕ) → Option (List ℕ) → IoFault → Type 0
StopsOd o r0 r1 w0 w1 fault = StopsReaching (od_of o) r0 r1 w0 w1 fault
