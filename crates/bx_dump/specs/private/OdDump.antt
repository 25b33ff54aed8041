-- What od reads, and why it stops.
use Rattle.std.specs.Prelude.{◌≡◌, ℕ, ◌+◌, ◌^◌, ◌≤◌, ◌⊎◌, List, Option, Result, IfOk, IfErr}
use Rattle.bx_text.specs.declared.fault.IoFault.{IoFault}
use Rattle.bx_text.specs.declared.fault.IoFault.TheVariants.{SkipPastEnd}
use Rattle.bx_text.specs.private.Stream.{StopsAfter}
use Rattle.bx_dump.specs.FoldBy.{folded_by}
use Rattle.bx_dump.specs.Od.{columns_below, od_line, od_rows}
use Rattle.bx_dump.specs.OdDump.{EndsBefore, shown_line}
use Rattle.bx_dump.specs.private.Pages.{StopsNext, Streams, WritesNext}
use Rattle.bx_dump.specs.declared.driver.pages.Part.{Part}
use Rattle.bx_dump.specs.declared.od.options.OdOptions.{OdOptions}

-- the lines of some bytes
abbrev pub shown_lines : OdOptions → List ℕ → List ℕ
shown_lines o bytes = folded_by o.width (shown_line o) o.all (o.first + o.skip) bytes

-- lines of rows
abbrev pub lines_with_rows : OdOptions → List ℕ → List ℕ
lines_with_rows o bytes =
    folded_by o.width (od_rows o.address o.endian o.width (record { kind = o.kind; text = o.text }) (columns_below o.below)) o.all (o.first + o.skip) bytes

-- lines of one type of values
abbrev pub od_lines : OdOptions → List ℕ → List ℕ
od_lines o bytes = folded_by o.width (od_line o.address o.kind o.endian) o.all (o.first + o.skip) bytes

-- Of what comes behind the bytes that were taken, at most `limit` of it, the lines were written, or a front of them; how many bytes were
-- read and written is a number that more can be added to.
pub record DumpsLines (lines : List ℕ → List ℕ) (taken : ℕ) (limit : Option ℕ) (io : Streams) (outcome : Result Part IoFault) : Type 0 where
  pub ok : IfOk outcome (WritesNext lines taken limit io)
  pub err : IfErr outcome (StopsNext lines taken limit 0 io)
  pub few : IfOk outcome (λ part. part.written ≤ 2 ^ 60)
  pub count : IfOk outcome (λ part. part.read ≤ 2 ^ 40)

-- the input ended among the bytes to skip, or a read stopped
abbrev pub StopsShort : ℕ → Option (List ℕ) → Option (List ℕ) → IoFault → Type 0
StopsShort count r0 r1 fault = (fault ≡ SkipPastEnd) × EndsBefore count r0 r1 ⊎ StopsAfter r0 r1 count (2 ^ 40) fault
