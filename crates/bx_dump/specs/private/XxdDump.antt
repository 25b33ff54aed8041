-- What a dump of xxd leaves, where `text` stands for the bytes of the part that the options ask for.
use Rattle.std.specs.Prelude.{ℕ, ◌^◌, List, Result, IfErr}
use Rattle.bx_text.specs.declared.fault.IoFault.{IoFault}
use Rattle.bx_dump_columns.specs.Lines.{in_lines}
use Rattle.bx_dump.specs.Styles.{kept_by, held_of, include_items, styled}
use Rattle.bx_dump.specs.private.Pages.{Streams, WritesTextOf, StopsTextOf}
use Rattle.bx_dump.specs.declared.driver.pages.Part.{Part}
use Rattle.bx_dump.specs.declared.xxd.options.XxdStyle.{XxdStyle}
use Rattle.bx_dump.specs.declared.xxd.options.XxdOptions.{XxdOptions}

-- the text was written
abbrev pub WritesText : (List ℕ → List ℕ) → XxdOptions → Streams → Part → Type 0
WritesText text o io part = WritesTextOf text o.seek o.limit io part

-- a front of it was written after `before` bytes
abbrev pub StopsText : ℕ → (List ℕ → List ℕ) → XxdOptions → ℕ → Streams → IoFault → Type 0
StopsText slack text o before io fault = StopsTextOf slack text o.seek o.limit before io fault

-- the same with nothing before, where what a text ends with has no more than 2^7 bytes
abbrev pub StopsFront : (List ℕ → List ℕ) → XxdOptions → Streams → IoFault → Type 0
StopsFront text o io fault = StopsText (2 ^ 7) text o 0 io fault

-- where lines stop that rows of zeros may be left out of
abbrev pub StopsKept : (List ℕ → List ℕ) → XxdOptions → Streams → IoFault → Type 0
StopsKept text o io fault = StopsText (kept_by o.autoskip) text o 0 io fault

-- The same of lines, the first of them for an address.
abbrev pub WritesLines : (ℕ → List ℕ → List ℕ) → ℕ → ℕ → XxdOptions → Streams → Part → Type 0
WritesLines line cols at o io part = WritesText (in_lines line cols at) o io part

-- and where they stop
abbrev pub StopsLines : (ℕ → List ℕ → List ℕ) → ℕ → ℕ → XxdOptions → ℕ → Streams → Result Part IoFault → Type 0
StopsLines line cols at o before io outcome = IfErr outcome (StopsText 0 (in_lines line cols at) o before io)

-- where items stop
abbrev pub StopsItems : XxdOptions → ℕ → Streams → Result Part IoFault → Type 0
StopsItems o before io outcome = IfErr outcome (StopsText (2 ^ 6) (include_items o.cols) o before io)

-- the text of a style was written
abbrev pub WritesStyle : XxdStyle → XxdOptions → Streams → Part → Type 0
WritesStyle style o io part = WritesText (styled style o) o io part

-- and where it stops
abbrev pub StopsStyle : XxdStyle → XxdOptions → Streams → IoFault → Type 0
StopsStyle style o io fault = StopsText (held_of style o) (styled style o) o 0 io fault
