-- What stops the reading of a text.
use Rattle.std.specs.Prelude.{ℕ, List}
use Rattle.bx_journal_format.specs.declared.fault.EntryFault.{EntryFault}
use Rattle.bx_journal_format.specs.declared.fault.EntryFault.TheVariants.{NoMemory, Damaged}
use Rattle.bx_journal_format.specs.Text.{IsDamagedAt}

-- the one line at which a text that isn't accepted is damaged, or a fault that the text doesn't make
abbrev pub StopsReading : List ℕ → EntryFault → Type 0
StopsReading text (Damaged line) = IsDamagedAt text line
StopsReading text NoMemory = Unit {0}
