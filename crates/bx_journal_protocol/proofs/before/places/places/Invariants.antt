use Rattle.std.proofs.Common.{◌≡◌, map, take}
use Rattle.bx_journal_protocol.specs.before.Overwritten.{place_in}
use Rattle.bx_journal_protocol.proofs.before.places.places.Given as goal

-- the places of the entries so far
abbrev pub invariant-loop-entry : goal.invariant-loop-entry
invariant-loop-entry g l = l.placed.items ≡ map place_in (take l.entry-index l.entries)
