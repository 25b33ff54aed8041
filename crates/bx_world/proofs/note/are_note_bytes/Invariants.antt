use Rattle.std.proofs.Common.{◌≡◌, drop}
use Rattle.std.specs.List.{list_all}
use Rattle.bx_world.specs.Note.{is_note_byte}
use Rattle.bx_world.proofs.note.are_note_bytes.Given as goal

-- what is left has such bytes alone if all has
abbrev pub invariant-loop-b : goal.invariant-loop-b
invariant-loop-b l = list_all is_note_byte (drop l.b-index l.text) ≡ list_all is_note_byte l.text
