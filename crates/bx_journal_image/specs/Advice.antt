-- When the line advises against an undo or a redo.
use Rattle.std.specs.Prelude.{ℕ, ◌+◌, ◌-◌, Bool, ◌&&◌, ◌||◌, ◌==◌, not, nat_lt, nat_le, if◌then◌else◌}
use Rattle.bx_journal_image.specs.declared.line.form.ImageLine.{ImageLine}
use Rattle.bx_journal_image.specs.declared.advice.Standing.{Standing}
use Rattle.bx_journal_image.specs.Digest.{is_same}

-- the line is on these texts and an image of this length
abbrev pub is_about : ImageLine → Standing → Bool
is_about line now = (line.changes == now.changes) && (line.undone == now.undone) && (line.length == now.length)

-- what is found, as a line tells it that is on no texts: it counts as many changes as no journal has
abbrev pub on_no_texts : Standing → Standing
on_no_texts now = record now { changes = 4294967295 }

-- The texts are older than the line: fewer changes stand, and fewer stand or are undone, than it counts. Of empty texts, whose history was dropped, and by a
-- line on no texts nothing is older
abbrev pub is_older : ImageLine → Standing → Bool
is_older line now = nat_lt line.changes 4294967295 && (nat_lt now.changes line.changes && (nat_lt (now.changes + now.undone) (line.changes + line.undone)
    && nat_lt 0 (now.changes + now.undone)))

-- the image isn't the one that the last command on the texts left
abbrev pub is_changed : ImageLine → Standing → Bool
is_changed line now = is_older line now || (is_about line now && not (is_same line.last now.last))

-- a count of changes, of those that there are
abbrev pub some_of : ℕ → ℕ → Bool
some_of count most = nat_lt 0 count && nat_le count most

-- an undo of `count` changes is refused: the image was changed since, or one of them stands for another image
abbrev pub is_undo_refused : ImageLine → Standing → ℕ → Bool
is_undo_refused line now count = some_of count now.changes && (is_changed line now || (is_about line now && nat_lt (now.changes - count) line.others))

-- a redo of `count` changes is refused: the texts are older than the line, or the image was changed since
abbrev pub is_redo_refused : ImageLine → Standing → ℕ → Bool
is_redo_refused line now count = some_of count now.undone && (is_older line now || (is_about line now && not (is_same line.next now.next)))

-- how many of the oldest changes stand for another image, once a command is done on what was found
abbrev pub others_after : ImageLine → Standing → ℕ
others_after line now = if is_changed line now then now.changes else if is_about line now then line.others else 0
