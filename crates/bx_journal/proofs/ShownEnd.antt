-- The last line behind steps that are shown as a patch.
use Rattle.std.proofs.Common.{suc, Option, List, ℕ, [], ◌++◌, length, subst, append_assoc}
use Rattle.std.proofs.KnownBytes.{Appends-trans}
use Rattle.std.specs.Io.KnownBytes.{Appends}
use Rattle.bx_journal_format.specs.Spelled.{EntryLines}
use Rattle.bx_journal_read.specs.declared.show.way.Steps.{Steps}
use Rattle.bx_journal_read.specs.show.ShownSteps.{HasShown, ShowsSteps, shown_steps, unfinished_line}
use Rattle.bx_journal.specs.ShownText.{HasShownText, ShowsText, last_line}

-- behind the steps the last line was written
module _ (text image : List ℕ) (s : Steps) (old mid new : Option (List ℕ)) (put : Appends mid new (last_line s)) where
  ended : (entries : List EntryLines) (line : List ℕ) → HasShown s image entries line old mid → HasShownText s image entries line old new
  ended entries line has =
      record {
        enough = has.enough;
        written = subst (Appends old new) (append_assoc line (shown_steps s image entries) (last_line s))
            (Appends-trans old mid new (line ++ shown_steps s image entries) (last_line s) has.written put);
      }

  pub all_shown : ShowsSteps text image s old mid → ShowsText text image s old new
  all_shown shows = record {
    accepted = shows.accepted;
    finished = λ entries is. ended entries [] (shows.finished entries is);
    unfinished = λ front entries stage is.
        let has = shows.unfinished front entries stage is in (has.0, ended entries (unfinished_line (suc (length entries)) stage) has.1);
  }
