-- Each text of finished entries alone is spelled.
use Rattle.std.proofs.Common.{◌≡◌, ℕ, suc, Option, Some, List, [], ◌∷◌, ◌++◌, length, map, refl, sym, subst, ap, ◌∙◌, append-nil}
use Rattle.std.proofs.lemmas.List.{length-map}
use Rattle.bx_journal_format.specs.Finished.{IsFinished}
use Rattle.bx_journal_format.specs.Grammar.{AddRuns, AreEntries}
use Rattle.bx_journal_format.specs.Kept.{Run, with_run}
use Rattle.bx_journal_format.specs.Line.{save_line, saved_in}
use Rattle.bx_journal_format.specs.Spelled.{EntryLines, GiveRuns, entry_in, entry_lines, runs_behind, with_found}
use Rattle.bx_journal_format.specs.Text.{Between, Entry, split}
use Rattle.bx_journal_format.proofs.GrammarLemmas.{journal_has_form, piece_only}
use Rattle.bx_journal_format.proofs.SavedLines.{saved_reads}
use Rattle.bx_journal.specs.ShowLaws.{FinishedIsSpelled}

-- runs to which saved lines lead are those that they give
added : (len : ℕ) (lines : List (List ℕ)) (old new : List Run) → AddRuns len old lines new → new ≡ runs_behind len old lines
unfolding runs_behind
added len [] old new add = add
added len (line ∷ lines) old new (run, is, rest) =
    let found : saved_in len line ≡ Some run = saved_reads len line run (piece_only line is.0.0 run is.0.1) is.1 is.2 in
    added len lines (with_run old run) new rest ∙ sym (ap (λ (o : Option Run). runs_behind len (with_found old o) lines) found)

-- entries with their lines
record Spelling (lines : List (List ℕ)) (es : List Entry) : Type 0 where
  entries : List EntryLines
  are : map entry_in entries ≡ es
  lines_are : lines ≡ entry_lines entries
  give : GiveRuns entries

spelling : (lines : List (List ℕ)) (es : List Entry) → AreEntries lines es → Spelling lines es
unfolding entry_lines
spelling lines [] is = record { entries = []; are = refl; lines_are = is; give = tt }
spelling lines (e ∷ older) (before, own, parts, rest, entry) =
    let more = spelling before older rest in
    let head = entry.begun in
    let c : EntryLines = record { entry = e; first = head.first; saved = head.saved; last = entry.last } in
    let count : length older ≡ length more.entries = sym (ap length more.are) ∙ length-map more.entries entry_in in
    let behind : List (List ℕ) = save_line (suc (length older)) ∷ entry.last ∷ [] in
    let own_is : own ≡ head.first ∷ (head.saved ++ behind) = entry.spelled ∙ ap (λ ls. ls ++ behind) head.spelled in
    record {
      entries = c ∷ more.entries;
      are = ap (λ es. e ∷ es) more.are;
      lines_are = parts ∙ ap (λ ls. ls ++ own) more.lines_are ∙ ap (λ ls. entry_lines more.entries ++ ls) own_is
          ∙ ap (λ n. entry_lines more.entries ++ head.first ∷ (head.saved ++ save_line (suc n) ∷ entry.last ∷ [])) count;
      give = (added e.saved.len head.saved [] e.saved.runs head.saves, more.give);
    }

pub finished_is_spelled : FinishedIsSpelled
finished_is_spelled text es finished =
    let form = (journal_has_form text (record { entries = es; stage = Between })).0 finished.reads in
    let lines : (split text).lines ≡ form.0.finished = form.0.spelled ∙ ap (λ ls. form.0.finished ++ ls) form.0.unfinished ∙ append-nil form.0.finished in
    let s = spelling form.0.finished es form.0.entries in (
      s.entries,
      s.are,
      record { finished = subst (λ fs. IsFinished text fs) (sym s.are) finished; lines = lines ∙ s.lines_are; runs = s.give },
    )
