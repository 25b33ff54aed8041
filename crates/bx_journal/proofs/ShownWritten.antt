-- What is shown of undos is what they write.
use Rattle.std.proofs.Common.{◌≡◌, ◌≤◌, ◌+◌, ℕ, zero, suc, Option, None, Some, List, [], ◌∷◌, ◌++◌, length, take, drop, map, refl, sym, ap, ◌∙◌, arith}
use Rattle.std.proofs.lemmas.List.{length-map}
use Rattle.std.specs.Option.{option_or}
use Rattle.bx_image.specs.private.Change.{byte_of}
use Rattle.bx_image.specs.Change.{AllWithin, byte_in, restore}
use Rattle.bx_image.specs.Image.{end_of}
use Rattle.bx_image.proofs.Records.{placed-cut, restore-IsSameRecord}
use Rattle.bx_journal_format.specs.Kept.{Kept, Run, with_run}
use Rattle.bx_journal_format.specs.Line.{saved_in}
use Rattle.bx_journal_format.specs.Spelled.{EntryLines, GiveRuns, entry_in, runs_behind, with_found}
use Rattle.bx_journal_format.specs.Text.{Between, Entry, Reading}
use Rattle.bx_journal_format.proofs.Gathered.{with_run-byte}
use Rattle.bx_journal_format.proofs.GrammarLemmas.{saved_found}
use Rattle.bx_journal_format.proofs.RowLemmas.{or_assoc, or_none}
use Rattle.bx_journal_model.specs.Machine.{top}
use Rattle.bx_journal_model.specs.Stack.{stack_of}
use Rattle.bx_journal_read.specs.show.Differences.{line_made, made_text, signed_line}
use Rattle.bx_journal_read.proofs.OpenLemmas.{some_same}
use Rattle.bx_journal_model.proofs.Phases.{length-stack_of}
use Rattle.bx_journal_protocol.proofs.Ready.{top_of}
use Rattle.bx_journal.specs.ShowLaws.{ShownIsWritten, ShowsAsDump, dump_of, run_then, shown_runs, step_onto, steps_onto}

-- the byte that runs give at an address is that of the lines' own runs, however these go on with one another
behind_byte : (len : ℕ) (lines : List (List ℕ)) (runs : List Run) (i : ℕ) → byte_in (runs_behind len runs lines) i ≡ option_or (byte_in (shown_runs len lines) i) (byte_in runs i)
unfolding runs_behind byte_in
behind_byte len [] runs i = refl
behind_byte len (line ∷ lines) runs i = by (saved_in len line) (λ more. behind_byte len lines more i)
  where
    by : (o : Option Run) → ((more : List Run) → byte_in (runs_behind len more lines) i ≡ option_or (byte_in (shown_runs len lines) i) (byte_in more i))
        → byte_in (runs_behind len (with_found runs o) lines) i ≡ option_or (byte_in (run_then o (shown_runs len lines)) i) (byte_in runs i)
    by None behind = behind runs
    by (Some p) behind =
        behind (with_run runs p) ∙ ap (option_or (byte_in (shown_runs len lines) i)) (with_run-byte runs p i)
        ∙ sym (or_assoc (byte_in (shown_runs len lines) i) (byte_of p i) (byte_in runs i))

ends_within : (at : ℕ) (bytes : List ℕ) (len : ℕ) → at + length bytes ≤ len → end_of at bytes ≤ len
ends_within at [] len within = omega arith
ends_within at (b ∷ bytes) len within = within

-- each of these ends within the length
pub shown_within : (len : ℕ) (lines : List (List ℕ)) → AllWithin len (shown_runs len lines)
shown_within len [] = tt
shown_within len (line ∷ lines) = by (saved_in len line) refl (shown_within len lines)
  where
    by : (o : Option Run) → saved_in len line ≡ o → AllWithin len (shown_runs len lines) → AllWithin len (run_then o (shown_runs len lines))
    by None is rest = rest
    by (Some p) is rest = (ends_within p.at p.bytes len (saved_found len line p is).2, rest)

none_behind : (o : Option ℕ) (i : ℕ) → option_or o (byte_in {A = Unit {0}} [] i) ≡ o
unfolding byte_in
none_behind o i = or_none o

-- restoring an entry places them
pub restores_shown : (c : EntryLines) (x : List ℕ) → c.entry.saved.runs ≡ runs_behind c.entry.saved.len [] c.saved → restore c.entry.saved x ≡ step_onto c x
restores_shown c x is =
    let s : Kept = record { len = c.entry.saved.len; runs = shown_runs c.entry.saved.len c.saved } in
    restore-IsSameRecord c.entry.saved s x (record { len = refl; byte = λ i. ap (λ rs. byte_in rs i) is ∙ behind_byte c.entry.saved.len c.saved [] i ∙ none_behind (byte_in s.runs i) i })
    ∙ sym (placed-cut s x (shown_within c.entry.saved.len c.saved))

-- the image behind the newest k entries
undone_top : (cs : List EntryLines) (k : ℕ) (x : List ℕ) → GiveRuns cs → k ≤ length cs → top (drop k (stack_of (map entry_in cs) x)) ≡ steps_onto (take k cs) x
unfolding stack_of
undone_top cs zero x give few = top_of (map entry_in cs) x
undone_top [] (suc k) x give few = absurd (omega (arith, few))
undone_top (c ∷ older) (suc k) x give few =
    undone_top older k (restore c.entry.saved x) give.1 (omega (arith, few)) ∙ ap (steps_onto (take k older)) (restores_shown c x give.0)

-- what a text of finished entries reads as
abbrev entries_of : List Entry → Reading
entries_of es = record { entries = es; stage = Between }

pub shown_is_written : ShownIsWritten
shown_is_written text x old new cs k left stands spelled step =
    let es = stands.entries in
    let same : map entry_in cs ≡ es =
    ap (λ (r : Reading). r.entries) (some_same (entries_of (map entry_in cs)) (entries_of es) (sym spelled.finished.reads.lines ∙ stands.reads.lines)) in
    let stack : old ≡ stack_of (map entry_in cs) x = stands.stack_is ∙ ap (λ fs. stack_of fs x) (sym same) in
    let count : length old ≡ suc (length cs) = ap length stack ∙ length-stack_of (map entry_in cs) x ∙ ap suc (length-map cs entry_in) in
    ap top step.2 ∙ ap (λ s. top (drop k s)) stack ∙ undone_top cs k x spelled.runs (omega (arith, count, step.0))

-- what is shown of lines
pub shows_runs : ShowsAsDump
shows_runs len [] = refl
shows_runs len (line ∷ lines) = by (saved_in len line) (shows_runs len lines)
  where
    by : (o : Option Run) → made_text len lines ≡ dump_of (shown_runs len lines) → line_made o ++ made_text len lines ≡ dump_of (run_then o (shown_runs len lines))
    by None rest = rest
    by (Some run) rest = ap (λ more. signed_line [] run.at run.bytes ++ more) rest
