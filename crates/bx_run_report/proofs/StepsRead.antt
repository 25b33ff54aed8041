-- Changes that are read from the entries of a text, and the images behind them.
use Rattle.std.proofs.Common.{◌≡◌, ◌≤◌, ℕ, List, [], ◌∷◌, length, drop, sym, ap, subst, ◌∙◌, arith}
use Rattle.bx_image.specs.declared.change.Change.{Change}
use Rattle.bx_image.specs.declared.change.TheConstants.{MAX_LEN}
use Rattle.bx_patch.specs.preview.Changed.{effects}
use Rattle.bx_journal_format.specs.Parsed.{AllKept, entries_onto, entry_of}
use Rattle.bx_journal_format.specs.declared.read.types.EntryRead.{EntryRead}
use Rattle.bx_journal.specs.Images.{Images, redone_by}
use Rattle.bx_journal.specs.Machine.{changes_of, top}
use Rattle.bx_journal.specs.SessionFault.{SessionFault}
use Rattle.bx_journal.specs.Stack.{StandsFor, stack_of}
use Rattle.bx_journal.specs.Text.{Between, Entry, Reading, split}
use Rattle.bx_journal.specs.Undoing.{AgainFault, HasCount, IsLastFrom}
use Rattle.bx_journal_format.proofs.Bounds.{AreBounded, read_bounded}
use Rattle.bx_journal_read.proofs.AgainLemmas.{in_step}
use Rattle.bx_journal_model.proofs.ReadingLemmas.{AreSane, read_sane}
use Rattle.bx_cli_commands.specs.declared.fault.Fault.TheVariants.{Session}
use Rattle.bx_run_report.specs.report.Devices.{IsDeviceStop}
use Rattle.bx_run_report.specs.report.Stepped.{HoldImages}
use Rattle.bx_run_report.specs.declared.report.error.ReportError.TheVariants.{Stopped}
use Rattle.bx_run_report.proofs.Looking.{log_stops}
use Rattle.bx_run_report.proofs.StepLemmas.{redone_top, stack_read, stands_count, top_stands}

-- so far what was read is sane, and within the greatest length
sane_before : {A : Type 0} (done : List Entry) (es : List (EntryRead A)) → AreSane (entries_onto done es) → AreSane done
sane_before done [] sane = sane
sane_before done (e ∷ es) sane = (sane_before (entry_of e ∷ done) es sane).2

bounded_before : {A : Type 0} (done : List Entry) (es : List (EntryRead A)) → AreBounded (entries_onto done es) → AreBounded done
bounded_before done [] bounded = bounded
bounded_before done (e ∷ es) bounded = (bounded_before (entry_of e ∷ done) es bounded).1

kept_each : {A : Type 0} (done : List Entry) (es : List (EntryRead A)) → AreSane (entries_onto done es) → AreBounded (entries_onto done es) → AllKept MAX_LEN es
kept_each done [] sane bounded = tt
kept_each done (e ∷ es) sane bounded = (
  (sane_before (entry_of e ∷ done) es sane).0,
  (bounded_before (entry_of e ∷ done) es bounded).0,
  kept_each (entry_of e ∷ done) es sane bounded,
)

-- the runs of what was read end within their lengths
pub kept_from : {A faithful : Type 0} (stored : List ℕ) (len : ℕ) (es : List (EntryRead A)) (count : ℕ) → IsLastFrom faithful stored len es count → AllKept MAX_LEN es
kept_from stored len es count from =
    let read = from.read in
    let lines = (split from.text).lines in
    let all : Reading = record { entries = entries_onto read.older es; stage = Between } in
    kept_each read.older es (read_sane lines all read.finished.reads.lines).0 (read_bounded lines all read.finished.reads.lines).0

-- the changes that restore the last entries lead down the stack that their text stands for
pub read_leads : {A faithful : Type 0} (stored : List ℕ) (len : ℕ) (es : List (EntryRead A)) (count : ℕ) → faithful → IsLastFrom faithful stored len es count
    → (x : List ℕ) (stack : List (List ℕ)) → StandsFor stored x stack → (k : ℕ) (cs : List (Change A))
    → ((older : List Entry) (y : List ℕ) → effects cs y ≡ top (drop k (stack_of (entries_onto older es) y))) → effects cs x ≡ top (drop k stack)
read_leads stored len es count h read x stack stands k cs made =
    let here : StandsFor read.text x stack = subst (λ t. StandsFor t x stack) (read.is h) stands in
    made read.read.older x ∙ ap (λ s. top (drop k s)) (sym (stack_read read.text x stack (entries_onto read.read.older es) here read.read.finished))

-- a text of as many finished entries is read, unless memory or a device stops it
pub read_stops : (faithful : Type 0) (text : List ℕ) (count : ℕ) (e : SessionFault) → faithful → HasCount text count → AgainFault faithful text count e
    → IsDeviceStop (Stopped (Session e))
read_stops faithful text count e h has fault =
    log_stops faithful text count e (λ _. fault) (λ is. subst (AgainFault faithful text count) is fault) (in_step faithful text count e h has fault)

-- Of three texts that hold images.
module _ (image journal redo : List ℕ) (s : Images) (holds : HoldImages image journal redo s) where
  -- how many entries they have
  pub journal_count : (have : ℕ) → have ≡ changes_of s.stack → HasCount journal have
  journal_count have is = subst (HasCount journal) (sym is) (stands_count journal image s.stack holds.stack)

  pub redo_count : (have : ℕ) → have ≡ length s.undone → HasCount redo have
  redo_count have is =
      let one : changes_of (image ∷ s.undone) ≡ length s.undone = omega arith in
      subst (HasCount redo) (one ∙ sym is) (stands_count redo image (image ∷ s.undone) holds.undone.stands)

  -- the image behind a redo
  pub redo_leads : (k : ℕ) → k ≤ length s.undone → top (drop k (image ∷ s.undone)) ≡ top (redone_by k s.undone s.stack)
  redo_leads k few =
      ap (λ y. top (drop k (y ∷ s.undone))) (sym (top_stands journal image s.stack holds.stack)) ∙ sym (redone_top k s.undone s.stack few)
