-- What a session that was ready left is opened again as it is.
use Rattle.std.proofs.Common.{◌≡◌, ℕ, List, length, refl, ap, sym, ◌∙◌, subst}
use Rattle.bx_journal_format.specs.Shown.{shown}
use Rattle.bx_journal_format.specs.Text.{Between, Reading, Reads, IsDamagedAt}
use Rattle.bx_journal_format.specs.Finished.{IsFinished}
use Rattle.bx_journal_format.proofs.CleanLemmas.{clean_shown}
use Rattle.bx_journal_model.specs.declared.answers.RecoveryOutcome.{RecoveryOutcome}
use Rattle.bx_journal_model.specs.declared.answers.RecoveryOutcome.TheVariants.{Clean, Dropped, Restored}
use Rattle.bx_journal_model.specs.declared.fault.SessionFault.{SessionFault}
use Rattle.bx_journal_model.specs.declared.fault.SessionFault.TheVariants.{NoMemory, TooLarge, DeviceFailed, Damaged, TooFew, JournalFull, Interrupted, Broken, LengthDiffers, NothingToRedo, RedoDamaged}
use Rattle.bx_journal_model.specs.Calls.{how_of}
use Rattle.bx_journal_model.specs.Fault.{DeviceFault}
use Rattle.bx_journal_model.specs.Images.{Images}
use Rattle.bx_journal_model.specs.Machine.{changes_of}
use Rattle.bx_journal_model.specs.Opening.{left_over}
use Rattle.bx_journal_model.specs.Phase.{IsAtRest}
use Rattle.bx_journal_model.specs.Power.{Found}
use Rattle.bx_journal.specs.Recovery.{OpenKind}
use Rattle.bx_journal_model.specs.Redo.{IsClean, IsRedoOf, found_undone}
use Rattle.bx_journal_model.specs.Stack.{Recovers}
use Rattle.bx_journal.proofs.CountedLemmas.{left_none}
use Rattle.bx_journal_protocol.proofs.LawProofs.{damaged_at_one}
use Rattle.bx_journal_model.proofs.Phases.{rest_recovers}

-- where nothing was unfinished, what was undone is kept
pub kept_undone : (redo x : List ℕ) (changes count : ℕ) (how : RecoveryOutcome) (undone : List (List ℕ)) → how ≡ Clean → IsRedoOf redo x changes (found_undone how undone) → count ≡ length (found_undone how undone)
    → IsRedoOf redo x changes undone × (count ≡ length undone)
kept_undone redo x changes count Clean undone is kept counted = (kept, counted)
kept_undone redo x changes count Dropped undone is kept counted = absurd (cc)
kept_undone redo x changes count (Restored n) undone is kept counted = absurd (cc)

module _ (text x redo : List ℕ) (s : Images) (rest : IsAtRest text x s.stack) where
  abbrev pub rest_reading : Reading
  rest_reading = record { entries = rest.stands.entries; stage = Between }

  rest_finished : IsFinished text rest.stands.entries
  rest_finished = record { reads = rest.stands.reads; whole = rest.stands.whole }

  rest_shown : shown text ≡ text
  rest_shown = clean_shown text rest.stands.entries rest_finished

  pub rest_reads : Reads (shown text) rest_reading
  rest_reads = subst (λ t. Reads t rest_reading) (sym rest_shown) rest.stands.reads

  pub rest_recovers_shown : Recovers (shown text) x s.stack
  rest_recovers_shown = subst (λ t. Recovers t x s.stack) (sym rest_shown) (rest_recovers text x s.stack rest)

  pub rest_found : IsRedoOf redo x (changes_of s.stack) s.undone → Found text x redo s
  rest_found undone = record { recovers = rest_recovers_shown; undone = λ clean. undone }

  pub rest_clean : (how : RecoveryOutcome) → how ≡ how_of rest_reading (left_over text) → how ≡ Clean
  rest_clean how is = is ∙ ap (how_of rest_reading) (left_none text rest_shown rest.stands.whole)

  -- no fault of opening is left but want of memory and a failed device
  pub rest_fault : (e : SessionFault) → OpenKind e → ((line : ℕ) → e ≡ Damaged line → IsDamagedAt (shown text) line) → ((n : ℕ) → e ≡ LengthDiffers n → ⊥) → (e ≡ Interrupted → IsClean text → ⊥) → ((line : ℕ) → e ≡ RedoDamaged line → ⊥)
      → DeviceFault e
  rest_fault NoMemory kind damaged differs interrupted unfit = tt
  rest_fault DeviceFailed kind damaged differs interrupted unfit = tt
  rest_fault TooLarge kind damaged differs interrupted unfit = kind
  rest_fault (Damaged line) kind damaged differs interrupted unfit =
      absurd ((damaged_at_one (shown text) line (damaged line refl)).0 (rest_reading, rest_reads))
  rest_fault (TooFew have) kind damaged differs interrupted unfit = kind
  rest_fault JournalFull kind damaged differs interrupted unfit = kind
  rest_fault Interrupted kind damaged differs interrupted unfit = absurd (interrupted refl (rest.stands.entries, rest_finished))
  rest_fault Broken kind damaged differs interrupted unfit = kind
  rest_fault (LengthDiffers n) kind damaged differs interrupted unfit = absurd (differs n refl)
  rest_fault (NothingToRedo have) kind damaged differs interrupted unfit = kind
  rest_fault (RedoDamaged line) kind damaged differs interrupted unfit = absurd (unfit line refl)
