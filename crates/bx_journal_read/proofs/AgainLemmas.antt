-- A text that is read again.
use Rattle.std.proofs.Common.{◌≡◌, ℕ, List, length, refl, ap, sym, ◌∙◌, subst, inl, inr, arith, length-drop}
use Rattle.bx_journal_model.specs.declared.fault.SessionFault.{SessionFault}
use Rattle.bx_journal_model.specs.declared.fault.SessionFault.TheVariants.{Damaged}
use Rattle.bx_journal_format.specs.declared.read.whole.JournalRead.{JournalRead}
use Rattle.bx_journal_format.specs.declared.read.types.EntryRead.{EntryRead}
use Rattle.bx_journal_format.specs.Text.{Between, Reading, Reads}
use Rattle.bx_journal_format.specs.read.Journal.{HasRead}
use Rattle.bx_journal_format.specs.Parsed.{entries_of, reading_of, entries_onto}
use Rattle.bx_journal_model.specs.Undoing.{HasCount, AgainFault, IsOutOfStep, IsReadLast}
use Rattle.bx_journal_format.specs.Finished.{IsFinished}
use Rattle.bx_journal_format.proofs.ReadLemmas.{length-entries_of, length-onto}
use Rattle.bx_journal_read.proofs.OpenLemmas.{read_once}
use Rattle.bx_journal_model.proofs.Judged.{undamaged}

count_same : {A : Type 0} → (bytes : List ℕ) (j : JournalRead A) (count : ℕ) (h : HasCount bytes count) → HasRead bytes j → reading_of j.entries.items j.stage ≡ record { entries = h.0; stage = Between }
count_same bytes j count h read = read_once bytes bytes j (record { entries = h.0; stage = Between }) read refl h.1.reads

pub not_counted : {A : Type 0} → (bytes : List ℕ) (j : JournalRead A) (count : ℕ) → HasRead bytes j → (length j.entries.items ≡ count → ⊥) → HasCount bytes count → ⊥
not_counted bytes j count read apart h =
    let same : entries_of j.entries.items ≡ h.0 = ap (λ (r : Reading). r.entries) (count_same bytes j count h read) in
    apart (sym (length-entries_of j.entries.items) ∙ ap length same ∙ h.2)

-- the text is that of `count` finished entries
pub has_count : {A : Type 0} → (stored text : List ℕ) (es : List (EntryRead A)) (count : ℕ) → IsReadLast text es count → stored ≡ text → HasCount stored count
has_count stored text es count read is =
    (entries_onto read.older es, subst (λ t. IsFinished t (entries_onto read.older es)) (sym is) read.finished, omega (arith, length-onto read.older es, read.counted))

-- a text of `count` finished entries alone isn't called damaged
pub in_step : (faithful : Type 0) (text : List ℕ) (count : ℕ) (e : SessionFault) → faithful → HasCount text count → AgainFault faithful text count e → (line : ℕ) → e ≡ Damaged line → ⊥
in_step faithful text count e th has h line is =
    elim (subst (AgainFault faithful text count) is h th) [
      | inl damage ↦ undamaged text line (record { entries = has.0; stage = Between }, has.1.reads) damage
      | inr apart ↦ apart.2 has
    ]

-- a text with something behind its last newline isn't finished entries alone
pub not_whole : {A : Type 0} → (bytes : List ℕ) (j : JournalRead A) (count : ℕ) → HasRead bytes j → (j.whole ≡ length bytes → ⊥) → HasCount bytes count → ⊥
not_whole bytes j count read apart h =
    apart (omega (arith, ap length (read.places.rest ∙ h.1.whole), length-drop j.whole bytes, read.places.mark.within))

-- the text is accepted, and isn't `count` finished entries alone
pub apart_of : {A : Type 0} → (text bytes : List ℕ) (j : JournalRead A) (count : ℕ) → HasRead bytes j → text ≡ bytes → (HasCount bytes count → ⊥) → IsOutOfStep text count 1
apart_of text bytes j count read same apart =
    inr (refl, (reading_of j.entries.items j.stage, subst (λ t. Reads t (reading_of j.entries.items j.stage)) (sym same) read.reads), λ h. apart (subst (λ t. HasCount t count) same h))
