-- What is found in a journal's text: finished entries alone, or something unfinished.
use Rattle.std.proofs.Common.{◌≡◌, ◌⊎◌, inl, inr, ℕ, List, length, refl, ap, sym, ◌∙◌, subst, arith, Option, length-drop}
use Rattle.bx_journal_format.specs.declared.read.whole.JournalRead.{JournalRead}
use Rattle.bx_journal_format.specs.declared.read.types.StageRead.{StageRead}
use Rattle.bx_journal_format.specs.declared.read.types.StageRead.TheVariants.{Between as BetweenRead, Saving as SavingRead, Ending as EndingRead}
use Rattle.bx_journal_model.specs.declared.fault.SessionFault.{SessionFault}
use Rattle.bx_journal_model.specs.declared.fault.SessionFault.TheVariants.{NoMemory, TooLarge, DeviceFailed, Damaged, TooFew, JournalFull, Interrupted, Broken, LengthDiffers, NothingToRedo, RedoDamaged}
use Rattle.bx_journal_format.specs.read.Journal.{HasRead}
use Rattle.bx_journal_model.specs.Calls.{AfterFault}
use Rattle.bx_journal_model.specs.Opening.{OneMoreOfThree, ThreeCounts}
use Rattle.bx_journal_model.specs.Looking.{FaultCounts, OneMore, LookFault}
use Rattle.bx_journal_read.specs.scan.Judging.{JudgeFault}
use Rattle.bx_journal_format.specs.Parsed.{told_by, entries_of, stage_of, reading_of}
use Rattle.bx_journal_read.specs.scan.Recovery.{FinishedFault, HasToldLength, RecoverFault}
use Rattle.bx_journal_model.specs.Redo.{IsClean, IsRefusedAt}
use Rattle.bx_journal_format.specs.count.Tally.{IsCounted}
use Rattle.bx_journal_format.specs.Shown.{shown}
use Rattle.bx_journal_format.proofs.CleanLemmas.{clean_shown}
use Rattle.bx_journal_format.specs.Text.{Entry, Between, Reading, Reads}
use Rattle.bx_journal_read.proofs.OpenLemmas.{read_once}
use Rattle.bx_journal_format.proofs.ReadLemmas.{length-entries_of}
use Rattle.bx_journal_model.proofs.Tails.{rest_none}

-- finished entries alone that were read are counted
pub read_counted : {A : Type 0} → (text : List ℕ) (j : JournalRead A) (count : ℕ) (told : Option ℕ) → HasRead text j → j.stage ≡ BetweenRead → j.whole ≡ length text
    → count ≡ length j.entries.items → told ≡ told_by (entries_of j.entries.items) → IsCounted text count told
read_counted text j count told read is all counted told_is = record {
  entries = entries_of j.entries.items;
  finished = record {
    reads = subst (λ s. Reads text (reading_of j.entries.items s)) is read.reads;
    whole = rest_none text j.whole read.places.rest all;
  };
  counted = counted ∙ sym (length-entries_of j.entries.items);
  told_is = told_is;
}

between_back : {A : Type 0} → (s : StageRead A) → stage_of s ≡ Between → s ≡ BetweenRead
between_back BetweenRead is = refl
between_back (SavingRead v len runs begins) is = absurd (cc)
between_back (EndingRead v kept begins saved) is = absurd (cc)

-- what is unfinished isn't finished entries alone
pub unfinished_apart : {A : Type 0} → (text : List ℕ) (j : JournalRead A) → HasRead text j → (j.stage ≡ BetweenRead → j.whole ≡ length text → ⊥) → IsClean text → ⊥
unfinished_apart text j read unfinished clean =
    let same = read_once text text j (record { entries = clean.0; stage = Between }) read refl clean.1.reads in
    unfinished (between_back j.stage (ap (λ (r : Reading). r.stage) same)) (omega (arith, ap length (read.places.rest ∙ clean.1.whole), length-drop j.whole text, read.places.mark.within))

pub unfinished_shown : {A : Type 0} → (text : List ℕ) (j : JournalRead A) → HasRead (shown text) j → (j.stage ≡ BetweenRead → j.whole ≡ length text → ⊥) → IsClean text → ⊥
unfinished_shown text j read unfinished clean = unfinished_apart text j (subst (λ t. HasRead t j) (clean_shown text clean.0 clean.1) read) unfinished clean

-- a fault between reading and the first write is one of taking back
pub look_kind : (H : Type 0) (es : List Entry) (x : List ℕ) (e : SessionFault) → LookFault H es x e → RecoverFault e
look_kind H es x NoMemory look = tt
look_kind H es x DeviceFailed look = tt
look_kind H es x (LengthDiffers n) look = tt
look_kind H es x TooLarge look = look
look_kind H es x (Damaged line) look = look
look_kind H es x (TooFew have) look = look
look_kind H es x JournalFull look = look
look_kind H es x Interrupted look = tt
look_kind H es x Broken look = look
look_kind H es x (NothingToRedo have) look = look
look_kind H es x (RedoDamaged line) look = look

-- the counts of two devices among those of three
pub counts_among : (e : SessionFault) (a b a_new b_new d t u d_new t_new u_new : ℕ) → FaultCounts e a b a_new b_new
    → (OneMore a b a_new b_new → OneMoreOfThree d t u d_new t_new u_new) → ((a_new ≡ a) × (b_new ≡ b) → (d_new ≡ d) × (t_new ≡ t) × (u_new ≡ u))
    → ThreeCounts e d t u d_new t_new u_new
counts_among DeviceFailed a b a_new b_new d t u d_new t_new u_new h one same = one h
counts_among Interrupted a b a_new b_new d t u d_new t_new u_new h one same = one h
counts_among NoMemory a b a_new b_new d t u d_new t_new u_new h one same = same h
counts_among TooLarge a b a_new b_new d t u d_new t_new u_new h one same = same h
counts_among (Damaged line) a b a_new b_new d t u d_new t_new u_new h one same = same h
counts_among (TooFew have) a b a_new b_new d t u d_new t_new u_new h one same = same h
counts_among JournalFull a b a_new b_new d t u d_new t_new u_new h one same = same h
counts_among Broken a b a_new b_new d t u d_new t_new u_new h one same = same h
counts_among (LengthDiffers n) a b a_new b_new d t u d_new t_new u_new h one same = same h
counts_among (NothingToRedo have) a b a_new b_new d t u d_new t_new u_new h one same = same h
counts_among (RedoDamaged line) a b a_new b_new d t u d_new t_new u_new h one same = same h

-- a redo text that is refused, under other names
pub refused_at : (redo text x y : List ℕ) (changes line : ℕ) → redo ≡ text → x ≡ y → IsRefusedAt redo x changes line → IsRefusedAt text y changes line
refused_at redo text x y changes line same image refused = subst (λ t. IsRefusedAt t y changes line) same (subst (λ z. IsRefusedAt redo z changes line) image refused)

-- one more failed call of two devices is one more of three
pub one_more_beside : (d t u d_new t_new u_new : ℕ) → u_new ≡ u → OneMore d t d_new t_new → OneMoreOfThree d t u d_new t_new u_new
one_more_beside d t u d_new t_new u_new same one = omega (arith, same, one)

-- what judging the redo text may answer, beside a journal of finished entries alone
pub judged_finished : (H now R F : Type 0) (text x y : List ℕ) (changes : ℕ) (told : Option ℕ) (e : SessionFault) → (H → now) → (R → F) → (H → y ≡ x) → (H → HasToldLength told x)
    → JudgeFault (now × F) text y changes e → FinishedFault H (H × R) text x changes told e
judged_finished H now R F text x y changes told NoMemory still found image length_is f = tt
judged_finished H now R F text x y changes told DeviceFailed still found image length_is f = tt
judged_finished H now R F text x y changes told (RedoDamaged line) still found image length_is f =
    (length_is, λ both. refused_at text text y x changes line refl (image both.0) (f (still both.0, found both.1)))
judged_finished H now R F text x y changes told (LengthDiffers n) still found image length_is f = absurd f
judged_finished H now R F text x y changes told TooLarge still found image length_is f = f
judged_finished H now R F text x y changes told (Damaged line) still found image length_is f = f
judged_finished H now R F text x y changes told (TooFew have) still found image length_is f = f
judged_finished H now R F text x y changes told JournalFull still found image length_is f = f
judged_finished H now R F text x y changes told Interrupted still found image length_is f = f
judged_finished H now R F text x y changes told Broken still found image length_is f = f
judged_finished H now R F text x y changes told (NothingToRedo have) still found image length_is f = f

-- a fault between reading and the first write is no interruption
pub look_silent : (H : Type 0) (es : List Entry) (x : List ℕ) (P : Type 0) (e : SessionFault) → LookFault H es x e → AfterFault e P (Unit {0})
look_silent H es x P NoMemory look = tt
look_silent H es x P DeviceFailed look = tt
look_silent H es x P (LengthDiffers n) look = tt
look_silent H es x P TooLarge look = tt
look_silent H es x P (Damaged line) look = tt
look_silent H es x P (TooFew have) look = tt
look_silent H es x P JournalFull look = tt
look_silent H es x P Interrupted look = absurd look
look_silent H es x P Broken look = tt
look_silent H es x P (NothingToRedo have) look = tt
look_silent H es x P (RedoDamaged line) look = tt

-- a store that stayed has the text that it had
pub first_text : {S Q : Type 0} → (text : S → List ℕ) (new mid : S) (old : List ℕ) → text mid ≡ old → (new ≡ mid) ⊎ Q → (text new ≡ old) ⊎ Q
first_text text new mid old same (inl is) = inl (ap text is ∙ same)
first_text text new mid old same (inr q) = inr q
