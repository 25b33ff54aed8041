-- What dropping a history leaves of files, by their names.
use Rattle.std.proofs.Common.{◌≡◌, ◌∙◌, ℕ, List, Ok, Err, refl, sym, subst}
use Rattle.std.specs.Prelude.{Result, IfErr, OnOk}
use Rattle.bx_image.specs.Power.{NoMore}
use Rattle.bx_journal.specs.SessionFault.{SessionFault}
use Rattle.bx_journal.specs.SessionFault.TheVariants.{NoMemory, TooLarge, DeviceFailed, Damaged, TooFew, JournalFull, Interrupted, Broken, LengthDiffers, NothingToRedo, RedoDamaged}
use Rattle.bx_cli_commands.specs.declared.fault.Fault.TheVariants.{Session}
use Rattle.bx_world.specs.World.{NothingNewFound, SystemState, Spares, held}
use Rattle.bx_world.specs.declared.files.guard.Guard.{Guard}
use Rattle.bx_world.specs.declared.files.names.Names.{Names}
use Rattle.bx_run.specs.forget.Forgetting.{Empties, ForgetsPart, HasForgotten, Held, IsNoTextNamed, KeepsHistory, LeadToTexts, LosesAll, LosesPart, MayForgetNamed, StopsForgetting, SurvivesEmptying, SurvivesForgetting, TextFiles, found_if, held_by_names, held_by_numbers}
use Rattle.bx_run_report.specs.declared.report.error.ReportError.{ReportError}
use Rattle.bx_run_report.specs.declared.report.error.ReportError.TheVariants.{Unopened, Unfinished, Another, Stopped}
use Rattle.bx_run.proofs.Emptied.{IsNeither, by_number, spares_bytes}
use Rattle.bx_run.proofs.Placed.{same_texts}

-- what is said of a result that is done, or that failed
pub done : {V E : Type 0} (P : Type 0) (r : Result V E) (v : V) → r ≡ Ok v → OnOk r P → P
done P (Ok v) w is p = p
done P (Err e) w is p = absurd (let wrong : Err e ≡ Ok w = is in cc)

pub failed : {V E : Type 0} (P : E → Type 0) (r : Result V E) (e : E) → r ≡ Err e → IfErr r P → P e
failed P r e is p = rw is at p

-- the name of the image leads to its bytes
pub image_held : (names : Names) (f : TextFiles) (w : SystemState) → LeadToTexts names f w → held w names.image ≡ w.bytes f.image
image_held names f w leads = rw leads.image refl

-- all is as it was
pub untouched : (P : ℕ → Type 0) (old new : SystemState) → new ≡ old → Spares P old new
untouched P old new same = rw same (record {
  named = λ m. refl;
  is_link = λ m. refl;
  bytes = λ i p. refl;
  stat = λ i. refl;
  caller = refl;
  there = refl;
  before = refl;
  lent = refl;
  stuck = refl;
  output = refl;
  errors = refl;
})

-- what keeps the history stops the dropping, and all is as it was
pub hidden_stops : (guard : Guard) (note : List ℕ) (names : Names) (counted : Type 0) (old new : SystemState) (u : ReportError) → new ≡ old
    → KeepsHistory guard note (held_by_names names old).image (held_by_names names old).journal (held_by_names names old).redo u
    → StopsForgetting guard note names counted old new u
hidden_stops guard note names counted old new (Unopened file) same is = absurd is
hidden_stops guard note names counted old new Unfinished same is = (is, untouched _ old new same)
hidden_stops guard note names counted old new Another same is = (is, untouched _ old new same)
hidden_stops guard note names counted old new (Stopped (Session Interrupted)) same is = absurd is
hidden_stops guard note names counted old new (Stopped fault) same is = (is, untouched _ old new same)

-- nothing is found that wasn't before
pub hidden_survives : (names : Names) (old : SystemState) (found left : ℕ → List ℕ → Type 0) (u : ReportError) (guard : Guard) (note image journal redo : List ℕ)
    → KeepsHistory guard note image journal redo u → NothingNewFound found left → SurvivesForgetting names (Err u) old found left
hidden_survives names old found left (Unopened file) guard note image journal redo is none = none
hidden_survives names old found left Unfinished guard note image journal redo is none = none
hidden_survives names old found left Another guard note image journal redo is none = none
hidden_survives names old found left (Stopped (Session Interrupted)) guard note image journal redo is none = absurd is
hidden_survives names old found left (Stopped fault) guard note image journal redo is none = none

-- Of files that these names lead to.
module _ (names : Names) (f : TextFiles) (old new : SystemState) (leads : LeadToTexts names f old) (only : Spares (IsNeither f) old new) where
  pub others_named : Spares (IsNoTextNamed names old) old new
  others_named = spares_bytes (IsNeither f) (IsNoTextNamed names old) old new only
      (λ i (no_journal, no_redo). only.bytes i ((λ is. no_journal (leads.journal ∙ is)), (λ is. no_redo (leads.redo ∙ is))))

  leads_behind : LeadToTexts names f new
  leads_behind = record {
    image = only.named names.image ∙ leads.image;
    journal = only.named names.journal ∙ leads.journal;
    redo = only.named names.redo ∙ leads.redo;
  }

  held_same : (w : SystemState) → LeadToTexts names f w → held_by_numbers f w ≡ held_by_names names w
  held_same w there = rw (there.image, there.journal, there.redo) refl

  as_names : (P : Held → Held → Type 0) → P (held_by_numbers f old) (held_by_numbers f new) → P (held_by_names names old) (held_by_names names new)
  as_names P p = subst (λ h. P h (held_by_names names new)) (held_same old leads) (subst (P (held_by_numbers f old)) (held_same new leads_behind) p)

  pub forgotten_named : HasForgotten (held_by_numbers f old) (held_by_numbers f new) → HasForgotten (held_by_names names old) (held_by_names names new)
  forgotten_named p = as_names HasForgotten p

  pub stopped_named : (guard : Guard) (note : List ℕ) (counted : Type 0) (e : SessionFault) → MayForgetNamed guard note names old → Empties f (Err e) old new
      → StopsForgetting guard note names counted old new (Stopped (Session e))
  stopped_named guard note counted NoMemory may p = absurd p
  stopped_named guard note counted TooLarge may p = absurd p
  stopped_named guard note counted DeviceFailed may p = (tt, p)
  stopped_named guard note counted (Damaged line) may p = absurd p
  stopped_named guard note counted (TooFew have) may p = absurd p
  stopped_named guard note counted JournalFull may p = absurd p
  stopped_named guard note counted Interrupted may p = (may, as_names ForgetsPart p)
  stopped_named guard note counted Broken may p = absurd p
  stopped_named guard note counted (LengthDiffers expected) may p = absurd p
  stopped_named guard note counted (NothingToRedo have) may p = absurd p
  stopped_named guard note counted (RedoDamaged line) may p = absurd p

  -- what is found after a loss of power
  module _ (image : List ℕ → Type 0) (first found left : ℕ → List ℕ → Type 0) (image_first : NoMore (first f.image) image)
      (nothing_new : NothingNewFound first found) where
    pub survived_all : LosesAll (held_by_numbers f old) (left f.image) (found_if left f.journal) (found_if left f.redo)
        → SurvivesForgetting names (Ok tt) old first left
    survived_all p g there =
        subst (λ (h : TextFiles). LosesAll (held_by_names names old) (left h.image) (found_if left h.journal) (found_if left h.redo))
        (same_texts names old f g leads there)
        (subst (λ h. LosesAll h (left f.image) (found_if left f.journal) (found_if left f.redo)) (held_same old leads) p)

    survived_part : LosesPart (held_by_numbers f old) (left f.image) (found_if left f.journal) (found_if left f.redo)
        → SurvivesForgetting names (Err (Stopped (Session Interrupted))) old first left
    survived_part p g there =
        subst (λ (h : TextFiles). LosesPart (held_by_names names old) (left h.image) (found_if left h.journal) (found_if left h.redo))
        (same_texts names old f g leads there)
        (subst (λ h. LosesPart h (left f.image) (found_if left f.journal) (found_if left f.redo)) (held_same old leads) p)

    nothing : NoMore image (left f.image) × ((n : ℕ) → (n ≡ f.image → ⊥) → NoMore (found n) (left n)) → NothingNewFound first left
    nothing p n c there = by_number n f.image
        (λ is. subst (λ k. first k c) (sym is) (image_first c (p.0 c (subst (λ k. left k c) is there))))
        (λ other. nothing_new n c (p.1 n other c there))

    pub survived_named : (e : SessionFault) → SurvivesEmptying f (Err e) old image found left
        → SurvivesForgetting names (Err (Stopped (Session e))) old first left
    survived_named Interrupted p = survived_part p
    survived_named e p = nothing p
