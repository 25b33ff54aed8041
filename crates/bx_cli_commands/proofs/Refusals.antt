-- What refused commands leave.
use Rattle.std.proofs.Common.{◌≡◌, ◌↔◌, ◌∙◌, ◌⊎◌, inl, inr, ℕ, List, Option, None, Some, refl, ap, subst}
use Rattle.bx_dd.specs.declared.counts.Counts.{Counts}
use Rattle.bx_image.specs.declared.device.Device.{Ghosts as DeviceViews}
use Rattle.bx_journal_store.specs.declared.store.TextStore.{Ghosts as StoreViews}
use Rattle.bx_journal.specs.Calls.{AfterFault}
use Rattle.bx_journal.specs.Power.{NothingNew}
use Rattle.bx_journal.specs.Session.{IsRedoSame, IsSame}
use Rattle.bx_journal.specs.SessionView.{SessionView}
use Rattle.bx_journal.specs.SessionFault.{SessionFault}
use Rattle.bx_journal.specs.SessionFault.TheVariants.{NoMemory, TooLarge, DeviceFailed, Damaged, TooFew, JournalFull, Interrupted, Broken, LengthDiffers, NothingToRedo, RedoDamaged}
use Rattle.bx_cli_commands.specs.declared.command.Reply.{Reply}
use Rattle.bx_cli_commands.specs.declared.command.Reply.TheVariants.{Changed, Copied, Undone, Redone, Refused}
use Rattle.bx_cli_commands.specs.declared.fault.Fault.TheVariants.{Session}
use Rattle.bx_cli_commands.specs.Refusal.{IsOwnRefusal, IsWholeRefusal}
use Rattle.bx_cli_commands.specs.Run.{Unfailed, made_reply}
use Rattle.bx_cli_commands.proofs.Steps.{true_is_not_false}

-- whether a fault is an interruption
pub is_interrupted : (e : SessionFault) → (e ≡ Interrupted) ⊎ (e ≡ Interrupted → ⊥)
is_interrupted NoMemory = inr (λ is. cc)
is_interrupted TooLarge = inr (λ is. cc)
is_interrupted DeviceFailed = inr (λ is. cc)
is_interrupted (Damaged line) = inr (λ is. cc)
is_interrupted (TooFew have) = inr (λ is. cc)
is_interrupted JournalFull = inr (λ is. cc)
is_interrupted Interrupted = inl refl
is_interrupted Broken = inr (λ is. cc)
is_interrupted (LengthDiffers expected) = inr (λ is. cc)
is_interrupted (NothingToRedo have) = inr (λ is. cc)
is_interrupted (RedoDamaged line) = inr (λ is. cc)

-- a fault that leaves all as it was, unless it is an interruption
pub after_same : (S : Type 0) (e : SessionFault) → AfterFault e (Unit {0}) S → (e ≡ Interrupted → ⊥) → S
after_same S NoMemory same whole = same
after_same S TooLarge same whole = same
after_same S DeviceFailed same whole = same
after_same S (Damaged line) same whole = same
after_same S (TooFew have) same whole = same
after_same S JournalFull same whole = same
after_same S Interrupted same whole = absurd (whole refl)
after_same S Broken same whole = same
after_same S (LengthDiffers expected) same whole = same
after_same S (NothingToRedo have) same whole = same
after_same S (RedoDamaged line) same whole = same

-- what an interruption leaves, and what else is known of one
pub both_after : (X Y : Type 0) (e : SessionFault) → AfterFault e X (Unit {0}) → (e ≡ Interrupted → Y) → AfterFault e (X × Y) (Unit {0})
both_after X Y NoMemory left more = tt
both_after X Y TooLarge left more = tt
both_after X Y DeviceFailed left more = tt
both_after X Y (Damaged line) left more = tt
both_after X Y (TooFew have) left more = tt
both_after X Y JournalFull left more = tt
both_after X Y Interrupted left more = (left, more refl)
both_after X Y Broken left more = tt
both_after X Y (LengthDiffers expected) left more = tt
both_after X Y (NothingToRedo have) left more = tt
both_after X Y (RedoDamaged line) left more = tt

pub after_weaker : (X Y : Type 0) → (X → Y) → (e : SessionFault) → AfterFault e X (Unit {0}) → AfterFault e Y (Unit {0})
after_weaker X Y next NoMemory left = tt
after_weaker X Y next TooLarge left = tt
after_weaker X Y next DeviceFailed left = tt
after_weaker X Y next (Damaged line) left = tt
after_weaker X Y next (TooFew have) left = tt
after_weaker X Y next JournalFull left = tt
after_weaker X Y next Interrupted left = next left
after_weaker X Y next Broken left = tt
after_weaker X Y next (LengthDiffers expected) left = tt
after_weaker X Y next (NothingToRedo have) left = tt
after_weaker X Y next (RedoDamaged line) left = tt

-- a refusal that tells of no device in the middle of writing, and one that tells of no device at all, is no interruption
pub whole_goes_on : (e : SessionFault) → IsWholeRefusal (Refused (Session e)) → e ≡ Interrupted → ⊥
whole_goes_on e whole stopped = whole (ap Session stopped)

-- a refusal that tells of one
pub is_stopped : (e : SessionFault) → (IsWholeRefusal (Refused (Session e)) → ⊥) → e ≡ Interrupted
is_stopped e stopped = elim (is_interrupted e) as (λ _. e ≡ Interrupted) [
  | inl is ↦ is
  | inr other ↦ absurd (stopped (λ is. other (cc)))
]

pub unfailed_whole : (e : SessionFault) → Unfailed (Refused (Session e)) → e ≡ Interrupted → ⊥
unfailed_whole e unfailed stopped =
    let Goes : SessionFault → Type 0 = λ f. Unfailed (Refused (Session f)) in
    true_is_not_false (subst Goes stopped unfailed)

-- the command was done
abbrev pub IsNoRefusal : Reply → Type 0
IsNoRefusal (Changed n) = Unit {0}
IsNoRefusal (Copied n counts) = Unit {0}
IsNoRefusal (Undone left) = Unit {0}
IsNoRefusal (Redone n) = Unit {0}
IsNoRefusal (Refused e) = ⊥

pub made_no_refusal : (counts : Option Counts) (n : ℕ) → IsNoRefusal (made_reply counts n)
made_no_refusal None n = tt
made_no_refusal (Some counts) n = tt

-- a reply to what was done tells of no failure and of no refusal
pub no_failure : (p : Reply) → IsNoRefusal p → Unfailed p
no_failure (Changed n) done = refl
no_failure (Copied n counts) done = refl
no_failure (Undone left) done = refl
no_failure (Redone n) done = refl
no_failure (Refused e) done = absurd done

pub no_own : (p : Reply) → IsNoRefusal p → IsOwnRefusal p → ⊥
no_own (Changed n) done h = h
no_own (Copied n counts) done h = h
no_own (Undone left) done h = h
no_own (Redone n) done h = h
no_own (Refused e) done h = done

pub no_whole : (p : Reply) → IsNoRefusal p → IsWholeRefusal p → ⊥
no_whole (Changed n) done h = h
no_whole (Copied n counts) done h = h
no_whole (Undone left) done h = h
no_whole (Redone n) done h = h
no_whole (Refused e) done h = done

pub same_here : {D T : Type 0} (image : D → List ℕ) (text : T → List ℕ) (s : SessionView D T) → IsSame image text s s
same_here image text s = record { image_same = refl; text_same = refl; count = refl; broken = refl }

pub same_on : {D T : Type 0} (image : D → List ℕ) (text : T → List ℕ) (first now next : SessionView D T)
    → IsSame image text first now → IsSame image text now next → IsSame image text first next
same_on image text first now next before after = record {
  image_same = after.image_same ∙ before.image_same;
  text_same = after.text_same ∙ before.text_same;
  count = after.count ∙ before.count;
  broken = after.broken ∙ before.broken;
}

pub redo_same_here : {D T : Type 0} (text : T → List ℕ) (s : SessionView D T) → IsRedoSame text s s
redo_same_here text s = record { text_same = refl; undone = refl }

pub redo_same_on : {D T : Type 0} (text : T → List ℕ) (first now next : SessionView D T)
    → IsRedoSame text first now → IsRedoSame text now next → IsRedoSame text first next
redo_same_on text first now next before after = record {
  text_same = after.text_same ∙ before.text_same;
  undone = after.undone ∙ before.undone;
}

-- nothing is found that wasn't to be found before
module _ {D T : Type 0} (d : DeviceViews D) (t : StoreViews T) where
  pub nothing_new_here : (s : SessionView D T) → NothingNew d t s s
  nothing_new_here s = record { image_before = λ h c there. there; journal_before = λ h c there. there; redo_before = λ h c there. there }

  pub nothing_new_on : (first now next : SessionView D T) → (d.faithful now.image ↔ d.faithful first.image) → (t.faithful now.journal ↔ t.faithful first.journal)
      → (t.faithful now.redo ↔ t.faithful first.redo) → NothingNew d t first now → NothingNew d t now next → NothingNew d t first next
  nothing_new_on first now next device store redo before after = record {
    image_before = λ h c there. before.image_before h c (after.image_before (device.1 h) c there);
    journal_before = λ h c there. before.journal_before h c (after.journal_before (store.1 h) c there);
    redo_before = λ h c there. before.redo_before h c (after.redo_before (redo.1 h) c there);
  }
