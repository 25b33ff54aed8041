-- What is known of a task by whether it was refused.
use Rattle.std.specs.Prelude.{IfSome}
use Rattle.std.proofs.Common.{◌≡◌, ◌⊎◌, ℕ, Option, Some, None, List, refl, sym, subst, inl, inr}
use Rattle.bx_image.specs.Power.{NoMore}
use Rattle.bx_journal.specs.Calls.{AfterFault}
use Rattle.bx_journal.specs.Fault.{DeviceFault}
use Rattle.bx_journal.specs.RecoveryOutcome.{RecoveryOutcome}
use Rattle.bx_journal.specs.RecoveryOutcome.TheVariants.{Clean, Dropped, Restored}
use Rattle.bx_journal.specs.Images.{Images}
use Rattle.bx_journal.specs.SessionFault.{SessionFault}
use Rattle.bx_journal.specs.SessionFault.TheVariants.{NoMemory, TooLarge, DeviceFailed, Damaged, TooFew, JournalFull, Interrupted, Broken, LengthDiffers, NothingToRedo, RedoDamaged}
use Rattle.bx_cli_commands.specs.Refusal.{IsWholeRefusal}
use Rattle.bx_cli_commands.specs.declared.command.Reply.{Reply}
use Rattle.bx_cli_commands.specs.declared.command.Reply.TheVariants.{Changed, Copied, Redone, Refused, Undone}
use Rattle.bx_cli_commands.specs.declared.fault.Fault.TheVariants.{Session}
use Rattle.bx_world.specs.World.{SystemState}
use Rattle.bx_world.specs.files.Files.{LeavesFiles}
use Rattle.bx_world.specs.declared.files.names.Names.{Names}
use Rattle.bx_world.specs.declared.files.unopened.OpenError.{OpenError}
use Rattle.bx_run_session.specs.declared.session.task.Task.{Task}
use Rattle.bx_run_session.specs.session.Contents.{Contents, Does, IsUnopened, Spared, StepsRead, StepsTo, SurvivesFound}
use Rattle.bx_run_session.specs.session.Named.{IsUnrecovered, LeavesRefused, MayRefuse, contents_of}

-- a device's fault leaves what a refusal leaves
pub spared : (A B : Type 0) (e : SessionFault) → DeviceFault e → AfterFault e A B → B
spared A B NoMemory is after = after
spared A B DeviceFailed is after = after
spared A B TooLarge is after = absurd is
spared A B (Damaged line) is after = absurd is
spared A B (TooFew have) is after = absurd is
spared A B JournalFull is after = absurd is
spared A B Interrupted is after = absurd is
spared A B Broken is after = absurd is
spared A B (LengthDiffers expected) is after = absurd is
spared A B (NothingToRedo have) is after = absurd is
spared A B (RedoDamaged line) is after = absurd is

-- and so does each fault of a task that was refused
pub spared_whole : (A B : Type 0) (e : SessionFault) → (Session e ≡ Session Interrupted → ⊥) → AfterFault e A B → B
spared_whole A B NoMemory whole after = after
spared_whole A B DeviceFailed whole after = after
spared_whole A B TooLarge whole after = after
spared_whole A B (Damaged line) whole after = after
spared_whole A B (TooFew have) whole after = after
spared_whole A B JournalFull whole after = after
spared_whole A B Interrupted whole after = absurd (whole refl)
spared_whole A B Broken whole after = after
spared_whole A B (LengthDiffers expected) whole after = after
spared_whole A B (NothingToRedo have) whole after = after
spared_whole A B (RedoDamaged line) whole after = after

-- one that wasn't refused was stopped in the middle
pub stopped_amid : (A B : Type 0) (e : SessionFault) → ((Session e ≡ Session Interrupted → ⊥) → ⊥) → AfterFault e A B → A
stopped_amid A B Interrupted stopped after = after
stopped_amid A B e stopped after = absurd (stopped (λ wrong. cc))

uninterrupted : (e : SessionFault) → DeviceFault e → Session e ≡ Session Interrupted → ⊥
uninterrupted Interrupted is same = is
uninterrupted e is same = cc

-- an opening that was refused is refused in whole
unopened_whole : (reply : Reply) → IsUnopened reply → IsWholeRefusal reply
unopened_whole reply un = rw un.1 (uninterrupted un.0 un.2)

module _ {R : Type 0} (remaining : R → Option (List ℕ)) where
  pub unrefused : (s : Images) (c : Task R) (reply : Reply) (new : Contents) → Does remaining s c reply new → (IsWholeRefusal reply → ⊥)
      → StepsTo remaining s c reply new
  unrefused s c reply new does stopped = elim does [
    | inl un ↦ absurd (stopped (unopened_whole reply un.0))
    | inr made ↦ made
  ]

  pub why_refused : (s : Images) (c : Task R) (reply : Reply) (new : Contents) → Does remaining s c reply new → MayRefuse remaining s c reply
  why_refused s c reply new does = elim does [
    | inl un ↦ inl un.0
    | inr made ↦ inr (made.0, made.1)
  ]

  -- where no more is found, what is found of a task that began on what opening found stays so
  pub endures_less : (s : Images) (c : Task R) (how : Option RecoveryOutcome) (reply : Reply) (image journal redo now_image now_journal now_redo : List ℕ → Type 0)
      → NoMore image now_image → NoMore journal now_journal → NoMore redo now_redo → SurvivesFound remaining s c how reply image journal redo
      → SurvivesFound remaining s c how reply now_image now_journal now_redo
  endures_less s c (Some h) reply image journal redo now_image now_journal now_redo first second third endures =
      λ x text redo_text there text_there redo_there. endures x text redo_text (first x there) (second text text_there) (third redo_text redo_there)
  endures_less s c None reply image journal redo now_image now_journal now_redo first second third endures =
      λ x text redo_text there text_there redo_there. endures x text redo_text (first x there) (second text text_there) (third redo_text redo_there)

  -- the same between contents that are equal
  pub read_between : (c : Task R) (how : Option RecoveryOutcome) (reply : Reply) (before after old new : Contents) → before ≡ old → new ≡ after
      → IfSome how (λ h. StepsRead remaining c h reply before after) → IfSome how (λ h. StepsRead remaining c h reply old new)
  read_between c how reply before after old new first last steps =
      subst (λ x. IfSome how (λ h. StepsRead remaining c h reply x new)) first
      (subst (λ x. IfSome how (λ h. StepsRead remaining c h reply before x)) (sym last) steps)

-- what was held is left, where nothing was recovered
pub same_spared : (how : Option RecoveryOutcome) (old new : Contents) → IsUnrecovered how → Spared how old new → new ≡ old
same_spared None old new is spared = spared
same_spared (Some Clean) old new is spared = spared
same_spared (Some Dropped) old new is spared = absurd (let wrong : Dropped ≡ Clean = is in cc)
same_spared (Some (Restored n)) old new is spared = absurd (let wrong : Restored n ≡ Clean = is in cc)

-- files are taken away where the task was refused and nothing was recovered, or not
pub is_cleared : (reply : Reply) (how : Option RecoveryOutcome) → (IsWholeRefusal reply × IsUnrecovered how) ⊎ (IsWholeRefusal reply → IsUnrecovered how → ⊥)
is_cleared (Changed n) how = inr (λ whole is. whole)
is_cleared (Copied n counts) how = inr (λ whole is. whole)
is_cleared (Undone n) how = inr (λ whole is. whole)
is_cleared (Redone n) how = inr (λ whole is. whole)
is_cleared (Refused (Session Interrupted)) how = inr (λ whole is. whole refl)
is_cleared (Refused e) None = inl ((λ wrong. cc), tt)
is_cleared (Refused e) (Some Clean) = inl ((λ wrong. cc), refl)
is_cleared (Refused e) (Some Dropped) = inr (λ whole is. (let wrong : Dropped ≡ Clean = is in cc))
is_cleared (Refused e) (Some (Restored n)) = inr (λ whole is. (let wrong : Restored n ≡ Clean = is in cc))

-- files whose three hold what they held, or what was recovered
pub left_refused : (u : Option OpenError) (how : Option RecoveryOutcome) (names : Names) (before after : Contents) (old new : SystemState) → before ≡ contents_of names old
    → contents_of names new ≡ after → Spared how before after → (IsUnrecovered how → after ≡ before → LeavesFiles old new)
    → LeavesRefused names u how old new
left_refused u how names before after old new first last spared leaves = record {
  files = λ is. leaves is (same_spared how before after is spared);
  contents = λ opened. subst (λ c. Spared how c (contents_of names new)) first (subst (λ c. Spared how before c) (sym last) spared);
}
