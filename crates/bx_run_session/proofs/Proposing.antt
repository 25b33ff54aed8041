-- What is proposed of an image alone, in steps of the machine.
use Rattle.std.proofs.Common.{◌≡◌, ℕ, Bool, List, length, Option, None, Some, Ok, Err, refl, inl, inr, subst, arith}
use Rattle.std.specs.Global.{Global}
use Rattle.bx_image.specs.Change.{Fits, effect}
use Rattle.bx_image.specs.declared.change.Change.{Change}
use Rattle.bx_image.specs.declared.change.TheConstants.{MAX_LEN}
use Rattle.bx_dd.specs.declared.counts.Counts.{Counts}
use Rattle.bx_dd.specs.declared.fault.DdFault.{DdFault}
use Rattle.bx_dd.specs.declared.operands.plan.Plan.{Plan}
use Rattle.bx_patch.specs.Patch.{Agrees, patch_change}
use Rattle.bx_patch.specs.Read.{asked_of}
use Rattle.bx_patch.specs.declared.read.patch.Patch.{Patch}
use Rattle.bx_journal.specs.Forgotten.{only}
use Rattle.bx_journal.specs.Images.{change_to}
use Rattle.bx_journal.specs.SessionFault.TheVariants.{TooLarge}
use Rattle.bx_cli_commands.specs.Copy.{MakesBy}
use Rattle.bx_cli_commands.specs.Replies.{counted_by, stands_by}
use Rattle.bx_cli_commands.specs.Growth.{LengthensNot}
use Rattle.bx_cli_commands.specs.Run.{answered, made_reply}
use Rattle.bx_cli_commands.specs.Standing.{PerformUp, Standing}
use Rattle.bx_cli_commands.specs.declared.command.Command.TheVariants as command
use Rattle.bx_cli_commands.specs.declared.command.Kept.{Kept}
use Rattle.bx_cli_commands.specs.declared.command.Kept.TheVariants as kept_as
use Rattle.bx_cli_commands.specs.declared.changes.DdChange.{DdChange}
use Rattle.bx_cli_commands.specs.declared.fault.Fault.TheVariants.{Dd, Disagrees, Grows}
use Rattle.bx_run_session.specs.preview.Previews.{MakesFirst, Refuses, StopsBefore}
use Rattle.bx_run_session.specs.preview.Proposed.{IsGrown, IsKeptChange, IsProposedChange, IsTooLong, IsUnagreed, IsUnkept, HasNoChange}
use Rattle.bx_run_session.specs.declared.session.task.Task.{Task}
use Rattle.bx_run_session.specs.declared.session.task.Task.TheVariants.{Keep, Run}
use Rattle.bx_run_session.specs.declared.preview.error.PreviewError.{PreviewError}
use Rattle.bx_run_session.specs.declared.preview.error.PreviewError.TheVariants.{Refused, Stopped, Unfitting, Unopened}

stands_made : (counts : Option Counts) → stands_by (made_reply counts 1) ≡ Ok 1
stands_made None = refl
stands_made (Some counts) = refl

counts_made : (counts : Option Counts) → counts ≡ counted_by (made_reply counts 1)
counts_made None = refl
counts_made (Some counts) = refl

module _ {R : Type 0} (remaining : R → Option (List ℕ)) (x : List ℕ) where
  -- of a patch with which the image doesn't agree
  pub unagreed : (patch : Patch Global) (why : PreviewError) → IsUnagreed (asked_of patch) x why → HasNoChange remaining (Run (command.Patch patch)) x why
  unagreed patch (Refused (Disagrees other)) is = (tt, inr (inr (Some other, is, (refl, refl))))
  unagreed patch (Stopped fault) is = is
  unagreed patch why is = absurd is

  -- of a plan, and what it makes of its input
  pub of_copy : (plan : Plan Global) (input : R) (left : Option (List ℕ)) (made : DdChange Global) → MakesBy plan (remaining input) left (Ok made)
      → IsProposedChange remaining (Run (command.Copy plan input)) x made.change (Some made.counts)
  of_copy plan input left made is r after step = (left, (Ok made, (is, (r, refl, step))))

  pub uncopied : (plan : Plan Global) (input : R) (left : Option (List ℕ)) (fault : DdFault) → MakesBy plan (remaining input) left (Err fault)
      → Refuses remaining (Run (command.Copy plan input)) x (Dd fault)
  uncopied plan input left fault is = (tt, (left, (Err fault, (is, (refl, refl)))))

  -- of a change that doesn't make the image longer
  pub of_kept : (kept : Kept Global) (change : Change Global) → IsKeptChange kept x change
      → IsProposedChange remaining (Keep kept) x change None
  of_kept (kept_as.Change c) change (is, not) r after step =
      let Perform : Change Global → Type 0 = λ c. PerformUp c (only x) r after in
      inr (inr (not, (r, refl, subst Perform is step)))
  of_kept (kept_as.Patch patch) change (is, agrees, not) r after step =
      let Perform : Change Global → Type 0 = λ c. PerformUp c (only x) r after in
      let Not : Change Global → Type 0 = λ c. LengthensNot c x in
      inr (None, agrees, inr (inr (subst Not is not, (r, refl, subst Perform is step))))

  grown : (c : Change Global) (why : PreviewError) → IsGrown c x why → HasNoChange remaining (Keep (kept_as.Change c)) x why
  grown c (Refused (Grows has wanted)) is = (tt, inr (inl (Grows has wanted, refl, is, refl)))
  grown c (Stopped fault) is = is
  grown c why is = absurd is

  grown_behind : (patch : Patch Global) (why : PreviewError) → Agrees (asked_of patch) x → IsGrown (patch_change {A = Global} (asked_of patch)) x why
      → HasNoChange remaining (Keep (kept_as.Patch patch)) x why
  grown_behind patch (Refused (Grows has wanted)) agrees is = (tt, inr (None, agrees, inr (inl (Grows has wanted, refl, is, refl))))
  grown_behind patch (Stopped fault) agrees is = is
  grown_behind patch why agrees is = absurd is

  disagreed : (patch : Patch Global) (why : PreviewError) → IsUnagreed (asked_of patch) x why → HasNoChange remaining (Keep (kept_as.Patch patch)) x why
  disagreed patch (Refused (Disagrees other)) is = (tt, inr (Some other, is, (refl, refl)))
  disagreed patch (Stopped fault) is = is
  disagreed patch why is = absurd is

  -- of one that does, or of a patch with which the image doesn't agree
  pub unkept : (kept : Kept Global) (why : PreviewError) → IsUnkept kept x why → HasNoChange remaining (Keep kept) x why
  unkept (kept_as.Change c) why is = grown c why is
  unkept (kept_as.Patch patch) why (inl is) = disagreed patch why is
  unkept (kept_as.Patch patch) why (inr (agrees, is)) = grown_behind patch why agrees is

  module _ (task : Task R) (change : Change Global) (counts : Option Counts) (is : IsProposedChange remaining task x change counts) where
    -- a change that fits is made as the first one
    pub makes : Fits change (length x) MAX_LEN → MakesFirst remaining task x counts (effect change x)
    makes fits = record {
      reply = answered (made_reply counts) (Ok 1);
      next = change_to (effect change x) (only x);
      step = is (Ok 1) (Standing.Up (change_to (effect change x) (only x)))
          (change_to (effect change x) (only x), refl, (omega arith, fits, refl, refl), refl);
      stands = stands_made counts;
      counted = counts_made counts;
      newest = refl;
    }

    -- and one that doesn't is refused
    pub too_long : (keeps : Bool) (why : PreviewError) → IsTooLong change keeps x why → StopsBefore remaining task keeps x why
    too_long keeps (Refused fault) not = rw not.0 (tt, is (Err TooLarge) (Standing.Up (only x)) (refl, (omega arith, not.1, refl)))
    too_long keeps (Unfitting has wanted) not = (counts, effect change x, makes not.0, not.1, not.2, not.3, not.4)
    too_long keeps (Stopped fault) not = not
    too_long keeps (Unopened why) not = absurd not
