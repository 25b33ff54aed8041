-- A change with which a history begins anew, whose image is missing and isn't made.
use Rattle.std.proofs.Common.{◌≡◌, ◌∙◌, ◌<◌, ◌≤◌, ◌++◌, ℕ, Bool, true, List, [], Option, Some, None, refl, sym, append-nil, inl, inr, arith}
use Rattle.std.specs.Prelude.{IfSome}
use Rattle.bx_cli_commands.specs.declared.command.Reply.TheVariants.{Refused}
use Rattle.bx_cli_commands.specs.declared.fault.Fault.TheVariants.{OpenFailed}
use Rattle.bx_world.specs.World.{NothingNewBelow, SystemState}
use Rattle.bx_world.specs.files.Files.{AreAllThere}
use Rattle.bx_world.specs.files.Reasons.{MayRefuseOpening}
use Rattle.bx_world.specs.declared.files.guard.Guard.{Guard}
use Rattle.bx_world.specs.declared.files.names.Names.{Names}
use Rattle.bx_world.specs.declared.files.unopened.OpenError.{OpenError}
use Rattle.bx_world.specs.declared.files.unopened.FileRole.TheVariants.{Image}
use Rattle.bx_world.specs.declared.files.unopened.OpenFailure.{OpenFailure}
use Rattle.bx_run_session.specs.session.Guarded.{another}
use Rattle.bx_run_session.specs.session.Named.{contents_of, is_missing, no_change}
use Rattle.bx_run_session.specs.declared.session.named.Answer.{Answer}
use Rattle.bx_run_session.specs.declared.session.task.Task.{Task}
use Rattle.bx_run.specs.run.Changing.{DoesChange}
use Rattle.bx_run.specs.renew.Renewal.{DoesRenew, KeepsNamed, MayDrop, NothingRenewed, RenewsFiles, SurvivesRenewing, TellsOpening, only_told}
use Rattle.bx_run_model.specs.RunState.{RunState}
use Rattle.bx_run.specs.declared.renew.Renewed.{Renewed}
use Rattle.bx_run.specs.declared.renew.Renewed.TheVariants.{Kept}
use Rattle.bx_run_session.proofs.Begun.{never_another, unopened_judged}
use Rattle.bx_run.proofs.Ending.{leaves_same}
use Rattle.bx_run_session.proofs.Files.{none_left}
use Rattle.bx_run.proofs.Renewing.{keeps_itself, keeps_one}

-- the answer where a file isn't opened
abbrev pub unopened_answer : OpenError → Answer
unopened_answer u = record { reply = Refused OpenFailed; unopened = Some u; how = None }

-- such an answer lets nothing be dropped
pub keeps_unmade : (u : OpenError) → (u ≡ another → ⊥) → MayDrop (unopened_answer u) → ⊥
keeps_unmade u other may = elim may [
  | inl drop ↦ drop
  | inr is ↦ other is
]

module _ {R : Type 0} (remaining : R → Option (List ℕ)) (names : Names) (guard : Guard) (task : Task R) (u : OpenError) where
  does_unmade : (old new : SystemState) → new ≡ old → (u ≡ another → ⊥) → DoesChange remaining names no_change (unopened_answer u) old new
  does_unmade old new same other = record {
    done = λ s holds. tt;
    refused = λ whole. record {
      why = λ s holds wrong. absurd (let no : Some u ≡ None = wrong in cc);
      left = record { files = λ is. leaves_same old new same; contents = λ opened. absurd (other opened) };
    };
    interrupted = λ s holds wrong. absurd (let no : Refused OpenFailed ≡ _ = wrong in cc);
    stands = λ unfailed. tt;
    how = record { told = λ r reads. tt; none = λ s holds. tt; some = tt };
    recovered = λ s found wrong. absurd (let no : Some u ≡ None = wrong in cc);
  }

  -- nothing is done
  pub renews_unmade : (old new : RunState) → new.state ≡ old.state → new.note ≡ old.note
      → MayRefuseOpening names guard.mounted true (old.refusals < new.refusals) old.state u
      → RenewsFiles remaining names guard task (Kept (unopened_answer u)) old new
  renews_unmade old new same note why =
      let other : u ≡ another → ⊥ = never_another names guard.mounted true (old.refusals < new.refusals) old.state u why in
      record {
        made = None;
        begun = old;
        ended = new;
        makes = refl;
        same = refl;
        noted = refl;
        does = (
          keeps_unmade u other,
          does_unmade old.state new.state same other,
          unopened_judged (only_told guard) true (is_missing names.image old.state) old.note (contents_of names old.state) no_change names
              (old.refusals < new.refusals) old.state u why,
          none_left names old.state new.state (leaves_same old.state new.state same),
          record { unbegun = note; cleared = λ whole none empty. inl note },
        );
        clears = refl;
        left = refl;
        note_left = inr ((λ wrong. wrong), refl);
        image = λ refused missing stuck empty. rw same missing;
        kept = λ whole is. leaves_same old.state new.state same;
      }

  -- nor is anything found after a loss of power
  pub survives_unmade : (old new : SystemState) (found left : ℕ → List ℕ → Type 0) → NothingNewBelow old.there found left
      → SurvivesRenewing remaining names task (Kept (unopened_answer u)) old new found left
  survives_unmade old new found left nothing = record {
    made = None;
    begun = old;
    ended = new;
    makes = refl;
    clears = refl;
    survives = record {
      holds = λ s holds stopped. absurd (stopped (λ wrong. cc));
      finds = λ s found stopped. absurd (stopped (λ wrong. cc));
      refused = λ whole is n below x there low. nothing n low x there;
      settled = λ whole other. absurd (other tt);
    };
  }

-- all files are as they were
pub nothing_unmade : (u : OpenError) (why : OpenFailure) (old new : SystemState) → u ≡ record { which = Image; why = why } → new ≡ old
    → NothingRenewed (Kept (unopened_answer u)) old new u
nothing_unmade u why old new is same = (refl, leaves_same old new same)

pub keeps_unmade_files : (names : Names) (old new : SystemState) → AreAllThere old → new ≡ old → KeepsNamed names old new
keeps_unmade_files names old new within same = rw same (keeps_one names old old within (keeps_itself names old))

pub tells_unmade : (u : OpenError) (old new : SystemState) → new ≡ old → TellsOpening (Kept (unopened_answer u)) old new
tells_unmade u old new same =
    rw same (record { output = refl; errors = (0, sym (append-nil old.errors)); lent = refl; before = refl })
