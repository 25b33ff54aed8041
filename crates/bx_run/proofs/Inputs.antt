-- The step by what an input asks is the one that puts the input onto the image.
use Rattle.std.proofs.Common.{ℕ, Bool, true, false, List, Option, None, Some, Result, Ok, Err, subst, sym}
use Rattle.std.specs.Global.{Global}
use Rattle.std.specs.Result.{IfOk, OnOk}
use Rattle.std.specs.Option.{IfSome}
use Rattle.bx_image.specs.declared.change.Change.{Change}
use Rattle.bx_read.specs.declared.fault.ReadFault.{ReadFault}
use Rattle.bx_dd.specs.declared.counts.Counts.{Counts}
use Rattle.bx_journal.specs.Forgotten.{only}
use Rattle.bx_journal.specs.Images.{Images}
use Rattle.bx_journal.specs.RecoveryOutcome.{RecoveryOutcome}
use Rattle.bx_cli_commands.proofs.PutTexts.{dump_is_put}
use Rattle.bx_cli_commands.specs.Inputs.{AsksByDump}
use Rattle.bx_cli_commands.specs.Replies.{stands_by}
use Rattle.bx_cli_commands.specs.Standing.{Standing}
use Rattle.bx_cli_commands.specs.declared.command.Reply.{Reply}
use Rattle.bx_world.specs.World.{SystemState}
use Rattle.bx_world.specs.declared.files.guard.Guard.{Guard}
use Rattle.bx_world.specs.declared.files.names.Names.{Names}
use Rattle.bx_run_session.specs.Edit.{IsEditOf, asked, task_by}
use Rattle.bx_run_session.specs.Input.{Input, InputStep, IsMadeOf, ReadWithin, read_as}
use Rattle.bx_run.specs.Laws.{EditIsPut}
use Rattle.bx_run_model.specs.RunState.{RunState}
use Rattle.bx_run_session.specs.declared.edit.Edit.{Edit}
use Rattle.bx_run_session.specs.declared.edit.Edit.TheVariants as edit
use Rattle.bx_run_session.specs.declared.edit.proposal.Proposal.{Proposal}
use Rattle.bx_run_session.specs.declared.preview.error.PreviewError.{PreviewError}
use Rattle.bx_run.specs.declared.renew.Renewed.{Renewed}
use Rattle.bx_run.specs.declared.renew.Renewed.TheVariants.{Kept, Undropped, Changed}
use Rattle.bx_run_session.specs.declared.session.named.Answer.{Answer}
use Rattle.bx_run.specs.run.Changing.{DoesChange}
use Rattle.bx_run_session.specs.preview.Previews.{DoesPreview}
use Rattle.bx_run.specs.renew.Renewal.{RenewsFiles}
use Rattle.bx_run.specs.run.Edits.{DoesEdit, PreviewsEdit, PreviewsInput, IsPutOn, PutsAnew, PutsFound, PutsInput, PutsRead, RenewsEdit}
use Rattle.bx_run_session.specs.session.Changes.{Changes}
use Rattle.bx_run_session.specs.session.Contents.{Contents, DoesFound, Holds, StepsRead}
use Rattle.bx_run_session.specs.session.Named.{contents_of}
use Rattle.bx_run_session.specs.session.Task.{TaskStep}
use Rattle.bx_run_session.proofs.Inputs.{of_input}

module _ {R : Type 0} (remaining : R → Option (List ℕ)) where
  -- what was read of a text that isn't to make the image longer
  within : (read : Result (Change Global) ReadFault) (before after : Standing) (reply : Reply)
      → TaskStep remaining before (task_by {R = R} (read_as true read)) reply after → ReadWithin before read reply after
  within (Ok change) before after reply step = step
  within (Err fault) before after reply step = step

  -- what was read of a text that may
  read_step : (read : Result (Change Global) ReadFault) (plain : Bool) (at : ℕ) (text : List ℕ) (before after : Standing) (reply : Reply)
      → AsksByDump plain at text read → TaskStep remaining before (task_by {R = R} (read_as false read)) reply after
      → InputStep false (Input.OfDump plain at text) before reply after
  read_step (Ok change) plain at text before after reply asks step = dump_is_put plain at text (Ok change) before after reply asks step
  read_step (Err fault) plain at text before after reply asks step = dump_is_put plain at text (Err fault) before after reply asks step

  proposal_is_put : (keeps : Bool) (input : Input) (proposal : Proposal) → IsMadeOf keeps input proposal → (before after : Standing) (reply : Reply)
      → TaskStep remaining before (task_by {R = R} proposal) reply after → InputStep keeps input before reply after
  proposal_is_put true (Input.OfDump plain at text) proposal (read, asks, is) before after reply step =
      let Step : Proposal → Type 0 = λ p. TaskStep remaining before (task_by {R = R} p) reply after in
      (read, asks, within read before after reply (subst Step is step))
  proposal_is_put false (Input.OfDump plain at text) proposal (read, asks, is) before after reply step =
      let Step : Proposal → Type 0 = λ p. TaskStep remaining before (task_by {R = R} p) reply after in
      read_step read plain at text before after reply asks (subst Step is step)
  proposal_is_put true (Input.OfPatch turned text) proposal (patch, asks, is) before after reply step =
      let Step : Proposal → Type 0 = λ p. TaskStep remaining before (task_by {R = R} p) reply after in
      (_, asks, subst Step is step)
  proposal_is_put false (Input.OfPatch turned text) proposal (patch, asks, is) before after reply step =
      let Step : Proposal → Type 0 = λ p. TaskStep remaining before (task_by {R = R} p) reply after in
      (_, asks, subst Step is step)
  proposal_is_put true (Input.OfCopy plan given left counts) proposal (bytes, copies, is) before after reply step =
      let Step : Proposal → Type 0 = λ p. TaskStep remaining before (task_by {R = R} p) reply after in
      (bytes, copies, subst Step is step)
  proposal_is_put false (Input.OfCopy plan given left counts) proposal (bytes, copies, is) before after reply step =
      let Step : Proposal → Type 0 = λ p. TaskStep remaining before (task_by {R = R} p) reply after in
      (bytes, copies, subst Step is step)

  pub edit_is_put : EditIsPut remaining
  edit_is_put keeps input (edit.Read read) made before after reply step = proposal_is_put keeps input _ made before after reply step
  edit_is_put keeps input (edit.Copy plan given) made before after reply step = absurd made

  module _ (edit : Edit R) (keeps : Bool) (input : Input) (is : IsEditOf keeps input edit) where
    puts : (s : Images) (reply : Reply) (new : Contents) (left : ℕ) → Changes remaining s (asked edit) reply new left → IsPutOn keeps input s reply new left
    puts s reply new left did = record {
      next = did.next;
      step = edit_is_put keeps input edit is _ _ reply did.step;
      files = did.files;
      standing = did.standing;
    }

    if_puts : {E : Type 0} (s : Images) (reply : Reply) (new : Contents) (outcome : Result ℕ E)
        → IfOk outcome (Changes remaining s (asked edit) reply new) → IfOk outcome (IsPutOn keeps input s reply new)
    if_puts s reply new (Ok left) did = puts s reply new left did
    if_puts s reply new (Err e) did = did

    puts_read : (how : Option RecoveryOutcome) (reply : Reply) (old new : Contents)
        → IfSome how (λ how. StepsRead remaining (asked edit) how reply old new) → IfSome how (λ how. PutsRead keeps input how reply old new)
    puts_read (Some how) reply old new did = record {
      before = did.before;
      next = did.next;
      read = did.read;
      step = edit_is_put keeps input edit is _ _ reply did.step;
      ends = did.ends;
    }
    puts_read None reply old new did = did

    puts_found : (s : Images) (how : Option RecoveryOutcome) (reply : Reply) (new : Contents)
        → DoesFound remaining s (asked edit) how reply new → PutsFound keeps input s how reply new
    puts_found s (Some how) reply new (after, step, ends) = (after, edit_is_put keeps input edit is _ after reply step, ends)
    puts_found s None reply new did = tt

    pub puts_input : (names : Names) (answer : Answer) (old new : SystemState) → DoesChange remaining names (asked edit) answer old new
        → PutsInput keeps input names answer old new
    puts_input names answer old new did = record {
      done = λ s holds. if_puts s answer.reply (contents_of names new) (stands_by answer.reply) (did.done s holds);
      stands = λ fine. puts_read answer.how answer.reply (contents_of names old) (contents_of names new) (did.stands fine);
      recovered = λ s found opened. puts_found s answer.how answer.reply (contents_of names new) (did.recovered s found opened);
    }

    pub puts_anew : (names : Names) (guard : Guard) (renewed : Renewed) (old new : RunState)
        → RenewsFiles remaining names guard (asked edit) renewed old new → PutsAnew keeps input names renewed old.state new.state
    puts_anew names guard (Kept answer) old new did = tt
    puts_anew names guard (Undropped unseen) old new did = tt
    puts_anew names guard (Changed answer) old new did = record {
      image = did.does.image;
      newest = λ s holds. did.does.newest s (subst (λ (c : Contents). Holds c s) (sym did.same) holds);
      done = if_puts (only did.does.image) answer.reply (contents_of names new.state) (stands_by answer.reply)
          (subst (λ (c : Contents). IfOk (stands_by answer.reply) (Changes remaining (only did.does.image) (asked edit) answer.reply c)) (sym did.left)
          did.does.alone.done);
    }

    pub puts_preview : (name : List ℕ) (outcome : Result (Option Counts) PreviewError) (old new : RunState)
        → DoesPreview remaining name (asked edit) outcome old new
        → OnOk outcome (PreviewsInput keeps input name old.state old.written new.written)
    puts_preview name (Ok counts) old new (may, writes) =
        let makes = writes.1 in (
          writes.0,
          record {
            reply = makes.reply;
            next = makes.next;
            step = edit_is_put keeps input edit is _ _ makes.reply makes.step;
            stands = makes.stands;
            newest = makes.newest;
          },
          writes.3,
        )
    puts_preview name (Err e) old new did = tt

  pub does_edit : (edit : Edit R) (names : Names) (answer : Answer) (old new : SystemState) → DoesChange remaining names (asked edit) answer old new
      → DoesEdit remaining edit names answer old new
  does_edit edit names answer old new did = record {
    does = did;
    made = of_input remaining edit;
    puts = λ keeps input is. puts_input edit keeps input is names answer old new did;
  }

  pub renews_edit : (edit : Edit R) (names : Names) (guard : Guard) (renewed : Renewed) (old new : RunState)
      → RenewsFiles remaining names guard (asked edit) renewed old new → RenewsEdit remaining edit names guard renewed old new
  renews_edit edit names guard renewed old new did = record {
    does = did;
    made = of_input remaining edit;
    puts = λ keeps input is. puts_anew edit keeps input is names guard renewed old new did;
  }

  pub previews_edit : (edit : Edit R) (name : List ℕ) (outcome : Result (Option Counts) PreviewError) (old new : RunState)
      → DoesPreview remaining name (asked edit) outcome old new → PreviewsEdit remaining edit name outcome old new
  previews_edit edit name outcome old new did = record {
    does = did;
    made = of_input remaining edit;
    puts = λ keeps input is. puts_preview edit keeps input is name outcome old new did;
  }
