-- What is found after a loss of power behind a change with which a history begins anew, where no more is found.
use Rattle.std.proofs.Common.{◌≡◌, ◌⊎◌, ◌<◌, ℕ, Option, Some, None, List, inl, inr}
use Rattle.std.specs.Prelude.{IfSome}
use Rattle.bx_image.specs.Power.{NoMore}
use Rattle.bx_journal.specs.RecoveryOutcome.{RecoveryOutcome}
use Rattle.bx_journal.specs.Images.{Images}
use Rattle.bx_journal.specs.SessionFault.TheVariants.{Interrupted}
use Rattle.bx_journal.specs.Redo.{recovered_as}
use Rattle.bx_cli_commands.specs.declared.fault.Fault.TheVariants.{Session}
use Rattle.bx_world.specs.World.{NothingNewBelow, NothingNewFound, SystemState}
use Rattle.bx_world.specs.declared.files.names.Names.{Names}
use Rattle.bx_run_session.specs.session.Named.{no_change}
use Rattle.bx_run_session.specs.declared.session.task.Task.{Task}
use Rattle.bx_run.specs.forget.Forgetting.{Held}
use Rattle.bx_run_report.specs.declared.report.error.ReportError.{ReportError}
use Rattle.bx_run_report.specs.declared.report.error.ReportError.TheVariants.{Stopped}
use Rattle.bx_run.specs.renew.Renewal.{LosesUndropped, SurvivesRenewal, found_there}
use Rattle.bx_run.specs.declared.renew.Renewed.{Renewed}
use Rattle.bx_run.specs.declared.renew.Renewed.TheVariants.{Kept, Undropped, Changed}
use Rattle.bx_run_session.proofs.Refused.{endures_less}

loses_less : (unseen : ReportError) (first : Held) (s : Images) (image journal redo now_image now_journal now_redo : List ℕ → Type 0)
    → NoMore image now_image → NoMore journal now_journal → NoMore redo now_redo → LosesUndropped unseen first s image journal redo
    → LosesUndropped unseen first s now_image now_journal now_redo
loses_less (Stopped (Session Interrupted)) first s image journal redo now_image now_journal now_redo one two three loses = record {
  image_found = λ x there. loses.image_found x (one x there);
  texts = record {
    journal_part = λ x there. loses.texts.journal_part x (two x there);
    redo_part = λ x there. loses.texts.redo_part x (three x there);
    redo_first = elim loses.texts.redo_first [
      | inl whole ↦ inl (λ x there. whole x (two x there))
      | inr empty ↦ inr (λ x there. empty x (three x there))
    ];
  };
  finds = λ x text redo_text there text_there redo_there. loses.finds x text redo_text (one x there) (two text text_there) (three redo_text redo_there);
}
loses_less unseen first s image journal redo now_image now_journal now_redo one two three loses =
    λ x text redo_text there text_there redo_there. loses x text redo_text (one x there) (two text text_there) (three redo_text redo_there)

loses_how : (unseen : ReportError) (first : Held) (s : Images) (how : Option RecoveryOutcome) (image journal redo now_image now_journal now_redo : List ℕ → Type 0)
    → NoMore image now_image → NoMore journal now_journal → NoMore redo now_redo
    → IfSome how (λ h. LosesUndropped unseen first (recovered_as h s) image journal redo)
    → IfSome how (λ h. LosesUndropped unseen first (recovered_as h s) now_image now_journal now_redo)
loses_how unseen first s None image journal redo now_image now_journal now_redo one two three loses = tt
loses_how unseen first s (Some h) image journal redo now_image now_journal now_redo one two three loses =
    loses_less unseen first (recovered_as h s) image journal redo now_image now_journal now_redo one two three loses

-- where less is found, and of files that were there before nothing that wasn't found before
pub renewal_less : {R : Type 0} (remaining : R → Option (List ℕ)) (names : Names) (task : Task R) (renewed : Renewed) (there : ℕ) (begun ended : SystemState)
    (found first last left : ℕ → List ℕ → Type 0) → NothingNewBelow there found first → NothingNewFound last left
    → SurvivesRenewal remaining names task renewed begun ended first last
    → SurvivesRenewal remaining names task renewed begun ended (found_there there found) left
renewal_less remaining names task (Kept answer) there begun ended found first last left before behind is = record {
  holds = λ s holds stopped t led x text redo image_there text_there redo_there.
      is.holds s holds stopped t led x text redo (behind t.image x image_there) (behind t.journal text text_there) (behind t.redo redo redo_there);
  finds = λ s finds stopped t led.
      endures_less remaining s no_change answer.how answer.reply _ _ _ _ _ _ (behind t.image) (behind t.journal) (behind t.redo)
      (is.finds s finds stopped t led);
  refused = λ whole un n below x is_left low. before n low x (is.refused whole un n below x (behind n x is_left));
  settled = λ whole other t led. record {
    image = λ x is_left. (is.settled whole other t led).image x (behind t.image x is_left);
    journal = λ x is_left. (is.settled whole other t led).journal x (behind t.journal x is_left);
    redo = λ x is_left. (is.settled whole other t led).redo x (behind t.redo x is_left);
  };
}
renewal_less remaining names task (Undropped unseen) there begun ended found first last left before behind is = record {
  opened = is.opened;
  first = is.first;
  opens = is.opens;
  found = λ s holds t led.
      loses_less unseen _ s _ _ _ _ _ _ (behind t.image) (behind t.journal) (behind t.redo) (is.found s holds t led);
  finds = λ s finds stopped t led.
      loses_how unseen _ s is.opened.how _ _ _ _ _ _ (behind t.image) (behind t.journal) (behind t.redo) (is.finds s finds stopped t led);
}
renewal_less remaining names task (Changed answer) there begun ended found first last left before behind is = record {
  opened = is.opened;
  first = is.first;
  opens = is.opens;
  newest = is.newest;
  found = λ stopped t led x text redo image_there text_there redo_there.
      is.found stopped t led x text redo (behind t.image x image_there) (behind t.journal text text_there) (behind t.redo redo redo_there);
}
