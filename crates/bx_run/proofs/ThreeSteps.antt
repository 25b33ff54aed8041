-- The steps of a change with which a history begins anew, and what they say of the files before the first.
use Rattle.std.proofs.Common.{◌<◌, ℕ, List, Err, arith}
use Rattle.std.specs.Prelude.{Option}
use Rattle.bx_journal.specs.Forgotten.{only}
use Rattle.bx_world.specs.World.{held}
use Rattle.bx_world.specs.declared.files.guard.Guard.{Guard}
use Rattle.bx_world.specs.declared.files.names.Names.{Names}
use Rattle.bx_run_session.specs.session.Named.{contents_of}
use Rattle.bx_run_session.specs.declared.session.named.Answer.{Answer}
use Rattle.bx_run_session.specs.declared.session.task.Task.{Task}
use Rattle.bx_run_report.specs.declared.report.error.ReportError.{ReportError}
use Rattle.bx_run.specs.forget.Forgetting.{IsNoTextNamed}
use Rattle.bx_run.specs.renew.Renewal.{DropsTexts, JudgesOpening, OpensToDrop, Renews, StaysUndropped, TakesSteps}
use Rattle.bx_run_model.specs.RunState.{RunState}
use Rattle.bx_run.proofs.Renewing.{changes_alone, holds_alone, holds_undropped, newest, texts_dropped, texts_refused}

module _ {R : Type 0} (remaining : R → Option (List ℕ)) (names : Names) where
  -- the change is asked for on the newest image alone
  pub renews : (guard : Guard) (task : Task R) (answer : Answer) (old new : RunState) → TakesSteps remaining names guard task answer old new
      → Renews remaining names guard task answer old new
  renews guard task answer old new steps =
      let first = steps.first.state in
      let second = steps.second.state in
      let image = held first names.image in
      let alone = holds_alone names first second steps.drops.does.done in
      let least = steps.opens.others.stuck in
      let same = steps.drops.others.stuck in
      record {
        steps = steps;
        image = image;
        newest = λ s holds. newest (contents_of names first) s (steps.opens.same s holds);
        found = steps.opens.found;
        spared = steps.opens.image;
        alone = changes_alone remaining names image task answer second new.state alone steps.changes;
        texts = λ whole. texts_refused names old.state first second new.state
            (texts_dropped names (IsNoTextNamed names first) old.state first second steps.opens.texts steps.drops.others) (omega (arith, least, same))
            ((steps.changes.refused whole).left.files (steps.changes.how.none (only image) alone));
      }

  -- the history was not dropped
  pub stays : (guard : Guard) (unseen : ReportError) (opened : Answer) (old first new : RunState) → OpensToDrop remaining names opened old.state first.state
      → JudgesOpening remaining guard old.note names old.state opened
      → DropsTexts guard names (Err unseen) first new → StaysUndropped remaining names guard unseen old new
  stays guard unseen opened old first new opens judged stops = record {
    opened = opened;
    first = first;
    opens = opens;
    judged = judged;
    stops = stops;
    same = λ s holds other. holds_undropped guard first.note names (first.refusals < new.refusals) first.state new.state unseen s stops.does.stopped other
        (opens.same s holds);
    texts = texts_dropped names (IsNoTextNamed names first.state) old.state first.state new.state opens.texts stops.others;
  }
