use Rattle.std.proofs.Common.{◌∙◌, sym, arith}
use Rattle.std.proofs.lemmas.Bool.{false≢true}
use Rattle.bx_journal.specs.Forgotten.{only}
use Rattle.bx_world.specs.World.{held}
use Rattle.bx_world.specs.files.Files.{AreAllThere}
use Rattle.bx_run.specs.forget.Forgetting.{IsNoTextNamed}
use Rattle.bx_run_session.specs.session.Named.{contents_of}
use Rattle.bx_run_model.specs.RunState.{run_state_beside}
use Rattle.bx_run.proofs.Cleared.{kept_refused}
use Rattle.bx_run.proofs.Ending.{nothing_kept}
use Rattle.bx_run.proofs.Renewing.{found_undropped, holds_alone, keeps_itself, keeps_named, keeps_one, newest, recovered_undropped, says_changed, says_dropped}
use Rattle.bx_run.proofs.ThreeSteps.{renews, stays}
use Rattle.bx_run.proofs.renew.take_steps.Goals as goal

pub returns-then-not-may_drop-clause-does : goal.returns-then-not-may_drop-clause-does
returns-then-not-may_drop-clause-does g c old written = (
  (λ may. absurd (false≢true (sym c.if-not-may_drop.true ∙ c.may_drop.ensures.1 may))),
  c.open_to_drop-opened.ensures.does old,
  c.open_to_drop-opened.ensures.judged old,
  c.open_to_drop-opened.ensures.texts old,
  c.open_to_drop-opened.ensures.note old,
)

pub returns-then-not-may_drop-clause-others : goal.returns-then-not-may_drop-clause-others
returns-then-not-may_drop-clause-others g c old =
    keeps_one c.args.names.now (g.W.World.state c.args.world.now) (g.W.World.state c.open_to_drop-opened.new.world) (λ name n e. g.met.W.World.within c.args.world.now name n old e) (c.open_to_drop-opened.ensures.others old)

pub returns-in-Ok-clause-does : goal.returns-in-Ok-clause-does
returns-in-Ok-clause-does g c old written =
    let may = c.may_drop.ensures.0 c.if-not-may_drop.false in
    let mid = c.open_to_drop-opened.ensures.faith.1 old in
    let behind = c.forget_files.ensures.faith.1 mid in
    let did = c.change_files.ensures in
    renews g.R.Read.remaining c.args.names.now c.args.guard c.args.task c.change_files.result _ _ (record {
      opened = c.open_to_drop-opened.result;
      first = run_state_beside g.W.World.state g.W.World.refusals g.W.World.note written c.open_to_drop-opened.new.world;
      second = run_state_beside g.W.World.state g.W.World.refusals g.W.World.note written c.forget_files.new.world;
      opens = c.open_to_drop-opened.ensures.opens old may;
      judged = c.open_to_drop-opened.ensures.judged old;
      drops = record {
        does = record { may = c.in-Ok.ensures.may mid; done = c.in-Ok.ensures.done mid; stopped = tt };
        others = c.forget_files.ensures.others mid;
      };
      changes = record {
        done = did.done behind;
        refused = did.refused behind;
        interrupted = did.interrupted behind;
        stands = did.stands behind;
        how = did.how behind;
        recovered = did.recovered behind;
      };
      others = (did.rest behind).others;
      unopened = did.why_unopened behind;
    })

pub returns-in-Ok-clause-survives : goal.returns-in-Ok-clause-survives
returns-in-Ok-clause-survives g c old =
    let may = c.may_drop.ensures.0 c.if-not-may_drop.false in
    let mid = c.open_to_drop-opened.ensures.faith.1 old in
    let behind = c.forget_files.ensures.faith.1 mid in
    let opens = c.open_to_drop-opened.ensures.opens old may in
    let names = c.args.names.now in
    let first = g.W.World.state c.open_to_drop-opened.new.world in
    let second = g.W.World.state c.forget_files.new.world in
    let image = held first names.image in
    record {
      opened = c.open_to_drop-opened.result;
      first = first;
      opens = opens;
      newest = λ s holds. newest (contents_of names first) s (opens.same s holds);
      found = (c.change_files.ensures.survives behind).holds (only image) (holds_alone names first second (c.in-Ok.ensures.done mid));
    }

pub returns-in-Ok-clause-others : goal.returns-in-Ok-clause-others
returns-in-Ok-clause-others g c old =
    let mid = c.open_to_drop-opened.ensures.faith.1 old in
    let behind = c.forget_files.ensures.faith.1 mid in
    let within : AreAllThere (g.W.World.state c.args.world.now) = λ name n e. g.met.W.World.within c.args.world.now name n old e in
    let first_within : AreAllThere (g.W.World.state c.open_to_drop-opened.new.world) =
    λ name n e. g.met.W.World.within c.open_to_drop-opened.new.world name n mid e in
    keeps_named c.args.names.now (g.W.World.state c.args.world.now) (g.W.World.state c.open_to_drop-opened.new.world)
    (g.W.World.state c.forget_files.new.world) (g.W.World.state c.change_files.new.world) within first_within (c.open_to_drop-opened.ensures.others old) (c.forget_files.ensures.others mid)
    ((c.change_files.ensures.rest behind).others)

pub returns-in-Ok-clause-streams : goal.returns-in-Ok-clause-streams
returns-in-Ok-clause-streams g c old =
    let mid = c.open_to_drop-opened.ensures.faith.1 old in
    let behind = c.forget_files.ensures.faith.1 mid in
    let names = c.args.names.now in
    let first = g.W.World.state c.open_to_drop-opened.new.world in
    let second = g.W.World.state c.forget_files.new.world in
    let how = c.open_to_drop-opened.result.how in
    let alone = holds_alone names first second (c.in-Ok.ensures.done mid) in (
      how,
      says_changed how c.change_files.result.how (g.W.World.state c.args.world.now) second (g.W.World.state c.change_files.new.world)
          (says_dropped (IsNoTextNamed names first) how (g.W.World.state c.args.world.now) first second (c.open_to_drop-opened.ensures.streams old) (c.forget_files.ensures.others mid))
          ((c.change_files.ensures.how behind).none (only (held first names.image)) alone) (c.change_files.ensures.streams behind),
    )

pub returns-in-Err-clause-does : goal.returns-in-Err-clause-does
returns-in-Err-clause-does g c old written =
    let may = c.may_drop.ensures.0 c.if-not-may_drop.false in
    let mid = c.open_to_drop-opened.ensures.faith.1 old in
    stays g.R.Read.remaining c.args.names.now c.args.guard c.in-Err.unseen c.open_to_drop-opened.result _
    (run_state_beside g.W.World.state g.W.World.refusals g.W.World.note written c.open_to_drop-opened.new.world) _ (c.open_to_drop-opened.ensures.opens old may)
    (c.open_to_drop-opened.ensures.judged old) (record {
      does = record { may = tt; done = tt; stopped = c.in-Err.ensures.stopped mid };
      others = c.forget_files.ensures.others mid;
    })

pub returns-in-Err-clause-survives : goal.returns-in-Err-clause-survives
returns-in-Err-clause-survives g c old =
    let may = c.may_drop.ensures.0 c.if-not-may_drop.false in
    let mid = c.open_to_drop-opened.ensures.faith.1 old in
    let opened = c.open_to_drop-opened.ensures in
    let opens = opened.opens old may in
    let names = c.args.names.now in
    let first = g.W.World.state c.open_to_drop-opened.new.world in
    record {
      opened = c.open_to_drop-opened.result;
      first = first;
      opens = opens;
      found = λ s holds t leads. found_undropped g.R.Read.remaining names c.in-Err.unseen c.open_to_drop-opened.result.reply (IsNoTextNamed names first)
          first _ (g.W.World.survives c.open_to_drop-opened.new.world) _ s t (c.forget_files.ensures.others mid) leads (c.in-Err.ensures.survives mid)
          (λ before. (opened.survives old).holds s holds (opened.made old may s holds) t before);
      finds = λ s found stopped t leads. recovered_undropped g.R.Read.remaining names c.in-Err.unseen c.open_to_drop-opened.result
          (IsNoTextNamed names first) first _ (g.W.World.survives c.open_to_drop-opened.new.world) _ s t (c.forget_files.ensures.others mid) leads
          (c.in-Err.ensures.survives mid) (λ before. (opened.survives old).finds s found stopped t before);
    }

pub returns-in-Err-clause-others : goal.returns-in-Err-clause-others
returns-in-Err-clause-others g c old =
    let mid = c.open_to_drop-opened.ensures.faith.1 old in
    let within : AreAllThere (g.W.World.state c.args.world.now) = λ name n e. g.met.W.World.within c.args.world.now name n old e in
    let first_within : AreAllThere (g.W.World.state c.open_to_drop-opened.new.world) =
    λ name n e. g.met.W.World.within c.open_to_drop-opened.new.world name n mid e in
    keeps_named c.args.names.now (g.W.World.state c.args.world.now) (g.W.World.state c.open_to_drop-opened.new.world)
    (g.W.World.state c.forget_files.new.world) (g.W.World.state c.forget_files.new.world) within first_within (c.open_to_drop-opened.ensures.others old) (c.forget_files.ensures.others mid)
    (keeps_itself c.args.names.now (g.W.World.state c.forget_files.new.world))

pub returns-in-Err-clause-streams : goal.returns-in-Err-clause-streams
returns-in-Err-clause-streams g c old =
    let mid = c.open_to_drop-opened.ensures.faith.1 old in
    let how = c.open_to_drop-opened.result.how in
    let first = g.W.World.state c.open_to_drop-opened.new.world in (
      how,
      says_dropped (IsNoTextNamed c.args.names.now first) how (g.W.World.state c.args.world.now) first (g.W.World.state c.forget_files.new.world)
          (c.open_to_drop-opened.ensures.streams old) (c.forget_files.ensures.others mid),
    )

pub returns-then-not-may_drop-clause-unopened : goal.returns-then-not-may_drop-clause-unopened
returns-then-not-may_drop-clause-unopened g c old = nothing_kept _ _ _ (c.open_to_drop-opened.ensures.unopened old)

pub returns-then-not-may_drop-clause-refused : goal.returns-then-not-may_drop-clause-refused
returns-then-not-may_drop-clause-refused g c old = kept_refused c.open_to_drop-opened.result _ _ (c.open_to_drop-opened.ensures.unopened old)

pub returns-in-Ok-clause-failed : goal.returns-in-Ok-clause-failed
returns-in-Ok-clause-failed g c old is =
    let mid = c.open_to_drop-opened.ensures.faith.1 old in
    let behind = c.forget_files.ensures.faith.1 mid in
    let first = (c.open_to_drop-opened.ensures.counted old).least in
    let second = c.in-Ok.ensures.counted mid in
    let last = (c.change_files.ensures.counted behind).0.rise is in
    omega (arith, first, second, last)

pub returns-in-Err-clause-failed : goal.returns-in-Err-clause-failed
returns-in-Err-clause-failed g c old is =
    let mid = c.open_to_drop-opened.ensures.faith.1 old in
    let first = (c.open_to_drop-opened.ensures.counted old).least in
    let unseen = c.in-Err.is in
    let last = c.forget_files.ensures.failed mid (rw unseen is) in
    omega (arith, first, last)
