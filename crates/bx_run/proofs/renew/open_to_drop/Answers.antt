use Rattle.std.proofs.Common.{refl}
use Rattle.std.specs.Prelude.{◌<◌}
use Rattle.bx_journal.specs.Images.{Images}
use Rattle.bx_run_session.specs.session.Contents.{Holds}
use Rattle.bx_run_session.specs.session.Named.{contents_of, no_change}
use Rattle.bx_run.specs.run.Changing.{DoesChange}
use Rattle.bx_run.specs.renew.Renewal.{IsOfAnother}
use Rattle.bx_run.proofs.Renewing.{found, image_spared, made, never_other, same, were_opened, why_told}
use Rattle.bx_run.proofs.renew.open_to_drop.Goals as goal

pub returns-clause-opens : goal.returns-clause-opens
returns-clause-opens g c old may =
    let did = c.change_files.ensures in
    let unopened = did.unopened old in
    let does : DoesChange g.R.Read.remaining c.args.names.now no_change c.change_files.result (g.W.World.state c.args.world.now)
    (g.W.World.state c.change_files.new.world) = record {
      done = did.done old;
      refused = did.refused old;
      interrupted = did.interrupted old;
      stands = did.stands old;
      how = did.how old;
      recovered = did.recovered old;
    } in
    let alone : (s : Images) → Holds (contents_of c.args.names.now (g.W.World.state c.args.world.now)) s → IsOfAnother c.change_files.result.unopened → ⊥ =
    λ s. never_other g.R.Read.remaining c.args.guard (g.W.World.note c.args.world.now) c.args.names.now (g.W.World.state c.args.world.now) c.change_files.result s
    (rw (← c.only_told.ensures) (did.judged old)) in
    record {
      may = may;
      does = does;
      others = (did.rest old).others;
      same = same g.R.Read.remaining c.args.names.now c.change_files.result _ _ does may unopened alone;
      found = found g.R.Read.remaining c.args.names.now c.change_files.result _ _ does may unopened alone;
      image = image_spared g.R.Read.remaining c.args.names.now c.change_files.result _ _ does may unopened alone;
      texts = (did.rest old).texts refl;
    }

pub returns-clause-texts : goal.returns-clause-texts
returns-clause-texts g c old = (c.change_files.ensures.rest old).texts refl

pub returns-clause-made : goal.returns-clause-made
returns-clause-made g c old may =
    let did = c.change_files.ensures in
    let does : DoesChange g.R.Read.remaining c.args.names.now no_change c.change_files.result (g.W.World.state c.args.world.now)
    (g.W.World.state c.change_files.new.world) = record {
      done = did.done old;
      refused = did.refused old;
      interrupted = did.interrupted old;
      stands = did.stands old;
      how = did.how old;
      recovered = did.recovered old;
    } in
    let alone : (s : Images) → Holds (contents_of c.args.names.now (g.W.World.state c.args.world.now)) s → IsOfAnother c.change_files.result.unopened → ⊥ =
    λ s. never_other g.R.Read.remaining c.args.guard (g.W.World.note c.args.world.now) c.args.names.now (g.W.World.state c.args.world.now) c.change_files.result s
    (rw (← c.only_told.ensures) (did.judged old)) in
    made g.R.Read.remaining c.args.names.now c.change_files.result _ _ does may (did.unopened old) alone

pub returns-clause-opened : goal.returns-clause-opened
returns-clause-opened g c old may = were_opened c.change_files.result _ _ (c.change_files.ensures.unopened old) may

pub returns-clause-why_unopened : goal.returns-clause-why_unopened
returns-clause-why_unopened g c old =
    why_told g.R.Read.remaining c.args.guard c.only_told.result (g.W.World.note c.args.world.now) c.args.names.now
    (g.W.World.refusals c.args.world.now < g.W.World.refusals c.change_files.new.world) (g.W.World.state c.args.world.now) c.change_files.result.unopened
    c.only_told.ensures (c.change_files.ensures.why_unopened old)

pub returns-clause-judged : goal.returns-clause-judged
returns-clause-judged g c old = rw (← c.only_told.ensures) (c.change_files.ensures.judged old)

pub returns-clause-fit : goal.returns-clause-fit
returns-clause-fit g c old opened = let fit = c.change_files.ensures.fit old opened in rw c.only_told.ensures at fit

pub returns-clause-counted : goal.returns-clause-counted
returns-clause-counted g c old = (c.change_files.ensures.counted old).0

pub returns-clause-note : goal.returns-clause-note
returns-clause-note g c old = (c.change_files.ensures.counted old).1
