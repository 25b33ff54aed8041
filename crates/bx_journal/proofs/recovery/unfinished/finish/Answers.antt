use Rattle.std.proofs.Common.{◌≡◌, ◌∙◌, ◌+◌, ◌≤◌, ℕ, List, rules, arith, inr, subst, sym, Result, Err}
use Rattle.std.specs.Prelude.{OnOk}
use Rattle.std.proofs.lemmas.Grind.{common_steps}
use Rattle.std.proofs.lemmas.Result.{err_from_is_err_and, on_err_weaker, on_ok_weaker}
use Rattle.bx_image.proofs.Changes.{OnErr-known}
use Rattle.bx_journal.proofs.OpenedLemmas.{emptied_found, found_few, found_unclean, stopped_found}
use Rattle.bx_journal_read.proofs.RecoverLemmas.{one_more_beside}
use Rattle.bx_journal.proofs.CountedLemmas.{ok_always}
use Rattle.bx_journal.proofs.recovery.unfinished.finish.Goals as goal

none_ok : {T E : Type 0} (P : Type 0) (r : Result T E) (e : E) → r ≡ Err e → OnOk r P
none_ok P r e is = subst (λ q. OnOk q P) (sym is) tt

one_more : {d t u v : ℕ} → v ≡ u + 1 → (d ≤ d) × (t ≤ t) × (u ≤ v) × (d + t + v ≡ d + t + u + 1)
one_more is = (omega arith, omega arith, omega (arith, is), omega (arith, is))

pub returns-clause-emptied : goal.returns-clause-emptied
returns-clause-emptied g c rh = ok_always c.cut_unfinished.result (grind (arith, common_steps))

pub returns-clause-emptied_first : goal.returns-clause-emptied_first
returns-clause-emptied_first g c rh = OnErr-known c.cut_unfinished.result (inr (grind (arith, common_steps)))

pub returns-clause-steps_on : goal.returns-clause-steps_on
returns-clause-steps_on g c = record {
  image_faith = search rules;
  journal_faith = search rules;
  redo_faith = search rules;
  no_failure = on_ok_weaker c.cut_unfinished.result (λ h. (h.0, h.1, search rules)) c.cut_unfinished.ensures.no_failure;
  failure = on_err_weaker c.cut_unfinished.result (one_more_beside _ _ _ _ _ _ (search rules)) c.cut_unfinished.ensures.failure;
}

pub returns-in_err-cut_redo-clause-steps_on : goal.returns-in_err-cut_redo-clause-steps_on
returns-in_err-cut_redo-clause-steps_on g c = record {
  image_faith = search rules;
  journal_faith = search rules;
  redo_faith = search rules;
  no_failure = none_ok _ c.from_residual.result _ (err_from_is_err_and c.from_residual.result c.from_residual.ensures.1).1;
  failure = OnErr-known c.from_residual.result (one_more c.in_err-cut_redo.ensures.goes_on.counted);
}

pub returns-in_err-cut_redo-clause-survives : goal.returns-in_err-cut_redo-clause-survives
returns-in_err-cut_redo-clause-survives g c dh th rh on s found y new r there text_there redo_there =
    let text : List ℕ = g.T.TextStore.text c.args.devices.now.journal in
    let x : List ℕ = g.D.Device.image c.args.devices.now.image in
    stopped_found text x new y r s.stack found.recovers (found_unclean (g.T.TextStore.faithful c.args.devices.now.journal) text c.args.torn c.requires.found th) (on.journal new text_there) (on.image y there)

pub returns-clause-survives : goal.returns-clause-survives
returns-clause-survives g c dh th rh on s found y new r there text_there redo_there =
    let text : List ℕ = g.T.TextStore.text c.args.devices.now.journal in
    let x : List ℕ = g.D.Device.image c.args.devices.now.image in
    let cut = c.in_ok-cut_redo.ensures in
    emptied_found new y r s.stack (c.cut_unfinished.ensures.survives dh th on.image on.journal s.stack found.recovers y new there text_there)
    (cut.settled rh r redo_there ∙ cut.redo rh)
    (found_few (g.T.TextStore.faithful c.args.devices.now.journal) text x s.stack c.args.torn c.requires.found th found.recovers)

pub returns-in_err-cut_redo-clause-settles : goal.returns-in_err-cut_redo-clause-settles
returns-in_err-cut_redo-clause-settles g c dh th rh on = none_ok _ c.from_residual.result _ (err_from_is_err_and c.from_residual.result c.from_residual.ensures.1).1

pub returns-clause-settles : goal.returns-clause-settles
returns-clause-settles g c dh th rh on =
    on_ok_weaker c.cut_unfinished.result (λ s. record { image = s.0; journal = s.1; redo = c.in_ok-cut_redo.ensures.settled rh }) (c.cut_unfinished.ensures.settled dh th on.image)
