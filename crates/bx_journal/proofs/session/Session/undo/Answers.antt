use Rattle.std.proofs.Common.{rules, ◌≡◌, ℕ, refl, ◌∙◌, sym, subst, arith, length-drop}
use Rattle.std.proofs.lemmas.Grind.{common_steps}
use Rattle.bx_journal_model.specs.declared.fault.SessionFault.TheVariants.{Damaged}
use Rattle.bx_journal_model.specs.Phase.{IsAtRest}
use Rattle.bx_journal_model.specs.Stack.{StandsFor}
use Rattle.bx_journal_model.specs.Undoing.{AgainFault, IsOutOfStep}
use Rattle.bx_journal_read.proofs.AgainLemmas.{has_count, in_step}
use Rattle.bx_journal_protocol.proofs.TakingLemmas.{changes_left}
use Rattle.std.proofs.lemmas.Result.{err_from_is_err_and}
use Rattle.bx_journal_model.specs.ThreeDevices.{HaveStayed}
use Rattle.bx_image.proofs.Survivors.{NoMore_then}
use Rattle.bx_journal_protocol.proofs.DeviceLemmas.{one_more}
use Rattle.bx_journal_model.specs.Power.{FoundBefore}
use Rattle.bx_journal.proofs.SafeLemmas.{accepts, any_fault, interrupts, refuses}
use Rattle.bx_journal_protocol.proofs.LookedLemmas.{left_since, looked_at, none_failed, pair_step, read_since, rest_step, standing_step, kept_step}
use Rattle.bx_journal_model.specs.Images.{undo_of}
use Rattle.bx_journal_protocol.proofs.LoopLemmas.{standing}
use Rattle.bx_journal_protocol.proofs.StepSurvivors.{found_at_rest, found_of, found_some}
use Rattle.bx_journal.proofs.session.Session.undo.Goals as goal
use Rattle.bx_journal.proofs.session.Session.undo.Goals.{After-prepare_takens}

-- what was read and taken before the first write
stayed : (g : _) (c : After-prepare_takens g)
    → HaveStayed g.D.Device g.T.TextStore c.self.inside.devices c.prepare_takens.new.devices
stayed g c = looked_at c.read_last_of.ensures.looks c.prepare_takens.ensures.stayed

pub returns-in_err-read-clause-faults : goal.returns-in_err-read-clause-faults
returns-in_err-read-clause-faults g c =
    record {
      kind = search rules;
      few = search rules;
      damaged =
          rw (← c.self.view_is) (λ th.
          let out : (line : ℕ) → c.in_err-read.field-0.0 ≡ Damaged line → IsOutOfStep (g.T.TextStore.text c.self.inside.devices.journal) c.self.inside.count line =
          λ line is. subst (AgainFault (g.T.TextStore.faithful c.self.inside.devices.journal) (g.T.TextStore.text c.self.inside.devices.journal) c.self.inside.count) is c.in_err-read.ensures.fault th in
          grind (arith, common_steps, out));
      undamaged =
          rw (← c.self.view_is) (λ th has.
          let none : (line : ℕ) → c.in_err-read.field-0.0 ≡ Damaged line → ⊥ =
          in_step (g.T.TextStore.faithful c.self.inside.devices.journal) (g.T.TextStore.text c.self.inside.devices.journal) c.self.inside.count c.in_err-read.field-0.0 th has c.in_err-read.ensures.fault in
          grind (arith, common_steps, none));
      whole = search rules;
    }

pub prepare_takens-requires-clause-read : goal.prepare_takens-requires-clause-read
prepare_takens-requires-clause-read g c =
    let looks = c.read_last_of.ensures.looks in read_since looks.faith.0 looks.same c.in_ok-read.ensures.read

pub returns-in-Ok-clause-accepted : goal.returns-in-Ok-clause-accepted
returns-in-Ok-clause-accepted g c =
    rw (← c.self.view_is) (λ dh th stack standing.
    let before = stayed g (goal.at.returns-in-Ok-clause-accepted g c).After-prepare_takens in (
      (omega (arith, standing.count), omega (arith, standing.count), refl),
      record {
        stands = rw c.in_ok-taking.ensures.count at (pair_step (λ t x. StandsFor t x stack) before (λ d t. c.in-Ok.ensures.stands d t stack) dh th standing.stands);
        count = omega (arith, standing.count, length-drop c.args.k stack);
        whole = standing.whole;
      },
    ))

pub returns-in-Ok-clause-sound : goal.returns-in-Ok-clause-sound
returns-in-Ok-clause-sound g c =
    rw (← c.self.view_is) (λ dh th stack ready.
    let before = stayed g (goal.at.returns-in-Ok-clause-sound g c).After-prepare_takens in
    record {
      rest = rw c.in_ok-taking.ensures.count at (pair_step (λ t x. IsAtRest t x stack) before (λ d t. c.in-Ok.ensures.ok d t stack) dh th ready.rest);
      count = omega (arith, ready.count, length-drop c.args.k stack);
      whole = ready.whole;
    })

pub returns-in-Ok-clause-faults : goal.returns-in-Ok-clause-faults
returns-in-Ok-clause-faults g c =
    record {
      kind = tt;
      few = search rules;
      damaged = λ th. tt;
      undamaged = λ th has. tt;
      whole =
          rw (← c.self.view_is) (λ th.
          let last = c.in_ok-read.ensures.read in has_count (g.T.TextStore.text c.self.inside.devices.journal) last.text c.in_ok-read.read.entries.items c.self.inside.count last.read (last.is th));
    }

pub returns-in-Ok-clause-text : goal.returns-in-Ok-clause-text
returns-in-Ok-clause-text g c =
    rw (← c.self.view_is) (λ th.
    let before = stayed g (goal.at.returns-in-Ok-clause-text g c).After-prepare_takens in
    left_since (before.text_same th) c.in_ok-taking.ensures.count (c.in-Ok.ensures.left (before.journal_faith.1 th)))

pub returns-clause-fault : goal.returns-clause-fault
returns-clause-fault g c =
    rw (← c.self.view_is) (λ dh th stack ready.
    let before = stayed g (goal.at.returns-clause-fault g c).After-prepare_takens in
    rw c.in_ok-taking.ensures.count at (pair_step (λ t x. IsAtRest t x stack) before (λ d t. c.in-Err.ensures.fault d t stack) dh th ready.rest))

pub returns-in-Ok-clause-undone : goal.returns-in-Ok-clause-undone
returns-in-Ok-clause-undone g c =
    rw (← c.self.view_is) (λ dh th rh s standing has.
    let before = stayed g (goal.at.returns-in-Ok-clause-undone g c).After-prepare_takens in
    let done = rw c.in_ok-taking.ensures.count at (standing_step before c.in-Ok.ensures.images dh th rh s standing has has.counted) in
    let left = changes_left s.stack c.self.inside.count c.args.k c.count_left-self-inside.result standing.count c.count_left-self-inside.ensures in
    record { redo = rw left at done.1.undone; counted = done.0 })

pub returns-in-Ok-clause-kept : goal.returns-in-Ok-clause-kept
returns-in-Ok-clause-kept g c =
    rw (← c.self.view_is) (kept_step _ c.self.inside.undone (stayed g (goal.at.returns-in-Ok-clause-kept g c).After-prepare_takens) c.in_ok-taking.ensures.count c.in-Ok.ensures.taken)

pub returns-clause-finds : goal.returns-clause-finds
returns-clause-finds g c =
    rw (← c.self.view_is) (λ dh th rh s ready has.
    let before = stayed g (goal.at.returns-clause-finds g c).After-prepare_takens in
    rw c.in_ok-taking.ensures.count at (rest_step before c.in-Err.ensures.finds dh th rh s ready has has.counted))

pub returns-in_err-taking-clause-safe : goal.returns-in_err-taking-clause-safe
returns-in_err-taking-clause-safe g c =
    let read = c.in_ok-read.ensures.looks in
    let found = err_from_is_err_and c.from_residual-in_err-taking.result c.from_residual-in_err-taking.ensures.1 in
    rw (← c.self.view_is) (
    refuses c.from_residual-in_err-taking.result c.in_err-taking.field-0.0 (grind (arith, common_steps, found.1, found.2)) c.in_err-taking.ensures.kind c.if-self.false refl refl refl
    (stayed g (goal.at.returns-in_err-taking-clause-safe g c).After-prepare_takens) c.in_err-taking.ensures.counts
    (λ h. (h.0, omega (arith, h.1, read.no_failure), h.2, omega (arith, h.3, read.no_failure))) (λ h. (h.0, h.1 ∙ read.no_failure, h.2)))

pub returns-in-Ok-clause-safe : goal.returns-in-Ok-clause-safe
returns-in-Ok-clause-safe g c =
    let same = c.in_ok-taking.ensures.no_failure in
    rw (← c.self.view_is) (accepts c.if-self.false (one_more _ (none_failed (stayed g (goal.at.returns-in-Ok-clause-safe g c).After-prepare_takens) (same.0, same.1 ∙ c.in_ok-read.ensures.looks.no_failure, same.2)) c.in-Ok.ensures.steps_on))

pub returns-clause-safe : goal.returns-clause-safe
returns-clause-safe g c =
    let same = c.in_ok-taking.ensures.no_failure in
    rw (← c.self.view_is) (interrupts c.if-self.false refl refl refl (one_more _ (none_failed (stayed g (goal.at.returns-clause-safe g c).After-prepare_takens) (same.0, same.1 ∙ c.in_ok-read.ensures.looks.no_failure, same.2)) c.in-Err.ensures.steps_on))

-- what is found behind an interruption
pub returns-clause-survives : goal.returns-clause-survives
returns-clause-survives g c =
    rw (← c.self.view_is) (λ dh th rh. (
      (λ s ready has y new redo image_there there redo_there.
          let before = stayed g (goal.at.returns-clause-survives g c).After-prepare_takens in
          let settled = c.in_ok-taking.ensures.settled dh (c.in_ok-read.ensures.looks.faith.1 th) rh in
          let rest = rest_step before (λ d t u i rest. rest) dh th rh s ready has in
          found_some _ _ _ undo_of _ _ (rw c.in_ok-taking.ensures.count at
          (c.in-Err.ensures.survives (before.image_faith.1 dh) (before.journal_faith.1 th) (before.redo_faith.1 rh) settled s rest has.counted y new redo image_there there redo_there))),
      tt,
    ))

-- and where it is made
pub returns-in-Ok-clause-survives : goal.returns-in-Ok-clause-survives
returns-in-Ok-clause-survives g c =
    rw (← c.self.view_is) (λ dh th rh.
    let before = stayed g (goal.at.returns-in-Ok-clause-survives g c).After-prepare_takens in
    let d = before.image_faith.1 dh in
    let t = before.journal_faith.1 th in
    let u = before.redo_faith.1 rh in
    let settled = c.in-Ok.ensures.settles d t u (c.in_ok-taking.ensures.settled dh (c.in_ok-read.ensures.looks.faith.1 th) rh) in (
      (λ s ready has y new redo image_there there redo_there.
          let rest = rest_step before (λ d t u i rest. rest) dh th rh s ready has in
          let done = c.in-Ok.ensures.images d t u s (standing rest) has.counted in
          found_of _ _ _ _ (rw c.in_ok-taking.ensures.count at
          (found_at_rest _ _ _ _ _ _ (undo_of _ s) (c.in-Ok.ensures.ok d t s.stack rest.rest) done.1.undone (settled.image y image_there) (settled.journal new there) (settled.redo redo redo_there)))),
      settled,
    ))

-- what a refusal leaves to be found was to be found before
pub returns-in_err-read-clause-found_before : goal.returns-in_err-read-clause-found_before
returns-in_err-read-clause-found_before g c =
    let before : FoundBefore g.D.Device g.T.TextStore c.self.inside.devices (record { image = c.self.inside.devices.image; journal = c.read_last_of.new.store; redo = c.self.inside.devices.redo }) =
    record { image_before = λ h x there. there; journal_before = c.read_last_of.ensures.survives; redo_before = λ h x there. there } in
    rw (← c.self.view_is) (any_fault _ before)

pub returns-in_err-taking-clause-found_before : goal.returns-in_err-taking-clause-found_before
returns-in_err-taking-clause-found_before g c =
    let taken = c.prepare_takens.ensures.found_before in
    let before : FoundBefore g.D.Device g.T.TextStore c.self.inside.devices c.prepare_takens.new.devices =
    record {
      image_before = taken.image_before;
      journal_before = λ h. NoMore_then _ _ _ (c.read_last_of.ensures.survives h) (taken.journal_before (c.read_last_of.ensures.looks.faith.1 h));
      redo_before = taken.redo_before;
    } in
    rw (← c.self.view_is) (any_fault _ before)
