use Rattle.std.proofs.Common.{rules, ◌≡◌, ◌+◌, ℕ, length, length-append, refl, ap, sym, ◌∙◌, subst, arith, Err}
use Rattle.std.specs.Prelude.{IfErr}
use Rattle.bx_journal_model.specs.Fault.{DeviceFault}
use Rattle.std.proofs.lemmas.Grind.{common_steps}
use Rattle.bx_journal_model.specs.declared.fault.SessionFault.TheVariants.{RedoDamaged}
use Rattle.bx_journal_format.specs.Text.{IsPrefix}
use Rattle.bx_journal_model.specs.Machine.{changes_of}
use Rattle.bx_journal_model.specs.Phase.{IsAtRest}
use Rattle.bx_journal_model.specs.Stack.{StandsFor}
use Rattle.bx_journal_model.specs.Undoing.{IsOutOfStep, RedoAgainFault}
use Rattle.bx_journal_read.proofs.AgainLemmas.{has_count}
use Rattle.bx_journal.proofs.RedoingLemmas.{grown_since, redo_in_step, redone}
use Rattle.std.proofs.lemmas.Result.{err_from_is_err_and}
use Rattle.bx_journal_model.specs.ThreeDevices.{HaveStayed}
use Rattle.bx_image.proofs.Survivors.{NoMore_then}
use Rattle.bx_journal_protocol.proofs.DeviceLemmas.{one_more}
use Rattle.bx_journal_model.specs.Power.{FoundBefore}
use Rattle.bx_journal.proofs.SafeLemmas.{accepts, any_fault, image_after, interrupts, refuses}
use Rattle.bx_journal_protocol.proofs.LookedLemmas.{left_since, none_failed, pair_step, redo_looked_at, read_since, rest_step, standing_step}
use Rattle.bx_journal_model.specs.Images.{redo_of}
use Rattle.bx_journal_protocol.proofs.TouchedLemmas.{begun_same}
use Rattle.bx_journal_protocol.proofs.StepSurvivors.{found_at_rest, found_of, found_some}
use Rattle.bx_journal.proofs.session.Session.redo.Goals as goal
use Rattle.bx_journal.proofs.session.Session.redo.Goals.{After-prepare_redo}

-- what was read and taken before the first write
stayed : (g : _) (c : After-prepare_redo g)
    → HaveStayed g.D.Device g.T.TextStore c.self.inside.devices c.prepare_redo.new.devices
stayed g c = redo_looked_at c.read_undone.ensures.looks c.prepare_redo.ensures.stayed

pub returns-in_err-read-clause-faults : goal.returns-in_err-read-clause-faults
returns-in_err-read-clause-faults g c =
    record {
      kind = search rules;
      nothing = search rules;
      damaged =
          rw (← c.self.view_is) (λ rh.
          let out : (line : ℕ) → c.in_err-read.field-0.0 ≡ RedoDamaged line → IsOutOfStep (g.T.TextStore.text c.self.inside.devices.redo) c.self.inside.undone line =
          λ line is. subst (RedoAgainFault (g.T.TextStore.faithful c.self.inside.devices.redo) (g.T.TextStore.text c.self.inside.devices.redo) c.self.inside.undone) is c.in_err-read.ensures.fault rh in
          grind (arith, common_steps, out));
      undamaged =
          rw (← c.self.view_is) (λ rh has.
          let none : (line : ℕ) → c.in_err-read.field-0.0 ≡ RedoDamaged line → ⊥ =
          redo_in_step (g.T.TextStore.faithful c.self.inside.devices.redo) (g.T.TextStore.text c.self.inside.devices.redo) c.self.inside.undone c.in_err-read.field-0.0 rh has c.in_err-read.ensures.fault in
          grind (arith, common_steps, none));
      whole = search rules;
    }

pub redo_entries-requires-clause-kept : goal.redo_entries-requires-clause-kept
redo_entries-requires-clause-kept g c =
    let last = c.in_ok-read.ensures.read in rw c.in_ok-again.ensures.ready.count (c.in_ok-again.ensures.kept last.text c.self.inside.undone last.read)

pub redo_entries-requires-clause-read : goal.redo_entries-requires-clause-read
redo_entries-requires-clause-read g c =
    let before = stayed g (goal.at.redo_entries-requires-clause-read g c).After-prepare_redo in
    read_since before.redo_faith.0 before.redo_same c.in_ok-read.ensures.read

pub redo_entries-requires-clause-touched : goal.redo_entries-requires-clause-touched
redo_entries-requires-clause-touched g c =
    let ready = c.in_ok-again.ensures.ready.touched in
    let taken = c.prepare_redo.ensures.stayed in
    record { len = ready.len; long = λ now. let before = taken.image_faith.0 now in ready.long before ∙ sym (ap length (taken.image_same before)); touched = ready.touched }

pub redo_entries-requires-clause-begun : goal.redo_entries-requires-clause-begun
redo_entries-requires-clause-begun g c =
    let taken = c.prepare_redo.ensures.stayed in
    begun_same (c.self.inside.count + 1) {rs = c.in_ok-again.again.takens.items} {slice = c.in_ok-again.again.takens.items} c.in_ok-again.again.head.page.items c.in_ok-again.again.head.place taken.image_faith.0 (λ now. taken.image_same (taken.image_faith.0 now)) refl c.in_ok-again.ensures.ready.begun

pub redo_entries-requires-clause-fits : goal.redo_entries-requires-clause-fits
redo_entries-requires-clause-fits g c th = c.in_ok-again.ensures.roomed (c.prepare_redo.ensures.stayed.journal_faith.0 th)

pub returns-in-Ok-clause-stands : goal.returns-in-Ok-clause-stands
returns-in-Ok-clause-stands g c =
    record {
      stands =
          rw (← c.self.view_is) (λ dh th stack standing.
          let before = stayed g (goal.at.returns-in-Ok-clause-stands g c).After-prepare_redo in
          let many : c.self.inside.count ≡ changes_of stack = omega (arith, standing.count) in
          let on = rw c.in_ok-again.ensures.ready.count at (pair_step (λ t x. StandsFor t x stack) before (λ d t stands. c.in-Ok.ensures.stands d t stack stands many) dh th standing.stands) in
          (on.0, on.1, record { stands = on.2; count = omega (arith, length-append on.0 stack, on.1, standing.count, c.in-Ok.ensures.number, c.in_ok-again.ensures.ready.count); whole = standing.whole }));
      ready =
          rw (← c.self.view_is) (λ dh th stack ready.
          let before = stayed g (goal.at.returns-in-Ok-clause-stands g c).After-prepare_redo in
          let many : c.self.inside.count ≡ changes_of stack = omega (arith, ready.count) in
          let on = rw c.in_ok-again.ensures.ready.count at (pair_step (λ t x. IsAtRest t x stack) before (λ d t rest. c.in-Ok.ensures.rests d t stack rest many) dh th ready.rest) in
          (on.0, on.1, record { rest = on.2; count = omega (arith, length-append on.0 stack, on.1, ready.count, c.in-Ok.ensures.number, c.in_ok-again.ensures.ready.count); whole = ready.whole }));
      fault = λ dh th stack ready. tt;
    }

pub returns-in_err-again-clause-stands : goal.returns-in_err-again-clause-stands
returns-in_err-again-clause-stands g c =
    let found = err_from_is_err_and c.from_residual-in_err-again.result c.from_residual-in_err-again.ensures.1 in
    let is : c.from_residual-in_err-again.result ≡ Err c.in_err-again.field-0.0 = grind (arith, common_steps, found.1, found.2) in
    let same = stayed g (goal.at.returns-in_err-again-clause-stands g c).After-prepare_redo in
    record {
      stands = search rules;
      ready = search rules;
      fault =
          rw (← c.self.view_is) (λ dh th stack ready.
          image_after _ c.from_residual-in_err-again.result (subst (λ r. IfErr r DeviceFault) (sym is) c.in_err-again.ensures.kind)
          (record { image_same = same.image_same dh; text_same = same.text_same th; count = refl; broken = refl }));
    }

pub returns-clause-stands : goal.returns-clause-stands
returns-clause-stands g c =
    record {
      stands = λ dh th stack standing. tt;
      ready = λ dh th stack ready. tt;
      fault =
          rw (← c.self.view_is) (λ dh th stack ready.
          let before = stayed g (goal.at.returns-clause-stands g c).After-prepare_redo in
          let many : c.self.inside.count ≡ changes_of stack = omega (arith, ready.count) in
          rw c.in_ok-again.ensures.ready.count at (pair_step (λ t x. IsAtRest t x stack) before (λ d t rest. c.in-Err.ensures.fault d t stack rest many) dh th ready.rest));
    }

pub returns-in-Ok-clause-accepted : goal.returns-in-Ok-clause-accepted
returns-in-Ok-clause-accepted g c =
    rw (← c.self.view_is) (λ dh th rh s standing has.
    let before = stayed g (goal.at.returns-in-Ok-clause-accepted g c).After-prepare_redo in
    let found = rw c.in_ok-again.ensures.ready.count at (standing_step before c.in-Ok.ensures.images dh th rh s standing has (omega (arith, standing.count))) in
    let left = redone c.args.j s standing.count has.counted (rw c.in_ok-again.ensures.ready.count at c.in-Ok.ensures.number) c.undone_left-self-inside.ensures found.undone in (
      (left.0, omega (arith, left.2), refl),
      record { stands = found.stands; count = left.1; whole = standing.whole },
      record { redo = left.3; counted = left.4 },
    ))

pub returns-in-Ok-clause-sound : goal.returns-in-Ok-clause-sound
returns-in-Ok-clause-sound g c =
    rw (← c.self.view_is) (λ dh th rh s ready has.
    let before = stayed g (goal.at.returns-in-Ok-clause-sound g c).After-prepare_redo in
    let found = rw c.in_ok-again.ensures.ready.count at (rest_step before c.in-Ok.ensures.found dh th rh s ready has (omega (arith, ready.count))) in
    let left = redone c.args.j s ready.count has.counted (rw c.in_ok-again.ensures.ready.count at c.in-Ok.ensures.number) c.undone_left-self-inside.ensures found.undone in (
      record { rest = found.rest; count = left.1; whole = ready.whole },
      record { redo = left.3; counted = left.4 },
    ))

pub returns-in-Ok-clause-faults : goal.returns-in-Ok-clause-faults
returns-in-Ok-clause-faults g c =
    record {
      kind = tt;
      nothing = search rules;
      damaged = λ th. tt;
      undamaged = λ th has. tt;
      whole =
          rw (← c.self.view_is) (λ rh.
          let last = c.in_ok-read.ensures.read in has_count (g.T.TextStore.text c.self.inside.devices.redo) last.text c.in_ok-read.read.entries.items c.self.inside.undone last.read (last.is rh));
    }

pub returns-in-Ok-clause-text : goal.returns-in-Ok-clause-text
returns-in-Ok-clause-text g c =
    rw (← c.self.view_is) (λ rh.
    let before = stayed g (goal.at.returns-in-Ok-clause-text g c).After-prepare_redo in
    left_since (before.redo_same rh) c.in_ok-again.ensures.ready.count (c.in-Ok.ensures.left (before.redo_faith.1 rh)))

pub returns-in-Ok-clause-grown : goal.returns-in-Ok-clause-grown
returns-in-Ok-clause-grown g c =
    rw (← c.self.view_is) (λ dh th rh es finished.
    let before = stayed g (goal.at.returns-in-Ok-clause-grown g c).After-prepare_redo in
    grown_since c.self.inside.count c.in_ok-again.ensures.ready.count (before.image_same dh) (before.text_same th) (before.redo_same rh)
    (c.in-Ok.ensures.taken (before.image_faith.1 dh) (before.journal_faith.1 th) (before.redo_faith.1 rh)) es finished)

pub returns-in-Ok-clause-front : goal.returns-in-Ok-clause-front
returns-in-Ok-clause-front g c =
    rw (← c.self.view_is) (λ th.
    subst (λ t. IsPrefix t (g.T.TextStore.text c.redo_entries.new.devices.journal)) (c.prepare_redo.ensures.stayed.text_same th) (c.in-Ok.ensures.front (c.prepare_redo.ensures.stayed.journal_faith.1 th)))

pub returns-clause-finds : goal.returns-clause-finds
returns-clause-finds g c =
    rw (← c.self.view_is) (λ dh th rh s ready has.
    let before = stayed g (goal.at.returns-clause-finds g c).After-prepare_redo in
    rw c.in_ok-again.ensures.ready.count at (rest_step before c.in-Err.ensures.finds dh th rh s ready has (omega (arith, ready.count))))

pub returns-in_err-again-clause-safe : goal.returns-in_err-again-clause-safe
returns-in_err-again-clause-safe g c =
    let read = c.in_ok-read.ensures.looks in
    let found = err_from_is_err_and c.from_residual-in_err-again.result c.from_residual-in_err-again.ensures.1 in
    rw (← c.self.view_is) (
    refuses c.from_residual-in_err-again.result c.in_err-again.field-0.0 (grind (arith, common_steps, found.1, found.2)) c.in_err-again.ensures.kind c.if-self.false refl refl refl
    (stayed g (goal.at.returns-in_err-again-clause-safe g c).After-prepare_redo) c.in_err-again.ensures.counts
    (λ h. (h.0, h.1, omega (arith, h.2, read.no_failure), omega (arith, h.3, read.no_failure))) (λ h. (h.0, h.1, h.2 ∙ read.no_failure)))

pub returns-in-Ok-clause-safe : goal.returns-in-Ok-clause-safe
returns-in-Ok-clause-safe g c =
    let same = c.in_ok-again.ensures.no_failure in
    rw (← c.self.view_is) (accepts c.if-self.false (one_more _ (none_failed (stayed g (goal.at.returns-in-Ok-clause-safe g c).After-prepare_redo) (same.0, same.1, same.2 ∙ c.in_ok-read.ensures.looks.no_failure)) c.in-Ok.ensures.steps_on))

pub returns-clause-safe : goal.returns-clause-safe
returns-clause-safe g c =
    let same = c.in_ok-again.ensures.no_failure in
    rw (← c.self.view_is) (interrupts c.if-self.false refl refl refl (one_more _ (none_failed (stayed g (goal.at.returns-clause-safe g c).After-prepare_redo) (same.0, same.1, same.2 ∙ c.in_ok-read.ensures.looks.no_failure)) c.in-Err.ensures.steps_on))

-- what is found behind an interruption
pub returns-clause-survives : goal.returns-clause-survives
returns-clause-survives g c =
    rw (← c.self.view_is) (λ dh th rh. (
      (λ s ready has y new redo image_there there redo_there.
          let before = stayed g (goal.at.returns-clause-survives g c).After-prepare_redo in
          let on = c.in_ok-again.ensures.settled dh th (c.in_ok-read.ensures.looks.faith.1 rh) in
          let rest = rest_step before (λ d t u i rest. rest) dh th rh s ready has in
          found_some _ _ _ redo_of _ _ (rw c.in_ok-again.ensures.ready.count at
          (c.in-Err.ensures.survives (before.image_faith.1 dh) (before.journal_faith.1 th) (before.redo_faith.1 rh) on s rest (omega (arith, ready.count)) y new redo image_there there redo_there))),
      tt,
    ))

-- and where it is made
pub returns-in-Ok-clause-survives : goal.returns-in-Ok-clause-survives
returns-in-Ok-clause-survives g c =
    rw (← c.self.view_is) (λ dh th rh.
    let before = stayed g (goal.at.returns-in-Ok-clause-survives g c).After-prepare_redo in
    let d = before.image_faith.1 dh in
    let t = before.journal_faith.1 th in
    let u = before.redo_faith.1 rh in
    let on = c.in_ok-again.ensures.settled dh th (c.in_ok-read.ensures.looks.faith.1 rh) in
    let settled = c.in-Ok.ensures.settles d t u on in (
      (λ s ready has y new redo image_there there redo_there.
          let done = rest_step before c.in-Ok.ensures.found dh th rh s ready has (omega (arith, ready.count)) in
          found_of _ _ _ _ (rw c.in_ok-again.ensures.ready.count at
          (found_at_rest _ _ _ _ _ _ (redo_of _ s) done.rest done.undone (settled.image y image_there) (settled.journal new there) (settled.redo redo redo_there)))),
      settled,
    ))

-- what a refusal leaves to be found was to be found before
pub returns-in_err-read-clause-found_before : goal.returns-in_err-read-clause-found_before
returns-in_err-read-clause-found_before g c =
    let before : FoundBefore g.D.Device g.T.TextStore c.self.inside.devices (record { image = c.self.inside.devices.image; journal = c.self.inside.devices.journal; redo = c.read_undone.new.redo }) =
    record { image_before = λ h x there. there; journal_before = λ h x there. there; redo_before = c.read_undone.ensures.survives } in
    rw (← c.self.view_is) (any_fault _ before)

pub returns-in_err-again-clause-found_before : goal.returns-in_err-again-clause-found_before
returns-in_err-again-clause-found_before g c =
    let taken = c.prepare_redo.ensures.found_before in
    let before : FoundBefore g.D.Device g.T.TextStore c.self.inside.devices c.prepare_redo.new.devices =
    record {
      image_before = taken.image_before;
      journal_before = taken.journal_before;
      redo_before = λ h. NoMore_then _ _ _ (c.read_undone.ensures.survives h) (taken.redo_before (c.read_undone.ensures.looks.faith.1 h));
    } in
    rw (← c.self.view_is) (any_fault _ before)
