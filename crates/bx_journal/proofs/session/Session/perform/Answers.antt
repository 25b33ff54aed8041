use Rattle.std.proofs.Common.{◌≡◌, ℕ, suc, ◌+◌, ◌≤◌, List, [], ◌∷◌, length, refl, ap, sym, ◌∙◌, subst, arith}
use Rattle.bx_image.specs.declared.change.TheConstants.{MAX_LEN}
use Rattle.bx_journal_format.specs.Kept.{Kept, kept_of}
use Rattle.bx_image.specs.Change.{effect, saved, Fits, IsOf}
use Rattle.bx_journal_format.specs.Entry.{head_text, end_text}
use Rattle.bx_journal_protocol.specs.write.Begun.{BeginsEntry}
use Rattle.bx_journal_protocol.specs.write.Ranges.{kept_over}
use Rattle.bx_journal_model.specs.Machine.{top, changes_of}
use Rattle.bx_journal_model.specs.Phase.{IsAtRest}
use Rattle.bx_journal_model.specs.Redo.{IsRedoOf}
use Rattle.bx_journal_model.specs.Stack.{StandsFor}
use Rattle.bx_journal_protocol.proofs.RedoText.{empty_is_redo}
use Rattle.bx_journal_protocol.proofs.TurnLemmas.{change_stops}
use Rattle.bx_journal_protocol.proofs.Performed.{appended, performs, top_of_stands}
use Rattle.bx_journal_model.specs.ThreeDevices.{HaveStayed}
use Rattle.bx_journal.proofs.SafeLemmas.{any_fault}
use Rattle.bx_journal_protocol.proofs.LookedLemmas.{pair_stays, rest_step}
use Rattle.bx_journal_model.specs.Step.{WritesEntry}
use Rattle.bx_journal_protocol.proofs.Ready.{IsPrepared, writes_entry, top_of_rest}
use Rattle.bx_journal_protocol.proofs.StepSurvivors.{found_at_rest, found_either, found_of}
use Rattle.bx_journal.proofs.session.Session.perform.Goals as goal
use Rattle.bx_journal.proofs.session.Session.perform.Goals.{After-write_change}

-- what was read and prepared before the first write
module _ (g : _) (c : After-write_change g) where
  abbrev x : List ℕ
  x = g.D.Device.image c.prepare_change.new.devices.image

  abbrev text : List ℕ
  text = g.T.TextStore.text c.prepare_change.new.devices.journal

  abbrev kept : Kept
  kept = kept_over x c.as_slice-ranges.result.now

  abbrev head : List ℕ
  head = head_text c.in_ok-ready.ready.head.number kept

  -- what the entry begins with is of the image as it is now
  begins : g.D.Device.faithful c.self.inside.devices.image → BeginsEntry c.args.change.now x c.in_ok-ready.ready.ranges.items c.in_ok-ready.ready.head
  begins dh = subst (λ y. BeginsEntry c.args.change.now y c.in_ok-ready.ready.ranges.items c.in_ok-ready.ready.head) (sym (c.prepare_change.ensures.stayed.image_same dh)) (c.in_ok-ready.ensures.prepared dh).begins

  stayed : HaveStayed g.D.Device g.T.TextStore c.self.inside.devices c.prepare_change.new.devices
  stayed = c.prepare_change.ensures.stayed

  prepared : g.D.Device.faithful c.self.inside.devices.image → IsPrepared c.args.change.now x c.self.inside.count kept (length (effect c.args.change.now x)) head c.as_bytes-line.result.now
  prepared dh =
      let ready = c.in_ok-ready.ensures in
      let same = stayed.image_same dh in
      record {
        few = omega arith;
        long = subst (λ y. length y ≤ MAX_LEN) (sym same) (ready.prepared dh).fits.len_fits;
        saved_is = subst (λ r. kept_over x r ≡ kept_of (saved c.args.change.now x)) (sym c.as_slice-ranges.ensures.value) (begins dh).saved_is;
        kept = subst (λ r. IsOf (kept_over x r) x) (sym c.as_slice-ranges.ensures.value) (begins dh).kept;
        after_is = refl;
        fits = subst (λ y. length (effect c.args.change.now y) ≤ MAX_LEN) (sym same) (ready.prepared dh).bound;
        head_is = ap (λ n. head_text n kept) ready.number;
        line_is = c.as_bytes-line.ensures.value ∙ (ready.prepared dh).end ∙ ap (λ y. end_text (c.self.inside.count + 1) (length (effect c.args.change.now y))) (sym same);
      }

  writes : g.D.Device.faithful c.self.inside.devices.image → g.T.TextStore.faithful c.self.inside.devices.journal → (stack : List (List ℕ)) → IsAtRest (g.T.TextStore.text c.self.inside.devices.journal) (g.D.Device.image c.self.inside.devices.image) stack → length stack ≡ suc c.self.inside.count
      → WritesEntry c.args.change.now text x stack head c.as_bytes-line.result.now × (effect c.args.change.now x ≡ effect c.args.change.now (top stack))
  writes dh th stack rest counted =
      let now = pair_stays (λ t y. IsAtRest t y stack) stayed dh th rest in (writes_entry (prepared dh) now counted, ap (effect c.args.change.now) (sym (top_of_rest text x stack now)))

pub returns-in-Ok-clause-accepted : goal.returns-in-Ok-clause-accepted
returns-in-Ok-clause-accepted g c =
    rw (← c.self.view_is) (λ dh th stack standing.
    let b = (goal.at.returns-in-Ok-clause-accepted g c).After-write_change in
    let before = stayed g b in
    let d = before.image_faith.1 dh in
    let stands = pair_stays (λ t y. StandsFor t y stack) before dh th standing.stands in
    let same : top stack ≡ g.D.Device.image c.self.inside.devices.image = top_of_stands _ _ stack standing.stands in (
      (omega arith, subst (λ y. Fits c.args.change.now (length y) MAX_LEN) (sym same) (c.in_ok-ready.ensures.prepared dh).fits, omega arith, refl),
      record {
        stands = performs (prepared g b dh) stands standing.count (c.in-Ok.ensures.image d) (c.in-Ok.ensures.back d) (c.in-Ok.ensures.text (before.image_faith.1 dh) (before.journal_faith.1 th));
        count = omega arith;
        whole = standing.whole;
      },
    ))

pub returns-in-Ok-clause-sound : goal.returns-in-Ok-clause-sound
returns-in-Ok-clause-sound g c =
    rw (← c.self.view_is) (λ dh th stack ready.
    let b = (goal.at.returns-in-Ok-clause-sound g c).After-write_change in
    let before = stayed g b in
    let w = writes g b dh th stack ready.rest ready.count in
    record {
      rest = rw w.1 at (c.in-Ok.ensures.ok (before.image_faith.1 dh) (before.journal_faith.1 th) stack w.0);
      count = omega arith;
      whole = ready.whole;
    })

pub returns-in-Ok-clause-entry : goal.returns-in-Ok-clause-entry
returns-in-Ok-clause-entry g c =
    rw (← c.self.view_is) (λ dh th.
    let b = (goal.at.returns-in-Ok-clause-entry g c).After-write_change in
    let before = stayed g b in
    rw (← (before.text_same th), ← (before.image_same dh)) (appended (text g b) (prepared g b dh) (c.in-Ok.ensures.text (before.image_faith.1 dh) (before.journal_faith.1 th))))

pub returns-clause-fault : goal.returns-clause-fault
returns-clause-fault g c =
    rw (← c.self.view_is) (λ dh th stack ready.
    let b = (goal.at.returns-clause-fault g c).After-write_change in
    let before = stayed g b in
    let w = writes g b dh th stack ready.rest ready.count in
    rw w.1 at (c.in-Err.ensures.fault (before.image_faith.1 dh) (before.journal_faith.1 th) stack w.0))

pub returns-in-Ok-clause-undone : goal.returns-in-Ok-clause-undone
returns-in-Ok-clause-undone g c =
    rw (← c.self.view_is) (λ rh.
    let y : List ℕ = g.D.Device.image c.write_change.new.devices.image in
    record {
      redo = subst (λ t. IsRedoOf t y (c.self.inside.count + 1) []) (sym (c.in-Ok.ensures.redo (c.prepare_change.ensures.stayed.redo_faith.1 rh))) (empty_is_redo y (c.self.inside.count + 1) (omega arith));
      counted = refl;
    })

pub returns-clause-finds : goal.returns-clause-finds
returns-clause-finds g c =
    rw (← c.self.view_is) (λ dh th rh s ready undone.
    let b = (goal.at.returns-clause-finds g c).After-write_change in
    let before = stayed g b in
    let w = writes g b dh th s.stack ready.rest ready.count in
    let rest = rest_step before (λ d t u i rest. rest) dh th rh s ready undone in
    rw w.1 at (change_stops _ _ _ _ _ _ _ s rest (omega (arith, ready.count)) (c.in-Err.ensures.left (before.image_faith.1 dh) (before.journal_faith.1 th) (before.redo_faith.1 rh) s.stack w.0)))

-- what is found behind an interruption
pub returns-clause-survives : goal.returns-clause-survives
returns-clause-survives g c =
    rw (← c.self.view_is) (λ dh th rh. (
      (λ s ready undone y new redo image_there there redo_there.
          let b = (goal.at.returns-clause-survives g c).After-write_change in
          let before = stayed g b in
          let w = writes g b dh th s.stack ready.rest ready.count in
          let rest = rest_step before (λ d t u i rest. rest) dh th rh s ready undone in
          let settled = c.in_ok-ready.ensures.settled dh th rh in
          found_either _ _ _ _ _ (rw w.1 at (change_stops _ _ _ _ _ _ _ s rest (omega (arith, ready.count))
          (c.in-Err.ensures.survives (before.image_faith.1 dh) (before.journal_faith.1 th) (before.redo_faith.1 rh) settled s.stack w.0 y new redo image_there there redo_there)))),
      tt,
    ))

-- and where the change is made
pub returns-in-Ok-clause-survives : goal.returns-in-Ok-clause-survives
returns-in-Ok-clause-survives g c =
    rw (← c.self.view_is) (λ dh th rh.
    let b = (goal.at.returns-in-Ok-clause-survives g c).After-write_change in
    let before = stayed g b in
    let d = before.image_faith.1 dh in
    let t = before.journal_faith.1 th in
    let u = before.redo_faith.1 rh in
    let settled = c.in-Ok.ensures.settles d t u in (
      (λ s ready undone y new redo image_there there redo_there.
          let w = writes g b dh th s.stack ready.rest ready.count in
          let rest : IsAtRest (g.T.TextStore.text c.write_change.new.devices.journal) (g.D.Device.image c.write_change.new.devices.image) (effect c.args.change.now (top s.stack) ∷ s.stack) =
          rw w.1 at (c.in-Ok.ensures.ok d t s.stack w.0) in
          let empty : IsRedoOf (g.T.TextStore.text c.write_change.new.devices.redo) (g.D.Device.image c.write_change.new.devices.image) (changes_of (effect c.args.change.now (top s.stack) ∷ s.stack)) [] =
          subst (λ r. IsRedoOf r (g.D.Device.image c.write_change.new.devices.image) (changes_of (effect c.args.change.now (top s.stack) ∷ s.stack)) []) (sym (c.in-Ok.ensures.redo u)) (empty_is_redo (g.D.Device.image c.write_change.new.devices.image) (changes_of (effect c.args.change.now (top s.stack) ∷ s.stack)) (omega (arith, ready.count))) in
          found_of _ _ _ _ (found_at_rest _ _ _ _ _ _ _ rest empty (settled.image y image_there) (settled.journal new there) (settled.redo redo redo_there))),
      settled,
    ))

-- a refusal leaves nothing more to be found
pub returns-in_err-ready-clause-found_before : goal.returns-in_err-ready-clause-found_before
returns-in_err-ready-clause-found_before g c = rw (← c.self.view_is) (any_fault _ c.prepare_change.ensures.found_before)
