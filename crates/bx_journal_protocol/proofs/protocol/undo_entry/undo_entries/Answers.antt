use Rattle.std.proofs.Common.{◌≡◌, ◌∙◌, ◌+◌, ◌<◌, ◌≤◌, ℕ, Bool, true, false, List, length, take, drop, refl, ap, sym, subst, arith}
use Rattle.std.specs.Prelude.{nat_le, if◌then◌else◌}
use Rattle.std.proofs.lemmas.Result.{err_from_is_err_and}
use Rattle.bx_image.specs.declared.change.TheConstants.{MAX_LEN}
use Rattle.bx_journal_format.specs.Kept.{kept_of}
use Rattle.bx_journal_format.specs.Parsed.{entry_of}
use Rattle.bx_journal_model.specs.Images.{undo_of}
use Rattle.bx_journal_model.specs.Phase.{IsAtRest}
use Rattle.bx_journal_model.specs.Stack.{StandsFor}
use Rattle.bx_journal_model.specs.Taken.{AreKept}
use Rattle.bx_journal_model.specs.Undoing.{HasLeft}
use Rattle.bx_journal_protocol.specs.protocol.Takens.{AreFilled}
use Rattle.bx_journal_protocol.specs.protocol.Turns.{AreStanding, kept_text}
use Rattle.bx_journal_protocol.proofs.DeviceLemmas.{always_err, filling_fails, goes_further, none_yet, step_fails}
use Rattle.bx_journal_protocol.proofs.LoopLemmas.{first_below, left_at, standing}
use Rattle.bx_journal_protocol.proofs.PlacedLemmas.{placed_marks, at_place}
use Rattle.bx_journal_protocol.proofs.PlacedLoop.{PlacedTurn, all_placed, one_taken, placed_turn, saved_within}
use Rattle.bx_journal_model.proofs.Phases.{rest_recovers}
use Rattle.bx_journal_protocol.proofs.Shapes.{entry_long}
use Rattle.bx_journal_protocol.proofs.StandingLoop.{IsTakenBack, rest_stops, undo_stopped, rests_below, stood_below, undone_next, room_left, taken_next}
use Rattle.bx_journal_protocol.proofs.TurnLemmas.{rest_is_found}
use Rattle.bx_journal_protocol.proofs.StepSurvivors.{found_at_rest, looked_at, survive_err}
use Rattle.bx_journal_format.specs.Shown.{shown}
use Rattle.bx_journal_model.specs.Redo.{Finds}
use Rattle.bx_journal_protocol.proofs.protocol.undo_entry.undo_entries.Goals as goal
use Rattle.bx_journal_protocol.proofs.protocol.undo_entry.undo_entries.Goals.{After-take_last-taken, After-fill_last, After-loop-i}

-- the last place and the last record
last : (g : _) (c : After-take_last-taken g) → PlacedTurn c.loop-i.invariant.left c.take_last-taken.new.placed.items c.take_last-taken.result.0 c.take_last-taken.new.takens.items c.take_last-taken.result.1
last g c = placed_turn c.loop-i.invariant.left c.take_last-taken.ensures.entry c.take_last-taken.ensures.taken

-- the entry is undone, whether or not the next record is filled
back : (g : _) (c : After-fill_last g) (here : PlacedTurn c.loop-i.invariant.left c.take_last-taken.new.placed.items c.take_last-taken.result.0 c.take_last-taken.new.takens.items c.take_last-taken.result.1)
    → IsTakenBack (g.T.TextStore.faithful c.args.devices.now.journal) (g.D.Device.faithful c.args.devices.now.image) (g.T.TextStore.faithful c.args.devices.now.redo) (g.T.TextStore.text c.loop-i.devices.journal) (g.D.Device.image c.loop-i.devices.image) (g.T.TextStore.text c.loop-i.devices.redo)
    (g.T.TextStore.text c.undo_entry.new.devices.journal) (g.D.Device.image c.fill_last.new.image) (g.T.TextStore.text c.undo_entry.new.devices.redo) here.e c.take_last-taken.result.1 c.loop-i.undone
back g c here =
    let on = c.loop-i.invariant.steps_on in
    let undo = c.in_ok-undo_entry.ensures in
    let text : List ℕ = g.T.TextStore.text c.loop-i.devices.journal in
    let same = λ (h : g.D.Device.faithful c.args.devices.now.image). c.fill_last.ensures.image (undo.steps_on.image_faith.1 (on.image_faith.1 h)) in
    record {
      restored = λ th dh. same dh ∙ undo.undoes.image_is (on.image_faith.1 dh) (on.journal_faith.1 th) (kept_of here.e.kept) (here.placed.stands th);
      cut = λ th. undo.text (on.journal_faith.1 th) ∙ ap (λ b. take b text) here.placed.begins;
      kept = λ rh. undo.undoes.redo_is (on.redo_faith.1 rh) ∙ ap (kept_text (g.T.TextStore.text c.loop-i.devices.redo) (kept_of c.take_last-taken.result.1) (c.loop-i.undone + 1)) here.placed.len;
      rests = λ dh th below newest. subst (λ z. IsAtRest (g.T.TextStore.text c.undo_entry.new.devices.journal) z below) (sym (same dh))
          (undo.ok (on.image_faith.1 dh) (on.journal_faith.1 th) below here.e.version (entry_of here.e) (placed_marks here.placed newest) (here.placed.stands th));
    }

pub undo_entry-requires-clause-order : goal.undo_entry-requires-clause-order
undo_entry-requires-clause-order g c =
    let fit = (last g (goal.at.undo_entry-requires-clause-order g c).After-take_last-taken).fit.1 in
    omega (arith, fit.begins, fit.lines)

pub undo_entry-requires-clause-within_text : goal.undo_entry-requires-clause-within_text
undo_entry-requires-clause-within_text g c th = saved_within (last g (goal.at.undo_entry-requires-clause-within_text g c).After-take_last-taken) (c.loop-i.invariant.steps_on.journal_faith.0 th)

pub undo_entry-requires-clause-restorable : goal.undo_entry-requires-clause-restorable
undo_entry-requires-clause-restorable g c =
    let fit = (last g (goal.at.undo_entry-requires-clause-restorable g c).After-take_last-taken).fit.1 in
    record {
      image_room = fit.len;
      order = fit.lines;
      window = fit.enough;
      parts = c.loop-i.invariant.parts;
    }

pub undo_entry-requires-clause-ready : goal.undo_entry-requires-clause-ready
undo_entry-requires-clause-ready g c =
    let inv = c.loop-i.invariant in
    let t = c.take_last-taken.result.1 in
    let here = last g (goal.at.undo_entry-requires-clause-ready g c).After-take_last-taken in
    record {
      within = here.turn.shaped.1;
      fits = λ now. omega (arith, inv.fits (inv.steps_on.redo_faith.0 now), here.turn.lens, entry_long (c.loop-i.undone + 1) 0 (kept_of t) (kept_of t) c.take_last-taken.result.0.mark.len 0 refl);
      empty = inv.empty;
      page_room = inv.page_room;
    }

pub returns-in_err-undo_entry-clause-finds : goal.returns-in_err-undo_entry-clause-finds
returns-in_err-undo_entry-clause-finds g c dh th rh s rest count =
    let inv = c.loop-i.invariant in
    let here = inv.images dh th rh s (standing rest) count in
    let less : c.loop-i.i < length c.args.takens.now.items = omega (arith, c.loop-i-test.true, c.len-k.ensures) in
    let at = last g (goal.at.returns-in_err-undo_entry-clause-finds g c).After-take_last-taken in
    always_err _ (undo_stopped at.turn th dh less s (record { rest = inv.rest dh th s.stack rest.rest; undone = here.0.undone }) here.1
    (λ below newest. at_place at.placed (g.T.TextStore.text c.loop-i.devices.redo) (kept_of c.take_last-taken.result.1) (c.loop-i.undone + 1) (c.in_err-undo_entry.ensures.left (inv.steps_on.image_faith.1 dh) (inv.steps_on.journal_faith.1 th) (inv.steps_on.redo_faith.1 rh) below at.e.version (entry_of at.e) (placed_marks at.placed newest) (at.placed.stands th))))

pub returns-in_err-undo_entry-clause-fault : goal.returns-in_err-undo_entry-clause-fault
returns-in_err-undo_entry-clause-fault g c dh th stack rest =
    let inv = c.loop-i.invariant in
    let less : c.loop-i.i < length c.args.takens.now.items = omega (arith, c.loop-i-test.true, c.len-k.ensures) in
    let at = last g (goal.at.returns-in_err-undo_entry-clause-fault g c).After-take_last-taken in
    always_err _ (rest_stops at.turn th less stack (inv.rest dh th stack rest)
    (λ below newest. c.in_err-undo_entry.ensures.fault (inv.steps_on.image_faith.1 dh) (inv.steps_on.journal_faith.1 th) below at.e.version (entry_of at.e) (placed_marks at.placed newest) (at.placed.stands th)))

pub fill_last-requires-clause-range : goal.fill_last-requires-clause-range
fill_last-requires-clause-range g c now =
    let on = c.loop-i.invariant.steps_on in
    let undo = c.in_ok-undo_entry.ensures in
    let dh = on.image_faith.0 (undo.steps_on.image_faith.0 now) in
    let here = last g (goal.at.fill_last-requires-clause-range g c).After-take_last-taken in
    first_below here.turn _ dh (undo.undoes.long (on.image_faith.1 dh) ∙ here.placed.len)

pub returns-in_err-fill_last-clause-finds : goal.returns-in_err-fill_last-clause-finds
returns-in_err-fill_last-clause-finds g c dh th rh s rest count =
    let inv = c.loop-i.invariant in
    let at = goal.at.returns-in_err-fill_last-clause-finds g c in
    let here_at = last g at.After-take_last-taken in
    let turn = here_at.turn in
    let done = back g at.After-fill_last here_at in
    let here = inv.images dh th rh s (standing rest) count in
    let next = undone_next turn done th dh rh s here.0 here.1 in
    always_err c.from_residual-in_err-fill_last.result (
      c.loop-i.i + 1,
      omega (arith, c.loop-i-test.true, c.len-k.ensures),
      rest_is_found (g.T.TextStore.text c.undo_entry.new.devices.journal) (g.D.Device.image c.fill_last.new.image) (g.T.TextStore.text c.undo_entry.new.devices.redo) (undo_of (c.loop-i.i + 1) s)
          (record { rest = rests_below turn done th dh s.stack (inv.rest dh th s.stack rest.rest); undone = next.0.undone }),
    )

pub returns-in_err-fill_last-clause-fault : goal.returns-in_err-fill_last-clause-fault
returns-in_err-fill_last-clause-fault g c dh th stack rest =
    let at = goal.at.returns-in_err-fill_last-clause-fault g c in
    always_err c.from_residual-in_err-fill_last.result (
      c.loop-i.i + 1,
      omega (arith, c.loop-i-test.true, c.len-k.ensures),
      (let here = last g at.After-take_last-taken in rest_recovers _ _ _ (rests_below here.turn (back g at.After-fill_last here) th dh stack (c.loop-i.invariant.rest dh th stack rest))),
    )

pub loop-i-preserved : goal.loop-i-preserved
loop-i-preserved g c =
    let inv = c.loop-i.invariant in
    let at = goal.at.loop-i-preserved g c in
    let here_at = last g at.After-take_last-taken in
    let turn = here_at.turn in
    let done = back g at.After-fill_last here_at in
    let undo = c.in_ok-undo_entry.ensures in
    let filled = c.in_ok-fill_last.ensures in
    let ts = c.take_last-taken.new.takens.items in
    let new = c.fill_last.new.takens.items in
    record {
      left = one_taken here_at done.cut (λ dh. ap length (filled.image (undo.steps_on.image_faith.1 (inv.steps_on.image_faith.1 dh))) ∙ undo.undoes.long (inv.steps_on.image_faith.1 dh) ∙ here_at.placed.len)
          done.restored (omega (arith, undo.undoes.room_kept, filled.goes_on.no_less_room)) undo.buffers_kept.window filled.shaped filled.count
          (λ dh. let here = undo.steps_on.image_faith.1 (inv.steps_on.image_faith.1 dh) in subst (λ z. AreFilled z ts new) (sym (filled.image here)) (filled.filled here));
      parts = omega (arith, inv.parts, undo.buffers_kept.parts);
      bound = by_len (nat_le c.take_last-taken.result.1.len MAX_LEN) c.loop-i.undone c.undone_with-undone.result (length ts) (length new) (c.args.undone + length c.args.takens.now.items) c.undone_with-undone.ensures filled.count (omega (arith, inv.bound, turn.most));
      steps_on = goes_further inv.steps_on undo.steps_on filled.goes_on;
      fits = λ rh. room_left turn done new rh (inv.fits rh) undo.undoes.redo_room filled.entries_len;
      settled = λ dh th rh on.
          let here = inv.steps_on in
          let d = here.image_faith.1 dh in
          looked_at _ _ _ _ (filled.image (undo.steps_on.image_faith.1 d)) (filled.survives (undo.steps_on.image_faith.1 d)) (undo.settles d (here.journal_faith.1 th) (here.redo_faith.1 rh));
      empty = undo.emptied;
      page_room = omega (arith, inv.page_room, undo.page_kept);
      rest = λ dh th stack rest. rests_below turn done th dh stack (inv.rest dh th stack rest);
      stood = λ dh th stack stands. stood_below turn done th dh stack (inv.stood dh th stack stands);
      images = λ dh th rh s stands count.
          let here = inv.images dh th rh s stands count in
          let next = undone_next turn done th dh rh s here.0 here.1 in
          (next.0, c.undone_with-undone.ensures ∙ next.1);
      taken = λ dh th rh es finished last left. inv.taken dh th rh es finished last (taken_next turn done th dh rh c.undone_with-undone.ensures new filled.count es finished last left);
    }
  where
    by_len : (b : Bool) (n m k l limit : ℕ) → m ≡ (if b then n + 1 else 0) → l ≡ k → n + (k + 1) ≤ limit → m + l ≤ limit
    by_len true n m k l limit is same most = omega (arith, is, same, most)
    by_len false n m k l limit is same most = omega (arith, is, same, most)

pub loop-i-init : goal.loop-i-init
loop-i-init g c = record {
  left = all_placed c.requires.prepared c.requires.shaped c.requires.placed c.requires.same;
  parts = c.requires.parts;
  bound = omega arith;
  steps_on = none_yet;
  fits = c.requires.fits;
  settled = λ dh th rh on. on;
  empty = c.requires.empty;
  page_room = c.requires.page_room;
  rest = λ dh th stack rest. rest;
  stood = λ dh th stack stands. stands;
  images = λ dh th rh s stands count. (stands, count);
  taken = λ dh th rh es finished last kept. kept;
}

-- each record was taken
all_taken : (g : _) (c : After-loop-i g) → c.loop-i.i ≡ length c.args.takens.now.items
all_taken g c = omega (arith, c.len-k.ensures, c.loop-i.invariant.left.left.more, c.loop-i-test.false)

pub returns-clause-images : goal.returns-clause-images
returns-clause-images g c dh th rh s stands count =
    let all = all_taken g (goal.at.returns-clause-images g c).After-loop-i in
    let here = c.loop-i.invariant.images dh th rh s stands count in (
      here.1 ∙ ap (λ (k : ℕ). length (undo_of k s).undone) all,
      subst (λ k. AreStanding (g.T.TextStore.text c.loop-i.devices.journal) (g.D.Device.image c.loop-i.devices.image) (g.T.TextStore.text c.loop-i.devices.redo) (undo_of k s)) all here.0,
    )

pub returns-clause-taken : goal.returns-clause-taken
returns-clause-taken g c dh th rh es finished =
    let inv = c.loop-i.invariant in
    let all = all_taken g (goal.at.returns-clause-taken g c).After-loop-i in
    let none : length c.loop-i.takens.items ≡ 0 = omega (arith, inv.left.left.more, all) in
    let now : List ℕ = g.T.TextStore.text c.loop-i.devices.redo in
    inv.taken dh th rh es finished now (subst (λ k. AreKept k (drop c.loop-i.i es) (g.D.Device.image c.loop-i.devices.image) c.loop-i.undone now now) (sym none) refl)

pub returns-clause-ok : goal.returns-clause-ok
returns-clause-ok g c dh th stack rest =
    subst (λ n. IsAtRest (g.T.TextStore.text c.loop-i.devices.journal) (g.D.Device.image c.loop-i.devices.image) (drop n stack)) (all_taken g (goal.at.returns-clause-ok g c).After-loop-i) (c.loop-i.invariant.rest dh th stack rest)

pub returns-clause-stands : goal.returns-clause-stands
returns-clause-stands g c dh th stack stands =
    subst (λ n. StandsFor (g.T.TextStore.text c.loop-i.devices.journal) (g.D.Device.image c.loop-i.devices.image) (drop n stack)) (all_taken g (goal.at.returns-clause-stands g c).After-loop-i) (c.loop-i.invariant.stood dh th stack stands)

pub returns-clause-left : goal.returns-clause-left
returns-clause-left g c th entries finished =
    subst (λ n. HasLeft (g.T.TextStore.text c.args.devices.now.journal) (g.T.TextStore.text c.loop-i.devices.journal) (drop n entries)) (all_taken g (goal.at.returns-clause-left g c).After-loop-i) (left_at c.loop-i.invariant.left.left th entries finished)

pub returns-in_err-undo_entry-clause-steps_on : goal.returns-in_err-undo_entry-clause-steps_on
returns-in_err-undo_entry-clause-steps_on g c = step_fails c.from_residual.result (err_from_is_err_and c.from_residual.result c.from_residual.ensures.1).1 c.loop-i.invariant.steps_on c.in_err-undo_entry.ensures.steps_on

pub returns-in_err-fill_last-clause-steps_on : goal.returns-in_err-fill_last-clause-steps_on
returns-in_err-fill_last-clause-steps_on g c =
    filling_fails c.from_residual-in_err-fill_last.result (err_from_is_err_and c.from_residual-in_err-fill_last.result c.from_residual-in_err-fill_last.ensures.1).1 c.loop-i.invariant.steps_on c.in_ok-undo_entry.ensures.steps_on
    c.in_err-fill_last.ensures.goes_on

pub returns-in_err-undo_entry-clause-survives : goal.returns-in_err-undo_entry-clause-survives
returns-in_err-undo_entry-clause-survives g c dh th rh on s rest count =
    let inv = c.loop-i.invariant in
    let at = goal.at.returns-in_err-undo_entry-clause-survives g c in
    let d = inv.steps_on.image_faith.1 dh in
    let t = inv.steps_on.journal_faith.1 th in
    let u = inv.steps_on.redo_faith.1 rh in
    let here = inv.images dh th rh s (standing rest) count in
    let less : c.loop-i.i < length c.args.takens.now.items = omega (arith, c.loop-i-test.true, c.len-k.ensures) in
    let p = last g at.After-take_last-taken in
    survive_err c.from_residual.result (λ y new redo. (j : ℕ) × (j ≤ length c.args.takens.now.items) × Finds (shown new) y redo (undo_of j s)) _ _ _ (λ y new redo image_there there redo_there. undo_stopped p.turn th dh less s (record { rest = inv.rest dh th s.stack rest.rest; undone = here.0.undone }) here.1
    (λ below newest. at_place p.placed (g.T.TextStore.text c.loop-i.devices.redo) (kept_of c.take_last-taken.result.1) (c.loop-i.undone + 1) (c.in_err-undo_entry.ensures.survives d t u (inv.settled dh th rh on) below p.e.version (entry_of p.e) (placed_marks p.placed newest) (p.placed.stands th) y new redo image_there there redo_there)))

pub returns-in_err-fill_last-clause-survives : goal.returns-in_err-fill_last-clause-survives
returns-in_err-fill_last-clause-survives g c dh th rh on s rest count =
    let inv = c.loop-i.invariant in
    let at = goal.at.returns-in_err-fill_last-clause-survives g c in
    let here_at = last g at.After-take_last-taken in
    let turn = here_at.turn in
    let done = back g at.After-fill_last here_at in
    let here = inv.images dh th rh s (standing rest) count in
    let next = undone_next turn done th dh rh s here.0 here.1 in
    let behind = rests_below turn done th dh s.stack (inv.rest dh th s.stack rest.rest) in
    let did = c.in_ok-undo_entry.ensures in
    let d = inv.steps_on.image_faith.1 dh in
    let still = did.steps_on.image_faith.1 d in
    let settled = looked_at _ _ _ _ (c.in_err-fill_last.ensures.image still) (c.in_err-fill_last.ensures.survives still) (did.settles d (inv.steps_on.journal_faith.1 th) (inv.steps_on.redo_faith.1 rh)) in
    survive_err c.from_residual-in_err-fill_last.result (λ y new redo. (j : ℕ) × (j ≤ length c.args.takens.now.items) × Finds (shown new) y redo (undo_of j s)) _ _ _ (λ y new redo image_there there redo_there. (
      c.loop-i.i + 1,
      omega (arith, c.loop-i-test.true, c.len-k.ensures),
      found_at_rest _ _ _ _ _ _ (undo_of (c.loop-i.i + 1) s) behind next.0.undone (settled.image y image_there) (settled.journal new there) (settled.redo redo redo_there),
    ))
