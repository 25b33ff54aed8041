use Rattle.std.proofs.Common.{◌≡◌, ◌∙◌, ◌+◌, ◌^◌, ◌∷◌, ◌++◌, [], ◌<◌, ◌≤◌, ℕ, List, length, drop, refl, ap, sym, subst, arith, append-nil, length-append}
use Rattle.std.specs.List.{length_refill}
use Rattle.std.specs.Prelude.{reverse}
use Rattle.std.proofs.lemmas.Result.{err_from_is_err_and}
use Rattle.bx_image.specs.Change.{effect, saved, IsAsGood}
use Rattle.bx_image.specs.Over.{LieWithin}
use Rattle.bx_image.proofs.Records.{length-restore}
use Rattle.bx_journal_format.specs.Kept.{kept_of}
use Rattle.bx_journal_format.proofs.KeptLemmas.{within_out}
use Rattle.bx_journal_model.specs.Images.{redo_of}
use Rattle.bx_journal_model.specs.Phase.{IsAtRest}
use Rattle.bx_journal_model.specs.Taken.{taken_by}
use Rattle.bx_journal_model.specs.OnTop.{OnTop}
use Rattle.bx_journal_model.specs.Stack.{StandsFor}
use Rattle.bx_journal_model.specs.Undoing.{HasLeft}
use Rattle.bx_journal_protocol.specs.write.Ranges.{kept_over, left_len}
use Rattle.bx_journal_protocol.specs.write.Touched.{AreTouched, IsHeadBegun, IsFirstBegun, IsFirstWithin, IsTouched, entries_over}
use Rattle.bx_journal_protocol.specs.protocol.Turns.{AreAtRest, AreStanding}
use Rattle.bx_journal_protocol.proofs.DeviceLemmas.{always_err, filling_fails, goes_further, none_yet, step_fails}
use Rattle.bx_journal_protocol.proofs.EntryLoop.{EntryTurn, all_left, entry_turn, left_at, long_at, one_less, places}
use Rattle.bx_journal_protocol.proofs.LoopLemmas.{standing}
use Rattle.bx_journal_model.proofs.Phases.{rest_recovers}
use Rattle.bx_journal_protocol.proofs.PrefixLemmas.{prefix_then}
use Rattle.bx_journal_protocol.proofs.RangeLemmas.{are_ranges, ranges_more}
use Rattle.bx_journal_protocol.proofs.RedoLoop.{IsRedoBy, IsMadeAgain, restored, redo_stopped, stopped_on, some_stands, rests_again, rests_on, stands_on, redone_next, grown_next}
use Rattle.bx_journal_protocol.proofs.Shapes.{end_long}
use Rattle.bx_journal_protocol.proofs.TouchedLemmas.{IsKeptOf, begun_pop, begun_same, first_within, kept_by, over_pop, told_of, told_ranges, touched_pop}
use Rattle.bx_journal_protocol.proofs.TurnLemmas.{rest_is_found}
use Rattle.bx_journal_protocol.proofs.StepSurvivors.{found_at_rest, looked_at, survive_err}
use Rattle.bx_journal_format.specs.Shown.{shown}
use Rattle.bx_journal_model.specs.Redo.{Finds}
use Rattle.bx_journal_protocol.proofs.protocol.redo_entry.redo_entries.Goals as goal
use Rattle.bx_journal_protocol.proofs.protocol.redo_entry.redo_entries.Goals.{After-take_both-entry, After-as_slice-spans, After-as_bytes, After-begin_last, After-loop-i}

turn : (g : _) (c : After-take_both-entry g) → EntryTurn c.loop-i.invariant.left c.take_both-entry.new.entries.items c.take_both-entry.result.0 (length c.take_both-entry.new.takens.items)
turn g c =
    let ts = c.take_both-entry.new.takens.items in
    let r = c.take_both-entry.result.1 in
    entry_turn c.loop-i.invariant.left {less = length ts} c.take_both-entry.ensures.entry (sym (ap length c.take_both-entry.ensures.ranges ∙ length-append ts (r ∷ [])))

-- the ranges of the entry, and those of the others
touched : (g : _) (c : After-as_slice-spans g) → IsTouched c.loop-i.invariant.touched.len c.take_both-entry.result.0 c.as_slice-spans.result.now
    × AreTouched c.take_both-entry.result.0.kept.len (reverse c.take_both-entry.new.entries.items) (reverse c.take_both-entry.new.takens.items)
touched g c =
    let all = c.loop-i.invariant.touched in
    let es = c.take_both-entry.new.entries.items in
    let ts = c.take_both-entry.new.takens.items in
    let e = c.take_both-entry.result.0 in
    let r = c.take_both-entry.result.1 in
    let here = touched_pop all.len es e ts r
    (subst (λ us. AreTouched all.len (reverse (es ++ e ∷ [])) (reverse us)) c.take_both-entry.ensures.ranges
    (subst (λ fs. AreTouched all.len (reverse fs) (reverse c.loop-i.takens.items)) c.take_both-entry.ensures.entry all.touched)) in
    (subst (IsTouched all.len e) (sym c.as_slice-spans.ensures.value) here.0, here.1)

-- its head is begun
begun : (g : _) (c : After-as_slice-spans g)
    → IsHeadBegun (g.D.Device.faithful c.args.devices.now.image) (g.D.Device.image c.loop-i.devices.image) (c.loop-i.count + 1) c.as_slice-spans.result.now c.loop-i.head.page.items c.loop-i.head.place
begun g c =
    let x : List ℕ = g.D.Device.image c.loop-i.devices.image in
    let n : ℕ = c.loop-i.count + 1 in
    let page : List ℕ = c.loop-i.head.page.items in
    let place = c.loop-i.head.place in
    let faithful : Type 0 = g.D.Device.faithful c.args.devices.now.image in
    subst (λ r. IsHeadBegun faithful x n r page place) (sym c.as_slice-spans.ensures.value)
    (begun_pop x n c.take_both-entry.new.takens.items c.take_both-entry.result.1 page place (subst (λ us. IsFirstBegun faithful x n (reverse us) page place) c.take_both-entry.ensures.ranges c.loop-i.invariant.begun))

-- what its entry keeps
keeps : (g : _) (c : After-as_slice-spans g)
    → IsKeptOf (g.D.Device.faithful c.args.devices.now.image) (g.D.Device.image c.loop-i.devices.image) c.take_both-entry.result.0 (kept_over (g.D.Device.image c.loop-i.devices.image) c.as_slice-spans.result.now)
keeps g c = kept_by (touched g c).0 c.loop-i.invariant.touched.long (begun g c).bytes

-- the room that its entry takes
room : (g : _) (c : After-as_slice-spans g) → entries_over c.loop-i.takens.items ≡ entries_over c.take_both-entry.new.takens.items + (80 + left_len c.as_slice-spans.result.now 0)
room g c =
    let ts = c.take_both-entry.new.takens.items in
    ap entries_over c.take_both-entry.ensures.ranges ∙ over_pop ts c.take_both-entry.result.1 ∙ ap (λ r. entries_over ts + (80 + left_len r 0)) (sym c.as_slice-spans.ensures.value)

-- the change that is made again, and the line that ends its entry
by : (g : _) (c : After-as_bytes g) → IsRedoBy c.take_both-entry.result.0 c.loop-i.count c.into_change-change.result c.as_bytes.result.now
by g c = record {
  back = record { base = c.into_change-change.ensures.base; writes = c.into_change-change.ensures.writes };
  line_is = c.as_bytes.ensures.value ∙ c.entry_end-end.ensures.text;
}

-- the entry is made again, whether or not the next record is filled
made : (g : _) (c : After-begin_last g) → IsMadeAgain (g.T.TextStore.faithful c.args.devices.now.redo) (g.D.Device.faithful c.args.devices.now.image) (g.T.TextStore.faithful c.args.devices.now.journal) (g.T.TextStore.text c.loop-i.devices.redo) (g.D.Device.image c.loop-i.devices.image) (g.T.TextStore.text c.loop-i.devices.journal)
    (g.T.TextStore.text c.write_change.new.devices.redo) (g.D.Device.image c.begin_last.new.image) (g.T.TextStore.text c.write_change.new.devices.journal) c.take_both-entry.result.0 (kept_over (g.D.Device.image c.loop-i.devices.image) c.as_slice-spans.result.now) c.loop-i.count c.into_change-change.result c.as_bytes.result.now
made g c =
    let x : List ℕ = g.D.Device.image c.loop-i.devices.image in
    let change = c.into_change-change.result in
    let on = c.loop-i.invariant.steps_on in
    let wrote = c.in_ok-write_change.ensures in
    let same = λ (h : g.D.Device.faithful c.args.devices.now.image). c.begin_last.ensures.image (wrote.steps_on.image_faith.1 (on.image_faith.1 h)) in
    record {
      changed = λ dh. same dh ∙ wrote.image (on.image_faith.1 dh);
      good = λ dh. subst (IsAsGood (kept_of (saved change x)) x) (sym (same dh)) (wrote.back (on.image_faith.1 dh));
      cut = λ rh. wrote.redo (on.redo_faith.1 rh);
      written = λ dh th. wrote.text (on.image_faith.1 dh) (on.journal_faith.1 th);
      rests = λ dh th stack writes.
          subst (λ z. IsAtRest (g.T.TextStore.text c.write_change.new.devices.journal) z (effect change x ∷ stack)) (sym (same dh)) (wrote.ok (on.image_faith.1 dh) (on.journal_faith.1 th) stack writes);
    }

pub write_change-requires-clause-head : goal.write_change-requires-clause-head
write_change-requires-clause-head g c =
    let at = (goal.at.write_change-requires-clause-head g c).After-as_slice-spans in
    record {
      ordered = ranges_more (2 ^ 62) (2 ^ 64) _ (omega arith) (told_ranges _ (told_of (touched g at).0));
      place = (begun g at).is_place;
      window = c.loop-i.invariant.window;
      room = c.loop-i.invariant.page_room;
    }

pub write_change-requires-clause-some : goal.write_change-requires-clause-some
write_change-requires-clause-some g c = (begun g (goal.at.write_change-requires-clause-some g c).After-as_slice-spans).some

pub write_change-requires-clause-begun : goal.write_change-requires-clause-begun
write_change-requires-clause-begun g c now =
    let inv = c.loop-i.invariant in
    let at = (goal.at.write_change-requires-clause-begun g c).After-as_slice-spans in
    let dh = inv.steps_on.image_faith.0 now in
    record {
      within = are_ranges (length (g.D.Device.image c.loop-i.devices.image)) _ (subst (λ n. LieWithin n c.as_slice-spans.result.now) (inv.touched.long dh) (touched g at).0.within);
      text = (begun g at).text dh;
    }

pub write_change-requires-clause-image_room : goal.write_change-requires-clause-image_room
write_change-requires-clause-image_room g c =
    let e = c.take_both-entry.result.0 in
    let last = turn g (goal.at.write_change-requires-clause-image_room g c).After-take_both-entry in
    omega (arith, c.into_change-change.ensures.reach (within_out e.kept.len e.kept.runs last.kept.1), last.kept.2)

-- the length of the line that ends the entry
line_long : (g : _) (c : After-as_bytes g) → length c.as_bytes.result.now ≡ 32
line_long g c = ap length (by g c).line_is ∙ end_long (c.loop-i.count + 1) c.take_both-entry.result.0.kept.len

pub write_change-requires-clause-text_room : goal.write_change-requires-clause-text_room
write_change-requires-clause-text_room g c now =
    let inv = c.loop-i.invariant in
    let at = goal.at.write_change-requires-clause-text_room g c in
    omega (arith, inv.fits (inv.steps_on.journal_faith.0 now), room g at.After-as_slice-spans, (begun g at.After-as_slice-spans).long, line_long g at.After-as_bytes)

pub write_change-requires-clause-within : goal.write_change-requires-clause-within
write_change-requires-clause-within g c now =
    let last = turn g (goal.at.write_change-requires-clause-within g c).After-take_both-entry in
    omega (arith, (places last).0.order, long_at last (c.loop-i.invariant.steps_on.redo_faith.0 now))

pub returns-in_err-write_change-clause-finds : goal.returns-in_err-write_change-clause-finds
returns-in_err-write_change-clause-finds g c dh th rh s rest count =
    let inv = c.loop-i.invariant in
    let at = goal.at.returns-in_err-write_change-clause-finds g c in
    let here = inv.images dh th rh s (standing rest) count in
    let less : c.loop-i.i < length c.args.takens.now.items = omega (arith, c.loop-i-test.true, c.len-k.ensures) in
    always_err _ (redo_stopped (turn g at.After-take_both-entry) (keeps g at.After-as_slice-spans) (by g at.After-as_bytes) rh dh less s (record { rest = inv.rest dh th rh s rest count; undone = here.0.undone }) here.1
    (c.in_err-write_change.ensures.left (inv.steps_on.image_faith.1 dh) (inv.steps_on.journal_faith.1 th) (inv.steps_on.redo_faith.1 rh)))

-- before a turn some record is left, so the image's length is one that an entry can tell, and so is the entry's number
pub returns-in_err-write_change-clause-fault : goal.returns-in_err-write_change-clause-fault
returns-in_err-write_change-clause-fault g c dh th stack rest count =
    let inv = c.loop-i.invariant in
    let at = goal.at.returns-in_err-write_change-clause-fault g c in
    let last = turn g at.After-take_both-entry in
    let less : c.loop-i.i < length c.args.takens.now.items = omega (arith, c.loop-i-test.true, c.len-k.ensures) in
    always_err _ (stopped_on last (keeps g at.After-as_slice-spans) (by g at.After-as_bytes) dh (omega (arith, last.most, inv.bound)) less inv.made stack (some_stands _ _ stack rest.stands) count (inv.on_top dh th stack rest count)
    (c.in_err-write_change.ensures.fault (inv.steps_on.image_faith.1 dh) (inv.steps_on.journal_faith.1 th)))

pub begin_last-requires-clause-long : goal.begin_last-requires-clause-long
begin_last-requires-clause-long g c now =
    let at = goal.at.begin_last-requires-clause-long g c in
    let on = c.loop-i.invariant.steps_on in
    let wrote = c.in_ok-write_change.ensures in
    let dh = on.image_faith.0 (wrote.steps_on.image_faith.0 now) in
    sym (ap length (restored (turn g at.After-take_both-entry) (keeps g at.After-as_slice-spans) (by g at.After-as_bytes) (wrote.image (on.image_faith.1 dh)))
    ∙ length-restore (kept_of c.take_both-entry.result.0.kept) (g.D.Device.image c.loop-i.devices.image))

pub begin_last-requires-clause-within : goal.begin_last-requires-clause-within
begin_last-requires-clause-within g c =
    let at = goal.at.begin_last-requires-clause-within g c in
    let ts = c.take_both-entry.new.takens.items in
    let len : ℕ = c.take_both-entry.result.0.kept.len in
    subst (λ us. IsFirstWithin len (reverse us)) (sym c.as_slice.ensures.value)
    (first_within len (reverse c.take_both-entry.new.entries.items) (reverse ts) (touched g at.After-as_slice-spans).1)

pub returns-in_err-place-clause-finds : goal.returns-in_err-place-clause-finds
returns-in_err-place-clause-finds g c dh th rh s rest count =
    let inv = c.loop-i.invariant in
    let at = goal.at.returns-in_err-place-clause-finds g c in
    let last = turn g at.After-take_both-entry in
    let again = by g at.After-as_bytes in
    let kept = keeps g at.After-as_slice-spans in
    let done = made g at.After-begin_last in
    let here = inv.images dh th rh s (standing rest) count in
    let next = redone_next last kept again done rh dh th s here.0 here.1 in
    always_err c.from_residual-in_err-place.result (
      c.loop-i.i + 1,
      omega (arith, c.loop-i-test.true, c.len-k.ensures),
      rest_is_found (g.T.TextStore.text c.write_change.new.devices.journal) (g.D.Device.image c.begin_last.new.image) (g.T.TextStore.text c.write_change.new.devices.redo) (redo_of (c.loop-i.i + 1) s)
          (record { rest = rests_again last kept again done rh dh th s (record { rest = inv.rest dh th rh s rest count; undone = here.0.undone }) here.1; undone = next.0.undone }),
    )

pub returns-in_err-place-clause-fault : goal.returns-in_err-place-clause-fault
returns-in_err-place-clause-fault g c dh th stack rest count =
    let inv = c.loop-i.invariant in
    let at = goal.at.returns-in_err-place-clause-fault g c in
    let last = turn g at.After-take_both-entry in
    let on = rests_on last (keeps g at.After-as_slice-spans) (by g at.After-as_bytes) (made g at.After-begin_last) dh th (omega (arith, last.most, inv.bound)) inv.made stack (some_stands _ _ stack rest.stands) count (inv.on_top dh th stack rest count) in
    always_err c.from_residual-in_err-place.result (
      c.loop-i.i + 1,
      omega (arith, c.loop-i-test.true, c.len-k.ensures),
      (on.0, on.1, rest_recovers (g.T.TextStore.text c.write_change.new.devices.journal) (g.D.Device.image c.begin_last.new.image) (on.0 ++ stack) on.2),
    )

pub loop-i-preserved : goal.loop-i-preserved
loop-i-preserved g c =
    let inv = c.loop-i.invariant in
    let at = goal.at.loop-i-preserved g c in
    let last = turn g at.After-take_both-entry in
    let again = by g at.After-as_bytes in
    let kept = keeps g at.After-as_slice-spans in
    let done = made g at.After-begin_last in
    let wrote = c.in_ok-write_change.ensures in
    let next = c.in_ok-place.ensures in
    let es = c.take_both-entry.new.entries.items in
    let ts = c.take_both-entry.new.takens.items in
    let e = c.take_both-entry.result.0 in
    let y : List ℕ = g.D.Device.image c.begin_last.new.image in
    record {
      left = one_less last done.cut (omega (arith, wrote.room, next.goes_on.no_less_room));
      touched = record {
        len = e.kept.len;
        long = λ dh. sym (ap length (restored last kept again (done.changed dh)) ∙ length-restore (kept_of e.kept) (g.D.Device.image c.loop-i.devices.image));
        touched = (touched g at.After-as_slice-spans).1;
      };
      begun = begun_same (c.loop-i.count + 1 + 1) c.begin_last.new.page.items c.in_ok-place.place (λ dh. wrote.steps_on.image_faith.1 (inv.steps_on.image_faith.1 dh)) (λ dh. next.image (wrote.steps_on.image_faith.1 (inv.steps_on.image_faith.1 dh))) c.as_slice.ensures.value next.begun;
      made = omega (arith, inv.made);
      bound = omega (arith, inv.bound, last.most);
      front = λ th. prefix_then _ _ _ (inv.front th) (wrote.front (inv.steps_on.journal_faith.1 th));
      steps_on = goes_further inv.steps_on wrote.steps_on next.goes_on;
      fits = λ th. omega (
        arith,
        inv.fits th,
        room g at.After-as_slice-spans,
        (begun g at.After-as_slice-spans).long,
        line_long g at.After-as_bytes,
        wrote.long (inv.steps_on.journal_faith.1 th),
        wrote.journal_room,
      );
      settled = λ dh th rh on.
          let here = inv.steps_on in
          let d = here.image_faith.1 dh in
          looked_at _ _ _ _ (next.image (wrote.steps_on.image_faith.1 d)) (next.survives (wrote.steps_on.image_faith.1 d)) (wrote.settles d (here.journal_faith.1 th) (here.redo_faith.1 rh));
      on_top = λ dh th stack rest count.
          rests_on last kept again done dh th (omega (arith, last.most, inv.bound)) inv.made stack (some_stands _ _ stack rest.stands) count (inv.on_top dh th stack rest count);
      stood = λ dh th stack stands count.
          stands_on last kept again done dh th (omega (arith, last.most, inv.bound)) inv.made stack (some_stands _ _ stack stands) count (inv.stood dh th stack stands count);
      page_room = omega (arith, inv.page_room, wrote.kept.page, next.room);
      window = subst (λ n. 16 ≤ n) (length_refill c.write_change.new.head.window.len c.write_change.new.head.window.items c.begin_last.new.window c.write_change.new.head.window.ok.0)
          (omega (arith, inv.window, wrote.kept.window, c.write_change.new.head.window.ok.0));
      rest = λ dh th rh s rest count.
          let here = inv.images dh th rh s (standing rest) count in
          rests_again last kept again done rh dh th s (record { rest = inv.rest dh th rh s rest count; undone = here.0.undone }) here.1;
      images = λ dh th rh s stands count.
          let here = inv.images dh th rh s stands count in
          redone_next last kept again done rh dh th s here.0 here.1;
      taken = λ dh th rh es finished. grown_next last kept again done rh dh th es finished ∙ inv.taken dh th rh es finished;
    }

pub loop-i-init : goal.loop-i-init
loop-i-init g c = record {
  left = all_left c.requires.read c.requires.few c.requires.kept;
  touched = c.requires.touched;
  begun = c.requires.begun;
  made = omega arith;
  bound = c.requires.bound;
  front = λ th. ([], sym (append-nil (g.T.TextStore.text c.args.devices.now.journal)));
  steps_on = none_yet;
  fits = c.requires.fits;
  settled = λ dh th rh on. on;
  on_top = λ dh th stack rest count. ([], refl, rest);
  stood = λ dh th stack stands count. ([], refl, stands);
  page_room = c.requires.page_room;
  window = c.requires.window;
  rest = λ dh th rh s rest count. rest.rest;
  images = λ dh th rh s stands count. (stands, count);
  taken = λ dh th rh es finished. refl;
}

-- each record was taken
all_taken : (g : _) (c : After-loop-i g) → c.loop-i.i ≡ length c.args.takens.now.items
all_taken g c = omega (arith, c.len-k.ensures, c.loop-i.invariant.left.more, c.loop-i-test.false)

pub returns-clause-found : goal.returns-clause-found
returns-clause-found g c dh th rh s rest count =
    let inv = c.loop-i.invariant in
    subst (λ k. AreAtRest (g.T.TextStore.text c.loop-i.devices.journal) (g.D.Device.image c.loop-i.devices.image) (g.T.TextStore.text c.loop-i.devices.redo) (redo_of k s)) (all_taken g (goal.at.returns-clause-found g c).After-loop-i)
    (record { rest = inv.rest dh th rh s rest count; undone = (inv.images dh th rh s (standing rest) count).0.undone })

pub returns-clause-images : goal.returns-clause-images
returns-clause-images g c dh th rh s stands count =
    subst (λ k. AreStanding (g.T.TextStore.text c.loop-i.devices.journal) (g.D.Device.image c.loop-i.devices.image) (g.T.TextStore.text c.loop-i.devices.redo) (redo_of k s)) (all_taken g (goal.at.returns-clause-images g c).After-loop-i)
    (c.loop-i.invariant.images dh th rh s stands count).0

pub returns-clause-rests : goal.returns-clause-rests
returns-clause-rests g c dh th stack rest count =
    subst (λ k. OnTop k stack (IsAtRest (g.T.TextStore.text c.loop-i.devices.journal) (g.D.Device.image c.loop-i.devices.image))) (all_taken g (goal.at.returns-clause-rests g c).After-loop-i) (c.loop-i.invariant.on_top dh th stack rest count)

pub returns-clause-stands : goal.returns-clause-stands
returns-clause-stands g c dh th stack stands count =
    subst (λ k. OnTop k stack (StandsFor (g.T.TextStore.text c.loop-i.devices.journal) (g.D.Device.image c.loop-i.devices.image))) (all_taken g (goal.at.returns-clause-stands g c).After-loop-i) (c.loop-i.invariant.stood dh th stack stands count)

pub returns-clause-taken : goal.returns-clause-taken
returns-clause-taken g c dh th rh es finished =
    let inv = c.loop-i.invariant in
    let all = all_taken g (goal.at.returns-clause-taken g c).After-loop-i in
    let none : length c.loop-i.takens.items ≡ 0 = omega (arith, inv.left.more, all) in
    ap (λ k. taken_by k (drop c.loop-i.i es) (g.D.Device.image c.loop-i.devices.image) c.loop-i.count (g.T.TextStore.text c.loop-i.devices.journal)) (sym none) ∙ inv.taken dh th rh es finished

pub returns-clause-number : goal.returns-clause-number
returns-clause-number g c = omega (arith, c.loop-i.invariant.made, all_taken g (goal.at.returns-clause-number g c).After-loop-i)

pub returns-clause-left : goal.returns-clause-left
returns-clause-left g c rh entries finished =
    subst (λ n. HasLeft (g.T.TextStore.text c.args.devices.now.redo) (g.T.TextStore.text c.loop-i.devices.redo) (drop n entries)) (all_taken g (goal.at.returns-clause-left g c).After-loop-i) (left_at c.loop-i.invariant.left rh entries finished)

pub returns-in_err-write_change-clause-steps_on : goal.returns-in_err-write_change-clause-steps_on
returns-in_err-write_change-clause-steps_on g c = step_fails c.from_residual.result (err_from_is_err_and c.from_residual.result c.from_residual.ensures.1).1 c.loop-i.invariant.steps_on c.in_err-write_change.ensures.steps_on

pub returns-in_err-place-clause-steps_on : goal.returns-in_err-place-clause-steps_on
returns-in_err-place-clause-steps_on g c =
    filling_fails c.from_residual-in_err-place.result (err_from_is_err_and c.from_residual-in_err-place.result c.from_residual-in_err-place.ensures.1).1 c.loop-i.invariant.steps_on c.in_ok-write_change.ensures.steps_on
    c.in_err-place.ensures.goes_on

pub returns-in_err-write_change-clause-survives : goal.returns-in_err-write_change-clause-survives
returns-in_err-write_change-clause-survives g c dh th rh on s rest count =
    let inv = c.loop-i.invariant in
    let at = goal.at.returns-in_err-write_change-clause-survives g c in
    let d = inv.steps_on.image_faith.1 dh in
    let t = inv.steps_on.journal_faith.1 th in
    let u = inv.steps_on.redo_faith.1 rh in
    let here = inv.images dh th rh s (standing rest) count in
    let less : c.loop-i.i < length c.args.takens.now.items = omega (arith, c.loop-i-test.true, c.len-k.ensures) in
    survive_err c.from_residual.result (λ y new redo. (j : ℕ) × (j ≤ length c.args.takens.now.items) × Finds (shown new) y redo (redo_of j s)) _ _ _ (λ y new redo image_there there redo_there. redo_stopped (turn g at.After-take_both-entry) (keeps g at.After-as_slice-spans) (by g at.After-as_bytes) rh dh less s (record { rest = inv.rest dh th rh s rest count; undone = here.0.undone }) here.1
    (λ stack writes. c.in_err-write_change.ensures.survives d t u (inv.settled dh th rh on) stack writes y new redo image_there there redo_there))

pub returns-in_err-place-clause-survives : goal.returns-in_err-place-clause-survives
returns-in_err-place-clause-survives g c dh th rh on s rest count =
    let inv = c.loop-i.invariant in
    let at = goal.at.returns-in_err-place-clause-survives g c in
    let last = turn g at.After-take_both-entry in
    let again = by g at.After-as_bytes in
    let kept = keeps g at.After-as_slice-spans in
    let done = made g at.After-begin_last in
    let here = inv.images dh th rh s (standing rest) count in
    let next = redone_next last kept again done rh dh th s here.0 here.1 in
    let behind = rests_again last kept again done rh dh th s (record { rest = inv.rest dh th rh s rest count; undone = here.0.undone }) here.1 in
    let did = c.in_ok-write_change.ensures in
    let d = inv.steps_on.image_faith.1 dh in
    let still = did.steps_on.image_faith.1 d in
    let settled = looked_at _ _ _ _ (c.in_err-place.ensures.image still) (c.in_err-place.ensures.survives still) (did.settles d (inv.steps_on.journal_faith.1 th) (inv.steps_on.redo_faith.1 rh)) in
    survive_err c.from_residual-in_err-place.result (λ y new redo. (j : ℕ) × (j ≤ length c.args.takens.now.items) × Finds (shown new) y redo (redo_of j s)) _ _ _ (λ y new redo image_there there redo_there. (
      c.loop-i.i + 1,
      omega (arith, c.loop-i-test.true, c.len-k.ensures),
      found_at_rest _ _ _ _ _ _ (redo_of (c.loop-i.i + 1) s) behind next.0.undone (settled.image y image_there) (settled.journal new there) (settled.redo redo redo_there),
    ))
