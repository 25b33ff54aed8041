use Rattle.std.proofs.Common.{◌≡◌, ◌-◌, ◌∙◌, length, drop, refl, ap, subst, sym, arith}
use Rattle.std.specs.Prelude.{reverse, Vec}
use Rattle.bx_image.specs.declared.record.spans.Span.{Span}
use Rattle.bx_image.proofs.Survivors.{NoMore_then}
use Rattle.bx_journal_model.specs.Power.{FoundBefore}
use Rattle.bx_journal_model.specs.ThreeDevices.{HaveStayed}
use Rattle.bx_journal_protocol.specs.write.Touched.{AreTouched, entries_over}
use Rattle.bx_journal_protocol.proofs.DeviceLemmas.{both_ways, with_device}
use Rattle.bx_journal_protocol.proofs.LookedLemmas.{found_then, stayed_then}
use Rattle.bx_journal_protocol.proofs.TouchedLemmas.{begun_same, first_within}
use Rattle.bx_journal_model.proofs.LongestLemmas.{kept_last}
use Rattle.bx_journal_model.proofs.UndoLoop.{kept_more}
use Rattle.bx_journal_protocol.proofs.before.ranges.take_ranges.Goals as goal
use Rattle.bx_journal_protocol.proofs.before.ranges.take_ranges.Goals.{After-begin_first, After-make_room}

-- the ranges for the entries
touched : (g : _) (c : After-make_room g) → AreTouched c.in_ok-len.len (reverse c.args.read.now.entries.items) (reverse c.in_ok-again.again.takens.items)
touched g c = subst (λ fs. AreTouched c.in_ok-len.len (reverse fs) (reverse c.in_ok-again.again.takens.items)) c.as_slice.ensures.value c.in_ok-again.ensures.touched

-- the image is as it was
image : (g : _) (c : After-make_room g) → g.D.Device.faithful c.args.devices.now.image → g.D.Device.image c.make_room.new.devices.image ≡ g.D.Device.image c.args.devices.now.image
image g c h = c.make_room.ensures.stayed.image_same (c.len.ensures.goes_on.faith.1 h) ∙ c.len.ensures.image h

pub begin_first-requires-clause-long : goal.begin_first-requires-clause-long
begin_first-requires-clause-long g c now =
    let h = c.len.ensures.goes_on.faith.0 (c.make_room.ensures.stayed.image_faith.0 now) in
    c.in_ok-len.ensures.len h ∙ sym (ap length (image g (goal.at.begin_first-requires-clause-long g c).After-make_room h))

pub begin_first-requires-clause-within : goal.begin_first-requires-clause-within
begin_first-requires-clause-within g c =
    let at = goal.at.begin_first-requires-clause-within g c in
    first_within c.in_ok-len.len (reverse c.args.read.now.entries.items) (reverse c.in_ok-again.again.takens.items) (touched g at.After-make_room)

pub returns-clause-kept : goal.returns-clause-kept
returns-clause-kept g c text count read =
    let es = c.args.read.now.entries.items in
    kept_more (g.D.Device.room c.make_room.new.devices.image) (g.D.Device.room c.begin_first.new.image) (drop (length es - c.args.k) es)
    (kept_last text es (drop (length es - c.args.k) es) count (length es - c.args.k) c.longest_of_last-longest.result (g.D.Device.room c.make_room.new.devices.image) read refl c.longest_of_last-longest.ensures c.in_ok-make_room.ensures.image) c.begin_first.ensures.goes_on.no_less_room

pub returns-clause-ready : goal.returns-clause-ready
returns-clause-ready g c =
    let at = goal.at.returns-clause-ready g c in
    let first = λ (h : g.D.Device.faithful c.args.devices.now.image). c.make_room.ensures.stayed.image_faith.1 (c.len.ensures.goes_on.faith.1 h) in
    let begun = c.in_ok-begun.ensures in
    let o = c.in_ok-begun.begun in
    record {
      count = ap (λ (ts : Vec (Vec Span g.row.A.Denot) g.row.A.Denot). length ts.items) begun.takens ∙ c.in_ok-again.ensures.count;
      touched = record {
        len = c.in_ok-len.len;
        long = c.in_ok-len.ensures.len;
        touched = subst (λ (ts : Vec (Vec Span g.row.A.Denot) g.row.A.Denot). AreTouched c.in_ok-len.len (reverse c.args.read.now.entries.items) (reverse ts.items)) (sym begun.takens) (touched g at.After-make_room);
      };
      begun = begun_same c.args.number {rs = o.takens.items} {slice = o.takens.items} o.head.page.items o.head.place first (λ h. sym (image g at.After-make_room h)) refl begun.begun;
      page_room = begun.room;
      window = begun.window;
    }

pub returns-clause-roomed : goal.returns-clause-roomed
returns-clause-roomed g c th =
    let text : length (g.T.TextStore.text c.make_room.new.devices.journal) ≡ length (g.T.TextStore.text c.args.devices.now.journal) = ap length (c.make_room.ensures.stayed.text_same (c.len-2.ensures.goes_on.faith.1 th) ∙ c.len-2.ensures.text th) in
    let same : entries_over c.in_ok-begun.begun.takens.items ≡ entries_over c.in_ok-again.again.takens.items =
    ap (λ (ts : Vec (Vec Span g.row.A.Denot) g.row.A.Denot). entries_over ts.items) c.in_ok-begun.ensures.takens in
    omega (arith, text, same, c.in_ok-to_len.ensures.len th, c.in_ok-again.ensures.long, c.saturating_add.ensures, c.in_ok-make_room.ensures.journal, c.in_ok-make_room.ensures.limit.0)

-- the lengths were looked at before
before_room : (g : _) (c : After-make_room g) → HaveStayed g.D.Device g.T.TextStore c.args.devices.now (record { image = c.len.new.self; journal = c.len-2.new.self; redo = c.args.devices.now.redo })
before_room g c = record {
  image_faith = c.len.ensures.goes_on.faith;
  journal_faith = c.len-2.ensures.goes_on.faith;
  redo_faith = ((λ h. h), λ h. h);
  image_same = c.len.ensures.image;
  text_same = c.len-2.ensures.text;
  redo_same = λ h. refl;
}

room_stayed : (g : _) (c : After-make_room g) → HaveStayed g.D.Device g.T.TextStore c.args.devices.now c.make_room.new.devices
room_stayed g c = stayed_then (before_room g c) c.make_room.ensures.stayed

room_found : (g : _) (c : After-make_room g) → FoundBefore g.D.Device g.T.TextStore c.args.devices.now c.make_room.new.devices
room_found g c =
    found_then (before_room g c) (record { image_before = c.len.ensures.survives; journal_before = c.len-2.ensures.survives; redo_before = λ h text there. there }) c.make_room.ensures.found_before

-- and the image, for the first entry
all_stayed : (g : _) (c : After-begin_first g) → HaveStayed g.D.Device g.T.TextStore c.args.devices.now c.make_room.new.devices
    → HaveStayed g.D.Device g.T.TextStore c.args.devices.now (with_device c.make_room.new.devices c.begin_first.new.image)
all_stayed g c room =
    let last = c.begin_first.ensures in
    record {
      image_faith = both_ways last.goes_on.faith room.image_faith;
      journal_faith = room.journal_faith;
      redo_faith = room.redo_faith;
      image_same = λ h. last.image (room.image_faith.1 h) ∙ room.image_same h;
      text_same = room.text_same;
      redo_same = room.redo_same;
    }

all_found : (g : _) (c : After-begin_first g) → HaveStayed g.D.Device g.T.TextStore c.args.devices.now c.make_room.new.devices
    → FoundBefore g.D.Device g.T.TextStore c.args.devices.now c.make_room.new.devices
    → FoundBefore g.D.Device g.T.TextStore c.args.devices.now (with_device c.make_room.new.devices c.begin_first.new.image)
all_found g c stayed room =
    record {
      image_before = λ h. NoMore_then _ _ _ (room.image_before h) (c.begin_first.ensures.survives (stayed.image_faith.1 h));
      journal_before = room.journal_before;
      redo_before = room.redo_before;
    }

pub returns-in_err-make_room-clause-stayed : goal.returns-in_err-make_room-clause-stayed
returns-in_err-make_room-clause-stayed g c = room_stayed g (goal.at.returns-in_err-make_room-clause-stayed g c).After-make_room

pub returns-in_err-make_room-clause-found_before : goal.returns-in_err-make_room-clause-found_before
returns-in_err-make_room-clause-found_before g c = room_found g (goal.at.returns-in_err-make_room-clause-found_before g c).After-make_room

pub returns-in_err-begun-clause-stayed : goal.returns-in_err-begun-clause-stayed
returns-in_err-begun-clause-stayed g c = let at = goal.at.returns-in_err-begun-clause-stayed g c in all_stayed g at.After-begin_first (room_stayed g at.After-make_room)

pub returns-in_err-begun-clause-found_before : goal.returns-in_err-begun-clause-found_before
returns-in_err-begun-clause-found_before g c =
    let at = goal.at.returns-in_err-begun-clause-found_before g c in all_found g at.After-begin_first (room_stayed g at.After-make_room) (room_found g at.After-make_room)

pub returns-clause-stayed : goal.returns-clause-stayed
returns-clause-stayed g c = let at = goal.at.returns-clause-stayed g c in all_stayed g at.After-begin_first (room_stayed g at.After-make_room)

pub returns-clause-found_before : goal.returns-clause-found_before
returns-clause-found_before g c =
    let at = goal.at.returns-clause-found_before g c in all_found g at.After-begin_first (room_stayed g at.After-make_room) (room_found g at.After-make_room)
