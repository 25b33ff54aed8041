use Rattle.std.proofs.Common.{◌≡◌, ◌-◌, ◌∙◌, List, length, drop, refl, ap, subst, sym, arith}
use Rattle.std.specs.Prelude.{reverse}
use Rattle.bx_image.proofs.Survivors.{NoMore_then}
use Rattle.bx_journal_format.specs.declared.read.types.EntryRead.{EntryRead}
use Rattle.bx_journal_protocol.specs.protocol.Placed.{AllFit}
use Rattle.bx_journal_protocol.specs.protocol.Takens.{AllShaped, AreReady, AreRoomFrom, entries_len}
use Rattle.bx_journal_protocol.proofs.DeviceLemmas.{both_ways}
use Rattle.bx_journal_protocol.proofs.LeftOut.{first_of_rooms}
use Rattle.bx_journal_protocol.proofs.PlanLemmas.{ordered_drop, places_fit}
use Rattle.bx_journal_protocol.proofs.before.records.take_records.Goals as goal

pub entries_len-more-requires : goal.entries_len-more-requires
entries_len-more-requires g c = record { shaped = subst AllShaped (sym c.as_slice.ensures.value) c.in-Ok.ensures.taken.shaped }

pub returns-clause-fit : goal.returns-clause-fit
returns-clause-fit g c =
    let es : List (EntryRead g.row.A.Denot) = c.args.read.entries.items in
    let n = length es - c.args.k in
    let taken = c.in-Ok.ensures.taken in
    let o = c.in-Ok.taking in
    subst (AllFit (g.D.Device.room c.fill_last.new.image) (length o.buffers.window.items)) (sym taken.places)
    (places_fit (drop n es) (length o.buffers.window.items) o.longest (g.D.Device.room c.fill_last.new.image) (ordered_drop n es c.requires.order) taken.longest
    (omega (arith, c.in_ok-make_room.ensures.image, c.fill_last.ensures.goes_on.no_less_room)) taken.window)

-- the image is the one that it was, behind the calls up to the room that is made
pub returns-clause-filled : goal.returns-clause-filled
returns-clause-filled g c faithful =
    let es = c.args.read.entries.items in
    let ts = c.in-Ok.taking.takens.items in
    let first = c.len.ensures.goes_on.faith.1 faithful in
    let second = c.take_memory.ensures.looks.faith.1 first in
    let same = c.make_room.ensures.stayed.image_same second ∙ c.take_memory.ensures.looks.same first in
    let image : g.D.Device.image c.make_room.new.devices.image ≡ g.D.Device.image c.args.devices.now.image = same ∙ c.len.ensures.image faithful in
    let room : AreRoomFrom (g.D.Device.image c.make_room.new.devices.image) (reverse es) (reverse ts) =
    subst (λ x. AreRoomFrom x (reverse es) (reverse ts)) (sym same) (c.in-Ok.ensures.room first) in
    subst (λ x. AreReady x (reverse es) (reverse c.fill_last.new.takens.items)) image ((c.in_ok-fill_last.ensures.filled (c.make_room.ensures.stayed.image_faith.1 second)).ready (reverse es) room)

pub take_memory-requires-clause-long : goal.take_memory-requires-clause-long
take_memory-requires-clause-long g c now =
    let faithful = c.len.ensures.goes_on.faith.0 now in
    c.in_ok-len.ensures.len faithful ∙ sym (ap length (c.len.ensures.image faithful))

pub returns-clause-places : goal.returns-clause-places
returns-clause-places g c = c.in-Ok.ensures.taken.places

pub returns-clause-parts : goal.returns-clause-parts
returns-clause-parts g c = c.in-Ok.ensures.taken.parts

pub returns-clause-shaped : goal.returns-clause-shaped
returns-clause-shaped g c = c.fill_last.ensures.shaped c.in-Ok.ensures.taken.shaped

pub returns-clause-count : goal.returns-clause-count
returns-clause-count g c = c.fill_last.ensures.count ∙ c.in-Ok.ensures.taken.count

pub returns-clause-empty : goal.returns-clause-empty
returns-clause-empty g c = c.in-Ok.ensures.taken.empty

pub returns-clause-page_room : goal.returns-clause-page_room
returns-clause-page_room g c = c.in-Ok.ensures.taken.page_room

pub returns-clause-roomed : goal.returns-clause-roomed
returns-clause-roomed g c th =
    let text : length (g.T.TextStore.text c.make_room.new.devices.redo) ≡ length (g.T.TextStore.text c.args.devices.now.redo) = ap length (c.make_room.ensures.stayed.redo_same (c.len-2.ensures.goes_on.faith.1 th) ∙ c.len-2.ensures.text th) in
    let more : entries_len c.as_slice.result.now ≡ entries_len c.in-Ok.taking.takens.items = ap entries_len c.as_slice.ensures.value in
    omega (arith, text, more, c.in_ok-to_len.ensures.len th, c.entries_len-more.ensures, c.fill_last.ensures.entries_len, c.saturating_add.ensures, c.in_ok-make_room.ensures.redo, c.in_ok-make_room.ensures.limit.1)

pub returns-clause-stayed : goal.returns-clause-stayed
returns-clause-stayed g c =
    let room = c.make_room.ensures.stayed in
    let first = both_ways c.take_memory.ensures.looks.faith c.len.ensures.goes_on.faith in
    let one = c.len.ensures.goes_on.faith in
    let other = c.len-2.ensures.goes_on.faith in
    record {
      image_faith = both_ways c.fill_last.ensures.goes_on.faith (both_ways room.image_faith first);
      journal_faith = room.journal_faith;
      redo_faith = both_ways room.redo_faith other;
      image_same = λ h. c.fill_last.ensures.image (room.image_faith.1 (first.1 h)) ∙ room.image_same (first.1 h) ∙ c.take_memory.ensures.looks.same (one.1 h) ∙ c.len.ensures.image h;
      text_same = room.text_same;
      redo_same = λ h. room.redo_same (other.1 h) ∙ c.len-2.ensures.text h;
    }

pub returns-clause-found_before : goal.returns-clause-found_before
returns-clause-found_before g c =
    let room = c.make_room.ensures in
    let first = both_ways c.take_memory.ensures.looks.faith c.len.ensures.goes_on.faith in
    let one = c.len.ensures.goes_on.faith in
    record {
      image_before = λ h.
          NoMore_then _ _ _ (NoMore_then _ _ _ (c.len.ensures.survives h) (c.take_memory.ensures.survives (one.1 h)))
          (NoMore_then _ _ _ (room.found_before.image_before (first.1 h)) (c.fill_last.ensures.survives (room.stayed.image_faith.1 (first.1 h))));
      journal_before = room.found_before.journal_before;
      redo_before = λ h. NoMore_then _ _ _ (c.len-2.ensures.survives h) (room.found_before.redo_before (c.len-2.ensures.goes_on.faith.1 h));
    }

pub fill_last-requires-clause-range : goal.fill_last-requires-clause-range
fill_last-requires-clause-range g c now =
    let es = c.args.read.entries.items in
    let ts = c.in-Ok.taking.takens.items in
    let second = c.make_room.ensures.stayed.image_faith.0 now in
    let first = c.take_memory.ensures.looks.faith.0 second in
    let same = c.make_room.ensures.stayed.image_same second ∙ c.take_memory.ensures.looks.same first in
    first_of_rooms (g.D.Device.image c.make_room.new.devices.image) (reverse es) (reverse ts) (subst (λ x. AreRoomFrom x (reverse es) (reverse ts)) (sym same) (c.in-Ok.ensures.room first))

-- up to the room that was made, and with what was read
pub returns-in_err-make_room-clause-stayed : goal.returns-in_err-make_room-clause-stayed
returns-in_err-make_room-clause-stayed g c =
    let room = c.make_room.ensures.stayed in
    let first = both_ways c.take_memory.ensures.looks.faith c.len.ensures.goes_on.faith in
    let one = c.len.ensures.goes_on.faith in
    let other = c.len-2.ensures.goes_on.faith in
    record {
      image_faith = both_ways room.image_faith first;
      journal_faith = room.journal_faith;
      redo_faith = both_ways room.redo_faith other;
      image_same = λ h. room.image_same (first.1 h) ∙ c.take_memory.ensures.looks.same (one.1 h) ∙ c.len.ensures.image h;
      text_same = room.text_same;
      redo_same = λ h. room.redo_same (other.1 h) ∙ c.len-2.ensures.text h;
    }

pub returns-in_err-make_room-clause-found_before : goal.returns-in_err-make_room-clause-found_before
returns-in_err-make_room-clause-found_before g c =
    let room = c.make_room.ensures.found_before in
    let one = c.len.ensures.goes_on.faith in
    record {
      image_before = λ h.
          NoMore_then _ _ _ (NoMore_then _ _ _ (c.len.ensures.survives h) (c.take_memory.ensures.survives (one.1 h))) (room.image_before (c.take_memory.ensures.looks.faith.1 (one.1 h)));
      journal_before = room.journal_before;
      redo_before = λ h. NoMore_then _ _ _ (c.len-2.ensures.survives h) (room.redo_before (c.len-2.ensures.goes_on.faith.1 h));
    }

pub returns-in_err-fill_last-clause-stayed : goal.returns-in_err-fill_last-clause-stayed
returns-in_err-fill_last-clause-stayed g c =
    let room = c.make_room.ensures.stayed in
    let first = both_ways c.take_memory.ensures.looks.faith c.len.ensures.goes_on.faith in
    let one = c.len.ensures.goes_on.faith in
    let other = c.len-2.ensures.goes_on.faith in
    record {
      image_faith = both_ways c.fill_last.ensures.goes_on.faith (both_ways room.image_faith first);
      journal_faith = room.journal_faith;
      redo_faith = both_ways room.redo_faith other;
      image_same = λ h. c.fill_last.ensures.image (room.image_faith.1 (first.1 h)) ∙ room.image_same (first.1 h) ∙ c.take_memory.ensures.looks.same (one.1 h) ∙ c.len.ensures.image h;
      text_same = room.text_same;
      redo_same = λ h. room.redo_same (other.1 h) ∙ c.len-2.ensures.text h;
    }

pub returns-in_err-fill_last-clause-found_before : goal.returns-in_err-fill_last-clause-found_before
returns-in_err-fill_last-clause-found_before g c =
    let room = c.make_room.ensures in
    let first = both_ways c.take_memory.ensures.looks.faith c.len.ensures.goes_on.faith in
    let one = c.len.ensures.goes_on.faith in
    record {
      image_before = λ h.
          NoMore_then _ _ _ (NoMore_then _ _ _ (c.len.ensures.survives h) (c.take_memory.ensures.survives (one.1 h)))
          (NoMore_then _ _ _ (room.found_before.image_before (first.1 h)) (c.fill_last.ensures.survives (room.stayed.image_faith.1 (first.1 h))));
      journal_before = room.found_before.journal_before;
      redo_before = λ h. NoMore_then _ _ _ (c.len-2.ensures.survives h) (room.found_before.redo_before (c.len-2.ensures.goes_on.faith.1 h));
    }

-- where memory is lacking, or the look for zeros failed
pub returns-in-Err-clause-stayed : goal.returns-in-Err-clause-stayed
returns-in-Err-clause-stayed g c =
    let one = c.len.ensures.goes_on.faith in
    let other = c.len-2.ensures.goes_on.faith in
    record {
      image_faith = both_ways c.take_memory.ensures.looks.faith one;
      journal_faith = (λ h. h, λ h. h);
      redo_faith = other;
      image_same = λ h. c.take_memory.ensures.looks.same (one.1 h) ∙ c.len.ensures.image h;
      text_same = λ h. refl;
      redo_same = λ h. c.len-2.ensures.text h;
    }

pub returns-in-Err-clause-found_before : goal.returns-in-Err-clause-found_before
returns-in-Err-clause-found_before g c =
    let one = c.len.ensures.goes_on.faith in
    record {
      image_before = λ h. NoMore_then _ _ _ (c.len.ensures.survives h) (c.take_memory.ensures.survives (one.1 h));
      journal_before = λ h text there. there;
      redo_before = λ h. c.len-2.ensures.survives h;
    }
