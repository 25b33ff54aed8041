use Rattle.std.proofs.Common.{◌≡◌, ◌∙◌, ℕ, Some, sym, arith}
use Rattle.bx_image.specs.Power.{NoMore}
use Rattle.bx_world.specs.World.{IsNoText}
use Rattle.bx_run.specs.forget.Forgetting.{texts_of}
use Rattle.bx_run.proofs.Alone.{below_placed}
use Rattle.bx_run.proofs.Emptied.{emptied, finds_first, left_note, spares_then, survived}
use Rattle.bx_run.proofs.Failing.{counts_placed}
use Rattle.bx_run.proofs.Placed.{as_texts, from_places, holds_placed, lets_texts, neither, others_texts, placed, placed_first, placed_left, to_places}
use Rattle.bx_run.proofs.forget.forgotten.empty_texts.Goals as goal

pub forget_devices-outcome-requires : goal.forget_devices-outcome-requires
forget_devices-outcome-requires g c =
    let none = c.requires.unfailed in
    let fresh = c.let_change-journal.ensures.failures in
    record {
      countable = rw c.in_places-devices.ensures (below_placed g.W.Image.Device g.W.Text.TextStore c.args.exchanged
          (record { image = c.in_places-lent.result.image; journal = c.let_change-journal.result.0; redo = c.let_change-journal.result.1 }) _
          (rw c.in_places-lent.ensures (omega (arith, none)), omega (arith, fresh), omega (arith, fresh)));
    }

pub close_texts-requires : goal.close_texts-requires
close_texts-requires g c =
    let lent = c.let_change-journal.result in
    let left = c.forget_devices-outcome.new.devices in
    let forgets = c.forget_devices-outcome.ensures in
    let fresh = c.let_change-journal.ensures.failures in
    let counts = counts_placed g.W.Image.Device g.W.Text.TextStore c.args.exchanged c.in_places-devices.result left c.in_places-closed.result
    c.in_places-lent.result.image lent.0 lent.1 c.in_places-devices.ensures c.in_places-closed.ensures c.forget_devices-outcome.result forgets.fault
    forgets.counts forgets.no_failure (rw c.in_places-lent.ensures c.requires.unfailed) fresh.0 fresh.1 in
    record {
      order = (counts.0, counts.1);
      devices = λ mid.
          let old = c.let_change-journal.ensures.faith.0 mid in
          let f = c.requires.beside old in
          let faithful = to_places c.args.exchanged f.0 c.in_places-devices.result c.in_places-lent.result.image lent.0 lent.1 c.in_places-devices.ensures
          (λ o. g.W.Text.TextStore.faithful) (c.let_change-journal.ensures.journal old f.0 f.1).0 (c.let_change-journal.ensures.redo old f.0 f.1).0 in
          let closed = to_places c.args.exchanged f.0 c.in_places-closed.result left.image left.journal left.redo c.in_places-closed.ensures
          (λ o. g.W.Text.TextStore.faithful) (forgets.journal_faith.1 faithful.0) (forgets.redo_faith.1 faithful.1) in
          let image = forgets.image_faith.1 (rw (c.in_places-devices.ensures, c.in_places-lent.ensures) (c.requires.image old)) in
          (rw c.in_places-closed.ensures image, closed.0, closed.1);
    }

pub returns-clause-empties : goal.returns-clause-empties
returns-clause-empties g c old f is alone same =
    let mid = c.let_change-journal.ensures.faith.1 old in
    let lent = c.let_change-journal.result in
    let left = c.forget_devices-outcome.new.devices in
    let forgets = c.forget_devices-outcome.ensures in
    let journal = c.let_change-journal.ensures.journal old f is in
    let redo = c.let_change-journal.ensures.redo old f is in
    let holds = holds_placed c.args.exchanged f c.in_places-devices.result c.in_places-lent.result.image lent.0 lent.1 c.in_places-devices.ensures
    g.W.Image.Device g.W.Text.TextStore (g.W.World.state c.args.world.now) (rw c.in_places-lent.ensures (c.requires.image old))
    (rw c.in_places-lent.ensures same) journal redo in
    let closed = c.close_texts.ensures.closed mid f (c.let_change-journal.ensures.beside old ∙ is) in
    let closes = from_places c.args.exchanged f c.in_places-closed.result left.image left.journal left.redo c.in_places-closed.ensures
    (λ o x. (n : ℕ) → o ≡ Some n → (g.W.World.state c.close_texts.new.world).bytes n ≡ g.W.Text.TextStore.text x)
    (placed f _ _ _ _ closed) closed.redo_bytes in
    let only = spares_then (IsNoText f) (IsNoText f) (IsNoText f) _ _ _ (λ i p. p) (λ i p. p) (c.let_change-journal.ensures.only old f is) closed.only in
    emptied g.W.Image.Device g.W.Text.TextStore (texts_of c.args.exchanged f) _ _ c.in_places-devices.result left
    (as_texts c.args.exchanged f _ _ only) closes.0 closes.1 holds.image_is holds.journal_is holds.redo_is (neither c.args.exchanged f f.image alone)
    (forgets.image holds.image_faithful) _ (forgets.alone holds.image_faithful holds.journal_faithful holds.redo_faithful) forgets.fault
    (forgets.left holds.image_faithful holds.journal_faithful holds.redo_faithful)
    (λ s found. finds_first _ _ _ (forgets.finds holds.image_faithful holds.journal_faithful holds.redo_faithful s found))

pub returns-clause-only : goal.returns-clause-only
returns-clause-only g c old f is =
    let mid = c.let_change-journal.ensures.faith.1 old in
    spares_then (IsNoText f) (IsNoText f) (IsNoText f) _ _ _ (λ i p. p) (λ i p. p) (c.let_change-journal.ensures.only old f is)
    (c.close_texts.ensures.closed mid f (c.let_change-journal.ensures.beside old ∙ is)).only

pub returns-clause-survives : goal.returns-clause-survives
returns-clause-survives g c old f is alone same =
    let mid = c.let_change-journal.ensures.faith.1 old in
    let beside = c.let_change-journal.ensures.beside old ∙ is in
    let lent = c.let_change-journal.result in
    let left = c.forget_devices-outcome.new.devices in
    let found = g.W.World.survives c.args.world.now in
    let between = g.W.World.survives c.let_change-journal.new.self in
    let behind = g.W.World.survives c.close_texts.new.world in
    let forgets = c.forget_devices-outcome.ensures in
    let journal = c.let_change-journal.ensures.journal old f is in
    let redo = c.let_change-journal.ensures.redo old f is in
    let holds = holds_placed c.args.exchanged f c.in_places-devices.result c.in_places-lent.result.image lent.0 lent.1 c.in_places-devices.ensures
    g.W.Image.Device g.W.Text.TextStore (g.W.World.state c.args.world.now) (rw c.in_places-lent.ensures (c.requires.image old))
    (rw c.in_places-lent.ensures same) journal redo in
    let before = to_places c.args.exchanged f c.in_places-devices.result c.in_places-lent.result.image lent.0 lent.1 c.in_places-devices.ensures
    (λ o x. (n : ℕ) → o ≡ Some n → NoMore (found n) (g.W.Text.TextStore.survives x))
    (placed_first f found _ (c.let_change-journal.ensures.journal_survives old f is)) (c.let_change-journal.ensures.redo_survives old f is) in
    let closed = c.close_texts.ensures.texts_survive mid f beside in
    let after = from_places c.args.exchanged f c.in_places-closed.result left.image left.journal left.redo c.in_places-closed.ensures
    (λ o x. (n : ℕ) → o ≡ Some n → NoMore (g.W.Text.TextStore.survives x) (behind n))
    (placed_left f _ behind closed.journal_found) closed.redo_found in
    let image = forgets.image holds.image_faithful in
    let held = image ∙ holds.image_is ∙ sym ((c.let_change-journal.ensures.only old f is).bytes f.image alone) in
    rw (c.in_places-devices.ensures, c.in_places-lent.ensures) at (survived g.W.Image.Device g.W.Text.TextStore (texts_of c.args.exchanged f)
    (g.W.World.state c.args.world.now) c.in_places-devices.result left found behind holds.image_is holds.journal_is holds.redo_is
    ((rw c.in_places-closed.ensures at (c.close_texts.ensures.image_survives mid f beside)) held) after.0 after.1
    between c.forget_devices-outcome.result holds.image_faithful holds.journal_faithful holds.redo_faithful image
    (forgets.alone holds.image_faithful holds.journal_faithful holds.redo_faithful)
    (forgets.survives holds.image_faithful holds.journal_faithful holds.redo_faithful) forgets.found_before before.0 before.1
    (lets_texts c.args.exchanged f found between (c.let_change-journal.ensures.survives old f is))
    (others_texts c.args.exchanged f between behind (c.close_texts.ensures.others mid f beside)))

pub returns-clause-note : goal.returns-clause-note
returns-clause-note g c old =
    let mid = c.let_change-journal.ensures.faith.1 old in
    left_note _ c.goes_behind-with_note.result c.forget_devices-outcome.result _ _ _ c.goes_behind-with_note.ensures.done
    c.goes_behind-with_note.ensures.stopped (rw (c.let_change-journal.ensures.note old) at (c.close_texts.ensures.dropped mid))
    (λ is. c.close_texts.ensures.stays mid is ∙ c.let_change-journal.ensures.note old)

pub returns-clause-counted : goal.returns-clause-counted
returns-clause-counted g c old =
    let lent = c.let_change-journal.result in
    let forgets = c.forget_devices-outcome.ensures in
    let fresh = c.let_change-journal.ensures.failures in
    let counts = counts_placed g.W.Image.Device g.W.Text.TextStore c.args.exchanged c.in_places-devices.result c.forget_devices-outcome.new.devices
    c.in_places-closed.result c.in_places-lent.result.image lent.0 lent.1 c.in_places-devices.ensures c.in_places-closed.ensures
    c.forget_devices-outcome.result forgets.fault forgets.counts forgets.no_failure (rw c.in_places-lent.ensures c.requires.unfailed) fresh.0 fresh.1 in
    let first = c.let_change-journal.ensures.counted old in
    let last = c.close_texts.ensures.counted (c.let_change-journal.ensures.faith.1 old) in
    record {
      least = omega (arith, first, last);
      rise = λ is. let some = counts.2 is in omega (arith, first, some, last);
    }
