use Rattle.std.proofs.Common.{rules, ◌≡◌, ◌⊎◌, ◌∙◌, ℕ, List, ◌∷◌, inl, inr, sym, ap, subst, Result, Ok, Err}
use Rattle.std.specs.Prelude.{OnOk}
use Rattle.std.proofs.lemmas.Result.{on_ok_weaker, on_err_weaker}
use Rattle.bx_image.specs.Change.{restore}
use Rattle.bx_image.proofs.Records.{IsAsGood-unmapped}
use Rattle.bx_journal_format.specs.Kept.{kept_of}
use Rattle.bx_journal_model.specs.Redo.{RecoversOpen, Side}
use Rattle.bx_journal_model.specs.Stack.{Recovers}
use Rattle.bx_journal_format.specs.Text.{Ending}
use Rattle.bx_journal_protocol.specs.protocol.Turns.{kept_text, side_of}
use Rattle.bx_journal_protocol.proofs.DeviceLemmas.{always_err}
use Rattle.bx_journal_protocol.proofs.PartLemmas.{unmapped_moves}
use Rattle.bx_journal_model.proofs.Tails.{tail_moves}
use Rattle.bx_journal_model.proofs.Phases.{open_recovers}
use Rattle.bx_journal_protocol.proofs.EndLineLemmas.{cut_is_sharp, either_below}
use Rattle.bx_journal_protocol.proofs.StopLemmas.{first_stops, within_new, behind_stops}
use Rattle.bx_journal_protocol.proofs.UndoSteps.{first_ok, first_tail}
use Rattle.bx_journal_format.specs.Shown.{shown}
use Rattle.bx_journal_protocol.proofs.protocol.undo_entry.undo_entry.Goals as goal

always_ok : {T E P : Type 0} (r : Result T E) → P → OnOk r P
always_ok (Ok x) p = p
always_ok (Err e) p = tt

-- the image stayed
moved : (text x y : List ℕ) (below : List (List ℕ)) → y ≡ x → Recovers text x (x ∷ below) ⊎ RecoversOpen text x below → Recovers text y (x ∷ below) ⊎ RecoversOpen text y below
moved text x y below same h = subst (λ z. Recovers text z (x ∷ below) ⊎ RecoversOpen text z below) (sym same) h

pub returns-in_err-open_and_change-clause-left : goal.returns-in_err-open_and_change-clause-left
returns-in_err-open_and_change-clause-left g c dh th rh below v e t st =
    let x : List ℕ = g.D.Device.image c.args.devices.now.image in
    let y : List ℕ = g.D.Device.image c.open_and_change.new.devices.image in
    let r : List ℕ = g.T.TextStore.text c.args.devices.now.redo in
    let redo : List ℕ = g.T.TextStore.text c.open_and_change.new.devices.redo in
    let first : List ℕ = g.T.TextStore.text c.args.devices.now.journal in
    let text : List ℕ = g.T.TextStore.text c.open_and_change.new.devices.journal in
    let begins : ℕ = c.args.entry.begins in
    let saved : ℕ = c.args.entry.mark.saved in
    let old : Side = side_of (x ∷ below) x r in
    let new : Side = side_of below (restore e.saved x) (kept_text r (kept_of c.args.taken.now) c.args.number c.args.entry.mark.len) in
    let stop = c.in_err-open_and_change.ensures in
    always_err c.from_residual.result
    (elim (stop.order th) [
      | inl h ↦ first_stops text y redo old new (ap g.D.Device.image h.0) (ap g.T.TextStore.text h.1) (moved text x y below (ap g.D.Device.image h.0) (cut_is_sharp first text x below v e begins saved t h.2))
      | inr cut ↦ within_new v e.saved text y redo old new (unmapped_moves e.saved x y (stop.keeps dh th e.saved st) v text below (first_ok first x below v e begins saved t text cut))
    ])

pub returns-in_err-open_and_change-clause-fault : goal.returns-in_err-open_and_change-clause-fault
returns-in_err-open_and_change-clause-fault g c dh th below v e t st =
    let x : List ℕ = g.D.Device.image c.args.devices.now.image in
    let y : List ℕ = g.D.Device.image c.open_and_change.new.devices.image in
    let first : List ℕ = g.T.TextStore.text c.args.devices.now.journal in
    let text : List ℕ = g.T.TextStore.text c.open_and_change.new.devices.journal in
    let begins : ℕ = c.args.entry.begins in
    let saved : ℕ = c.args.entry.mark.saved in
    let stop = c.in_err-open_and_change.ensures in
    always_err c.from_residual.result
    (elim (stop.order th) [
      | inl h ↦ either_below text y (x ∷ below) below (moved text x y below (ap g.D.Device.image h.0) (cut_is_sharp first text x below v e begins saved t h.2))
      | inr cut ↦ inr (open_recovers v e.saved text y below (unmapped_moves e.saved x y (stop.keeps dh th e.saved st) v text below (first_ok first x below v e begins saved t text cut)))
    ])

pub returns-clause-undoes : goal.returns-clause-undoes
returns-clause-undoes g c =
    let done = c.in_ok-open_and_change.ensures.undoes in
    record {
      image_is = λ dh th s st. always_ok c.drop_tail.result (done.image_is dh th s st);
      long = λ dh. always_ok c.drop_tail.result (done.long dh);
      redo_is = λ rh. always_ok c.drop_tail.result (done.redo_is rh);
      room_kept = done.room_kept;
      redo_room = done.redo_room;
    }

pub returns-clause-ok : goal.returns-clause-ok
returns-clause-ok g c dh th below v e t st =
    let x : List ℕ = g.D.Device.image c.args.devices.now.image in
    let y : List ℕ = g.D.Device.image c.open_and_change.new.devices.image in
    let text : List ℕ = g.T.TextStore.text c.open_and_change.new.devices.journal in
    let done = c.in_ok-open_and_change.ensures in
    let tail = first_tail (g.T.TextStore.text c.args.devices.now.journal) x below v e c.args.entry.begins c.args.entry.mark.saved t text (done.text th) in
    let good = IsAsGood-unmapped e.saved x y (done.keeps dh th e.saved st) tail.sound.unfinished in
    c.drop_tail.ensures.ok (done.steps_on.journal_faith.1 th) y below t.entries (Ending v e.saved)
    (tail_moves text x y below t.entries v e.saved c.args.entry.begins tail good) (good.same ∙ sym (done.undoes.image_is dh th e.saved st))

pub returns-clause-left : goal.returns-clause-left
returns-clause-left g c dh th rh below v e t st =
    let x : List ℕ = g.D.Device.image c.args.devices.now.image in
    let y : List ℕ = g.D.Device.image c.open_and_change.new.devices.image in
    let r : List ℕ = g.T.TextStore.text c.args.devices.now.redo in
    let text : List ℕ = g.T.TextStore.text c.open_and_change.new.devices.journal in
    let old : Side = side_of (x ∷ below) x r in
    let new : Side = side_of below (restore e.saved x) (kept_text r (kept_of c.args.taken.now) c.args.number c.args.entry.mark.len) in
    let done = c.in_ok-open_and_change.ensures in
    let tail = first_tail (g.T.TextStore.text c.args.devices.now.journal) x below v e c.args.entry.begins c.args.entry.mark.saved t text (done.text th) in
    let good = IsAsGood-unmapped e.saved x y (done.keeps dh th e.saved st) tail.sound.unfinished in
    let restored = done.undoes.image_is dh th e.saved st in
    on_err_weaker c.drop_tail.result
    (behind_stops (g.T.TextStore.text c.drop_tail.new.journal) y (g.T.TextStore.text c.open_and_change.new.devices.redo) old new restored (done.undoes.redo_is rh))
    (c.drop_tail.ensures.fault (done.steps_on.journal_faith.1 th) y below t.entries (Ending v e.saved)
    (tail_moves text x y below t.entries v e.saved c.args.entry.begins tail good) (good.same ∙ sym restored))

pub returns-clause-fault : goal.returns-clause-fault
returns-clause-fault g c dh th below v e t st =
    let x : List ℕ = g.D.Device.image c.args.devices.now.image in
    let y : List ℕ = g.D.Device.image c.open_and_change.new.devices.image in
    let text : List ℕ = g.T.TextStore.text c.open_and_change.new.devices.journal in
    let done = c.in_ok-open_and_change.ensures in
    let tail = first_tail (g.T.TextStore.text c.args.devices.now.journal) x below v e c.args.entry.begins c.args.entry.mark.saved t text (done.text th) in
    let good = IsAsGood-unmapped e.saved x y (done.keeps dh th e.saved st) tail.sound.unfinished in
    on_err_weaker c.drop_tail.result inr
    (c.drop_tail.ensures.fault (done.steps_on.journal_faith.1 th) y below t.entries (Ending v e.saved)
    (tail_moves text x y below t.entries v e.saved c.args.entry.begins tail good) (good.same ∙ sym (done.undoes.image_is dh th e.saved st)))

pub returns-in_err-open_and_change-clause-survives : goal.returns-in_err-open_and_change-clause-survives
returns-in_err-open_and_change-clause-survives g c = c.in_err-open_and_change.ensures.survives c.args.entry.begins

pub returns-clause-survives : goal.returns-clause-survives
returns-clause-survives g c dh th rh settled below v e t st y new redo image_there there redo_there =
    let x : List ℕ = g.D.Device.image c.args.devices.now.image in
    let z : List ℕ = g.D.Device.image c.open_and_change.new.devices.image in
    let r : List ℕ = g.T.TextStore.text c.args.devices.now.redo in
    let text : List ℕ = g.T.TextStore.text c.open_and_change.new.devices.journal in
    let old : Side = side_of (x ∷ below) x r in
    let new_side : Side = side_of below (restore e.saved x) (kept_text r (kept_of c.args.taken.now) c.args.number c.args.entry.mark.len) in
    let done = c.in_ok-open_and_change.ensures in
    let on_disk = done.settles dh th rh in
    let cut_is = done.text th in
    let first = first_ok (g.T.TextStore.text c.args.devices.now.journal) x below v e c.args.entry.begins c.args.entry.mark.saved t text cut_is in
    let tail = first_tail (g.T.TextStore.text c.args.devices.now.journal) x below v e c.args.entry.begins c.args.entry.mark.saved t text cut_is in
    let good = IsAsGood-unmapped e.saved x z (done.keeps dh th e.saved st) tail.sound.unfinished in
    let restored = done.undoes.image_is dh th e.saved st in
    let same : y ≡ z = on_disk.image y image_there in
    behind_stops (shown new) y redo old new_side (same ∙ restored) (on_disk.redo redo redo_there ∙ done.undoes.redo_is rh)
    (subst (λ w. Recovers (shown new) w below) (sym same)
    (c.drop_tail.ensures.survives (done.steps_on.journal_faith.1 th) on_disk.journal z below t.entries (Ending v e.saved)
    (tail_moves text x z below t.entries v e.saved c.args.entry.begins tail good) first.whole (good.same ∙ sym restored) new there))

pub returns-clause-settles : goal.returns-clause-settles
returns-clause-settles g c dh th rh =
    let on_disk = c.in_ok-open_and_change.ensures.settles dh th rh in
    on_ok_weaker c.drop_tail.result (λ only. record { image = on_disk.image; journal = only; redo = on_disk.redo })
    (c.drop_tail.ensures.settled (c.in_ok-open_and_change.ensures.steps_on.journal_faith.1 th))

pub returns-clause-steps_on : goal.returns-clause-steps_on
returns-clause-steps_on g c =
    let before = c.in_ok-open_and_change.ensures.steps_on in
    let last = c.drop_tail.ensures.goes_on in
    record {
      image_faith = before.image_faith;
      journal_faith = ((λ h. before.journal_faith.0 (last.faith.0 h)), (λ h. last.faith.1 (before.journal_faith.1 h)));
      redo_faith = before.redo_faith;
      no_failure = search rules;
      failure = search rules;
    }
