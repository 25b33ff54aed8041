use Rattle.std.proofs.Common.{◌≡◌, ◌⊎◌, ◌≤◌, ℕ, List, ◌∷◌, refl, inl, inr, ap, sym, subst, ◌∙◌, arith, length, take}
use Rattle.bx_image.specs.Change.{restore}
use Rattle.bx_journal_format.specs.Kept.{Kept, kept_of}
use Rattle.bx_journal_format.specs.Shown.{shown}
use Rattle.bx_journal_model.specs.Stack.{Recovers}
use Rattle.bx_journal_model.specs.declared.mark.Mark.{Mark}
use Rattle.bx_journal_model.specs.Redo.{RecoversOpen, LeavesEither, Side}
use Rattle.bx_journal_model.specs.Restoring.{StandsAt}
use Rattle.bx_journal_protocol.specs.protocol.Turns.{kept_text, side_of}
use Rattle.bx_journal_protocol.proofs.PartLemmas.{keeps_same}
use Rattle.bx_journal_protocol.proofs.PlacedLemmas.{stands_cut}
use Rattle.bx_journal_protocol.proofs.StopLemmas.{first_stops, within_new}
use Rattle.bx_journal_protocol.proofs.UndoSteps.{first_ok}
use Rattle.bx_journal_protocol.proofs.StepSurvivors.{open_shown}
use Rattle.bx_journal_protocol.proofs.DeviceLemmas.{always_err}
use Rattle.bx_journal_protocol.proofs.protocol.undo_entry.open_and_change.Goals as goal

-- the record stands in what the cut leaves of the journal
stands : {P : Type 0} (text new : List ℕ) (m : Mark) (s : Kept) → P → (P → m.saved ≤ length text) → StandsAt text m s → new ≡ take m.saved text → StandsAt new m s
stands text new m s th within st is = stands_cut text new m.saved m s st (omega arith) (within th) is

pub returns-in_err-cut_end-clause-order : goal.returns-in_err-cut_end-clause-order
returns-in_err-cut_end-clause-order g c th = always_err _ (inl (refl, refl, c.in_err-cut_end.ensures.cut th))

pub returns-in_err-change_undone-clause-order : goal.returns-in_err-change_undone-clause-order
returns-in_err-change_undone-clause-order g c th =
    let cut = c.in_ok-cut_end.ensures in
    always_err _ (inr (c.in_err-change_undone.ensures.text (cut.goes_on.faith.1 th) ∙ cut.text th))

pub returns-in_err-cut_end-clause-keeps : goal.returns-in_err-cut_end-clause-keeps
returns-in_err-cut_end-clause-keeps g c dh th s st = keeps_same s _

pub returns-in_err-change_undone-clause-keeps : goal.returns-in_err-change_undone-clause-keeps
returns-in_err-change_undone-clause-keeps g c dh th s st =
    let cut = c.in_ok-cut_end.ensures in
    c.in_err-change_undone.ensures.keeps dh (cut.goes_on.faith.1 th) s (stands _ _ c.args.mark s th c.requires.within_text st (cut.text th))

pub returns-clause-keeps : goal.returns-clause-keeps
returns-clause-keeps g c dh th s st =
    let cut = c.in_ok-cut_end.ensures in
    c.in_ok-change_undone.ensures.keeps dh (cut.goes_on.faith.1 th) s (stands _ _ c.args.mark s th c.requires.within_text st (cut.text th))

moved : (text x y : List ℕ) (below : List (List ℕ)) → y ≡ x → Recovers text x (x ∷ below) ⊎ RecoversOpen text x below → Recovers text y (x ∷ below) ⊎ RecoversOpen text y below
moved text x y below same h = subst (λ z. Recovers text z (x ∷ below) ⊎ RecoversOpen text z below) (sym same) h

pub returns-in_err-cut_end-clause-survives : goal.returns-in_err-cut_end-clause-survives
returns-in_err-cut_end-clause-survives g c begins dh th rh settled below v e t st y new redo image_there there redo_there =
    let x : List ℕ = g.D.Device.image c.args.devices.now.image in
    let r : List ℕ = g.T.TextStore.text c.args.devices.now.redo in
    let same : y ≡ x = settled.image y image_there in
    first_stops (shown new) y redo (side_of (x ∷ below) x r) (side_of below (restore e.saved x) (kept_text r (kept_of c.args.taken.now) c.args.number c.args.mark.len)) same (settled.redo redo redo_there)
    (moved (shown new) x y below same (c.in_err-cut_end.ensures.survives th settled.journal x below v e begins t new there))

pub returns-in_err-change_undone-clause-survives : goal.returns-in_err-change_undone-clause-survives
returns-in_err-change_undone-clause-survives g c begins dh th rh settled below v e t st y new redo image_there there redo_there =
    let x : List ℕ = g.D.Device.image c.args.devices.now.image in
    let r : List ℕ = g.T.TextStore.text c.args.devices.now.redo in
    let cut = c.in_ok-cut_end.ensures in
    let still = cut.goes_on.faith.1 th in
    let stopped = c.in_err-change_undone.ensures in
    let text : List ℕ = g.T.TextStore.text c.cut_end.new.journal in
    let opened = first_ok (g.T.TextStore.text c.args.devices.now.journal) x below v e begins c.args.mark.saved t text (cut.text th) in
    let open_there = stopped.survives dh still e.saved (stands _ _ c.args.mark e.saved th c.requires.within_text st (cut.text th)) settled.image y image_there v text below opened in
    let found : shown new ≡ text = ap shown (cut.settled th new (stopped.text_survives still new there)) ∙ open_shown v e.saved text y below open_there in
    let old : Side = side_of (x ∷ below) x r in
    let new_side : Side = side_of below (restore e.saved x) (kept_text r (kept_of c.args.taken.now) c.args.number c.args.mark.len) in
    subst (λ w. LeavesEither w y redo old new_side) (sym found) (within_new v e.saved text y redo old new_side open_there)

pub returns-clause-survives : goal.returns-clause-survives
returns-clause-survives g c begins dh th rh settled below v e t st y new redo image_there there redo_there =
    let x : List ℕ = g.D.Device.image c.args.devices.now.image in
    let r : List ℕ = g.T.TextStore.text c.args.devices.now.redo in
    let cut = c.in_ok-cut_end.ensures in
    let still = cut.goes_on.faith.1 th in
    let done = c.in_ok-change_undone.ensures in
    let text : List ℕ = g.T.TextStore.text c.cut_end.new.journal in
    let opened = first_ok (g.T.TextStore.text c.args.devices.now.journal) x below v e begins c.args.mark.saved t text (cut.text th) in
    let open_there = done.survives dh still e.saved (stands _ _ c.args.mark e.saved th c.requires.within_text st (cut.text th)) settled.image y image_there v text below opened in
    let found : shown new ≡ text = ap shown (cut.settled th new (done.text_survives still new there)) ∙ open_shown v e.saved text y below open_there in
    let old : Side = side_of (x ∷ below) x r in
    let new_side : Side = side_of below (restore e.saved x) (kept_text r (kept_of c.args.taken.now) c.args.number c.args.mark.len) in
    subst (λ w. LeavesEither w y redo old new_side) (sym found) (within_new v e.saved text y redo old new_side open_there)

pub returns-clause-settles : goal.returns-clause-settles
returns-clause-settles g c dh th rh =
    let cut = c.in_ok-cut_end.ensures in
    let still = cut.goes_on.faith.1 th in
    let done = c.in_ok-change_undone.ensures in
    record {
      image = done.settled dh;
      journal = λ y there. cut.settled th y (done.text_survives still y there) ∙ sym (done.text still);
      redo = done.redo_settled rh;
    }

pub returns-clause-text : goal.returns-clause-text
returns-clause-text g c th =
    let cut = c.in_ok-cut_end.ensures in
    c.in_ok-change_undone.ensures.text (cut.goes_on.faith.1 th) ∙ cut.text th

pub returns-clause-undoes : goal.returns-clause-undoes
returns-clause-undoes g c =
    let cut = c.in_ok-cut_end.ensures in
    let done = c.in_ok-change_undone.ensures.undoes in
    record {
      image_is = λ dh th s st. done.image_is dh (cut.goes_on.faith.1 th) s (stands _ _ c.args.mark s th c.requires.within_text st (cut.text th));
      long = done.long;
      redo_is = done.redo_is;
      room_kept = done.room_kept;
      redo_room = done.redo_room;
    }
