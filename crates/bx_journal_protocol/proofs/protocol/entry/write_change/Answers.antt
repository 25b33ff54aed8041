use Rattle.std.proofs.Common.{◌≡◌, ◌⊎◌, ◌++◌, ℕ, List, ◌∷◌, take, refl, inl, Result, Ok, Err, ap, sym, ◌∙◌, subst, arith, length, length-append}
use Rattle.std.specs.Prelude.{OnOk, OnErr}
use Rattle.std.proofs.lemmas.Result.{on_ok_weaker, on_err_weaker}
use Rattle.bx_image.specs.Change.{effect, saved, IsAsGood}
use Rattle.bx_journal_format.specs.Kept.{Kept, kept_of}
use Rattle.bx_journal_format.specs.Entry.{head_text}
use Rattle.bx_journal_format.specs.declared.format.version.Version.TheVariants.{Second}
use Rattle.bx_journal_model.specs.Phase.{IsAtRest, RecoversEither, as_read, StaysOpenFor}
use Rattle.bx_journal_model.specs.Stack.{Recovers}
use Rattle.bx_journal_protocol.specs.write.Ranges.{kept_over}
use Rattle.bx_journal_protocol.proofs.ChangeSteps.{ends_of}
use Rattle.bx_journal_model.specs.Redo.{LeavesEither, RecoversOpen}
use Rattle.bx_journal_protocol.specs.protocol.Turns.{cut_place, side_of}
use Rattle.bx_journal_protocol.proofs.StopLemmas.{before_stops, within_old, last_stops}
use Rattle.bx_journal_model.proofs.Phases.{open_recovers}
use Rattle.bx_journal_protocol.proofs.EndLineLemmas.{either_of}
use Rattle.bx_journal_format.specs.Shown.{shown}
use Rattle.bx_image.specs.Power.{Only}
use Rattle.bx_journal_protocol.specs.protocol.Fading.{AllStayOpenFor}
use Rattle.bx_journal_protocol.proofs.StepSurvivors.{open_shown}
use Rattle.bx_journal_protocol.proofs.PrefixLemmas.{prefix_by}
use Rattle.bx_journal_protocol.proofs.protocol.entry.write_change.Goals as goal

always_ok : {T E P : Type 0} (r : Result T E) → P → OnOk r P
always_ok (Ok x) p = p
always_ok (Err e) p = tt

always_err : {T E P : Type 0} (r : Result T E) → P → OnErr r P
always_err (Ok x) p = tt
always_err (Err e) p = p

pub append_head_of-requires-clause-begun : goal.append_head_of-requires-clause-begun
append_head_of-requires-clause-begun g c = c.requires.begun

pub returns-in_err-append_head_of-clause-fault : goal.returns-in_err-append_head_of-clause-fault
returns-in_err-append_head_of-clause-fault g c dh th stack writes =
    let x : List ℕ = g.D.Device.image c.args.devices.now.image in
    let found = c.in_err-append_head_of.ensures.fault dh th x stack (kept_of (saved c.args.change.now x)) writes.starts in
    always_err c.from_residual.result (inl (subst (λ y. Recovers (g.T.TextStore.text c.append_head_of.new.journal) y stack) (sym (c.in_err-append_head_of.ensures.goes_on.image dh)) found))

pub returns-in_err-change_with-clause-fault : goal.returns-in_err-change_with-clause-fault
returns-in_err-change_with-clause-fault g c dh th stack writes =
    let x : List ℕ = g.D.Device.image c.args.devices.now.image in
    let y : List ℕ = g.D.Device.image c.change_with.new.image in
    let s : Kept = kept_of (saved c.args.change.now x) in
    let text : List ℕ = g.T.TextStore.text c.append_head_of.new.journal in
    let opened = c.in_ok-append_head_of.ensures.ok dh th x stack s writes.starts in
    let stays = subst (λ z. StaysOpenFor c.args.change.now z y) (c.in_ok-append_head_of.ensures.goes_on.image dh) (c.change_with.ensures.phase (c.in_ok-append_head_of.ensures.goes_on.image_faith.1 dh)) in
    always_err c.from_residual-in_err-change_with.result (inl (open_recovers Second (as_read s) text y stack (stays text stack opened)))

pub append_end-requires-clause-fits : goal.append_end-requires-clause-fits
append_end-requires-clause-fits g c now =
    let th = c.in_ok-append_head_of.ensures.goes_on.journal_faith.0 now in
    omega (arith, c.in_ok-append_head_of.ensures.long th, c.requires.text_room th, c.in_ok-append_head_of.ensures.goes_on.journal_room)

pub returns-clause-image : goal.returns-clause-image
returns-clause-image g c dh =
    let is = c.in_ok-change_with.ensures.image (c.in_ok-append_head_of.ensures.goes_on.image_faith.1 dh) ∙ ap (effect c.args.change.now) (c.in_ok-append_head_of.ensures.goes_on.image dh) in
    always_ok c.append_end.result is

pub returns-clause-ok : goal.returns-clause-ok
returns-clause-ok g c dh th stack writes =
    let x : List ℕ = g.D.Device.image c.args.devices.now.image in
    let y : List ℕ = g.D.Device.image c.change_with.new.image in
    let text : List ℕ = g.T.TextStore.text c.append_head_of.new.journal in
    let is : y ≡ effect c.args.change.now x = c.in_ok-change_with.ensures.image (c.in_ok-append_head_of.ensures.goes_on.image_faith.1 dh) ∙ ap (effect c.args.change.now) (c.in_ok-append_head_of.ensures.goes_on.image dh) in
    let opened = c.in_ok-append_head_of.ensures.ok dh th x stack (kept_of (saved c.args.change.now x)) writes.starts in
    let stays = subst (λ z. StaysOpenFor c.args.change.now z y) (c.in_ok-append_head_of.ensures.goes_on.image dh) (c.change_with.ensures.phase (c.in_ok-append_head_of.ensures.goes_on.image_faith.1 dh)) in
    let ends = ends_of c.args.change.now (g.T.TextStore.text c.args.devices.now.journal) text x y stack (head_text c.args.head.now.number (kept_over x c.args.ranges.now)) c.args.end.now writes (stays text stack opened) is in
    on_ok_weaker c.append_end.result (subst (λ z. IsAtRest (g.T.TextStore.text c.append_end.new.journal) y (z ∷ stack)) is)
    (c.append_end.ensures.ok (c.in_ok-append_head_of.ensures.goes_on.journal_faith.1 th) y stack (as_read (kept_of (saved c.args.change.now x))) ends)

pub returns-clause-fault : goal.returns-clause-fault
returns-clause-fault g c dh th stack writes =
    let x : List ℕ = g.D.Device.image c.args.devices.now.image in
    let y : List ℕ = g.D.Device.image c.change_with.new.image in
    let text : List ℕ = g.T.TextStore.text c.append_head_of.new.journal in
    let is : y ≡ effect c.args.change.now x = c.in_ok-change_with.ensures.image (c.in_ok-append_head_of.ensures.goes_on.image_faith.1 dh) ∙ ap (effect c.args.change.now) (c.in_ok-append_head_of.ensures.goes_on.image dh) in
    let opened = c.in_ok-append_head_of.ensures.ok dh th x stack (kept_of (saved c.args.change.now x)) writes.starts in
    let stays = subst (λ z. StaysOpenFor c.args.change.now z y) (c.in_ok-append_head_of.ensures.goes_on.image dh) (c.change_with.ensures.phase (c.in_ok-append_head_of.ensures.goes_on.image_faith.1 dh)) in
    let ends = ends_of c.args.change.now (g.T.TextStore.text c.args.devices.now.journal) text x y stack (head_text c.args.head.now.number (kept_over x c.args.ranges.now)) c.args.end.now writes (stays text stack opened) is in
    on_err_weaker c.append_end.result (λ h. subst (λ z. RecoversEither (g.T.TextStore.text c.append_end.new.journal) y stack (z ∷ stack)) is (either_of _ y stack (y ∷ stack) h))
    (c.append_end.ensures.fault (c.in_ok-append_head_of.ensures.goes_on.journal_faith.1 th) y stack (as_read (kept_of (saved c.args.change.now x))) ends)

pub returns-in_err-append_head_of-clause-left : goal.returns-in_err-append_head_of-clause-left
returns-in_err-append_head_of-clause-left g c dh th rh stack writes =
    let x : List ℕ = g.D.Device.image c.args.devices.now.image in
    let r : List ℕ = g.T.TextStore.text c.args.devices.now.redo in
    let new : List ℕ = effect c.args.change.now x in
    let text : List ℕ = g.T.TextStore.text c.append_head_of.new.journal in
    let left = before_stops text x r (side_of stack x r) (side_of (new ∷ stack) new (take (cut_place c.args.part) r)) refl refl
    (c.in_err-append_head_of.ensures.fault dh th x stack (kept_of (saved c.args.change.now x)) writes.starts) in
    always_err c.from_residual.result
    (subst (λ y. LeavesEither text y r (side_of stack x r) (side_of (new ∷ stack) new (take (cut_place c.args.part) r))) (sym (c.in_err-append_head_of.ensures.goes_on.image dh)) left)

pub returns-in_err-change_with-clause-left : goal.returns-in_err-change_with-clause-left
returns-in_err-change_with-clause-left g c dh th rh stack writes =
    let x : List ℕ = g.D.Device.image c.args.devices.now.image in
    let y : List ℕ = g.D.Device.image c.change_with.new.image in
    let r : List ℕ = g.T.TextStore.text c.args.devices.now.redo in
    let new : List ℕ = effect c.args.change.now x in
    let s : Kept = kept_of (saved c.args.change.now x) in
    let text : List ℕ = g.T.TextStore.text c.append_head_of.new.journal in
    let opened = c.in_ok-append_head_of.ensures.ok dh th x stack s writes.starts in
    let stays = subst (λ z. StaysOpenFor c.args.change.now z y) (c.in_ok-append_head_of.ensures.goes_on.image dh) (c.change_with.ensures.phase (c.in_ok-append_head_of.ensures.goes_on.image_faith.1 dh)) in
    always_err c.from_residual-in_err-change_with.result
    (within_old Second (as_read s) text y (g.T.TextStore.text c.change_with.new.redo) (side_of stack x r) (side_of (new ∷ stack) new (take (cut_place c.args.part) r)) (stays text stack opened))

pub returns-clause-left : goal.returns-clause-left
returns-clause-left g c dh th rh stack writes =
    let x : List ℕ = g.D.Device.image c.args.devices.now.image in
    let y : List ℕ = g.D.Device.image c.change_with.new.image in
    let r : List ℕ = g.T.TextStore.text c.args.devices.now.redo in
    let new : List ℕ = effect c.args.change.now x in
    let text : List ℕ = g.T.TextStore.text c.append_head_of.new.journal in
    let is : y ≡ new = c.in_ok-change_with.ensures.image (c.in_ok-append_head_of.ensures.goes_on.image_faith.1 dh) ∙ ap (effect c.args.change.now) (c.in_ok-append_head_of.ensures.goes_on.image dh) in
    let opened = c.in_ok-append_head_of.ensures.ok dh th x stack (kept_of (saved c.args.change.now x)) writes.starts in
    let stays = subst (λ z. StaysOpenFor c.args.change.now z y) (c.in_ok-append_head_of.ensures.goes_on.image dh) (c.change_with.ensures.phase (c.in_ok-append_head_of.ensures.goes_on.image_faith.1 dh)) in
    let ends = ends_of c.args.change.now (g.T.TextStore.text c.args.devices.now.journal) text x y stack (head_text c.args.head.now.number (kept_over x c.args.ranges.now)) c.args.end.now writes (stays text stack opened) is in
    let last : List ℕ = g.T.TextStore.text c.append_end.new.journal in
    on_err_weaker c.append_end.result
    (λ h. last_stops last y (g.T.TextStore.text c.change_with.new.redo) (side_of stack x r) (side_of (new ∷ stack) new (take (cut_place c.args.part) r)) is (c.in_ok-change_with.ensures.redo rh)
    (subst (λ z. RecoversOpen last y stack ⊎ Recovers last y (z ∷ stack)) is h))
    (c.append_end.ensures.fault (c.in_ok-append_head_of.ensures.goes_on.journal_faith.1 th) y stack (as_read (kept_of (saved c.args.change.now x))) ends)

pub returns-clause-back : goal.returns-clause-back
returns-clause-back g c dh =
    let y : List ℕ = g.D.Device.image c.change_with.new.image in
    let good = subst (λ z. IsAsGood (kept_of (saved c.args.change.now z)) z y) (c.in_ok-append_head_of.ensures.goes_on.image dh) (c.in_ok-change_with.ensures.back (c.in_ok-append_head_of.ensures.goes_on.image_faith.1 dh)) in
    always_ok c.append_end.result good

pub returns-clause-text : goal.returns-clause-text
returns-clause-text g c dh th =
    on_ok_weaker c.append_end.result (λ is. is ∙ ap (λ t. t ++ c.args.end.now) (c.in_ok-append_head_of.ensures.text dh th))
    (c.append_end.ensures.text (c.in_ok-append_head_of.ensures.goes_on.journal_faith.1 th))

pub returns-clause-long : goal.returns-clause-long
returns-clause-long g c th =
    let head = c.in_ok-append_head_of.ensures in
    on_ok_weaker c.append_end.result (λ is. omega (arith, ap length is, length-append (g.T.TextStore.text c.append_head_of.new.journal) c.args.end.now, head.long th)) (c.append_end.ensures.text (head.goes_on.journal_faith.1 th))

pub returns-clause-front : goal.returns-clause-front
returns-clause-front g c th =
    let head = c.in_ok-append_head_of.ensures in
    on_ok_weaker c.append_end.result (prefix_by _ _ (head.front th)) (c.append_end.ensures.text (head.goes_on.journal_faith.1 th))

pub returns-in_err-append_head_of-clause-survives : goal.returns-in_err-append_head_of-clause-survives
returns-in_err-append_head_of-clause-survives g c dh th rh settled stack writes y new redo image_there there redo_there =
    let x : List ℕ = g.D.Device.image c.args.devices.now.image in
    let r : List ℕ = g.T.TextStore.text c.args.devices.now.redo in
    let z : List ℕ = effect c.args.change.now x in
    let head = c.in_err-append_head_of.ensures in
    let same : y ≡ x = settled.image y (head.goes_on.survives dh y image_there) in
    before_stops (shown new) y redo (side_of stack x r) (side_of (z ∷ stack) z (take (cut_place c.args.part) r)) same (settled.redo redo redo_there)
    (subst (λ w. Recovers (shown new) w stack) (sym same) (head.survives dh th settled.journal x stack (kept_of (saved c.args.change.now x)) writes.starts new there))

pub returns-in_err-change_with-clause-survives : goal.returns-in_err-change_with-clause-survives
returns-in_err-change_with-clause-survives g c dh th rh settled stack writes y new redo image_there there redo_there =
    let x : List ℕ = g.D.Device.image c.args.devices.now.image in
    let r : List ℕ = g.T.TextStore.text c.args.devices.now.redo in
    let z : List ℕ = effect c.args.change.now x in
    let s : Kept = kept_of (saved c.args.change.now x) in
    let text : List ℕ = g.T.TextStore.text c.append_head_of.new.journal in
    let head = c.in_ok-append_head_of.ensures in
    let opened = head.ok dh th x stack s writes.starts in
    let only : Only (g.D.Device.image c.append_head_of.new.image) (g.D.Device.survives c.append_head_of.new.image) =
    λ w found. settled.image w (head.goes_on.survives dh w found) ∙ sym (head.goes_on.image dh) in
    let T : List ℕ → Type 0 = λ w. AllStayOpenFor c.args.change.now w (g.D.Device.survives c.change_with.new.image) in
    let all = subst T (head.goes_on.image dh) (c.in_err-change_with.ensures.survives (head.goes_on.image_faith.1 dh) only) in
    let moved = all y image_there text stack opened in
    let is : shown new ≡ text = ap shown (head.settled th new there) ∙ open_shown Second (as_read s) text y stack moved in
    subst (λ w. LeavesEither w y redo (side_of stack x r) (side_of (z ∷ stack) z (take (cut_place c.args.part) r))) (sym is)
    (within_old Second (as_read s) text y redo (side_of stack x r) (side_of (z ∷ stack) z (take (cut_place c.args.part) r)) moved)

pub returns-clause-survives : goal.returns-clause-survives
returns-clause-survives g c dh th rh settled stack writes y new redo image_there there redo_there =
    let x : List ℕ = g.D.Device.image c.args.devices.now.image in
    let r : List ℕ = g.T.TextStore.text c.args.devices.now.redo in
    let z : List ℕ = effect c.args.change.now x in
    let s : Kept = kept_of (saved c.args.change.now x) in
    let text : List ℕ = g.T.TextStore.text c.append_head_of.new.journal in
    let head = c.in_ok-append_head_of.ensures in
    let changed = c.in_ok-change_with.ensures in
    let still = head.goes_on.image_faith.1 dh in
    let w : List ℕ = g.D.Device.image c.change_with.new.image in
    let is : w ≡ z = changed.image still ∙ ap (effect c.args.change.now) (head.goes_on.image dh) in
    let same : y ≡ w = changed.settled still y image_there in
    let opened = head.ok dh th x stack s writes.starts in
    let stays = subst (λ v. StaysOpenFor c.args.change.now v w) (head.goes_on.image dh) (changed.phase still) in
    let ends = ends_of c.args.change.now (g.T.TextStore.text c.args.devices.now.journal) text x w stack (head_text c.args.head.now.number (kept_over x c.args.ranges.now)) c.args.end.now writes (stays text stack opened) is in
    let found = c.append_end.ensures.survives (head.goes_on.journal_faith.1 th) (head.settled th) w stack (as_read s) ends new there in
    last_stops (shown new) y redo (side_of stack x r) (side_of (z ∷ stack) z (take (cut_place c.args.part) r)) (same ∙ is) (changed.redo_settled rh redo redo_there ∙ changed.redo rh)
    (at_both (shown new) y w z stack same is found)
  where
    at_both : (text y w z : List ℕ) (stack : List (List ℕ)) → y ≡ w → w ≡ z → RecoversOpen text w stack ⊎ Recovers text w (w ∷ stack) → RecoversOpen text y stack ⊎ Recovers text y (z ∷ stack)
    at_both text y w z stack same is found =
        let one : RecoversOpen text w stack ⊎ Recovers text w (z ∷ stack) = subst (λ v. RecoversOpen text w stack ⊎ Recovers text w (v ∷ stack)) is found in
        subst (λ v. RecoversOpen text v stack ⊎ Recovers text v (z ∷ stack)) (sym same) one
