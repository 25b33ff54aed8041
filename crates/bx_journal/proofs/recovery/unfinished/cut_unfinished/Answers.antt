use Rattle.std.proofs.Common.{◌≡◌, ◌∙◌, ◌+◌, ◌≤◌, List, ℕ, refl, ap, sym, subst, rules, Result, Ok, Err}
use Rattle.std.specs.Prelude.{IfSome, OnErr, OnOk}
use Rattle.std.proofs.lemmas.Result.{err_from_is_err_and}
use Rattle.bx_journal_format.specs.Shown.{shown}
use Rattle.bx_journal_format.specs.Text.{Reading}
use Rattle.bx_journal_model.specs.declared.answers.RecoveryOutcome.TheVariants.{Dropped, Restored}
use Rattle.bx_journal_model.specs.Stack.{HaveLengths, Recovers, image_at}
use Rattle.bx_journal_model.specs.Opening.{IsOpened}
use Rattle.bx_journal_model.specs.Undoing.{HasLeft}
use Rattle.bx_journal_model.specs.Step.{HasTail}
use Rattle.bx_journal.proofs.TornLemmas.{stands_in, torn_begins, torn_dropped, torn_left, torn_once, torn_opened, torn_restored, torn_same, torn_tail, torn_way}
use Rattle.bx_journal.proofs.recovery.unfinished.cut_unfinished.Goals as goal

none_ok : {T E : Type 0} (P : Type 0) (r : Result T E) (e : E) → r ≡ Err e → OnOk r P
none_ok P r e is = subst (λ q. OnOk q P) (sym is) tt

always_err : {T E P : Type 0} (r : Result T E) → P → OnErr r P
always_err (Ok x) p = tt
always_err (Err e) p = p

pub drop_tail-requires-clause-within_text : goal.drop_tail-requires-clause-within_text
drop_tail-requires-clause-within_text g c th =
    let i = c.requires.found.torn th in torn_begins (g.T.TextStore.text c.args.journal.now) (g.T.TextStore.text c.args.journal.now) c.args.torn i.reading i.torn refl

pub returns-in_ok-drop_tail-in-None-clause-opened : goal.returns-in_ok-drop_tail-in-None-clause-opened
returns-in_ok-drop_tail-in-None-clause-opened g c dh th r reads lengths =
    let i = c.requires.found.torn th in
    let text : List ℕ = g.T.TextStore.text c.args.journal.now in
    let x : List ℕ = g.D.Device.image c.args.image.now in
    let same : i.reading ≡ r = torn_once (shown text) (shown (g.T.TextStore.text c.args.journal.now)) c.args.torn i.reading r i.torn refl reads in
    subst (λ q. IsOpened text x q (g.T.TextStore.text c.drop_tail.new.journal) x Dropped c.args.torn.count) same
    (torn_opened text (g.T.TextStore.text c.args.journal.now) x (g.T.TextStore.text c.drop_tail.new.journal) x c.args.torn i.reading Dropped c.args.torn.count i.torn refl
    (subst (λ (q : Reading). HaveLengths q.entries (image_at q.stage x)) (sym same) lengths)
    (sym (torn_same (shown (g.T.TextStore.text c.args.journal.now)) x c.args.torn i.reading i.torn c.in-None.is)) (c.in_ok-drop_tail-in-None.ensures.text th) refl
    (torn_dropped (g.T.TextStore.text c.args.journal.now) c.args.torn i.reading i.torn c.in-None.is i.unfinished))

pub returns-in_ok-drop_tail-in-None-clause-left : goal.returns-in_ok-drop_tail-in-None-clause-left
returns-in_ok-drop_tail-in-None-clause-left g c th r reads =
    let i = c.requires.found.torn th in
    let text : List ℕ = g.T.TextStore.text c.args.journal.now in
    let same : i.reading ≡ r = torn_once (shown text) (shown (g.T.TextStore.text c.args.journal.now)) c.args.torn i.reading r i.torn refl reads in
    subst (λ (q : Reading). HasLeft text (g.T.TextStore.text c.drop_tail.new.journal) q.entries) same
    (torn_left text (g.T.TextStore.text c.args.journal.now) (g.T.TextStore.text c.drop_tail.new.journal) c.args.torn i.reading i.torn refl (c.in_ok-drop_tail-in-None.ensures.text th))

pub returns-in_ok-drop_tail-in-None-clause-keeps : goal.returns-in_ok-drop_tail-in-None-clause-keeps
returns-in_ok-drop_tail-in-None-clause-keeps g c dh th stack rec =
    let i = c.requires.found.torn th in
    let text : List ℕ = g.T.TextStore.text c.args.journal.now in
    let x : List ℕ = g.D.Device.image c.args.image.now in
    let t = torn_tail (shown text) (shown (g.T.TextStore.text c.args.journal.now)) x stack c.args.torn i.reading i.torn refl rec in
    (c.in_ok-drop_tail-in-None.ensures.shown_rests th x stack i.reading.entries i.reading.stage t (torn_same (shown (g.T.TextStore.text c.args.journal.now)) x c.args.torn i.reading i.torn c.in-None.is), tt)

pub returns-in_ok-drop_tail-in-None-clause-survives : goal.returns-in_ok-drop_tail-in-None-clause-survives
returns-in_ok-drop_tail-in-None-clause-survives g c dh th only text_only stack rec y new there text_there =
    let i = c.requires.found.torn th in
    let text : List ℕ = g.T.TextStore.text c.args.journal.now in
    let x : List ℕ = g.D.Device.image c.args.image.now in
    let t = torn_tail (shown text) (shown (g.T.TextStore.text c.args.journal.now)) x stack c.args.torn i.reading i.torn refl rec in
    subst (λ z. Recovers (shown new) z stack) (sym (only y there))
    (c.in_ok-drop_tail-in-None.ensures.shown_survives th text_only x stack i.reading.entries i.reading.stage t (torn_same (shown (g.T.TextStore.text c.args.journal.now)) x c.args.torn i.reading i.torn c.in-None.is) new text_there)

pub returns-in_err-drop_tail-in-None-clause-keeps : goal.returns-in_err-drop_tail-in-None-clause-keeps
returns-in_err-drop_tail-in-None-clause-keeps g c dh th stack rec =
    let i = c.requires.found.torn th in
    let text : List ℕ = g.T.TextStore.text c.args.journal.now in
    let x : List ℕ = g.D.Device.image c.args.image.now in
    let t = torn_tail (shown text) (shown (g.T.TextStore.text c.args.journal.now)) x stack c.args.torn i.reading i.torn refl rec in (
      none_ok _ c.from_residual.result _ (err_from_is_err_and c.from_residual.result c.from_residual.ensures.1).1,
      always_err _ (c.in_err-drop_tail-in-None.ensures.shown_stops th x stack i.reading.entries i.reading.stage t (torn_same (shown (g.T.TextStore.text c.args.journal.now)) x c.args.torn i.reading i.torn c.in-None.is)),
    )

pub returns-in_err-drop_tail-in-None-clause-survives : goal.returns-in_err-drop_tail-in-None-clause-survives
returns-in_err-drop_tail-in-None-clause-survives g c dh th only text_only stack rec y new there text_there =
    let i = c.requires.found.torn th in
    let text : List ℕ = g.T.TextStore.text c.args.journal.now in
    let x : List ℕ = g.D.Device.image c.args.image.now in
    let t = torn_tail (shown text) (shown (g.T.TextStore.text c.args.journal.now)) x stack c.args.torn i.reading i.torn refl rec in
    subst (λ z. Recovers (shown new) z stack) (sym (only y there))
    (c.in_err-drop_tail-in-None.ensures.shown_survives th text_only x stack i.reading.entries i.reading.stage t (torn_same (shown (g.T.TextStore.text c.args.journal.now)) x c.args.torn i.reading i.torn c.in-None.is) new text_there)

pub take_back-requires-clause-within_text : goal.take_back-requires-clause-within_text
take_back-requires-clause-within_text g c th =
    let i = c.requires.found.torn th in torn_begins (g.T.TextStore.text c.args.journal.now) (g.T.TextStore.text c.args.journal.now) c.args.torn i.reading i.torn refl

pub take_back-requires-clause-within_mark : goal.take_back-requires-clause-within_mark
take_back-requires-clause-within_mark g c th =
    let i = c.requires.found.torn th in
    let way = torn_way (shown (g.T.TextStore.text c.args.journal.now)) c.args.torn i.reading c.in-Some.mark i.torn c.in-Some.is in
    (stands_in (g.T.TextStore.text c.args.journal.now) (g.T.TextStore.text c.args.journal.now) c.in-Some.mark way.record_ refl way.stands).ends.within

pub take_back-requires-clause-order : goal.take_back-requires-clause-order
take_back-requires-clause-order g c = subst (λ mark. IfSome mark (λ m. m.lines ≤ m.saved)) c.in-Some.is c.requires.found.order

pub returns-in_ok-take_back-in-Some-clause-opened : goal.returns-in_ok-take_back-in-Some-clause-opened
returns-in_ok-take_back-in-Some-clause-opened g c dh th r reads lengths =
    let i = c.requires.found.torn th in
    let text : List ℕ = g.T.TextStore.text c.args.journal.now in
    let x : List ℕ = g.D.Device.image c.args.image.now in
    let way = torn_way (shown (g.T.TextStore.text c.args.journal.now)) c.args.torn i.reading c.in-Some.mark i.torn c.in-Some.is in
    let st = stands_in text (g.T.TextStore.text c.args.journal.now) c.in-Some.mark way.record_ refl way.stands in
    let same : i.reading ≡ r = torn_once (shown text) (shown (g.T.TextStore.text c.args.journal.now)) c.args.torn i.reading r i.torn refl reads in
    let new : List ℕ = g.T.TextStore.text c.take_back.new.journal in
    let y : List ℕ = g.D.Device.image c.take_back.new.image in
    subst (λ q. IsOpened text x q new y (Restored (c.args.torn.count + 1)) c.args.torn.count) same
    (torn_opened text (g.T.TextStore.text c.args.journal.now) x new y c.args.torn i.reading (Restored (c.args.torn.count + 1)) c.args.torn.count i.torn refl
    (subst (λ (q : Reading). HaveLengths q.entries (image_at q.stage x)) (sym same) lengths)
    (c.in_ok-take_back-in-Some.ensures.image dh th way.record_ st ∙ sym (ap (λ stage. image_at stage x) way.is)) (c.in_ok-take_back-in-Some.ensures.text th) refl
    (torn_restored (g.T.TextStore.text c.args.journal.now) c.args.torn i.reading way.version way.record_ i.torn way.is))

pub returns-in_ok-take_back-in-Some-clause-left : goal.returns-in_ok-take_back-in-Some-clause-left
returns-in_ok-take_back-in-Some-clause-left g c th r reads =
    let i = c.requires.found.torn th in
    let text : List ℕ = g.T.TextStore.text c.args.journal.now in
    let same : i.reading ≡ r = torn_once (shown text) (shown (g.T.TextStore.text c.args.journal.now)) c.args.torn i.reading r i.torn refl reads in
    subst (λ (q : Reading). HasLeft text (g.T.TextStore.text c.take_back.new.journal) q.entries) same
    (torn_left text (g.T.TextStore.text c.args.journal.now) (g.T.TextStore.text c.take_back.new.journal) c.args.torn i.reading i.torn refl (c.in_ok-take_back-in-Some.ensures.text th))

pub returns-in_ok-take_back-in-Some-clause-keeps : goal.returns-in_ok-take_back-in-Some-clause-keeps
returns-in_ok-take_back-in-Some-clause-keeps g c dh th stack rec =
    let i = c.requires.found.torn th in
    let text : List ℕ = g.T.TextStore.text c.args.journal.now in
    let x : List ℕ = g.D.Device.image c.args.image.now in
    let way = torn_way (shown (g.T.TextStore.text c.args.journal.now)) c.args.torn i.reading c.in-Some.mark i.torn c.in-Some.is in
    let st = stands_in text (g.T.TextStore.text c.args.journal.now) c.in-Some.mark way.record_ refl way.stands in
    let t = subst (λ stage. HasTail (shown text) x stack i.reading.entries stage c.args.torn.begins) way.is (torn_tail (shown text) (shown (g.T.TextStore.text c.args.journal.now)) x stack c.args.torn i.reading i.torn refl rec) in
    (c.in_ok-take_back-in-Some.ensures.ok dh th way.record_ st stack i.reading.entries way.version t, tt)

pub returns-in_ok-take_back-in-Some-clause-survives : goal.returns-in_ok-take_back-in-Some-clause-survives
returns-in_ok-take_back-in-Some-clause-survives g c dh th only text_only stack rec y new there text_there =
    let i = c.requires.found.torn th in
    let text : List ℕ = g.T.TextStore.text c.args.journal.now in
    let x : List ℕ = g.D.Device.image c.args.image.now in
    let way = torn_way (shown (g.T.TextStore.text c.args.journal.now)) c.args.torn i.reading c.in-Some.mark i.torn c.in-Some.is in
    let st = stands_in text (g.T.TextStore.text c.args.journal.now) c.in-Some.mark way.record_ refl way.stands in
    let t = subst (λ stage. HasTail (shown text) x stack i.reading.entries stage c.args.torn.begins) way.is (torn_tail (shown text) (shown (g.T.TextStore.text c.args.journal.now)) x stack c.args.torn i.reading i.torn refl rec) in
    c.in_ok-take_back-in-Some.ensures.survives dh th way.record_ st only text_only stack i.reading.entries way.version t y new there text_there

pub returns-in_err-take_back-in-Some-clause-keeps : goal.returns-in_err-take_back-in-Some-clause-keeps
returns-in_err-take_back-in-Some-clause-keeps g c dh th stack rec =
    let i = c.requires.found.torn th in
    let text : List ℕ = g.T.TextStore.text c.args.journal.now in
    let x : List ℕ = g.D.Device.image c.args.image.now in
    let way = torn_way (shown (g.T.TextStore.text c.args.journal.now)) c.args.torn i.reading c.in-Some.mark i.torn c.in-Some.is in
    let st = stands_in text (g.T.TextStore.text c.args.journal.now) c.in-Some.mark way.record_ refl way.stands in
    let t = subst (λ stage. HasTail (shown text) x stack i.reading.entries stage c.args.torn.begins) way.is (torn_tail (shown text) (shown (g.T.TextStore.text c.args.journal.now)) x stack c.args.torn i.reading i.torn refl rec) in
    (search rules, always_err _ (c.in_err-take_back-in-Some.ensures.fault dh th way.record_ st stack i.reading.entries way.version t))

pub returns-in_err-take_back-in-Some-clause-survives : goal.returns-in_err-take_back-in-Some-clause-survives
returns-in_err-take_back-in-Some-clause-survives g c dh th only text_only stack rec y new there text_there =
    let i = c.requires.found.torn th in
    let text : List ℕ = g.T.TextStore.text c.args.journal.now in
    let x : List ℕ = g.D.Device.image c.args.image.now in
    let way = torn_way (shown (g.T.TextStore.text c.args.journal.now)) c.args.torn i.reading c.in-Some.mark i.torn c.in-Some.is in
    let st = stands_in text (g.T.TextStore.text c.args.journal.now) c.in-Some.mark way.record_ refl way.stands in
    let t = subst (λ stage. HasTail (shown text) x stack i.reading.entries stage c.args.torn.begins) way.is (torn_tail (shown text) (shown (g.T.TextStore.text c.args.journal.now)) x stack c.args.torn i.reading i.torn refl rec) in
    c.in_err-take_back-in-Some.ensures.survives dh th way.record_ st only text_only stack i.reading.entries way.version t y new there text_there

pub returns-in_ok-drop_tail-in-None-clause-settled : goal.returns-in_ok-drop_tail-in-None-clause-settled
returns-in_ok-drop_tail-in-None-clause-settled g c dh th only = (only, c.in_ok-drop_tail-in-None.ensures.settled th)

pub returns-in_ok-take_back-in-Some-clause-settled : goal.returns-in_ok-take_back-in-Some-clause-settled
returns-in_ok-take_back-in-Some-clause-settled g c dh th only = (c.in_ok-take_back-in-Some.ensures.settled dh, c.in_ok-take_back-in-Some.ensures.journal_settled th)
