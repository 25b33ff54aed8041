use Rattle.std.proofs.Common.{◌∙◌, List, ℕ, sym, subst, take, ap, Result, Ok, Err}
use Rattle.std.specs.Prelude.{OnErr, OnOk}
use Rattle.std.proofs.lemmas.Result.{on_ok_weaker}
use Rattle.bx_journal_format.specs.Shown.{shown}
use Rattle.bx_journal_format.specs.Text.{Ending}
use Rattle.bx_image.proofs.Records.{IsAsGood-unmapped}
use Rattle.bx_journal_model.specs.Stack.{Recovers}
use Rattle.bx_journal_model.specs.Step.{HasTail}
use Rattle.bx_journal_model.proofs.RestoreLemmas.{names_itself}
use Rattle.bx_journal_model.proofs.Tails.{tail_recovers, tail_moves}
use Rattle.bx_journal_protocol.proofs.protocol.rollback.take_back.Goals as goal

always_err : {T E P : Type 0} (r : Result T E) → P → OnErr r P
always_err (Ok x) p = tt
always_err (Err e) p = p

always_ok : {T E P : Type 0} (r : Result T E) → P → OnOk r P
always_ok (Ok x) p = p
always_ok (Err e) p = tt

pub restore_windows-requires-clause-within : goal.restore_windows-requires-clause-within
restore_windows-requires-clause-within g c = c.requires.within_mark

pub returns-in_err-restore_windows-clause-fault : goal.returns-in_err-restore_windows-clause-fault
returns-in_err-restore_windows-clause-fault g c dh th s st stack es v tail =
    let stop = c.in_err-restore_windows.ensures in
    let y : List ℕ = g.D.Device.image c.restore_windows.new.image in
    let good = IsAsGood-unmapped s (g.D.Device.image c.args.image.now) y (stop.keeps dh th s s st (names_itself s)) tail.sound.unfinished in
    subst (λ t. OnErr c.from_residual.result (Recovers (shown t) y stack)) (sym (stop.text th))
    (always_err c.from_residual.result (tail_recovers _ y stack es (Ending v s) _ (tail_moves _ _ y stack es v s _ tail good)))

pub returns-in_err-restore_windows-clause-survives : goal.returns-in_err-restore_windows-clause-survives
returns-in_err-restore_windows-clause-survives g c dh th s st only text_only stack es v tail y new there text_there =
    let stop = c.in_err-restore_windows.ensures in
    let text : List ℕ = g.T.TextStore.text c.args.journal.now in
    let good = IsAsGood-unmapped s (g.D.Device.image c.args.image.now) y (stop.survives dh th s s st (names_itself s) only y there) tail.sound.unfinished in
    subst (λ t. Recovers (shown t) y stack) (sym (text_only new (stop.text_survives th new text_there)))
    (tail_recovers (shown text) y stack es (Ending v s) c.args.begins (tail_moves (shown text) _ y stack es v s c.args.begins tail good))

pub returns-clause-ok : goal.returns-clause-ok
returns-clause-ok g c dh th s st stack es v tail =
    let done = c.in_ok-restore_windows.ensures in
    let y : List ℕ = g.D.Device.image c.restore_windows.new.image in
    let good = IsAsGood-unmapped s (g.D.Device.image c.args.image.now) y (done.keeps dh th s s st (names_itself s)) tail.sound.unfinished in
    let here = subst (λ t. HasTail (shown t) y stack es (Ending v s) c.args.begins) (sym (done.text th)) (tail_moves _ _ y stack es v s _ tail good) in
    c.drop_tail.ensures.shown_rests (done.journal_faith.1 th) y stack es (Ending v s) here (good.same ∙ sym (done.ok dh th s st))

pub returns-clause-fault : goal.returns-clause-fault
returns-clause-fault g c dh th s st stack es v tail =
    let done = c.in_ok-restore_windows.ensures in
    let y : List ℕ = g.D.Device.image c.restore_windows.new.image in
    let good = IsAsGood-unmapped s (g.D.Device.image c.args.image.now) y (done.keeps dh th s s st (names_itself s)) tail.sound.unfinished in
    let here = subst (λ t. HasTail (shown t) y stack es (Ending v s) c.args.begins) (sym (done.text th)) (tail_moves _ _ y stack es v s _ tail good) in
    c.drop_tail.ensures.shown_stops (done.journal_faith.1 th) y stack es (Ending v s) here (good.same ∙ sym (done.ok dh th s st))

pub returns-clause-text : goal.returns-clause-text
returns-clause-text g c th =
    let done = c.in_ok-restore_windows.ensures in
    on_ok_weaker c.drop_tail.result (λ is. is ∙ ap (take c.args.begins) (done.text th)) (c.drop_tail.ensures.text (done.journal_faith.1 th))

pub returns-clause-survives : goal.returns-clause-survives
returns-clause-survives g c dh th s st only text_only stack es v tail y new there text_there =
    let done = c.in_ok-restore_windows.ensures in
    let now : List ℕ = g.D.Device.image c.restore_windows.new.image in
    let good = IsAsGood-unmapped s (g.D.Device.image c.args.image.now) now (done.keeps dh th s s st (names_itself s)) tail.sound.unfinished in
    let here = subst (λ t. HasTail (shown t) now stack es (Ending v s) c.args.begins) (sym (done.text th)) (tail_moves _ _ now stack es v s _ tail good) in
    subst (λ z. Recovers (shown new) z stack) (sym (done.settled dh y there))
    (c.drop_tail.ensures.shown_survives (done.journal_faith.1 th) (λ d found. text_only d (done.text_survives th d found) ∙ sym (done.text th)) now stack es (Ending v s) here
    (good.same ∙ sym (done.ok dh th s st)) new text_there)

pub returns-clause-settled : goal.returns-clause-settled
returns-clause-settled g c dh = always_ok c.drop_tail.result (c.in_ok-restore_windows.ensures.settled dh)
