use Rattle.std.proofs.Common.{inl, ◌≡◌, ℕ, suc, List, [], refl, ap, sym, ◌∙◌, subst, arith}
use Rattle.bx_journal_format.specs.Shown.{shown}
use Rattle.bx_journal_format.specs.Text.{Reading, Reads}
use Rattle.bx_journal_model.specs.Power.{Found}
use Rattle.bx_journal_model.specs.Stack.{Recovers, image_at, HaveLengths}
use Rattle.bx_journal_model.specs.Calls.{Differs}
use Rattle.bx_journal_model.specs.Opening.{IsOpened}
use Rattle.bx_journal_read.proofs.OpenLemmas.{look_opens, look_refuses, after_same, same_lengths}
use Rattle.bx_journal.proofs.TornLemmas.{torn_once, torn_stack}
use Rattle.bx_journal_read.proofs.RecoverLemmas.{look_kind, look_silent}
use Rattle.bx_journal_model.specs.Undoing.{HasLeft}
use Rattle.bx_journal_read.specs.scan.Recovery.{IsTornIn}
use Rattle.bx_journal.proofs.recovery.unfinished.recover_read.Goals as goal

pub returns-in-Err-clause-faults : goal.returns-in-Err-clause-faults
returns-in-Err-clause-faults g c dh th r reads =
    let i = c.requires.found.torn th in
    let same : i.reading ≡ r = torn_once (shown (g.T.TextStore.text c.args.devices.now.journal)) (shown (g.T.TextStore.text c.args.devices.now.journal)) c.args.torn i.reading r i.torn refl reads in
    look_opens (g.D.Device.faithful c.args.devices.now.image) i.reading.entries (g.D.Device.image c.args.devices.now.image) (image_at i.reading.stage (g.D.Device.image c.args.devices.now.image)) r c.in-Err.fault dh
    (sym (ap (λ (q : Reading). q.entries) same)) (sym (ap (λ (q : Reading). image_at q.stage (g.D.Device.image c.args.devices.now.image)) same)) (c.in-Err.ensures.fault (shown (g.T.TextStore.text c.args.devices.now.journal)) i.reading i.torn)

pub returns-in-Err-clause-differs : goal.returns-in-Err-clause-differs
returns-in-Err-clause-differs g c dh th r n reads differs =
    let x : List ℕ = g.D.Device.image c.args.devices.now.image in
    let i = c.requires.found.torn th in
    let same : i.reading ≡ r = torn_once (shown (g.T.TextStore.text c.args.devices.now.journal)) (shown (g.T.TextStore.text c.args.devices.now.journal)) c.args.torn i.reading r i.torn refl reads in
    look_refuses (g.D.Device.faithful c.args.devices.now.image) i.reading.entries (image_at i.reading.stage x) n c.in-Err.fault dh
    (subst (λ (q : Reading). Differs q.entries (image_at q.stage x) n) (sym same) differs) (c.in-Err.ensures.fault (shown (g.T.TextStore.text c.args.devices.now.journal)) i.reading i.torn)

pub returns-in-Err-clause-keeps : goal.returns-in-Err-clause-keeps
returns-in-Err-clause-keeps g c dh th stack rec = (tt, (subst (λ t. Recovers (shown t) (g.D.Device.image c.get_ready.new.devices.image) stack) (sym (c.get_ready.ensures.stayed.text_same th)) (subst (λ x. Recovers (shown (g.T.TextStore.text c.args.devices.now.journal)) x stack) (sym (c.get_ready.ensures.stayed.image_same dh)) rec)))

pub returns-in-Err-clause-refused : goal.returns-in-Err-clause-refused
returns-in-Err-clause-refused g c dh th = after_same c.in-Err.fault _ (c.get_ready.ensures.stayed.text_same th, c.get_ready.ensures.stayed.image_same dh)

pub returns-in-Err-clause-calls : goal.returns-in-Err-clause-calls
returns-in-Err-clause-calls g c =
    let stayed = c.get_ready.ensures.stayed in
    record { image_faith = stayed.image_faith; journal_faith = stayed.journal_faith; redo_faith = stayed.redo_faith; no_failure = tt; counts = c.in-Err.ensures.counts }

pub returns-in-Err-clause-kind : goal.returns-in-Err-clause-kind
returns-in-Err-clause-kind g c = look_kind ⊥ [] [] c.in-Err.fault c.in-Err.ensures.kind

pub returns-in-Err-clause-redo_same : goal.returns-in-Err-clause-redo_same
returns-in-Err-clause-redo_same g c th = after_same c.in-Err.fault _ (c.get_ready.ensures.stayed.redo_same th)

pub returns-in-Ok-finish-clause-opened : goal.returns-in-Ok-finish-clause-opened
returns-in-Ok-finish-clause-opened g c dh th r reads =
    let x : List ℕ = g.D.Device.image c.args.devices.now.image in
    let image = c.get_ready.ensures.stayed.image_same dh in
    let text = c.get_ready.ensures.stayed.text_same th in
    let i = c.requires.found.torn th in
    let same : i.reading ≡ r = torn_once (shown (g.T.TextStore.text c.args.devices.now.journal)) (shown (g.T.TextStore.text c.args.devices.now.journal)) c.args.torn i.reading r i.torn refl reads in
    let lengths = c.in-Ok.ensures.lengths dh (shown (g.T.TextStore.text c.args.devices.now.journal)) i.reading i.torn in
    let here = subst (λ z. HaveLengths r.entries (image_at r.stage z)) (sym image) (subst (λ (q : Reading). HaveLengths q.entries (image_at q.stage x)) same lengths) in
    let found = c.in-Ok-finish.ensures.opened (c.get_ready.ensures.stayed.image_faith.1 dh) (c.get_ready.ensures.stayed.journal_faith.1 th) r (subst (λ t. Reads (shown t) r) (sym text) reads) here in
    subst (λ t. IsOpened t x r (g.T.TextStore.text c.finish.new.devices.journal) (g.D.Device.image c.finish.new.devices.image) c.in-Ok-finish.found.how c.in-Ok-finish.found.changes) text
    (subst (λ z. IsOpened (g.T.TextStore.text c.get_ready.new.devices.journal) z r (g.T.TextStore.text c.finish.new.devices.journal) (g.D.Device.image c.finish.new.devices.image) c.in-Ok-finish.found.how c.in-Ok-finish.found.changes) image found)

pub returns-in-Ok-finish-clause-sum : goal.returns-in-Ok-finish-clause-sum
returns-in-Ok-finish-clause-sum g c =
    omega (arith, c.in-Ok-finish.ensures.changes, c.in-Ok-finish.ensures.unclean.1, c.requires.found.few)

pub returns-in-Ok-finish-clause-differs : goal.returns-in-Ok-finish-clause-differs
returns-in-Ok-finish-clause-differs g c dh th r n reads differs =
    let x : List ℕ = g.D.Device.image c.args.devices.now.image in
    let i = c.requires.found.torn th in
    let same : i.reading ≡ r = torn_once (shown (g.T.TextStore.text c.args.devices.now.journal)) (shown (g.T.TextStore.text c.args.devices.now.journal)) c.args.torn i.reading r i.torn refl reads in
    same_lengths i.reading.entries (image_at i.reading.stage x) n (c.in-Ok.ensures.lengths dh (shown (g.T.TextStore.text c.args.devices.now.journal)) i.reading i.torn)
    (subst (λ (q : Reading). Differs q.entries (image_at q.stage x) n) (sym same) differs)

pub returns-in-Ok-finish-clause-keeps : goal.returns-in-Ok-finish-clause-keeps
returns-in-Ok-finish-clause-keeps g c dh th stack rec =
    let kept = c.in-Ok-finish.ensures.keeps (c.get_ready.ensures.stayed.image_faith.1 dh) (c.get_ready.ensures.stayed.journal_faith.1 th) stack (subst (λ t. Recovers (shown t) (g.D.Device.image c.get_ready.new.devices.image) stack) (sym (c.get_ready.ensures.stayed.text_same th)) (subst (λ x. Recovers (shown (g.T.TextStore.text c.args.devices.now.journal)) x stack) (sym (c.get_ready.ensures.stayed.image_same dh)) rec)) in
    (kept.0, tt)

pub returns-in-Ok-finish-clause-counted : goal.returns-in-Ok-finish-clause-counted
returns-in-Ok-finish-clause-counted g c dh th stack rec =
    torn_stack (shown (g.T.TextStore.text c.args.devices.now.journal)) (shown (g.T.TextStore.text c.args.devices.now.journal)) (g.D.Device.image c.args.devices.now.image) stack c.args.torn (c.requires.found.torn th).reading (c.requires.found.torn th).torn refl rec
    ∙ ap suc (sym c.in-Ok-finish.ensures.changes)

pub returns-in-Ok-finish-clause-calls : goal.returns-in-Ok-finish-clause-calls
returns-in-Ok-finish-clause-calls g c =
    let stayed = c.get_ready.ensures.stayed in
    let on = c.finish.ensures.steps_on in
    let a = c.in-Ok-finish.ensures.steps_on.no_failure in
    let b = c.in-Ok.ensures.no_failure in
    record {
      image_faith = (λ h. stayed.image_faith.0 (on.image_faith.0 h), λ h. on.image_faith.1 (stayed.image_faith.1 h));
      journal_faith = (λ h. stayed.journal_faith.0 (on.journal_faith.0 h), λ h. on.journal_faith.1 (stayed.journal_faith.1 h));
      redo_faith = (λ h. stayed.redo_faith.0 (on.redo_faith.0 h), λ h. on.redo_faith.1 (stayed.redo_faith.1 h));
      no_failure = (a.0 ∙ b.0, a.1 ∙ b.1, a.2 ∙ b.2);
      counts = tt;
    }

pub returns-in-Ok-finish-clause-left : goal.returns-in-Ok-finish-clause-left
returns-in-Ok-finish-clause-left g c th r reads =
    let text = c.get_ready.ensures.stayed.text_same th in
    subst (λ t. HasLeft t (g.T.TextStore.text c.finish.new.devices.journal) r.entries) text
    (c.in-Ok-finish.ensures.left (c.get_ready.ensures.stayed.journal_faith.1 th) r (subst (λ t. Reads (shown t) r) (sym text) reads))

pub returns-in-Err-clause-empties : goal.returns-in-Err-clause-empties
returns-in-Err-clause-empties g c = record { emptied = λ rh. tt; emptied_first = λ th rh. inl (c.get_ready.ensures.stayed.text_same th) }

pub returns-in-Err-clause-survives : goal.returns-in-Err-clause-survives
returns-in-Err-clause-survives g c dh th rh s found = look_silent ⊥ [] [] _ c.in-Err.fault c.in-Err.ensures.kind

pub finish-requires-clause-found : goal.finish-requires-clause-found
finish-requires-clause-found g c = record {
  torn = λ h. subst (λ t. IsTornIn t c.args.torn) (sym (c.get_ready.ensures.stayed.text_same (c.get_ready.ensures.stayed.journal_faith.0 h))) (c.requires.found.torn (c.get_ready.ensures.stayed.journal_faith.0 h));
  few = c.requires.found.few;
  order = c.requires.found.order;
}

pub finish-requires-clause-countable : goal.finish-requires-clause-countable
finish-requires-clause-countable g c = let n = c.in-Ok.ensures.no_failure in (omega (arith, n.0, c.requires.countable.0), omega (arith, n.1, c.requires.countable.1), omega (arith, n.2, c.requires.countable.2))

pub returns-in-Ok-finish-clause-empties : goal.returns-in-Ok-finish-clause-empties
returns-in-Ok-finish-clause-empties g c = record { emptied = λ rh. c.in-Ok-finish.ensures.emptied (c.get_ready.ensures.stayed.redo_faith.1 rh); emptied_first = λ th rh. tt }

pub returns-in-Ok-finish-clause-survives : goal.returns-in-Ok-finish-clause-survives
returns-in-Ok-finish-clause-survives g c dh th rh s found done =
    c.finish.ensures.survives (c.get_ready.ensures.stayed.image_faith.1 dh) (c.get_ready.ensures.stayed.journal_faith.1 th) (c.get_ready.ensures.stayed.redo_faith.1 rh) (c.in-Ok.ensures.settled dh th rh) s
    (subst (λ t. Found t (g.D.Device.image c.get_ready.new.devices.image) (g.T.TextStore.text c.get_ready.new.devices.redo) s) (sym (c.get_ready.ensures.stayed.text_same th))
    (subst (λ z. Found (g.T.TextStore.text c.args.devices.now.journal) z (g.T.TextStore.text c.get_ready.new.devices.redo) s) (sym (c.get_ready.ensures.stayed.image_same dh))
    (subst (λ u. Found (g.T.TextStore.text c.args.devices.now.journal) (g.D.Device.image c.args.devices.now.image) u s) (sym (c.get_ready.ensures.stayed.redo_same rh)) found)))

pub returns-clause-survives : goal.returns-clause-survives
returns-clause-survives g c dh th rh s found =
    c.finish.ensures.survives (c.get_ready.ensures.stayed.image_faith.1 dh) (c.get_ready.ensures.stayed.journal_faith.1 th) (c.get_ready.ensures.stayed.redo_faith.1 rh) (c.in-Ok.ensures.settled dh th rh) s
    (subst (λ t. Found t (g.D.Device.image c.get_ready.new.devices.image) (g.T.TextStore.text c.get_ready.new.devices.redo) s) (sym (c.get_ready.ensures.stayed.text_same th))
    (subst (λ z. Found (g.T.TextStore.text c.args.devices.now.journal) z (g.T.TextStore.text c.get_ready.new.devices.redo) s) (sym (c.get_ready.ensures.stayed.image_same dh))
    (subst (λ u. Found (g.T.TextStore.text c.args.devices.now.journal) (g.D.Device.image c.args.devices.now.image) u s) (sym (c.get_ready.ensures.stayed.redo_same rh)) found)))

pub returns-in-Err-clause-found_before : goal.returns-in-Err-clause-found_before
returns-in-Err-clause-found_before g c = after_same c.in-Err.fault _ c.get_ready.ensures.found_before

pub returns-in-Ok-finish-clause-settled : goal.returns-in-Ok-finish-clause-settled
returns-in-Ok-finish-clause-settled g c dh th rh =
    let stayed = c.get_ready.ensures.stayed in
    c.in-Ok-finish.ensures.settles (stayed.image_faith.1 dh) (stayed.journal_faith.1 th) (stayed.redo_faith.1 rh) (c.in-Ok.ensures.settled dh th rh)
