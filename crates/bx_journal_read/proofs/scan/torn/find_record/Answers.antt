use Rattle.std.proofs.Common.{◌≡◌, ◌+◌, sym, subst}
use Rattle.std.specs.Prelude.{IfSome}
use Rattle.bx_journal_format.specs.Line.{start_size}
use Rattle.bx_journal_format.specs.count.Mark.{IsMark}
use Rattle.bx_journal_model.specs.Restoring.{StandsAt}
use Rattle.bx_journal_model.proofs.StandLemmas.{stands_of}
use Rattle.bx_journal_read.proofs.scan.torn.find_record.Goals as goal

pub returns-clause-record_ : goal.returns-clause-record_
returns-clause-record_ g c th r s first last is stage =
    let text = g.T.TextStore.text c.args.store.now in
    let long : c.in-Some.len ≡ s.len = subst (λ o. IfSome o (λ n. n ≡ s.len)) c.in-Some.is (c.in_ok-found.ensures.len th r c.args.version s first last is stage) in
    let end = subst (λ st. IsMark text c.args.walk.at (record { entries = r.entries; stage = st })) stage last in
    let stands = stands_of text r.entries c.args.version s c.args.begins c.args.walk.at first end c.requires.below in
    subst (λ n. StandsAt text (record { lines = c.args.begins + n + 1; saved = c.args.walk.at; len = c.in-Some.len }) s) (sym c.start_size-first.ensures)
    (subst (λ n. StandsAt text (record { lines = c.args.begins + start_size c.args.version + 1; saved = c.args.walk.at; len = n }) s) (sym long) stands)
