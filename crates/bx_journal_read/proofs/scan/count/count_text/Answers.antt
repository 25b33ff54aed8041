use Rattle.std.proofs.Common.{◌≡◌, sym, subst, arith}
use Rattle.std.specs.Prelude.{IfSome}
use Rattle.bx_journal_read.specs.scan.Windows.{IsFrontCounted}
use Rattle.bx_journal_read.proofs.WindowLemmas.{all_of, front_after}
use Rattle.bx_journal_read.proofs.scan.count.count_text.Goals as goal

pub returns-clause-counted : goal.returns-clause-counted
returns-clause-counted g c =
    let now = g.T.TextStore.faithful c.len.new.self in
    let text = g.T.TextStore.text c.len.new.self in
    let whole : c.in-Some.front.at ≡ c.in_ok-len.len = omega arith in
    all_of (g.T.TextStore.faithful c.args.store.now) (g.T.TextStore.text c.args.store.now) c.args.only_second c.in-Some.front c.in_ok-len.len
    (front_after now (g.T.TextStore.faithful c.args.store.now) text (g.T.TextStore.text c.args.store.now) c.args.only_second c.in-Some.front c.len.ensures.goes_on.faith.1 (λ n. sym (c.len.ensures.text (c.len.ensures.goes_on.faith.0 n)))
    (subst (λ o. IfSome o (IsFrontCounted now text c.args.only_second)) c.in-Some.is c.in_ok-found.ensures.counted))
    c.in_ok-len.ensures.len whole
