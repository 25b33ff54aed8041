use Rattle.std.proofs.Common.{◌<◌, ◌++◌, ℕ, List, take, subst, sym, arith}
use Rattle.std.specs.Prelude.{IfSome}
use Rattle.bx_journal_format.specs.Text.{ended}
use Rattle.bx_journal_model.specs.Long.{IsLongLine}
use Rattle.bx_journal_read.specs.scan.Windows.{TakesLong}
use Rattle.bx_journal_read.proofs.ScanLemmas.{long_reached, long_stays}
use Rattle.bx_journal_read.proofs.scan.windows.take_first.Goals as goal

pub returns-clause-reached : goal.returns-clause-reached
returns-clause-reached g c first led =
    let T = g.T.TextStore in
    let faithful = T.faithful c.args.store.now in
    let stored : List ℕ = T.text c.args.store.now in
    let line : List ℕ = c.split_at.result.0.now in
    let size : ℕ = c.in-Some.size in
    let l : IsLongLine faithful stored c.args.at c.args.len line size = subst (λ f. IsLongLine faithful stored c.args.at c.args.len f size) (sym c.split_at.ensures.front)
    (subst (λ o. IfSome o (IsLongLine faithful stored c.args.at c.args.len (take 1024 c.long_line.new.window))) c.in-Some.is c.in_ok-found.ensures.long) in
    let takes = subst (λ o. IfSome o (TakesLong (g.S.Scan.Leads first) led.text (ended (line ++ l.more)))) c.in-Some-taken.is (c.in-Ok.ensures.leads first led.text l.more led.long led.leads l.plain (sym l.long)) in
    long_reached faithful stored line (g.S.Scan.Leads first) c.args.len c.args.at size c.args.scan c.in-Some-taken.next led l takes (omega (arith, c.if-next-eq0.false))

pub returns-then-next-eq0-clause-reached : goal.returns-then-next-eq0-clause-reached
returns-then-next-eq0-clause-reached g c first led =
    let T = g.T.TextStore in
    let faithful = T.faithful c.args.store.now in
    let stored : List ℕ = T.text c.args.store.now in
    let line : List ℕ = c.split_at.result.0.now in
    let size : ℕ = c.in-Some.size in
    let l : IsLongLine faithful stored c.args.at c.args.len line size = subst (λ f. IsLongLine faithful stored c.args.at c.args.len f size) (sym c.split_at.ensures.front)
    (subst (λ o. IfSome o (IsLongLine faithful stored c.args.at c.args.len (take 1024 c.long_line.new.window))) c.in-Some.is c.in_ok-found.ensures.long) in
    let takes = subst (λ o. IfSome o (TakesLong (g.S.Scan.Leads first) led.text (ended (line ++ l.more)))) c.in-Some-taken.is (c.in-Ok.ensures.leads first led.text l.more led.long led.leads l.plain (sym l.long)) in
    long_stays faithful stored (ended (line ++ l.more)) (g.S.Scan.Leads first) c.args.len c.args.at c.args.scan c.in-Some-taken.next led c.requires.below takes (omega (arith, c.if-next-eq0.true))
