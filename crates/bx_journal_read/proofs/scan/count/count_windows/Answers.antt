use Rattle.std.proofs.Common.{length, subst}
use Rattle.std.specs.Prelude.{IfSome}
use Rattle.bx_journal_read.specs.scan.Windows.{IsWalkedTo}
use Rattle.bx_journal_read.proofs.scan.count.count_windows.Goals as goal

pub returns-clause-counted : goal.returns-clause-counted
returns-clause-counted g c =
    let walked = subst (λ o. IfSome o (IsWalkedTo (g.T.TextStore.faithful c.args.store.now) (g.T.TextStore.text c.args.store.now) c.args.only_second c.args.len)) c.in-Some.is c.in_ok-found.ensures.walked in
    let now = c.in-Some-counted_by.ensures in
    record {
      front = walked.led.text;
      is = walked.led.is;
      long = walked.led.long;
      counted = now.counted c.args.only_second walked.led.text c.in-Some.walk.lines walked.led.leads;
      lines = walked.lines;
      few = now.few walked.few;
    }

pub returns-clause-within : goal.returns-clause-within
returns-clause-within g c =
    (subst (λ o. IfSome o (IsWalkedTo (g.T.TextStore.faithful c.args.store.now) (g.T.TextStore.text c.args.store.now) c.args.only_second c.args.len)) c.in-Some.is c.in_ok-found.ensures.walked).below
