use Rattle.std.proofs.Common.{◌∙◌, ◌+◌, false, length, take, ap, subst, arith}
use Rattle.std.specs.Prelude.{IfSome}
use Rattle.bx_journal_read.specs.scan.Windows.{IsWalkedTo}
use Rattle.bx_journal_read.proofs.DamageLemmas.{damaged_before}
use Rattle.bx_journal_read.proofs.TextWalks.{read_walked}
use Rattle.bx_journal_read.proofs.scan.damage.find_line.Goals as goal

pub is_damaged_at-requires-clause-walked : goal.is_damaged_at-requires-clause-walked
is_damaged_at-requires-clause-walked g c =
    let T = g.T.TextStore in
    let now = c.in_ok-found.ensures in
    let walked = subst (λ o. IfSome o (IsWalkedTo (T.faithful c.args.store.now) (T.text c.args.store.now) false c.args.len)) c.in-Some.is now.walked in
    read_walked T now.reads c.args.len c.in-Some.walk walked

pub returns-then-damaged-clause-line : goal.returns-then-damaged-clause-line
returns-then-damaged-clause-line g c =
    let T = g.T.TextStore in
    let now = c.in_ok-found.ensures in
    damaged_before (T.faithful c.args.store.now) (T.faithful c.walk_in_place.new.store) (take c.args.len (T.text c.args.store.now)) (take c.args.len (T.text c.walk_in_place.new.store)) (c.in-Some.walk.lines + 1)
    now.reads.goes_on.faith.1 (λ h. ap (take c.args.len) (now.reads.text h)) (c.in_ok-damaged.ensures.damaged c.if-damaged.true)

pub overflow_add-result : goal.overflow_add-result
overflow_add-result g c =
    let T = g.T.TextStore in
    let walked = subst (λ o. IfSome o (IsWalkedTo (T.faithful c.args.store.now) (T.text c.args.store.now) false c.args.len)) c.in-Some.is c.in_ok-found.ensures.walked in
    omega (arith, walked.lines, c.if-walk-len.false)
