use Rattle.std.proofs.Common.{◌∙◌, length, take, ap, sym, arith}
use Rattle.bx_journal_format.specs.Shown.{shown}
use Rattle.bx_journal_read.specs.scan.Damage.{IsDamagedIn}
use Rattle.bx_journal_read.proofs.DamageLemmas.{damaged_before, line_all}
use Rattle.bx_journal_read.proofs.scan.damage.find_shown.Goals as goal

pub find_line-requires-clause-within : goal.find_line-requires-clause-within
find_line-requires-clause-within g c h =
    let h0 = c.in_ok-shown.ensures.reads.goes_on.faith.0 h in
    omega (arith, c.in_ok-shown.ensures.within, c.requires.long h0, ap length (c.in_ok-shown.ensures.reads.text h0))

pub returns-clause-line : goal.returns-clause-line
returns-clause-line g c =
    let T = g.T.TextStore in
    let n = c.in_ok-shown.shown in
    let first = c.in_ok-shown.ensures in
    line_all (IsDamagedIn (T.faithful c.shown_in.new.store) (take n (T.text c.shown_in.new.store))) (IsDamagedIn (T.faithful c.args.store.now) (shown (T.text c.args.store.now))) c.find_line.result
    (λ line d. damaged_before (T.faithful c.args.store.now) (T.faithful c.shown_in.new.store) (shown (T.text c.args.store.now)) (take n (T.text c.shown_in.new.store)) line
    first.reads.goes_on.faith.1 (λ h. ap (take n) (first.reads.text h) ∙ first.shown h) d)
    c.find_line.ensures.line
