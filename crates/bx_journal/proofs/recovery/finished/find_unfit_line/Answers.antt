use Rattle.std.specs.Prelude.{IfSome}
use Rattle.std.proofs.lemmas.Result.{IfOk-weaker}
use Rattle.bx_journal_read.specs.scan.Judging.{IsUnfitIn}
use Rattle.bx_journal_read.specs.scan.Damage.{IsDamagedIn}
use Rattle.bx_journal.proofs.JudgeLemmas.{damaged_unfit, some_weaker, unfit_before}
use Rattle.bx_journal.proofs.recovery.finished.find_unfit_line.Goals as goal

pub returns-then-is_some-clause-line : goal.returns-then-is_some-clause-line
returns-then-is_some-clause-line g c =
    let T = g.T.TextStore in
    let H = T.faithful c.args.redo.now in
    some_weaker (IsDamagedIn H (T.text c.args.redo.now)) (IsUnfitIn H (T.text c.args.redo.now) c.args.changes) c.in-Ok.damage
    (λ line d. damaged_unfit H (T.text c.args.redo.now) c.args.changes line d) c.in-Ok.ensures.line

pub returns-clause-line : goal.returns-clause-line
returns-clause-line g c =
    let T = g.T.TextStore in
    let looks = c.text_damage.ensures.reads.looks in
    let before = IsUnfitIn (T.faithful c.args.redo.now) (T.text c.args.redo.now) c.args.changes in
    let behind = IsUnfitIn (T.faithful c.text_damage.new.store) (T.text c.text_damage.new.store) c.args.changes in
    IfOk-weaker c.unfit_line.result (λ found. IfSome found behind) (λ found. IfSome found before)
    (λ found u. some_weaker behind before found (λ line unfit. unfit_before (T.faithful c.args.redo.now) (T.faithful c.text_damage.new.store) (T.text c.args.redo.now) (T.text c.text_damage.new.store) c.args.changes line looks.faith.1 looks.same unfit) u)
    c.unfit_line.ensures.line
