use Rattle.std.proofs.Common.{◌+◌, length, arith}
use Rattle.std.specs.Prelude.{IsTrue, take}
use Rattle.bx_journal_read.specs.scan.Damage.{IsDamagedIn}
use Rattle.bx_journal_model.specs.Long.{IsPlainTo}
use Rattle.std.proofs.lemmas.Result.{IfOk-weaker}
use Rattle.bx_journal_read.proofs.DamageLemmas.{damaged_long}
use Rattle.bx_journal_read.proofs.scan.damage.ends_long.Goals as goal

pub returns-clause-damaged : goal.returns-clause-damaged
returns-clause-damaged g c =
    let T = g.T.TextStore in
    let w = c.args.walk in
    IfOk-weaker c.is_endless.result (λ b. IsTrue b → IsPlainTo (T.faithful c.args.store.now) (T.text c.args.store.now) w.at c.args.len) (λ b. IsTrue b → IsDamagedIn (T.faithful c.args.store.now) (take c.args.len (T.text c.args.store.now)) (w.lines + 1))
    (λ b plain yes_. damaged_long (T.faithful c.args.store.now) (T.text c.args.store.now) c.args.len w c.requires.walked (omega (arith, c.requires.walked.below, c.if-len-walk.false)) (plain yes_))
    c.is_endless.ensures.plain
