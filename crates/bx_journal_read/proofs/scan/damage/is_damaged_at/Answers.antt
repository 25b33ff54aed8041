use Rattle.std.proofs.Common.{◌+◌, length, take, ap}
use Rattle.std.specs.Prelude.{IsTrue}
use Rattle.std.proofs.lemmas.Result.{IfOk-weaker}
use Rattle.bx_journal_read.specs.scan.Damage.{IsDamagedIn}
use Rattle.bx_journal_read.proofs.DamageLemmas.{damaged_before}
use Rattle.bx_journal_read.proofs.TextWalks.{read_walked}
use Rattle.bx_journal_read.proofs.scan.damage.is_damaged_at.Goals as goal

pub ends_long-requires-clause-walked : goal.ends_long-requires-clause-walked
ends_long-requires-clause-walked g c =
    let T = g.T.TextStore in
    let now = c.in_ok-damaged.ensures in
    read_walked T now.reads c.args.len c.args.walk c.requires.walked

pub returns-clause-damaged : goal.returns-clause-damaged
returns-clause-damaged g c =
    let T = g.T.TextStore in
    let now = c.in_ok-damaged.ensures in
    let line = c.args.walk.lines + 1 in
    IfOk-weaker c.ends_long.result (λ b. IsTrue b → IsDamagedIn (T.faithful c.is_damaged_behind.new.store) (take c.args.len (T.text c.is_damaged_behind.new.store)) line) (λ b. IsTrue b → IsDamagedIn (T.faithful c.args.store.now) (take c.args.len (T.text c.args.store.now)) line)
    (λ b found yes_. damaged_before (T.faithful c.args.store.now) (T.faithful c.is_damaged_behind.new.store) (take c.args.len (T.text c.args.store.now)) (take c.args.len (T.text c.is_damaged_behind.new.store)) line
    now.reads.goes_on.faith.1 (λ h. ap (take c.args.len) (now.reads.text h)) (found yes_))
    c.ends_long.ensures.damaged
