use Rattle.std.proofs.Common.{List, ℕ, take, sym, subst, arith}
use Rattle.std.specs.Prelude.{IfOk, IfSome}
use Rattle.std.proofs.lemmas.List.{take_all}
use Rattle.bx_journal_read.specs.scan.Damage.{IsDamagedIn, read_of}
use Rattle.bx_journal_read.proofs.DamageLemmas.{damaged_before, line_all}
use Rattle.bx_journal_read.proofs.scan.damage.find_read.Goals as goal

pub returns-then-fades-clause-line : goal.returns-then-fades-clause-line
returns-then-fades-clause-line g c =
    subst (λ b. IfOk c.find_shown.result (λ found. IfSome found (IsDamagedIn (g.T.TextStore.faithful c.args.store.now) (read_of b (g.T.TextStore.text c.args.store.now))))) (sym c.if-fades.true)
    c.find_shown.ensures.line

pub returns-clause-line : goal.returns-clause-line
returns-clause-line g c =
    let H = g.T.TextStore.faithful c.args.store.now in
    let text : List ℕ = g.T.TextStore.text c.args.store.now in
    subst (λ b. IfOk c.find_line.result (λ found. IfSome found (IsDamagedIn H (read_of b text)))) (sym c.if-fades.false)
    (line_all (IsDamagedIn H (take c.args.len text)) (IsDamagedIn H text) c.find_line.result
    (λ line d. damaged_before H H text (take c.args.len text) line (λ h. h) (λ h. take_all c.args.len text (omega (arith, c.requires.long h))) d)
    c.find_line.ensures.line)
