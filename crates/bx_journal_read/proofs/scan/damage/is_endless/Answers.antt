use Rattle.std.proofs.Common.{◌≡◌, subst, arith}
use Rattle.std.proofs.lemmas.Grind.{common_steps}
use Rattle.bx_journal_model.specs.Long.{IsPlainTo}
use Rattle.bx_journal_read.proofs.scan.damage.is_endless.Goals as goal

pub returns-clause-plain : goal.returns-clause-plain
returns-clause-plain g c yes_ =
    let same : c.in_ok-end.end ≡ c.args.len = grind (arith, common_steps) in
    subst (IsPlainTo (g.T.TextStore.faithful c.args.store.now) (g.T.TextStore.text c.args.store.now) c.args.from) same c.in_ok-end.ensures.newline.plain
