use Rattle.std.proofs.Common.{◌≡◌, arith, length, min, subst, sym, ◌∙◌}
use Rattle.bx_dd.specs.Output.{turned_blocks, unfinished}
use Rattle.bx_dd.specs.Standing.{Progress, IsAfter}
use Rattle.bx_dd.proofs.RecordsLemmas.{held_is}
use Rattle.bx_dd.proofs.convert.Convert.held.Goals as goal

pub returns-clause-kept : goal.returns-clause-kept
returns-clause-kept g c input after =
    let i = c.self.inside in
    let P : Progress → Type 0 = λ p. IsAfter input p in
    let was = subst P (sym c.self.view_is) after in
    let Q : Progress → Type 0 = λ p. c.len.result ≡ min p.form.cbs (unfinished p.form.shape p.form.cbs (turned_blocks p.form input)) in
    let size : c.len.result ≡ length i.held.items = omega arith in
    subst Q c.self.view_is (size ∙ held_is i.form.shape i.form.cbs (turned_blocks i.form input) i.out.items i.held.items i.over i.cut was.1)
