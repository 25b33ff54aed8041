use Rattle.std.proofs.Common.{◌++◌, List, ℕ, sym, ◌∙◌, subst}
use Rattle.std.specs.Prelude.{IfErr}
use Rattle.bx_text.specs.Writing.{WritesFront}
use Rattle.bx_dd.proofs.FlowLemmas.{last_block, last_unblock}
use Rattle.bx_dd.proofs.convert.records.push_rest.Goals as goal

pub returns-in-Block-clause-err : goal.returns-in-Block-clause-err
returns-in-Block-clause-err g c start text goes =
    subst (λ (l : List ℕ). IfErr c.push_fitted.result (WritesFront 0 start (g.W.Write.contents c.push_fitted.new.w) (text ++ l)))
    (sym (last_block c.args.form.shape c.args.form.cbs c.args.held.now c.in-Block.is (sym c.is_empty.ensures ∙ c.if-is_empty.false))) (c.push_fitted.ensures.err start text goes)

pub returns-in-Unblock-clause-err : goal.returns-in-Unblock-clause-err
returns-in-Unblock-clause-err g c start text goes =
    subst (λ (l : List ℕ). IfErr c.push_line.result (WritesFront 0 start (g.W.Write.contents c.push_line.new.w) (text ++ l)))
    (sym (last_unblock c.args.form.shape c.args.form.cbs c.args.held.now c.in-Unblock.is (sym c.is_empty.ensures ∙ c.if-is_empty.false))) (c.push_line.ensures.err start text goes)
