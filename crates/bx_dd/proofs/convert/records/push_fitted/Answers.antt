use Rattle.std.proofs.Common.{◌-◌, ◌++◌, length, List, ℕ, replicate, subst}
use Rattle.std.specs.Prelude.{OnOk, IfErr}
use Rattle.bx_text.specs.Writing.{WritesFront}
use Rattle.bx_dd.specs.private.Streaming.{Goes}
use Rattle.bx_dd.proofs.StreamLemmas.{Grows_then, front_more}
use Rattle.bx_dd.proofs.FlowLemmas.{fitted_text}
use Rattle.bx_dd.proofs.convert.records.push_fitted.Goals as goal

pub returns-in-Ok-clause-ok : goal.returns-in-Ok-clause-ok
returns-in-Ok-clause-ok g c start text goes =
    let held = c.args.held.now in
    subst (λ (l : List ℕ). OnOk c.put_spaces.result (Goes start (g.W.Write.contents c.put_spaces.new.w) c.put_spaces.new.self.bytes.items c.put_spaces.new.self.written l))
    (fitted_text text held c.args.size c.requires) (c.put_spaces.ensures.ok start (text ++ held) (c.in-Ok.ensures.ok start text goes))

pub returns-in-Ok-clause-err : goal.returns-in-Ok-clause-err
returns-in-Ok-clause-err g c start text goes =
    let held = c.args.held.now in
    subst (λ (l : List ℕ). IfErr c.put_spaces.result (WritesFront 0 start (g.W.Write.contents c.put_spaces.new.w) l))
    (fitted_text text held c.args.size c.requires) (c.put_spaces.ensures.err start (text ++ held) (c.in-Ok.ensures.ok start text goes))

pub returns-in-Err-clause-err : goal.returns-in-Err-clause-err
returns-in-Err-clause-err g c start text goes =
    let held = c.args.held.now in
    subst (λ (l : List ℕ). WritesFront 0 start (g.W.Write.contents c.put.new.w) l c.in-Err.fault) (fitted_text text held c.args.size c.requires)
    (front_more 0 start (g.W.Write.contents c.put.new.w) (text ++ held) (replicate (c.args.size - length held) 32) c.in-Err.fault (c.in-Err.ensures.err start text goes))

pub returns-in-Ok-clause-grows : goal.returns-in-Ok-clause-grows
returns-in-Ok-clause-grows g c = Grows_then _ _ _ c.put_spaces.result c.in-Ok.ensures.grows c.put_spaces.ensures.grows
