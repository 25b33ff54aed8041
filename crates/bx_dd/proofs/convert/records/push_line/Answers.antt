use Rattle.std.proofs.Common.{◌++◌, [], ◌∷◌, List, ℕ, take, subst}
use Rattle.std.specs.Prelude.{OnOk, IfErr}
use Rattle.bx_text.specs.Writing.{WritesFront}
use Rattle.bx_dd.specs.private.Streaming.{Goes}
use Rattle.bx_dd.proofs.StreamLemmas.{Grows_then, front_more}
use Rattle.bx_dd.proofs.FlowLemmas.{line_text}
use Rattle.bx_dd.proofs.convert.records.push_line.Goals as goal

pub returns-in-Ok-clause-ok : goal.returns-in-Ok-clause-ok
returns-in-Ok-clause-ok g c start text goes =
    let front = take c.trimmed-end.result c.args.held.now in
    subst (λ (l : List ℕ). OnOk c.put-in-Ok.result (Goes start (g.W.Write.contents c.put-in-Ok.new.w) c.put-in-Ok.new.self.bytes.items c.put-in-Ok.new.self.written l))
    (line_text text c.args.held.now front c.trimmed-end.ensures.line) (c.put-in-Ok.ensures.ok start (text ++ front) (c.in-Ok.ensures.ok start text goes))

pub returns-in-Ok-clause-err : goal.returns-in-Ok-clause-err
returns-in-Ok-clause-err g c start text goes =
    let front = take c.trimmed-end.result c.args.held.now in
    subst (λ (l : List ℕ). IfErr c.put-in-Ok.result (WritesFront 0 start (g.W.Write.contents c.put-in-Ok.new.w) l))
    (line_text text c.args.held.now front c.trimmed-end.ensures.line) (c.put-in-Ok.ensures.err start (text ++ front) (c.in-Ok.ensures.ok start text goes))

pub returns-in-Err-clause-err : goal.returns-in-Err-clause-err
returns-in-Err-clause-err g c start text goes =
    let front = take c.trimmed-end.result c.args.held.now in
    subst (λ (l : List ℕ). WritesFront 0 start (g.W.Write.contents c.put.new.w) l c.in-Err.fault) (line_text text c.args.held.now front c.trimmed-end.ensures.line)
    (front_more 0 start (g.W.Write.contents c.put.new.w) (text ++ front) (10 ∷ []) c.in-Err.fault (c.in-Err.ensures.err start text goes))

pub returns-in-Ok-clause-grows : goal.returns-in-Ok-clause-grows
returns-in-Ok-clause-grows g c = Grows_then _ _ _ c.put-in-Ok.result c.in-Ok.ensures.grows c.put-in-Ok.ensures.grows
