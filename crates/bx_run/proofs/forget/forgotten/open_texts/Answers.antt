use Rattle.std.proofs.lemmas.Result.{IfOk-weaker}
use Rattle.bx_world.specs.files.Reading.{numbers_read}
use Rattle.bx_run.proofs.Alone.{opens_alone, opens_own}
use Rattle.bx_run.proofs.forget.forgotten.open_texts.Goals as goal

pub returns-then-exchanged-clause-opens : goal.returns-then-exchanged-clause-opens
returns-then-exchanged-clause-opens g c old =
    rw c.if-exchanged.true (IfOk-weaker c.open_redo_to_forget.result _ _ (λ l opens. opens_alone c.args.names.now (numbers_read g.W.World.number l) _ opens
    (c.requires.missing old c.if-exchanged.true) (λ name n e. g.met.W.World.within c.args.world.now name n old e)) (c.open_redo_to_forget.ensures.ok old))

pub returns-else-exchanged-clause-opens : goal.returns-else-exchanged-clause-opens
returns-else-exchanged-clause-opens g c old =
    rw c.if-exchanged.false (IfOk-weaker c.open_to_forget.result _ _ (λ l opens. opens_own c.args.names.now (numbers_read g.W.World.number l) _ opens
    (λ name n e. g.met.W.World.within c.args.world.now name n old e)) (c.open_to_forget.ensures.ok old))
