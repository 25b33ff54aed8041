use Rattle.std.proofs.Common.{inr}
use Rattle.bx_read.proofs.FaultLemmas.{fault_is_of_line}
use Rattle.bx_patch.proofs.ReadLemmas.{IfOk-map, gives, gives_same}
use Rattle.bx_patch.proofs.read.signed.any_piece.Goals as goal

pub returns-in-Ok-clause-ok : goal.returns-in-Ok-clause-ok
returns-in-Ok-clause-ok g c =
    let is = gives c.args.number c.args.line.now c.in-Ok.read.at c.in-Ok.read.hex.now _ c.in-Ok.ensures.exact c.decode-count.ensures.bytes in
    IfOk-map c.made.result (λ piece made. gives_same is made.0 made.1) c.made.ensures.ok

pub returns-in-Err-clause-err : goal.returns-in-Err-clause-err
returns-in-Err-clause-err g c = inr ((fault_is_of_line c.args.number c.args.line.now c.in-Err.fault).0 c.in-Err.ensures.exact)
