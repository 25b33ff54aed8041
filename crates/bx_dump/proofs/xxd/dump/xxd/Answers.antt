use Rattle.bx_dump.specs.Styles.{xxd_of}
use Rattle.bx_dump.proofs.PagesLemmas.{all_of, front_of}
use Rattle.bx_dump.proofs.xxd.dump.xxd.Goals as goal

pub returns-in-Ok-clause-ok : goal.returns-in-Ok-clause-ok
returns-in-Ok-clause-ok g c = all_of (xxd_of c.args.style c.args.o.now) _ _ _ _ c.in-Ok.part.read c.in-Ok.part.written c.in-Ok.ensures.ok

pub returns-in-Err-clause-err : goal.returns-in-Err-clause-err
returns-in-Err-clause-err g c = front_of (xxd_of c.args.style c.args.o.now) _ _ _ _ c.in-Err.fault c.in-Err.ensures.err
