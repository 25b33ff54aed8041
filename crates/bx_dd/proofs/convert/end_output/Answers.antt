use Rattle.std.proofs.Common.{◌++◌, [], Some, arith, sym}
use Rattle.bx_dd.specs.private.Standing.{last_of}
use Rattle.bx_dd.proofs.StreamLemmas.{Goes-direct, Goes-landed}
use Rattle.bx_dd.proofs.convert.end_output.Goals as goal

pub returns-in-Ok-flush : goal.returns-in-Ok-flush
returns-in-Ok-flush g c =
    let out = c.args.out.now.items in
    let text = out ++ last_of c.args.form.shape c.args.form.cbs c.args.held.now in
    let start = Goes-direct out c.direct-page.result.bytes.items c.direct-page.result.written c.direct-page.ensures.bytes (omega (arith, c.direct-page.ensures.written)) in
    record { ok = sym (Goes-landed c.flush.new.w.items c.flush.new.self.bytes.items text c.flush.new.self.written c.in-Ok-flush.ensures.none (c.in-Ok-flush.ensures.ok (Some []) text (c.in-Ok.ensures.ok (Some []) out start))) }
