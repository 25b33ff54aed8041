use Rattle.std.proofs.Common.{length, arith, ap, ◌∙◌}
use Rattle.bx_dd.proofs.ConvertLemmas.{length-block}
use Rattle.bx_dd.proofs.convert.take_block.Goals as goal

pub put_ready-requires-clause-few : goal.put_ready-requires-clause-few
put_ready-requires-clause-few g c =
    omega (arith, length-block c.args.form c.args.b.now c.requires.fits, ap length (c.as_slice.ensures.value ∙ c.in_ok-ready.ensures), c.requires.sizes.few_ibs, c.requires.few)

pub returns-clause-within : goal.returns-clause-within
returns-clause-within g c =
    let fits = length-block c.args.form c.args.b.now c.requires.fits in
    let same = ap length (c.as_slice.ensures.value ∙ c.in_ok-ready.ensures) in
    let within = c.in_ok-next.ensures.within in
    (within.0, omega (arith, fits, same, within.1), λ e. omega (arith, fits, same, within.1, e))
