use Rattle.std.proofs.Common.{subst, sym, ◌∙◌, arith, Fits, w8}
use lib.Lanes.{Each1}
use Rattle.bx_dump_columns.proofs.OdTwos.{lanes, chars_are, chars_fit, same, divides}
use Rattle.bx_dump_columns.proofs.od.decimal_twos.chars_at.Goals as goal

pub nonzero_div-upper : goal.nonzero_div-upper
nonzero_div-upper c = divides c.amounts_of-amounts.result 8 c.args.power (omega (arith, c.requires))

pub nonzero_div-digits : goal.nonzero_div-digits
nonzero_div-digits c = divides _ 8 10 (omega arith)

pub overflow_cast-result : goal.overflow_cast-result
overflow_cast-result c =
    let power = c.args.power in
    let values = c.args.values in
    let all = (λ i. lanes 8 power (c.amounts_of-amounts.ensures i) (c.fronts_of.ensures i)) ∙ chars_are 8 power c.args.signed values c.fits-values.0 c.fits-values.1 in
    subst (Each1 (Fits w8)) (sym all) (chars_fit power c.args.signed values)

pub returns : goal.returns
returns c =
    let power = c.args.power in
    let values = c.args.values in
    let all = (λ i. lanes 8 power (c.amounts_of-amounts.ensures i) (c.fronts_of.ensures i)) ∙ chars_are 8 power c.args.signed values c.fits-values.0 c.fits-values.1 in
    same (lanes 8 power c.amounts_of-amounts.result c.fronts_of.result) ∙ all
