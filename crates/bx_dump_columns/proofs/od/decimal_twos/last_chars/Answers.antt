use Rattle.std.proofs.Common.{List, ℕ, replicate, subst, sym, ap, ◌∙◌, arith, Fits, w8}
use lib.Lanes.{Each1, zip2}
use Rattle.bx_dump_columns.proofs.OdTwos.{add16, sub16, mul16, div16, last_are, last_fit, same, divides}
use Rattle.bx_dump_columns.proofs.od.decimal_twos.last_chars.Goals as goal

abbrev ones : List ℕ → List ℕ
ones ns = zip2 add16 (zip2 sub16 ns (zip2 mul16 (zip2 div16 ns (replicate 8 10)) (replicate 8 10))) (replicate 8 48)

pub nonzero_div-digits : goal.nonzero_div-digits
nonzero_div-digits c = divides c.amounts_of-amounts.result 8 10 (omega arith)

pub overflow_cast-result : goal.overflow_cast-result
overflow_cast-result c =
    let values = c.args.values in
    let all = ap ones c.amounts_of-amounts.ensures ∙ last_are 8 c.args.signed values c.fits-values.0 c.fits-values.1 in
    subst (Each1 (Fits w8)) (sym all) (last_fit c.args.signed values)

pub returns : goal.returns
returns c =
    let values = c.args.values in
    let all = ap ones c.amounts_of-amounts.ensures ∙ last_are 8 c.args.signed values c.fits-values.0 c.fits-values.1 in
    same (ones c.amounts_of-amounts.result) ∙ all
