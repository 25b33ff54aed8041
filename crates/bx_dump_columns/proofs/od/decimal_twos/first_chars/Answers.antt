use Rattle.std.proofs.Common.{List, ℕ, map, replicate, subst, sym, ◌∙◌, Fits, w8}
use lib.Lanes.{Each1, zip2, sel_l, top}
use Rattle.bx_dump_columns.proofs.OdTwos.{below, first_are, chars_fit, same}
use Rattle.bx_dump_columns.proofs.od.decimal_twos.first_chars.Goals as goal

abbrev picked : List ℕ → List ℕ → List ℕ
picked ns fs = sel_l (map (top 15) (zip2 below ns (replicate 8 10000))) (replicate 8 32) fs

pub overflow_cast-result-2 : goal.overflow_cast-result-2
overflow_cast-result-2 c =
    let values = c.args.values in
    let all = (λ i. picked (c.amounts_of.ensures i) (c.fronts_of.ensures i)) ∙ first_are 8 c.args.signed values c.fits-values.0 c.fits-values.1 in
    subst (Each1 (Fits w8)) (sym all) (chars_fit 100000 c.args.signed values)

pub returns : goal.returns
returns c =
    let values = c.args.values in
    let all = (λ i. picked (c.amounts_of.ensures i) (c.fronts_of.ensures i)) ∙ first_are 8 c.args.signed values c.fits-values.0 c.fits-values.1 in
    same (picked c.amounts_of.result c.fronts_of.result) ∙ all
