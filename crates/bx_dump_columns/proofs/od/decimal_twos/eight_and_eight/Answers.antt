use Rattle.std.proofs.Common.{◌++◌, length-append, ◌∙◌, arith}
use Rattle.std.proofs.lemmas.Simd.{pick_l_whole}
use Rattle.bx_dump_columns.proofs.od.decimal_twos.eight_and_eight.Goals as goal

pub returns : goal.returns
returns c =
    pick_l_whole 0 (c.args.front ++ c.args.back) 16 (length-append c.args.front c.args.back ∙ omega (arith, c.fits-front.0, c.fits-back.0))
