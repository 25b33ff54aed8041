use Rattle.std.proofs.lemmas.Simd.{length-chunk}
use lib.Lanes.{chunk}
use Rattle.bx_dump_columns.proofs.LaneLemmas.{above_is, printing_is, count_most}
use Rattle.bx_dump_columns.proofs.strings.lanes.printing_in.Goals as goal

value : goal.returns-clause-value
value c =
    let v = chunk c.args.at 16 c.args.bytes.now in
    printing_is c.args.bytes.now c.args.at _ _ c.requires c.type_inv.bytes (above_is v (length-chunk c.args.at 16 c.args.bytes.now c.requires)) c.first_set.ensures

pub returns-clause-value : goal.returns-clause-value
returns-clause-value c = value c

pub returns-clause-most : goal.returns-clause-most
returns-clause-most c = count_most 16 c.args.at c.first_set.result c.args.bytes.now (value c)
