use Rattle.std.proofs.Common.{◌++◌, ◌∙◌}
use Rattle.bx_dump_columns.proofs.OdFours.{signed_whole}
use Rattle.bx_dump_columns.proofs.od.decimal_fours.put_large_signed_pair.Goals as goal

pub returns : goal.returns
returns c =
    let last = c.last_eights_of in
    let p = c.put_signed_parts.ensures ∙ signed_whole c.args.v c.amount_of-a.result last.result.0 c.amount_of-a.ensures last.ensures.first c.requires.first c.requires.large_first in
    let q = c.put_signed_parts-2.ensures ∙ signed_whole c.args.w c.amount_of-b.result last.result.1 c.amount_of-b.ensures last.ensures.second c.requires.second c.requires.large_second in
    λ i. p i ++ q i
