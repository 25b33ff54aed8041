use Rattle.std.proofs.Common.{◌++◌, ◌∙◌}
use Rattle.bx_dump_columns.proofs.OdFours.{unsigned_whole}
use Rattle.bx_dump_columns.proofs.od.decimal_fours.put_large_unsigned_pair.Goals as goal

pub returns : goal.returns
returns c =
    let last = c.last_eights_of in
    let p = c.put_unsigned_parts.ensures ∙ unsigned_whole c.args.v last.result.0 last.ensures.first c.requires.first c.requires.large_first in
    let q = c.put_unsigned_parts-2.ensures ∙ unsigned_whole c.args.w last.result.1 last.ensures.second c.requires.second c.requires.large_second in
    λ i. p i ++ q i
