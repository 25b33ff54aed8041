use Rattle.std.proofs.Common.{sym, arith, refl, ◌∙◌}
use Rattle.std.proofs.lemmas.Simd.{put_chunk_whole}
use Rattle.bx_dump_columns.proofs.DigitParts.{fixed_two}
use Rattle.bx_dump_columns.proofs.od.decimal_lanes.put_sixteen.Goals as goal

pub returns : goal.returns
returns c =
    let v = c.args.v in
    let small = c.requires.small in
    let cells = c.eights_of.result in
    put_chunk_whole c.args.field.now cells (c.requires.room ∙ sym (c.eights_of.ensures.size))
    ∙ c.eights_of.ensures.text
    ∙ fixed_two 8 8 v 100000000 refl (omega arith) (omega arith) (omega arith) (omega arith) (omega arith) (omega arith)
