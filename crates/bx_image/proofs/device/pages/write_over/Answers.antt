use Rattle.std.proofs.Common.{◌∙◌, arith}
use Rattle.bx_image.proofs.Paging.{IsWrittenOver_next}
use Rattle.bx_image.proofs.device.pages.write_over.Goals as goal

pub loop-done-preserved : goal.loop-done-preserved
loop-done-preserved g c =
    let before = c.loop-done.invariant in
    record {
      within = omega (arith, c.min-end.ensures);
      len = c.write_in_one.ensures.len ∙ before.len;
      bytes = IsWrittenOver_next c.args.at c.loop-done.done c.min-end.result c.args.bytes.now _ _ _ (omega (arith, c.min-end.ensures)) (omega (arith, c.min-end.ensures)) before.bytes c.write_in_one.ensures.bytes;
    }
