use Rattle.std.proofs.Common.{◌∙◌, arith}
use Rattle.bx_image.proofs.Paging.{IsCleared_on}
use Rattle.bx_image.proofs.device.pages.clear.Goals as goal

pub loop-done-preserved : goal.loop-done-preserved
loop-done-preserved g c =
    let before = c.loop-done.invariant in
    record {
      least = omega (arith, c.min-end.ensures);
      most = omega (arith, c.min-end.ensures);
      len = c.write_in_one.ensures.len ∙ before.len;
      bytes = IsCleared_on c.args.from c.loop-done.done c.min-end.result 4096 _ _ _ before.least (omega (arith, c.min-end.ensures)) (omega (arith, c.min-end.ensures)) before.bytes c.write_in_one.ensures.bytes;
    }
