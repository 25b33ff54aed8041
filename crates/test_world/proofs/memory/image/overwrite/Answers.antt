use Rattle.std.proofs.Common.{arith}
use Rattle.bx_image.proofs.Edits.{put_mid-place}
use Rattle.test_world.proofs.memory.image.overwrite.Goals as goal

pub returns : goal.returns
returns c = rw c.copy_from_slice.ensures.after (put_mid-place _ _ _ _ (omega arith) c.requires)
