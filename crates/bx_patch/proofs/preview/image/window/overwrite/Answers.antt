use Rattle.std.proofs.Common.{arith}
use Rattle.bx_image.proofs.Edits.{put_mid-place}
use Rattle.bx_patch.proofs.preview.image.window.overwrite.Goals as goal

pub returns : goal.returns
returns c = rw c.copy_from_slice.ensures.after (put_mid-place _ _ _ _ (omega arith) c.requires)
