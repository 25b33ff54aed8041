use Rattle.std.proofs.Common.{sym, arith, length}
use Rattle.std.proofs.lemmas.Grind.{common_steps}
use Rattle.bx_image.proofs.Devices.{IsPartlyWritten_either}
use Rattle.bx_image.proofs.Edits.{place_none}
use Rattle.bx_image.proofs.Survivors.{Follows_shorter}
use Rattle.bx_image.proofs.device.fuse.write_partly.Goals as goal

pub returns-in-Nothing-clause-part : goal.returns-in-Nothing-clause-part
returns-in-Nothing-clause-part g c faithful = rw c.in-Nothing.is (sym (place_none _ _))

pub returns-in-Half-clause-written : goal.returns-in-Half-clause-written
returns-in-Half-clause-written g c faithful =
    IsPartlyWritten_either c.write_at.result _ _ _ _ _ (grind (arith, common_steps)) (c.write_at.ensures.ok faithful) (c.write_at.ensures.failed faithful)

pub returns-in-All-clause-written : goal.returns-in-All-clause-written
returns-in-All-clause-written g c faithful =
    IsPartlyWritten_either c.write_at-in-All.result _ _ _ _ _ (omega arith) (c.write_at-in-All.ensures.ok faithful) (c.write_at-in-All.ensures.failed faithful)

pub returns-in-Half-clause-survives : goal.returns-in-Half-clause-survives
returns-in-Half-clause-survives g c faithful =
    Follows_shorter _ _ c.args.at _ (length c.args.bytes.now) (grind (arith, common_steps)) (c.write_at.ensures.survives faithful)
