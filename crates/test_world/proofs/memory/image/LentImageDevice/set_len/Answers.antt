use Rattle.std.proofs.Common.{length, min, rules}
use Rattle.bx_image.proofs.Edits.{resized_cut}
use Rattle.bx_image.specs.Power.{KeepsBelow}
use Rattle.bx_image.proofs.Survivors.{KeepsBelow_refl, KeepsBelow-cut}
use Rattle.test_world.proofs.Survivors.{follows_two}
use Rattle.test_world.proofs.memory.image.LentImageDevice.set_len.Goals as goal

pub returns-clause-ok : goal.returns-clause-ok
returns-clause-ok c _ = search (rules, resized_cut)

pub returns-clause-survives : goal.returns-clause-survives
returns-clause-survives c _ =
    let made = returns-clause-ok c tt in
    follows_two (KeepsBelow (min c.args.n (length c.args.self.now.contents.bytes.items))) _ _ _ (KeepsBelow_refl _)
    (rw made (KeepsBelow-cut c.args.self.now.contents.bytes.items c.args.n))
