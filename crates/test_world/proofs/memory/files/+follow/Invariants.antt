use Rattle.test_world.proofs.memory.files.+follow.Given as goal

abbrev pub decreases-follow : goal.decreases-follow
decreases-follow l = l.steps
