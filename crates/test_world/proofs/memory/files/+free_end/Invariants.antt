use Rattle.test_world.proofs.memory.files.+free_end.Given as goal

abbrev pub decreases-free_end : goal.decreases-free_end
decreases-free_end l = l.steps
