use Rattle.test_world.proofs.Beside.{still_consistent, with_redo}
use Rattle.test_world.proofs.memory.MemoryWorldWorld.lend_redo_beside.Goals as goal

pub invariant_of-self : goal.invariant_of-self
invariant_of-self c = record {
  kept = still_consistent _ _ c.args.redo.number c.with_redo-self.ensures.some _ _ _ c.refuses.new.self.kept c.with_redo-self.ensures.none
      (λ f is. rw c.refuses.ensures.files (c.requires.apart tt f (rw c.refuses.ensures.beside at is)));
}

pub returns-in-Some-clause-beside : goal.returns-in-Some-clause-beside
returns-in-Some-clause-beside c _ f is =
    with_redo _ _ c.args.redo.number c.with_redo-self.ensures.some f (rw c.refuses.ensures.beside is)
