use Rattle.std.proofs.Common.{rules}
use Rattle.test_world.proofs.Survivors.{from_two}
use Rattle.test_world.proofs.memory.text.LentTextTextStore.cut.Goals as goal

pub returns-clause-fades : goal.returns-clause-fades
returns-clause-fades c _ = from_two _ _ _ _ (c.requires.within tt) (search rules)
