use Rattle.std.proofs.Common.{rules}
use Rattle.test_world.proofs.Survivors.{behind_two}
use Rattle.test_world.proofs.memory.text.LentTextTextStore.append.Goals as goal

pub returns-clause-fades : goal.returns-clause-fades
returns-clause-fades c _ = behind_two _ _ _ _ (search rules)
