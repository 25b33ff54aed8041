use Rattle.std.proofs.Common.{false, refl, rules}
use Rattle.test_world.proofs.Made.{synced_before}
use Rattle.test_world.proofs.memory.MemoryWorld.add_file.Goals as goal

pub returns-clause-ok : goal.returns-clause-ok
returns-clause-ok c = record {
  added = record { contents = record { bytes = c.new.result; synced = c.new-2.result }; stat = c.args.stat; is_gone = false };
  told = refl;
  there = refl;
  empty = search rules;
  files = search rules;
  entries = search rules;
  run = search rules;
}

pub returns-clause-synced : goal.returns-clause-synced
returns-clause-synced c n below = synced_before _ _ _ _ n (returns-clause-ok c) below
