use Rattle.std.proofs.Common.{◌≡◌, drop}
use Rattle.test_world.specs.MemoryFiles.{entry_named}
use Rattle.test_world.proofs.memory.files.place_of.Given as goal

abbrev pub invariant-loop-place : goal.invariant-loop-place
invariant-loop-place l = entry_named (drop l.place l.entries) l.name ≡ entry_named l.entries l.name
