use Rattle.std.proofs.Common.{◌≡◌, ◌<◌, ℕ, length}
use Rattle.test_world.specs.MemoryFiles.{bytes_at, synced_at}
use Rattle.test_world.proofs.memory.setup.lose_all.Given as goal

abbrev pub invariant-loop-number : goal.invariant-loop-number
invariant-loop-number l =
    ((i : ℕ) → i < l.number → bytes_at l.files i ≡ synced_at l.initial.files i)
    × ((i : ℕ) → synced_at l.files i ≡ synced_at l.initial.files i)
    × (length l.files ≡ length l.initial.files)
