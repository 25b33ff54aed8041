-- Files that have what is on their disk.
use Rattle.std.specs.Prelude.{◌≡◌, ℕ, List, length}
use Rattle.test_world.specs.MemoryFiles.{bytes_at, synced_at}
use Rattle.test_world.specs.declared.memory.files.Stored.{Stored}

-- a file has what is on its disk, and all else is as it was
pub record HasLost (n : ℕ) (old new : List Stored) : Type 0 where
  pub lost : bytes_at new n ≡ synced_at old n
  pub others : (i : ℕ) → (i ≡ n → ⊥) → bytes_at new i ≡ bytes_at old i
  pub synced : (i : ℕ) → synced_at new i ≡ synced_at old i
  pub len : length new ≡ length old
