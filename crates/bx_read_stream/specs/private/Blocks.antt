-- Bytes that go out in blocks.
use Rattle.std.specs.Prelude.{◌≡◌, ℕ, List, ◌++◌, length, Option}
use Rattle.std.specs.Io.KnownBytes.{Appends}

-- Of x all but the last bytes were written, `sent` of them, and these are pending.
pub record IsPending (w0 w : Option (List ℕ)) (sent : ℕ) (pending x : List ℕ) : Type 0 where
  pub out : List ℕ
  pub appended : Appends w0 w out
  pub counted : length out ≡ sent
  pub whole : out ++ pending ≡ x
