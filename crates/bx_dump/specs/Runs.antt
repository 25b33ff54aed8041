-- The printable runs of an input as pairs of places.
use Rattle.std.specs.Prelude.{◌≡◌, ℕ, ◌+◌, ◌-◌, ◌<◌, ◌≤◌, true, false, List, [], ◌∷◌, ◌++◌, length, take, drop, slice_index, codes, All, Contains}
use Rattle.std.specs.List.{flat_map}
use Rattle.bx_dump_columns.specs.declared.od.options.Address.{Address}
use Rattle.bx_text.specs.Ascii.{is_printable}
use Rattle.bx_dump_columns.specs.Places.{place_text}
use Rattle.bx_dump.specs.Strings.{strings_text}

-- the bytes from place a up to b print, those beside them don't, and there are at least `least` of them
pub record IsPrintableRun (least : ℕ) (x : List ℕ) (a b : ℕ) : Type 0 where
  pub long : a + least ≤ b
  pub within : b ≤ length x
  pub prints : (k : ℕ) → a ≤ k → k < b → is_printable (slice_index x k) ≡ true
  pub before : (k : ℕ) → k + 1 ≡ a → is_printable (slice_index x k) ≡ false
  pub behind : b < length x → is_printable (slice_index x b) ≡ false

-- each run ends before those behind it begin
abbrev pub IsRising : List (ℕ × ℕ) → Type 0
IsRising [] = Unit {0}
IsRising (r ∷ rs) = All (λ s. r.1 < s.0) rs × IsRising rs

-- the line of a run
abbrev pub run_line : Address → List ℕ → ℕ × ℕ → List ℕ
run_line offsets x r = place_text offsets r.0 ++ (take (r.1 - r.0) (drop r.0 x) ++ codes "\n")

-- The text is the lines of some pairs: each is a maximal run, each maximal run is one of them, and they rise.
pub record ShowsRuns (least : ℕ) (offsets : Address) (x : List ℕ) : Type 0 where
  pub runs : List (ℕ × ℕ)
  pub found : All (λ r. IsPrintableRun least x r.0 r.1) runs
  pub all : (a b : ℕ) → IsPrintableRun least x a b → Contains runs (a, b)
  pub rising : IsRising runs
  pub text : strings_text least offsets x ≡ flat_map (run_line offsets x) runs
