-- Where a text's last entry begins, and what its first line tells.
use Rattle.std.specs.Prelude.{ℕ, ◌≡◌, ◌⊎◌, ◌+◌, ◌^◌, ◌<◌, ◌≤◌, Option, None, Some, List, [], ◌∷◌, ◌++◌, length, take, codes}
use Rattle.memchr.specs.Find.{OccursAt}
use Rattle.bx_journal_format.specs.Text.{ended}
use Rattle.bx_journal_image.specs.Line.{field}

-- behind the newline at a place a line begins with `change`
abbrev pub BeginsBehind : List ℕ → ℕ → Type 0
BeginsBehind text k = OccursAt text (codes "\nchange") k

-- a text's last entry begins at a place: behind the last newline behind which a line begins so; at the text's start where none does
pub record IsLastEntryAt (text : List ℕ) (at : ℕ) : Type 0 where
  pub within : at ≤ length text
  pub begins : (at ≡ 0) ⊎ ((k : ℕ) × (at ≡ k + 1) × BeginsBehind text k)
  pub last : (k : ℕ) → at ≤ k → BeginsBehind text k → ⊥

-- the line that begins entry n of the newer form
unfoldable pub beginning_line : ℕ → ℕ → List ℕ
beginning_line n before = field (codes "change2 ") 8 n ++ field (codes " ") 16 before ++ codes "\n"

-- an entry begins with such a line, which tells the length that it restores
pub record TellsBefore (entry : List ℕ) (before : ℕ) : Type 0 where
  pub n : ℕ
  pub number : n < 16 ^ 8
  pub fits : before < 16 ^ 16
  pub is : take 34 entry ≡ beginning_line n before

-- the length that it tells, if it begins so
abbrev pub IsBefore : List ℕ → Option ℕ → Type 0
IsBefore entry None = (before : ℕ) → TellsBefore entry before → ⊥
IsBefore entry (Some before) = TellsBefore entry before

-- a line, with its newline, begins an entry of the newer form that restores this length
pub record IsBeginning (line : List ℕ) (before : ℕ) : Type 0 where
  pub n : ℕ
  pub number : n < 16 ^ 8
  pub fits : before < 16 ^ 16
  pub is : line ≡ beginning_line n before

-- it begins one of the older form
abbrev pub IsOlderBeginning : List ℕ → Type 0
IsOlderBeginning line = take 7 line ≡ codes "change "

-- one of the lines is so, with its newline
unfoldable pub HasLine : (List ℕ → Type 0) → List (List ℕ) → Type 0
HasLine Is [] = ⊥
HasLine Is (line ∷ lines) = Is (ended line) ⊎ HasLine Is lines

-- one of the lines tells a length: that which the entry restores that it begins
abbrev pub LinesTell : List (List ℕ) → ℕ → Type 0
LinesTell lines l = HasLine (λ line. IsBeginning line l) lines

-- one of the lines begins an entry of the older form
abbrev pub HasOlder : List (List ℕ) → Type 0
HasOlder lines = HasLine IsOlderBeginning lines
