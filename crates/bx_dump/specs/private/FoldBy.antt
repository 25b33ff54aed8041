-- What lines of n bytes that are put one by one give, whatever text was put before.
use Rattle.std.specs.Prelude.{◌≡◌, ℕ, zero, suc, ◌+◌, ◌-◌, ◌*◌, ◌/◌, ◌≤◌, Bool, true, false, if◌then◌else◌, List, ◌++◌, length, take}
use Rattle.std.specs.List.{flat_map, range_with_len}
use Rattle.bx_text.specs.declared.line.fold.Show.{Show}
use Rattle.bx_text.specs.declared.line.fold.Show.TheVariants.{Line}
use Rattle.bx_dump.specs.FoldBy.{folded_by, is_hidden_by, line_bytes_by, line_text_by, show_by}
use Rattle.bx_dump.specs.declared.driver.wide.fold.WideFold.{WideFold}

-- the first k lines were taken: the last of them is held, and whether it is hidden
abbrev pub HasTakenBy : ℕ → WideFold → List ℕ → ℕ → Type 0
HasTakenBy n fold bytes zero = fold.len ≡ 0
HasTakenBy n fold bytes (suc k) = (take fold.len fold.last ≡ line_bytes_by n bytes k) × (fold.hidden ≡ is_hidden_by n bytes k)

-- the same where lines are folded
abbrev pub IsTakenInLines : ℕ → Bool → WideFold → List ℕ → ℕ → Type 0
IsTakenInLines n true fold bytes k = Unit {0}
IsTakenInLines n false fold bytes k = HasTakenBy n fold bytes k

-- how many lines there are
abbrev pub line_count_by : ℕ → List ℕ → ℕ
line_count_by n bytes = (length bytes + (n - 1)) / n

-- the texts of the first m lines, where line 0 is for address `at`
abbrev pub lines_to_by : ℕ → (ℕ → List ℕ → List ℕ) → Bool → ℕ → List ℕ → ℕ → List ℕ
lines_to_by n line all at bytes m = flat_map (line_text_by n line all at bytes) (range_with_len 0 m)

-- what stands for the next line
abbrev pub ShowsBy : ℕ → Bool → WideFold → List ℕ → Show → Type 0
ShowsBy n all fold bytes shown =
    (whole : List ℕ) (k : ℕ) → bytes ≡ line_bytes_by n whole k → IsTakenInLines n all fold whole k → shown ≡ (if all then Line else show_by n whole k)

-- a line more was taken
abbrev pub TakesBy : ℕ → Bool → WideFold → WideFold → List ℕ → Type 0
TakesBy n all fold0 fold1 bytes =
    (whole : List ℕ) (k : ℕ) → bytes ≡ line_bytes_by n whole k → IsTakenInLines n all fold0 whole k → IsTakenInLines n all fold1 whole (suc k)

-- the text is that of the next line
abbrev pub PutsBy : ℕ → (ℕ → List ℕ → List ℕ) → Bool → WideFold → ℕ → List ℕ → List ℕ → Type 0
PutsBy n line all fold at bytes text =
    (whole : List ℕ) (k start : ℕ) → at ≡ start + n * k → bytes ≡ line_bytes_by n whole k → IsTakenInLines n all fold whole k →
    text ≡ line_text_by n line all start whole k

-- the text is that of the next lines
abbrev pub PutsLinesBy : ℕ → (ℕ → List ℕ → List ℕ) → Bool → WideFold → ℕ → List ℕ → List ℕ → Type 0
PutsLinesBy n line all fold at bytes text =
    (input : List ℕ) (m start : ℕ) → length input ≡ n * m → at ≡ start + n * m → IsTakenInLines n all fold input m →
    folded_by n line all start (input ++ bytes) ≡ folded_by n line all start input ++ text

-- full lines more were taken
abbrev pub TakesLinesBy : ℕ → Bool → WideFold → WideFold → List ℕ → Type 0
TakesLinesBy n all fold0 fold1 bytes =
    (input : List ℕ) (m lines : ℕ) → length input ≡ n * m → length bytes ≡ n * lines → IsTakenInLines n all fold0 input m →
    IsTakenInLines n all fold1 (input ++ bytes) (m + lines)
