-- Bytes that have a form, each at its place.
use Rattle.std.specs.Prelude.{◌≡◌, ◌<◌, ◌≤◌, ◌==◌, ℕ, Bool, true, nat_lt, if◌then◌else◌, Some, List, [], ◌∷◌, ◌++◌, length, take, drop, slice_index}
use Rattle.bx_read.specs.Digits.{is_hex}
use Rattle.bx_journal_format.specs.DumpLine.{run_of_line}
use Rattle.bx_journal_format.specs.read.Plain.{HasNoNewline}

-- whether a byte is that of a form; where the form has 0 it is to be a digit
abbrev pub fits : ℕ → ℕ → Bool
fits c f = if nat_lt 0 f then c == f else is_hex c

-- the form of a full line up to the text of its bytes: an address of 8 digits, a colon and a space, eight groups of four digits with a
-- space between two, and two spaces
abbrev pub full_form : List ℕ
full_form =
    0 ∷ 0 ∷ 0 ∷ 0 ∷ 0 ∷ 0 ∷ 0 ∷ 0 ∷ 58 ∷ 32
    ∷ 0 ∷ 0 ∷ 0 ∷ 0 ∷ 32 ∷ 0 ∷ 0 ∷ 0 ∷ 0 ∷ 32 ∷ 0 ∷ 0 ∷ 0 ∷ 0 ∷ 32 ∷ 0 ∷ 0 ∷ 0 ∷ 0 ∷ 32
    ∷ 0 ∷ 0 ∷ 0 ∷ 0 ∷ 32 ∷ 0 ∷ 0 ∷ 0 ∷ 0 ∷ 32 ∷ 0 ∷ 0 ∷ 0 ∷ 0 ∷ 32 ∷ 0 ∷ 0 ∷ 0 ∷ 0
    ∷ 32 ∷ 32 ∷ []

-- the first 51 bytes have it
abbrev pub HasColumns : List ℕ → Type 0
HasColumns text = (k : ℕ) → k < 51 → fits (slice_index text k) (slice_index full_form k) ≡ true

-- each of the first 16 bytes is right
abbrev pub HasForm : List ℕ → List ℕ → Type 0
HasForm text form = (k : ℕ) → k < 16 → fits (slice_index text k) (slice_index form k) ≡ true

-- the text begins with a line of 67 bytes, which gives 16 bytes at an address
pub record IsFullAt (at : ℕ) (text : List ℕ) : Type 0 where
  pub bytes : List ℕ
  pub sixteen : length bytes ≡ 16
  pub long : 68 ≤ length text
  pub plain : HasNoNewline (take 67 text)
  pub ended : text ≡ take 67 text ++ 10 ∷ drop 68 text
  pub gives : run_of_line (take 67 text) ≡ Some (record { at = at; bytes = bytes })
