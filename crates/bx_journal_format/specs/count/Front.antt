-- Fronts of lines that end in a number.
use Rattle.std.specs.Prelude.{◌<◌, ◌≤◌, ℕ, suc, ◌^◌, IsTrue, List, ◌++◌, length}
use Rattle.bx_image.specs.declared.change.TheConstants.{MAX_LEN}
use Rattle.bx_journal_format.specs.declared.format.version.Version.{Version}
use Rattle.bx_journal_format.specs.Hex.{hex_digits}
use Rattle.bx_journal_format.specs.Line.{address_width, start_line}
use Rattle.bx_journal_format.specs.Text.{Entry, IsPrefix, may_begin}

-- a front of the head with a length in `width` digits
abbrev pub IsNumberFront : List ℕ → ℕ → List ℕ → Type 0
IsNumberFront head width rest = (n : ℕ) × (n ≤ MAX_LEN) × (n < 16 ^ width) × IsPrefix rest (head ++ hex_digits width n)

-- a front of a line of this version that may begin the next entry
abbrev pub IsStartFront : List Entry → Version → List ℕ → Type 0
IsStartFront es v rest =
    (len : ℕ) × (len ≤ MAX_LEN) × (len < 16 ^ address_width v) × IsTrue (may_begin es len) × IsPrefix rest (start_line v (suc (length es)) len)
