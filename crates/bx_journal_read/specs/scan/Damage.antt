-- The lines of a text that are in place, and where it is damaged behind them.
use Rattle.std.specs.Prelude.{◌≡◌, ◌≤◌, ℕ, Bool, false, List, length, if◌then◌else◌}
use Rattle.bx_journal_read.specs.declared.scan.damage.PlaceScan.{PlaceScan}
use Rattle.bx_journal_format.specs.count.Tally.{IsTallied}
use Rattle.bx_journal_format.specs.Shown.{shown}
use Rattle.bx_journal_format.specs.Text.{IsDamagedAt}

-- the lines of a text are in place, and were counted
pub record IsInPlace (now : PlaceScan) (text : List ℕ) : Type 0 where
  pub tallied : IsTallied false text now.tally now.lines
  pub lines : now.lines ≤ length text
  pub few : now.tally.count ≤ 65535

-- what is read of a text in which a loss of power may have left zeros, or all of it
abbrev pub read_of : Bool → List ℕ → List ℕ
read_of fades text = if fades then shown text else text

-- a text is damaged at a line: the store's, where that is faithful
pub record IsDamagedIn (faithful : Type 0) (stored : List ℕ) (line : ℕ) : Type 0 where
  pub text : List ℕ
  pub is : faithful → stored ≡ text
  pub damaged : IsDamagedAt text line
