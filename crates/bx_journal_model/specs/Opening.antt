-- What opening a pair finds and leaves.
use Rattle.std.specs.Prelude.{◌≡◌, ◌≤◌, ℕ, ◌+◌, List, ◌++◌, length, drop}
use Rattle.bx_journal_model.specs.declared.answers.RecoveryOutcome.{RecoveryOutcome}
use Rattle.bx_journal_model.specs.declared.fault.SessionFault.{SessionFault}
use Rattle.bx_journal_model.specs.declared.fault.SessionFault.TheVariants.{DeviceFailed, Damaged, Interrupted, LengthDiffers}
use Rattle.bx_journal_format.specs.Shown.{shown}
use Rattle.bx_journal_format.specs.Text.{Reading, split}
use Rattle.bx_journal_model.specs.Stack.{StandsFor, recovered}
use Rattle.bx_journal_model.specs.Calls.{how_of}
use Rattle.bx_journal_model.specs.Fault.{DeviceFault}

-- what follows the last newline that is read, and what isn't read
abbrev pub left_over : List ℕ → List ℕ
left_over text = (split (shown text)).rest ++ drop (length (shown text)) text

-- what opening leaves stands for what was found
pub record IsOpened (text x : List ℕ) (r : Reading) (new y : List ℕ) (how : RecoveryOutcome) (changes : ℕ) : Type 0 where
  pub stands : StandsFor new y (recovered r x)
  pub changes_are : changes ≡ length r.entries
  pub how_is : how ≡ how_of r (left_over text)

-- which fault a text that isn't accepted makes, where reading met no other
abbrev pub RefusesText : SessionFault → Type 0
RefusesText (Damaged line) = Unit {0}
RefusesText e = DeviceFault e

-- which fault a length that differs makes, where no other came before
abbrev pub RefusesLength : ℕ → SessionFault → Type 0
RefusesLength n (LengthDiffers m) = m ≡ n
RefusesLength n e = DeviceFault e

-- one more failed call on one of three devices: no count falls, and together they rise by one
abbrev pub OneMoreOfThree : ℕ → ℕ → ℕ → ℕ → ℕ → ℕ → Type 0
OneMoreOfThree d t u d_new t_new u_new = (d ≤ d_new) × (t ≤ t_new) × (u ≤ u_new) × (d_new + t_new + u_new ≡ d + t + u + 1)

-- how the counts of failed calls go on: a device's fault raises one of them by one, and another fault none
abbrev pub ThreeCounts : SessionFault → ℕ → ℕ → ℕ → ℕ → ℕ → ℕ → Type 0
ThreeCounts DeviceFailed d t u d_new t_new u_new = OneMoreOfThree d t u d_new t_new u_new
ThreeCounts Interrupted d t u d_new t_new u_new = OneMoreOfThree d t u d_new t_new u_new
ThreeCounts e d t u d_new t_new u_new = (d_new ≡ d) × (t_new ≡ t) × (u_new ≡ u)
