-- A session whose pair stands for a stack, whether or not it is sound (well-formed for recovery).
use Rattle.std.specs.Prelude.{◌≡◌, ℕ, suc, false, List, length}
use Rattle.bx_journal_model.specs.declared.fault.SessionFault.{SessionFault}
use Rattle.bx_journal_model.specs.declared.fault.SessionFault.TheVariants.{TooLarge, JournalFull}
use Rattle.bx_journal_model.specs.Fault.{WritingFault}
use Rattle.bx_journal_model.specs.SessionView.{SessionView}
use Rattle.bx_journal_model.specs.Stack.{StandsFor}

-- the session may go on, and its pair stands for the stack
pub record IsStanding {D T : Type 0} (image : D → List ℕ) (text : T → List ℕ) (s : SessionView D T) (stack : List (List ℕ)) : Type 0 where
  pub stands : StandsFor (text s.journal) (image s.image) stack
  pub count : length stack ≡ suc s.count
  pub whole : s.is_broken ≡ false

-- which fault a change may meet
abbrev pub PerformFault : SessionFault → Type 0
PerformFault TooLarge = Unit {0}
PerformFault JournalFull = Unit {0}
PerformFault e = WritingFault e
