-- What was found of a redo text.
use Rattle.std.specs.Prelude.{◌≡◌, ◌≤◌, ◌+◌, ℕ, List, length, Result, IfErr, MatchResult}
use Rattle.bx_journal_read.specs.declared.scan.count.CountedText.{CountedText}
use Rattle.bx_journal.specs.declared.recovery.redo.RedoFound.{RedoFound}
use Rattle.bx_journal.specs.declared.recovery.redo.RedoFound.TheVariants.{Counted, Unfit, Text}
use Rattle.bx_journal_model.specs.declared.fault.SessionFault.{SessionFault}
use Rattle.bx_journal_model.specs.declared.fault.SessionFault.TheVariants.{NoMemory, RedoDamaged}
use Rattle.bx_journal_format.specs.Text.{split}
use Rattle.bx_journal_read.specs.scan.Judging.{RefusesRedo, IsRedoCounted, IsUnfitAt}
use Rattle.bx_journal_model.specs.Redo.{IsRedoOf, IsRefusedAt}

-- the text was counted as a redo text beside `changes` changes, or isn't one at a line, or is there as it is
abbrev pub IsRedoFound : {A : Type 0} → List ℕ → ℕ → RedoFound A → Type 0
IsRedoFound text changes (Counted c) = IsRedoCounted text changes c.counted.count c.counted.told × (c.lines ≡ length (split text).lines)
IsRedoFound text changes (Unfit line) = IsUnfitAt text changes line
IsRedoFound text changes (Text bytes) = bytes.items ≡ text

-- the entries that were counted aren't too many beside `changes` changes
abbrev pub IsFewFound : {A : Type 0} → ℕ → RedoFound A → Type 0
IsFewFound changes (Counted c) = changes + c.counted.count ≤ 65535
IsFewFound changes (Unfit line) = Unit {0}
IsFewFound changes (Text bytes) = Unit {0}

-- what was found is of the store's text, where that is faithful
pub record IsRedoIn {A : Type 0} (faithful : Type 0) (stored : List ℕ) (changes : ℕ) (redo : RedoFound A) : Type 0 where
  pub found : faithful → IsRedoFound stored changes redo
  pub few : IsFewFound changes redo

-- a text was counted as a redo text beside `changes` changes: the store's, where that is faithful
pub record IsRedoCountedIn (faithful : Type 0) (stored : List ℕ) (changes : ℕ) (c : CountedText) : Type 0 where
  pub text : List ℕ
  pub is : faithful → stored ≡ text
  pub counted : IsRedoCounted text changes c.counted.count c.counted.told
  pub many : c.lines ≡ length (split text).lines

-- a text that was found and is refused at a line is so, unless another fault came before
abbrev pub RefusesFound : {A V : Type 0} → RedoFound A → ℕ → List ℕ → Result V SessionFault → Type 0
RefusesFound found changes x result =
    (text : List ℕ) → IsRedoFound text changes found → (line : ℕ) → IsRefusedAt text x changes line → MatchResult result (λ v. ⊥) (RefusesRedo line)

-- a text that was found and is the image's redo text isn't refused
abbrev pub AcceptsFound : {A V : Type 0} → RedoFound A → ℕ → List ℕ → Result V SessionFault → Type 0
AcceptsFound found changes x result =
    (text : List ℕ) → IsRedoFound text changes found → (undone : List (List ℕ)) → IsRedoOf text x changes undone
    → IfErr result (λ e. (line : ℕ) → e ≡ RedoDamaged line → ⊥)

-- the fault is of a text that was found, or want of memory
abbrev pub IsOfText : SessionFault → Type 0
IsOfText NoMemory = Unit {0}
IsOfText (RedoDamaged line) = Unit {0}
IsOfText e = ⊥
