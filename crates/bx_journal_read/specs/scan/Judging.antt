-- Whether a text is a redo text, and at which line it isn't.
use Rattle.std.specs.Prelude.{◌≡◌, ℕ, ◌⊎◌, ◌≤◌, suc, ◌+◌, is_some, IsTrue, Option, None, Some, List, [], ◌++◌, ◌∷◌, length, take}
use Rattle.bx_journal_model.specs.declared.fault.SessionFault.{SessionFault}
use Rattle.bx_journal_model.specs.declared.fault.SessionFault.TheVariants.{RedoDamaged, NoMemory, DeviceFailed}
use Rattle.bx_journal_model.specs.Fault.{DeviceFault}
use Rattle.bx_journal_format.specs.declared.read.types.EntryRead.{EntryRead}
use Rattle.bx_journal_format.specs.Parsed.{told_by}
use Rattle.bx_journal_format.specs.Finished.{AllTell, IsFinished}
use Rattle.bx_journal_model.specs.Redo.{IsNoRedoAt, IsRefusedAt, IsTooManyAt}
use Rattle.bx_journal_format.specs.Text.{Entry, split}

-- which fault a redo text that is refused at a line makes, where no other came before
abbrev pub RefusesRedo : ℕ → SessionFault → Type 0
RefusesRedo line (RedoDamaged m) = m ≡ line
RefusesRedo line e = DeviceFault e

-- why a text isn't a redo text beside `changes` changes, whatever the image is
abbrev pub IsUnfitAt : List ℕ → ℕ → ℕ → Type 0
IsUnfitAt text changes line = IsNoRedoAt text line ⊎ IsTooManyAt text changes line

-- the text is so at a line: the store's, where that is faithful
abbrev pub IsUnfitIn : Type 0 → List ℕ → ℕ → ℕ → Type 0
IsUnfitIn faithful stored changes line = faithful → IsUnfitAt stored changes line

-- finished entries alone, each with its length, and with `changes` changes not too many
pub record IsFit (text : List ℕ) (changes : ℕ) (entries : List Entry) : Type 0 where
  pub finished : IsFinished text entries
  pub tell : AllTell entries
  pub few : changes + length entries ≤ 65535

-- such a text has `count` entries, and the newest tells this length
pub record IsRedoCounted (text : List ℕ) (changes count : ℕ) (told : Option ℕ) : Type 0 where
  pub entries : List Entry
  pub fit : IsFit text changes entries
  pub counted : count ≡ length entries
  pub told_is : told ≡ told_by entries

-- which fault reading a redo text may answer
abbrev pub RedoTextFault : List ℕ → ℕ → SessionFault → Type 0
RedoTextFault text changes NoMemory = Unit {0}
RedoTextFault text changes (RedoDamaged line) = IsUnfitAt text changes line
RedoTextFault text changes e = ⊥

-- which fault judging the redo text of an image may answer
abbrev pub JudgeFault : Type 0 → List ℕ → List ℕ → ℕ → SessionFault → Type 0
JudgeFault faithful text x changes (RedoDamaged line) = faithful → IsRefusedAt text x changes line
JudgeFault faithful text x changes e = DeviceFault e

-- each entry that was read tells the length after it
abbrev pub AllTold : {A : Type 0} → List (EntryRead A) → Type 0
AllTold [] = Unit {0}
AllTold (e ∷ es) = IsTrue (is_some e.after) × AllTold es

-- the first entry, of those that were read, that tells no length begins at this place; the oldest comes first
pub record IsUntoldAt {A : Type 0} (es : List (EntryRead A)) (at : ℕ) : Type 0 where
  pub older : List (EntryRead A)
  pub entry : EntryRead A
  pub newer : List (EntryRead A)
  pub parts : es ≡ older ++ entry ∷ newer
  pub told : AllTold older
  pub untold : entry.after ≡ None
  pub begins : at ≡ entry.begins

-- each entry that was read tells its length, and the first whose number, with the changes, is above 65,535 begins at this place
pub record IsBeyondAt {A : Type 0} (es : List (EntryRead A)) (changes at : ℕ) : Type 0 where
  pub older : List (EntryRead A)
  pub entry : EntryRead A
  pub newer : List (EntryRead A)
  pub parts : es ≡ older ++ entry ∷ newer
  pub told : AllTold es
  pub many : length older + changes ≡ 65535
  pub begins : at ≡ entry.begins

-- what is unfit in a text begins at this place, which is behind a whole line
pub record IsUnfitFrom (text : List ℕ) (changes at : ℕ) : Type 0 where
  pub within : at ≤ length text
  pub unfit : IsUnfitAt text changes (suc (length (split (take at text)).lines))

-- a device failed, or the text is damaged at its last line, which tells a length that the image, if faithful, doesn't have
abbrev pub LastLineFault : Type 0 → ℕ → Option ℕ → List ℕ → SessionFault → Type 0
LastLineFault faithful lines told x e = (e ≡ DeviceFailed) ⊎ ((e ≡ RedoDamaged lines) × (faithful → (n : ℕ) × (told ≡ Some n) × (length x ≡ n → ⊥)))
