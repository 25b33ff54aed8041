-- The numbers of a session's files, and which of them were made.
use Rattle.std.specs.Prelude.{ℕ}
use Rattle.bx_world.specs.World.{Trio}
use Rattle.bx_world.specs.declared.files.made.Files.{Files}
use Rattle.bx_world.specs.declared.files.made.Made.{Made}
use Rattle.bx_world.specs.declared.files.opened.Opened.{Opened}
use Rattle.bx_world.specs.declared.files.open.Texts.{Texts}

-- the numbers of three files
abbrev pub numbers_of : {F : Type 0} → (F → ℕ) → Files F → Trio
numbers_of number files = record { image = number files.image; journal = number files.journal; redo = number files.redo }

-- the numbers of an image and of the texts beside it
abbrev pub numbers_beside : {F : Type 0} → (F → ℕ) → Opened F → Texts F → Trio
numbers_beside number image texts = record { image = number image.file; journal = number texts.journal.file; redo = number texts.redo.file }

-- which of them were made
abbrev pub made_beside : {F : Type 0} → Opened F → Texts F → Made
made_beside image texts = record { image = image.made; journal = texts.journal.made; redo = texts.redo.made }

-- the three, as a session takes them
abbrev pub files_beside : {F : Type 0} → Opened F → Texts F → Files F
files_beside image texts =
    record { image = image.file; journal = texts.journal.file; redo = texts.redo.file; made = made_beside image texts }

-- each of the three is locked
abbrev pub AreLocked : {F : Type 0} → (F → Type 0) → Files F → Type 0
AreLocked locked files = locked files.image × locked files.journal × locked files.redo
