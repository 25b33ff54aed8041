-- Who may read and write a file, by its permission bits.
use Rattle.std.specs.Prelude.{◌≡◌, ℕ, Bool, true, false, cond, None}
use Rattle.bx_world.specs.Rule.{text_unfit}
use Rattle.bx_world.specs.declared.stat.Classes.{Classes}
use Rattle.bx_world.specs.declared.stat.Stat.{Stat}

-- Somebody, and which groups he is a member of
pub record Person : Type 0 where
  pub user : ℕ
  pub is_member : ℕ → Bool

-- whether somebody who doesn't own a file has a permission that these classes have: a member of its group by the group's, anybody else by the
-- others'
abbrev pub has_class : Person → Stat → Classes → Bool
has_class p file classes = cond (p.is_member file.group) classes.group classes.others

-- whoever owns neither, and may read a text that may be opened, may read its image
abbrev pub ReadersMayReadImage : Type 0
ReadersMayReadImage = (caller : ℕ) (image text : Stat) (p : Person) → text_unfit caller image false text ≡ None
    → has_class p text text.reads ≡ true → has_class p image image.reads ≡ true

-- whoever owns neither, and may write a text that may be opened, may write its image
abbrev pub WritersMayWriteImage : Type 0
WritersMayWriteImage = (caller : ℕ) (image text : Stat) (p : Person) → text_unfit caller image false text ≡ None
    → has_class p text text.writes ≡ true → has_class p image image.writes ≡ true
