-- The stack of images that a text and an image stand for (the abstraction relation). Stacks and entries have the newest first.
use Rattle.std.specs.Prelude.{◌≡◌, ℕ, List, [], ◌∷◌, length, IfSome, IsTrue}
use Rattle.std.specs.List.{list_all}
use Rattle.bx_image.specs.Change.{restore, Covers}
use Rattle.bx_journal_format.specs.Text.{Entry, Stage, Between, Saving, Ending, Reading, Reads, split, is_short}

-- the image, and those that undoing the entries gives, one after another
unfoldable pub stack_of : List Entry → List ℕ → List (List ℕ)
stack_of [] x = x ∷ []
stack_of (e ∷ entries) x = x ∷ stack_of entries (restore e.saved x)

-- each length that an entry tells is that of the image after it
abbrev pub HaveLengths : List Entry → List ℕ → Type 0
HaveLengths [] x = Unit {0}
HaveLengths (e ∷ entries) x = IfSome e.after (λ after. length x ≡ after) × HaveLengths entries (restore e.saved x)

-- each entry restores bytes that are there, from the newest down
abbrev pub AllCover : List Entry → List ℕ → Type 0
AllCover [] x = Unit {0}
AllCover (e ∷ entries) x = Covers e.saved x × AllCover entries (restore e.saved x)

-- the text is finished entries, and with the image it stands for the stack
pub record StandsFor (text x : List ℕ) (stack : List (List ℕ)) : Type 0 where
  pub entries : List Entry
  pub reads : Reads text (record { entries = entries; stage = Between })
  pub whole : (split text).rest ≡ []
  pub lengths : HaveLengths entries x
  pub stack_is : stack ≡ stack_of entries x

-- the image below which the finished entries stand: an entry that has its save line is taken back
abbrev pub image_at : Stage → List ℕ → List ℕ
image_at Between x = x
image_at (Saving v s) x = x
image_at (Ending v s) x = restore s x

-- the stack that opening finds
abbrev pub recovered : Reading → List ℕ → List (List ℕ)
recovered r x = stack_of r.entries (image_at r.stage x)

-- the entry whose change was under way restores bytes that are there
abbrev pub CoversAt : Stage → List ℕ → Type 0
CoversAt Between x = Unit {0}
CoversAt (Saving v s) x = Unit {0}
CoversAt (Ending v s) x = Covers s x

-- an accepted text whose lines are short and whose records name each byte that the image may lack
pub record IsSound (text x : List ℕ) (r : Reading) : Type 0 where
  pub short : IsTrue (list_all is_short (split text).lines)
  pub unfinished : CoversAt r.stage x
  pub finished : AllCover r.entries (image_at r.stage x)

-- the pair is accepted and sound, opening finds this stack, and no length differs
pub record Recovers (text x : List ℕ) (stack : List (List ℕ)) : Type 0 where
  pub reading : Reading
  pub reads : Reads text reading
  pub sound : IsSound text x reading
  pub lengths : HaveLengths reading.entries (image_at reading.stage x)
  pub stack_is : recovered reading x ≡ stack
