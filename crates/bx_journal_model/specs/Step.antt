-- What the steps of a change start from.
use Rattle.std.specs.Prelude.{◌≡◌, ◌⊎◌, ◌≤◌, ℕ, List, ◌∷◌, length, Result, OnOk, OnErr}
use Rattle.bx_journal_format.specs.Kept.{Kept, kept_of}
use Rattle.bx_image.specs.declared.change.Change.{Change}
use Rattle.bx_image.specs.declared.change.TheConstants.{MAX_LEN}
use Rattle.bx_image.specs.Change.{effect, saved, IsOf}
use Rattle.bx_journal_format.specs.declared.format.version.Version.TheVariants.{Second}
use Rattle.bx_journal_format.specs.Entry.{head_text, end_text}
use Rattle.bx_journal_store.specs.declared.store.TextStore.{Ghosts as StoreViews}
use Rattle.bx_journal_model.specs.Phase.{IsAtRest, IsOpen, as_read}
use Rattle.bx_journal_model.specs.Redo.{RecoversOpen}
use Rattle.bx_journal_format.specs.Shown.{shown}
use Rattle.bx_journal_format.specs.Text.{Entry, Stage, Between, Ending, Reads}
use Rattle.bx_journal_model.specs.Stack.{IsSound, HaveLengths, Recovers, image_at, stack_of}
use Rattle.bx_journal_format.specs.count.Mark.{IsMark, HasMarks}
use Rattle.bx_journal_format.specs.declared.format.version.Version.{Version}

-- what the head of an entry for x keeps
pub record StartsEntry (text x : List ℕ) (stack : List (List ℕ)) (s : Kept) (head : List ℕ) : Type 0 where
  pub rest : IsAtRest text x stack
  pub kept : IsOf s x
  pub fits : s.len ≤ MAX_LEN
  pub number : length stack ≤ 65535
  pub head_is : head ≡ head_text (length stack) s

-- what the end of an entry tells
pub record EndsEntry (text x : List ℕ) (stack : List (List ℕ)) (s : Kept) (end_line : List ℕ) : Type 0 where
  pub unfinished : IsOpen Second s text x stack
  pub fits : length x ≤ MAX_LEN
  pub end_is : end_line ≡ end_text (length stack) (length x)

-- all that an entry of a change takes
pub record WritesEntry {A : Type 0} (c : Change A) (text x : List ℕ) (stack : List (List ℕ)) (head end_line : List ℕ) : Type 0 where
  pub starts : StartsEntry text x stack (kept_of (saved c x)) head
  pub fits : length (effect c x) ≤ MAX_LEN
  pub end_is : end_line ≡ end_text (length stack) (length (effect c x))

-- what taking back the newest entry starts from
pub record TakesBack (text x : List ℕ) (below : List (List ℕ)) (v : Version) (e : Entry) (begins saved : ℕ) : Type 0 where
  pub rest : IsAtRest text x (x ∷ below)
  pub entries : List Entry
  pub newest : rest.stands.entries ≡ e ∷ entries
  pub marks : HasMarks text entries v e begins saved

-- what is unfinished begins at a place, and without it the text is that of the finished entries
pub record HasTail (text x : List ℕ) (stack : List (List ℕ)) (entries : List Entry) (stage : Stage) (n : ℕ) : Type 0 where
  pub reads : Reads text (record { entries = entries; stage = stage })
  pub sound : IsSound text x (record { entries = entries; stage = stage })
  pub lengths : HaveLengths entries (image_at stage x)
  pub stack_is : stack_of entries (image_at stage x) ≡ stack
  pub mark : IsMark text n (record { entries = entries; stage = Between })

-- with the head of an entry behind it a text at rest is open on what the head keeps
abbrev pub HeadOpens : {T V E : Type 0} → StoreViews T → T → List ℕ → T → Result V E → Type 0
HeadOpens t old head new result =
    t.faithful old → (x : List ℕ) (stack : List (List ℕ)) (s : Kept) → StartsEntry (t.text old) x stack s head
    → OnOk result (IsOpen Second (as_read s) (t.text new) x stack)

-- and with a front of the head opening finds its stack
abbrev pub HeadStops : {T V E : Type 0} → StoreViews T → T → List ℕ → T → Result V E → Type 0
HeadStops t old head new result =
    t.faithful old → (x : List ℕ) (stack : List (List ℕ)) (s : Kept) → StartsEntry (t.text old) x stack s head → OnErr result (Recovers (t.text new) x stack)

-- with the end of an entry behind it a text is at rest, and the image is the newest of its stack
abbrev pub EndRests : {V E : Type 0} → List ℕ → List ℕ → List ℕ → Result V E → Type 0
EndRests text end_line new result =
    (x : List ℕ) (stack : List (List ℕ)) (s : Kept) → EndsEntry text x stack s end_line → OnOk result (IsAtRest new x (x ∷ stack))

-- and with a front of the end opening finds the stack before, in an unfinished text, or this one
abbrev pub EndStops : {V E : Type 0} → List ℕ → List ℕ → List ℕ → Result V E → Type 0
EndStops text end_line new result =
    (x : List ℕ) (stack : List (List ℕ)) (s : Kept) → EndsEntry text x stack s end_line → OnErr result (RecoversOpen new x stack ⊎ Recovers new x (x ∷ stack))

-- without an unfinished entry whose change has not begun, a text is at rest
abbrev pub TailRests : {V E : Type 0} → List ℕ → ℕ → List ℕ → Result V E → Type 0
TailRests text begins new result =
    (x : List ℕ) (stack : List (List ℕ)) (es : List Entry) (stage : Stage) → HasTail text x stack es stage begins → image_at stage x ≡ x
    → OnOk result (IsAtRest new x stack)

-- and without some of it opening finds the same stack
abbrev pub TailStops : {V E : Type 0} → List ℕ → ℕ → List ℕ → Result V E → Type 0
TailStops text begins new result =
    (x : List ℕ) (stack : List (List ℕ)) (es : List Entry) (stage : Stage) → HasTail text x stack es stage begins → image_at stage x ≡ x
    → OnErr result (Recovers new x stack)

-- where the change of an unfinished entry is taken back, image and journal are at rest
abbrev pub TakesTail : {V E : Type 0} → Kept → ℕ → List ℕ → List ℕ → List ℕ → List ℕ → Result V E → Type 0
TakesTail s begins text x text_new x_new result =
    (stack : List (List ℕ)) (es : List Entry) (v : Version) → HasTail (shown text) x stack es (Ending v s) begins → OnOk result (IsAtRest text_new x_new stack)

-- and where that is stopped opening finds the same stack
abbrev pub StopsTail : {V E : Type 0} → Kept → ℕ → List ℕ → List ℕ → List ℕ → List ℕ → Result V E → Type 0
StopsTail s begins text x text_new x_new result =
    (stack : List (List ℕ)) (es : List Entry) (v : Version) → HasTail (shown text) x stack es (Ending v s) begins
    → OnErr result (Recovers (shown text_new) x_new stack)
