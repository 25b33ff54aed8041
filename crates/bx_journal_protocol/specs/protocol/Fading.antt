-- What is found after a loss of power inside a step, on the device that the step writes to.
use Rattle.std.specs.Prelude.{◌≡◌, ◌⊎◌, ℕ, List, [], ◌∷◌}
use Rattle.bx_image.specs.declared.change.Change.{Change}
use Rattle.bx_journal_format.specs.Kept.{Kept}
use Rattle.bx_journal_format.specs.Shown.{shown}
use Rattle.bx_image.specs.Change.{KeepsUnmapped}
use Rattle.bx_journal_model.specs.Images.{Images}
use Rattle.bx_journal_model.specs.Power.{Found}
use Rattle.bx_journal_format.specs.Text.{Entry, Stage, Ending, split}
use Rattle.bx_journal_format.specs.declared.format.version.Version.{Version}
use Rattle.bx_journal_model.specs.Phase.{StaysOpen, StaysOpenFor}
use Rattle.bx_journal_model.specs.Redo.{RecoversOpen}
use Rattle.bx_journal_model.specs.Step.{StartsEntry, EndsEntry, HasTail, TakesBack}
use Rattle.bx_journal_model.specs.Stack.{Recovers, image_at}

-- of a text at rest with the head of an entry behind it: opening finds its stack
abbrev pub HeadSurvives : List ℕ → List ℕ → (List ℕ → Type 0) → Type 0
HeadSurvives text head survives =
    (x : List ℕ) (stack : List (List ℕ)) (s : Kept) → StartsEntry text x stack s head → (c : List ℕ) → survives c → Recovers (shown c) x stack

-- of an open text with the end of its entry behind it: opening finds the stack before, in an unfinished text, or the one with the image
abbrev pub EndSurvives : List ℕ → List ℕ → (List ℕ → Type 0) → Type 0
EndSurvives text end_line survives =
    (x : List ℕ) (stack : List (List ℕ)) (s : Kept) → EndsEntry text x stack s end_line → (c : List ℕ) → survives c
    → RecoversOpen (shown c) x stack ⊎ Recovers (shown c) x (x ∷ stack)

-- of an image that is changed: a pair that is open on what the change takes stays so
abbrev pub AllStayOpenFor : {A : Type 0} → Change A → List ℕ → (List ℕ → Type 0) → Type 0
AllStayOpenFor c x survives = (y : List ℕ) → survives y → StaysOpenFor c x y

-- and of one that is restored
abbrev pub AllStayOpen : Kept → List ℕ → (List ℕ → Type 0) → Type 0
AllStayOpen s x survives = (y : List ℕ) → survives y → StaysOpen s x y

-- of an image whose record is restored in part: what the record leaves out is there as it was
abbrev pub AllKeepUnmapped : Kept → List ℕ → (List ℕ → Type 0) → Type 0
AllKeepUnmapped s x survives = (y : List ℕ) → survives y → KeepsUnmapped s x y

-- of a text that is cut behind the save line of its newest entry: opening finds the stack with it, or, in an unfinished text, the one without
abbrev pub CutSurvives : List ℕ → ℕ → (List ℕ → Type 0) → Type 0
CutSurvives text saved survives =
    (x : List ℕ) (below : List (List ℕ)) (v : Version) (e : Entry) (begins : ℕ) → TakesBack text x below v e begins saved → (c : List ℕ) → survives c
    → Recovers (shown c) x (x ∷ below) ⊎ RecoversOpen (shown c) x below

-- of a text whose whole lines behind an entry's begin are cut off, beside an image that was not changed: opening finds the same stack
abbrev pub TailSurvives : List ℕ → ℕ → (List ℕ → Type 0) → Type 0
TailSurvives text begins survives =
    (x : List ℕ) (stack : List (List ℕ)) (es : List Entry) (stage : Stage) → HasTail text x stack es stage begins → (split text).rest ≡ [] → image_at stage x ≡ x
    → (c : List ℕ) → survives c → Recovers (shown c) x stack

-- the same of a text that may have a rest, and zeros that a loss of power left: what is read of it has the tail
abbrev pub RestSurvives : List ℕ → ℕ → (List ℕ → Type 0) → Type 0
RestSurvives read begins survives =
    (x : List ℕ) (stack : List (List ℕ)) (es : List Entry) (stage : Stage) → HasTail read x stack es stage begins → image_at stage x ≡ x → (c : List ℕ) → survives c → Recovers (shown c) x stack

-- of image and journal, where the change of an unfinished entry is taken back: opening finds the same stack
abbrev pub BackSurvives : Kept → List ℕ → List ℕ → ℕ → (List ℕ → Type 0) → (List ℕ → Type 0) → Type 0
BackSurvives s read x begins survives text_survives =
    (stack : List (List ℕ)) (es : List Entry) (v : Version) → HasTail read x stack es (Ending v s) begins → (y c : List ℕ) → survives y → text_survives c → Recovers (shown c) y stack

-- and where anything unfinished is cut off
abbrev pub PairSurvives : List ℕ → List ℕ → (List ℕ → Type 0) → (List ℕ → Type 0) → Type 0
PairSurvives text x survives text_survives =
    (stack : List (List ℕ)) → Recovers (shown text) x stack → (y c : List ℕ) → survives y → text_survives c → Recovers (shown c) y stack

-- with the redo text, which is empty: opening finds the stack, and that nothing is undone
abbrev pub OpeningSurvives : List ℕ → List ℕ → List ℕ → (List ℕ → Type 0) → (List ℕ → Type 0) → (List ℕ → Type 0) → Type 0
OpeningSurvives text x redo survives text_survives redo_survives =
    (s : Images) → Found text x redo s → (y new r : List ℕ) → survives y → text_survives new → redo_survives r → Found new y r (record { stack = s.stack; undone = [] })
