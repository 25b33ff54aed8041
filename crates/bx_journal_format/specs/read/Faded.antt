-- What is left of a text is read as a front of it.
use Rattle.std.specs.Prelude.{◌≡◌, ◌⊎◌, ◌≤◌, ℕ, false, IsTrue, List, length, take, drop}
use Rattle.std.specs.List.{list_all}
use Rattle.bx_image.specs.Power.{IsFaded}
use Rattle.bx_journal_format.specs.Shown.{has_end, is_text_byte, shown}

-- No end line stands behind a newline of what follows the first n bytes, and all bytes are those of a text
pub record IsCalm (n : ℕ) (text : List ℕ) : Type 0 where
  pub no_end : has_end (drop n text) ≡ false
  pub plain : IsTrue (list_all is_text_byte text)

-- the text that is read is a front, which has the bytes that are sure
pub record ShowsFront (n : ℕ) (text c : List ℕ) : Type 0 where
  pub count : ℕ
  pub least : n ≤ count
  pub most : count ≤ length text
  pub is : shown c ≡ take count text

-- What is left of a text has its first byte, or no byte behind it
abbrev pub HasFirst : List ℕ → List ℕ → Type 0
HasFirst text c = IsFaded 1 text c ⊎ (length c ≤ 1)

-- it is read as a front, with the bytes that are sure
abbrev pub FadedIsFront : Type 0
FadedIsFront = (n : ℕ) (text c : List ℕ) → IsCalm n text → IsFaded n text c → HasFirst text c → ShowsFront n text c
