-- How a journal's text is read, line by line.
use Rattle.std.specs.Prelude.{◌≡◌, ◌⊎◌, ◌<◌, ◌≤◌, ℕ, suc, ◌^◌, ◌&&◌, Bool, true, false, IsTrue, nat_le, nat_lt, Option, None, Some, List, [], ◌∷◌, ◌++◌, length, take, slice_index, if◌then◌else◌, ◌==◌, flat_map}
use Rattle.std.specs.Option.{option_and_then, option_map, option_or}
use Rattle.std.specs.List.{list_all}
use Rattle.std.specs.Str.{bytes_eq}
use Rattle.bx_text.specs.Ascii.{is_printable}
use Rattle.bx_image.specs.declared.change.TheConstants.{MAX_LEN}
use Rattle.bx_journal_format.specs.Kept.{Kept, with_run}
use Rattle.bx_journal_format.specs.declared.format.version.Version.{Version}
use Rattle.bx_journal_format.specs.declared.format.version.Version.TheVariants.{First, Second}
use Rattle.bx_journal_format.specs.Line.{address_width, start_line, save_line, end_line, length_in, after_in, saved_in}

-- a line with its newline
abbrev pub ended : List ℕ → List ℕ
ended line = line ++ 10 ∷ []

-- lines with their newlines, one after another
abbrev pub text_of_lines : List (List ℕ) → List ℕ
text_of_lines lines = flat_map ended lines

-- the lines of a text that have a newline, and what follows the last newline
pub record Split : Type 0 where
  pub lines : List (List ℕ)
  pub rest : List ℕ

-- a byte in front of a text that is split
abbrev pub with_first_byte : ℕ → Split → Split
with_first_byte b s = elim s.lines [ [] ↦ record { lines = []; rest = b ∷ s.rest } | line ∷ more ↦ record { lines = (b ∷ line) ∷ more; rest = s.rest } ]

-- a text in lines, and what stands behind the last newline
unfoldable pub split : List ℕ → Split
split [] = record { lines = []; rest = [] }
split (b ∷ bytes) = if b == 10 then record { lines = [] ∷ (split bytes).lines; rest = (split bytes).rest } else with_first_byte b (split bytes)

-- a finished entry: what was saved before its change, and in the second version the length after it
pub record Entry : Type 0 where
  pub saved : Kept
  pub after : Option ℕ

-- Where a text stands after whole lines: between two entries, among the saved lines of one, or behind its save line
pub data Stage : Type 0 where
  Between : Stage
  Saving : Version → Kept → Stage
  Ending : Version → Kept → Stage

-- the finished entries, newest first, and the stage
pub record Reading : Type 0 where
  pub entries : List Entry
  pub stage : Stage

-- nothing read yet
abbrev pub start : Reading
start = record { entries = []; stage = Between }

-- whether an entry may begin with this length: it is that after the change before it, where a line tells it
abbrev pub may_begin : List Entry → ℕ → Bool
may_begin [] len = true
may_begin (e ∷ entries) len = elim e.after [ None ↦ true | Some after ↦ len == after ]

-- a line that begins an entry, with the next number
abbrev pub begins : List Entry → Version → List ℕ → Option Stage
begins entries v line = option_and_then (λ len. if may_begin entries len then Some (Saving v (record { len = len; runs = [] })) else None)
    (length_in v (suc (length entries)) line)

-- the reading after one more line; none where the line is out of place
unfoldable pub next_at : List Entry → Stage → List ℕ → Option Reading
next_at entries Between line = if nat_lt (length entries) 65535
    then option_map (λ s. record { entries = entries; stage = s }) (option_or (begins entries First line) (begins entries Second line)) else None
next_at entries (Saving v s) line =
    if bytes_eq line (save_line (suc (length entries))) then Some (record { entries = entries; stage = Ending v s })
    else option_map (λ piece. record { entries = entries; stage = Saving v (record { len = s.len; runs = with_run s.runs piece }) }) (saved_in s.len line)
next_at entries (Ending v s) line =
    option_map (λ after. record { entries = record { saved = s; after = after } ∷ entries; stage = Between })
    (after_in v (suc (length entries)) line)

-- the reading after lines
unfoldable pub after_lines : Reading → List (List ℕ) → Option Reading
after_lines r [] = Some r
after_lines r (line ∷ lines) = option_and_then (λ q. after_lines q lines) (next_at r.entries r.stage line)

-- a front of a text
abbrev pub IsPrefix : List ℕ → List ℕ → Type 0
IsPrefix front text = (rest : List ℕ) × (text ≡ front ++ rest)

-- at most 75 bytes that print
abbrev pub is_short : List ℕ → Bool
is_short line = nat_le (length line) 75 && list_all is_printable line

-- the first byte is `s`
abbrev pub begins_with_s : List ℕ → Bool
begins_with_s line = slice_index line 0 == 115

-- what may stand behind the last newline: nothing, or a front of a line that may come there
abbrev pub IsRest : List Entry → Stage → List ℕ → Type 0
IsRest entries Between rest = (rest ≡ []) ⊎ ((v : Version) × (len : ℕ) × (length entries < 65535) × (len ≤ MAX_LEN) × (len < 16 ^ address_width v)
    × IsTrue (may_begin entries len) × IsPrefix rest (start_line v (suc (length entries)) len))
IsRest entries (Saving v s) rest =
    (IsTrue (begins_with_s rest) × IsPrefix rest (save_line (suc (length entries)))) ⊎ ((begins_with_s rest ≡ false) × IsTrue (is_short rest))
IsRest entries (Ending v s) rest = (after : ℕ) × (after ≤ MAX_LEN) × IsPrefix rest (end_line v (suc (length entries)) after)

-- the text is accepted, and reads so
pub record Reads (text : List ℕ) (r : Reading) : Type 0 where
  pub lines : after_lines start (split text).lines ≡ Some r
  pub rest : IsRest r.entries r.stage (split text).rest

-- a journal's text that is read without damage
abbrev pub IsAccepted : List ℕ → Type 0
IsAccepted text = (r : Reading) × Reads text r

-- the first m lines of a text; the last one may have no newline
abbrev pub first_lines : ℕ → List ℕ → List ℕ
first_lines m text = if nat_le m (length (split text).lines) then text_of_lines (take m (split text).lines) else text

-- the least m such that the first m lines aren't an accepted text
pub record IsDamagedAt (text : List ℕ) (m : ℕ) : Type 0 where
  pub damaged : IsAccepted (first_lines m text) → ⊥
  pub least : (k : ℕ) → k < m → IsAccepted (first_lines k text)

-- one line more
abbrev pub next : Reading → List ℕ → Option Reading
next r line = next_at r.entries r.stage line
