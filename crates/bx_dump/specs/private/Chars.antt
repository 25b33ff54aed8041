-- The text of strings in an encoding as far as it is known behind each byte.
use Rattle.std.specs.Prelude.{◌≡◌, ◌≤◌, ◌^◌, Option, None, ℕ, ◌+◌, ◌-◌, ◌*◌, ◌==◌, nat_lt, if◌then◌else◌, List, [], ◌∷◌, ◌++◌, length, take, drop}
use Rattle.bx_dump_columns.specs.declared.od.options.Address.{Address}
use Rattle.bx_dump_columns.specs.Places.{place_text}
use Rattle.bx_dump.specs.Encodings.{char_byte, char_len, char_prints, char_lines}
use Rattle.bx_dump.specs.Pages.{Dump}
use Rattle.bx_dump.specs.Strings.{strings_text}
use Rattle.bx_dump.specs.declared.strings.options.StringsOptions.{StringsOptions}
use Rattle.std.specs.Io.KnownBytes.{Appends, Consumes, IsAtEnd}
use Rattle.bx_text.specs.declared.fault.IoFault.{IoFault}
use Rattle.bx_dump.specs.private.Dumped.{DumpsFrontBut}
use Rattle.bx_dump.specs.private.Scan.{end_of_run}
use Rattle.bx_dump.specs.declared.strings.dump.Dumped.{Dumped}
use Rattle.bx_dump.specs.private.Runs.{Keeps}
use Rattle.bx_dump.specs.declared.strings.options.Encoding.{Encoding}
use Rattle.bx_dump.specs.declared.strings.dump.chars.state.Chars.{Chars}

-- The bytes of the character that isn't whole, and the run before it.
pub record Between : Type 0 where
  pub held : List ℕ
  pub run : List ℕ

abbrev pub nothing : Between
nothing = record { held = []; run = [] }

-- the bytes held with one more
abbrev pub held_with : Between → ℕ → List ℕ
held_with now b = now.held ++ b ∷ []

-- what is left behind one more byte: where a character doesn't print the next one may begin at its second byte
abbrev pub behind_byte : Encoding → Between → ℕ → Between
behind_byte e now b =
    if nat_lt (length now.held + 1) (char_len e) then record { held = held_with now b; run = now.run }
    else if char_prints e (held_with now b) then record { held = []; run = now.run ++ char_byte e (held_with now b) ∷ [] }
    else record { held = drop 1 (held_with now b); run = [] }

-- what is known with one more character of a run that begins at a place
abbrev pub grown_run : ℕ → Address → ℕ → List ℕ → ℕ → List ℕ
grown_run least offsets start run c =
    if nat_lt (length run) least then (if length run + 1 == least then place_text offsets start ++ (run ++ c ∷ []) else []) else c ∷ []

-- what is known with one more byte, which stands at place `at`
abbrev pub byte_text : Encoding → ℕ → Address → ℕ → Between → ℕ → List ℕ
byte_text e least offsets at now b =
    if nat_lt (length now.held + 1) (char_len e) then []
    else if char_prints e (held_with now b)
    then grown_run least offsets (at + 1 - char_len e * (length now.run + 1)) now.run (char_byte e (held_with now b))
    else end_of_run least now.run

unfoldable pub chars_text : Encoding → ℕ → Address → ℕ → Between → List ℕ → List ℕ
chars_text e least offsets at now [] = []
chars_text e least offsets at now (b ∷ bs) = byte_text e least offsets at now b ++ chars_text e least offsets (at + 1) (behind_byte e now b) bs

unfoldable pub chars_left : Encoding → Between → List ℕ → Between
chars_left e now [] = now
chars_left e now (b ∷ bs) = chars_left e (behind_byte e now b) bs

-- these bytes are held, and this run is kept
abbrev pub HoldsBytes : Chars → Between → Type 0
HoldsBytes chars now = (length now.held ≡ chars.count) × (take chars.count chars.held ≡ now.held) × Keeps chars.runs now.run

-- the text that is known with the first bytes of an input
abbrev pub front_text : Chars → List ℕ → List ℕ
front_text chars bytes = chars_text chars.encoding chars.runs.least chars.runs.offsets 0 nothing bytes

-- All the input was read from no byte on, what is known of it was written, and what it leaves is held.
pub record ScansChars (first last : Chars) (r0 r1 w0 w1 : Option (List ℕ)) (done : Dumped) : Type 0 where
  pub input : List ℕ
  pub long : length input ≡ done.read
  pub few : done.read ≤ 2 ^ 40
  pub consumed : Consumes r0 r1 input
  pub ended : IsAtEnd r1
  pub appended : Appends w0 w1 (front_text first input)
  pub size : length (front_text first input) ≡ done.written
  pub held : HoldsBytes last (chars_left first.encoding nothing input)

-- a front of it was written
abbrev pub StopsChars : Chars → Option (List ℕ) → Option (List ℕ) → Option (List ℕ) → Option (List ℕ) → IoFault → Type 0
StopsChars first r0 r1 w0 w1 fault = DumpsFrontBut 0 (front_text first) r0 r1 w0 w1 fault

-- the runs of bytes that print, and those of characters, by steps
abbrev pub bytes_dump : StringsOptions → Dump
bytes_dump o = record { text = strings_text o.least o.offsets; skip = 0; limit = None; held = 2 ^ 7 }

abbrev pub chars_dump : StringsOptions → Dump
chars_dump o = record { text = char_lines o.encoding o.least o.offsets 0 0; skip = 0; limit = None; held = 2 ^ 7 }
