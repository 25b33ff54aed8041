-- Characters of one, two or four bytes, and the runs of those that print (GNU strings).
use Rattle.std.specs.Prelude.{ℕ, zero, suc, ◌+◌, ◌-◌, ◌*◌, Bool, false, ◌&&◌, ◌||◌, ◌==◌, nat_le, if◌then◌else◌, List, [], ◌∷◌, ◌++◌, length, take, drop, codes}
use Rattle.bx_text.specs.Ascii.{is_printable}
use Rattle.bx_dump_columns.specs.Places.{place_text}
use Rattle.bx_dump_columns.specs.declared.od.options.Address.{Address}
use Rattle.bx_dump.specs.declared.strings.options.Encoding.{Encoding}
use Rattle.bx_dump.specs.declared.strings.options.Encoding.TheVariants.{SevenBits, EightBits, SixteenBits, ThirtyTwoBits}

-- a byte that prints, and a tab (GNU strings)
abbrev pub is_graphic : ℕ → Bool
is_graphic b = is_printable b || b == 9

-- the bytes of a character
abbrev pub char_len : Encoding → ℕ
char_len SevenBits = 1
char_len EightBits = 1
char_len (SixteenBits big) = 2
char_len (ThirtyTwoBits big) = 4

-- Whether these bytes are a character that prints: its lowest byte does or is a tab, and the others are 0. With seven bits a tab is
-- none; with eight bits one from 128 on is one, too.
abbrev pub char_prints : Encoding → List ℕ → Bool
char_prints SevenBits (a ∷ []) = is_printable a
char_prints EightBits (a ∷ []) = is_graphic a || nat_le 128 a
char_prints (SixteenBits big) (a ∷ b ∷ []) = if big then a == 0 && is_graphic b else b == 0 && is_graphic a
char_prints (ThirtyTwoBits big) (a ∷ b ∷ c ∷ d ∷ []) =
    if big then (a == 0 && (b == 0 && c == 0)) && is_graphic d else (b == 0 && (c == 0 && d == 0)) && is_graphic a
char_prints e bytes = false

-- its lowest byte, which is shown
abbrev pub char_byte : Encoding → List ℕ → ℕ
char_byte (SixteenBits big) (a ∷ b ∷ []) = if big then b else a
char_byte (ThirtyTwoBits big) (a ∷ b ∷ c ∷ d ∷ []) = if big then d else a
char_byte e (a ∷ bytes) = a
char_byte e [] = 0

-- the characters that print at the front, one behind another, at most n
abbrev pub front_chars : Encoding → ℕ → List ℕ → List ℕ
front_chars e zero x = []
front_chars e (suc n) x =
    if nat_le (char_len e) (length x) && char_prints e (take (char_len e) x)
    then char_byte e (take (char_len e) x) ∷ front_chars e n (drop (char_len e) x)
    else []

-- all of them: the longest run that begins in front
abbrev pub front_run : Encoding → List ℕ → List ℕ
front_run e x = front_chars e (length x) x

-- the line of a run that begins at a place, where it has at least `least` characters
abbrev pub char_line : ℕ → Address → ℕ → List ℕ → List ℕ
char_line least offsets place run = if nat_le least (length run) then place_text offsets place ++ (run ++ codes "\n") else []

-- From each place on that isn't passed, the longest run there; its bytes are passed. `pass` bytes in front are passed already, and the
-- first byte stands at `place`.
abbrev pub char_lines : Encoding → ℕ → Address → ℕ → ℕ → List ℕ → List ℕ
char_lines e least offsets pass place [] = []
char_lines e least offsets (suc pass) place (b ∷ bs) = char_lines e least offsets pass (place + 1) bs
char_lines e least offsets zero place (b ∷ bs) =
    char_line least offsets place (front_run e (b ∷ bs))
    ++ char_lines e least offsets (char_len e * length (front_run e (b ∷ bs)) - 1) (place + 1) bs
