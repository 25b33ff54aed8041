-- What the values of options are, by their words.
use Rattle.std.specs.Prelude.{◌≡◌, ◌<◌, ◌≤◌, ℕ, Bool, true, false, ◌++◌, ◌*◌, ◌%◌, ◌^◌, ◌==◌, ◌&&◌, ◌||◌, nat_le, nat_lt, if◌then◌else◌, List, [], ◌∷◌, length, take, drop, Option, None, Some, Result, Ok, Err, codes, bytes_eq}
use Rattle.std.specs.List.{prefix_len}
use Rattle.std.specs.Str.Parse.{IsNumeral, digits_value}
use Rattle.bx_text.specs.declared.number.size.SizeFault.{SizeFault}
use Rattle.bx_text.specs.declared.number.size.SizeStyle.{SizeStyle}
use Rattle.bx_text.specs.declared.number.size.SizeStyle.TheVariants.{Bare, Count}
use Rattle.bx_text.specs.Number.{read_size}
use Rattle.bx_dump.specs.Address.{Address}
use Rattle.bx_dump.specs.Address.TheVariants.{Octal, Decimal, Hexadecimal, Without}
use Rattle.bx_dump.specs.Endian.{Endian}
use Rattle.bx_dump.specs.Endian.TheVariants.{Little, Big}
use Rattle.bx_dump.specs.Kind.{Kind}
use Rattle.bx_dump.specs.Kind.TheVariants.{Chars, Number}
use Rattle.bx_dump.specs.NumForm.{NumForm}
use Rattle.bx_dump.specs.NumForm.TheVariants as form
use Rattle.bx_dump.specs.Size.{Size}
use Rattle.bx_dump.specs.Size.TheVariants as size
use Rattle.bx_dump.specs.declared.strings.options.Encoding.{Encoding}
use Rattle.bx_dump.specs.declared.strings.options.Encoding.TheVariants.{SevenBits, EightBits, SixteenBits, ThirtyTwoBits}
use Rattle.bx_cli_commands.specs.declared.fault.Fault.{Fault}
use Rattle.bx_cli_commands.specs.declared.fault.Fault.TheVariants.{Usage}

-- ---- numbers

-- a number that was read, at most 2 ^ 62
abbrev pub number_in : Result ℕ SizeFault → Result (Option ℕ) Fault
number_in (Ok n) = if nat_le n (2 ^ 62) then Ok (Some n) else Err Usage
number_in (Err e) = Err Usage

-- the number that a word writes in a style; none where there is no word
abbrev pub option_value : SizeStyle → Option (List ℕ) → Result (Option ℕ) Fault
option_value style None = Ok None
option_value style (Some text) = number_in (read_size style text)

-- a number that may be missing, or another in its place
abbrev pub given_or : ℕ → Result (Option ℕ) Fault → Result ℕ Fault
given_or default (Ok None) = Ok default
given_or default (Ok (Some n)) = Ok n
given_or default (Err e) = Err e

-- the number that a word writes in a style; the default where there is no word
abbrev pub option_value_or : SizeStyle → ℕ → Option (List ℕ) → Result ℕ Fault
option_value_or style default text = given_or default (option_value style text)

-- a number of columns, 1 to 256
abbrev pub few_columns : Result ℕ Fault → Result ℕ Fault
few_columns (Ok n) = if nat_le 1 n && nat_le n 256 then Ok n else Err Usage
few_columns (Err e) = Err e

-- the columns that a word gives, which has no suffix; the default where there is no word
abbrev pub columns_of : ℕ → Option (List ℕ) → Result ℕ Fault
columns_of default text = few_columns (option_value_or Bare default text)

-- a power of 2 up to 256
abbrev pub is_size : ℕ → Bool
is_size n = (n == 1) || (n == 2) || (n == 4) || (n == 8) || (n == 16) || (n == 32) || (n == 64) || (n == 128) || (n == 256)

-- a size of numbers, where it is a power of 2 that divides the line
abbrev pub size_in : ℕ → ℕ → Result ℕ Fault
size_in cols n = if is_size n && (cols % n == 0) then Ok n else Err Usage

-- the bytes of a little-endian number: those of a group, or of the whole line where that has no more
abbrev pub word_len : ℕ → ℕ → Result ℕ Fault
word_len cols group = size_in cols (if (group == 0) || nat_lt cols group then cols else group)

-- a word is read as the number that its decimal digits write, at most another; any other word is refused
abbrev pub IsCount : ℕ → List ℕ → Result ℕ Fault → Type 0
IsCount most text (Ok n) = IsNumeral 10 text × (n ≡ digits_value 10 text)
IsCount most text (Err e) = (e ≡ Usage) × (IsNumeral 10 text → most < digits_value 10 text)

-- the same of a word that may be missing: it is then the default
abbrev pub IsCountOf : ℕ → ℕ → Option (List ℕ) → Result ℕ Fault → Type 0
IsCountOf default most None count = count ≡ Ok default
IsCountOf default most (Some text) count = IsCount most text count

-- which power of 1024, or of 1000, the letter of a unit stands for; 0 for another character
abbrev pub power_of : ℕ → ℕ
power_of c = if c == 107 || c == 75 then 1 else if c == 109 || c == 77 then 2 else if c == 71 then 3 else if c == 84 then 4 else if c == 80 then 5 else 0

-- what a unit counts, as GNU od has them: k or K alone or as KiB is 1024, kB is 1000, and so on with m, M, G, T and P
abbrev pub unit_in : List ℕ → Option ℕ
unit_in (c ∷ []) = Some (1024 ^ power_of c)
unit_in (c ∷ d ∷ []) = if d == 66 then Some (1000 ^ power_of c) else None
unit_in (c ∷ d ∷ e ∷ []) = if d == 105 && (e == 66) then Some (1024 ^ power_of c) else None
unit_in text = None

-- a number of units, at most 2 ^ 62
abbrev pub units : Option ℕ → Result ℕ SizeFault → Result (Option ℕ) Fault
units (Some unit) (Ok n) = number_in (Ok (n * unit))
units unit n = Err Usage

-- how many characters stand in front of the letter of a unit
abbrev pub digits_len : List ℕ → ℕ
digits_len text = prefix_len (λ c. power_of c == 0) text

-- a number of bytes: up to the letter of a unit without a suffix, and where there is none with POSIX' suffix b
abbrev pub bytes_in : List ℕ → Result (Option ℕ) Fault
bytes_in text = let n = digits_len text in
    if n == length text then number_in (read_size Count text) else units (unit_in (drop n text)) (read_size Bare (take n text))

-- the number of bytes that a word writes; none where there is no word
abbrev pub bytes_value : Option (List ℕ) → Result (Option ℕ) Fault
bytes_value None = Ok None
bytes_value (Some text) = bytes_in text

-- the bytes of a line of values: a multiple of a value's, 1 to 256, in decimal digits alone
abbrev pub IsLineWidth : ℕ → List ℕ → Result ℕ Fault → Type 0
IsLineWidth size text (Ok n) = IsNumeral 10 text × (n ≡ digits_value 10 text) × (0 < n) × (n ≤ 256) × (n % size ≡ 0)
IsLineWidth size text (Err e) = (e ≡ Usage) × (IsNumeral 10 text → 0 < digits_value 10 text → digits_value 10 text ≤ 256 → digits_value 10 text % size ≡ 0 → ⊥)

-- the same of a word that may be missing: 16 bytes then
abbrev pub IsLineWidthOf : ℕ → Option (List ℕ) → Result ℕ Fault → Type 0
IsLineWidthOf size None width = width ≡ Ok 16
IsLineWidthOf size (Some text) width = IsLineWidth size text width

-- ---- letters

-- the base that a letter names: d, o, x, or where it may be n
abbrev pub base_named : Bool → ℕ → Result Address Fault
base_named with_n c = if c == 100 then Ok Decimal else if c == 111 then Ok Octal else if c == 120 then Ok Hexadecimal else
    if (c == 110) && with_n then Ok Without else Err Usage

-- the base that a word of one letter names; `none` where there is no word
abbrev pub base_in : Address → Bool → Option (List ℕ) → Result Address Fault
base_in none with_n None = Ok none
base_in none with_n (Some (c ∷ [])) = base_named with_n c
base_in none with_n (Some text) = Err Usage

-- the order of a number's bytes that a word names: big or little; little where there is no word
abbrev pub endian_in : Option (List ℕ) → Result Endian Fault
endian_in None = Ok Little
endian_in (Some text) = if bytes_eq text (codes "little") then Ok Little else if bytes_eq text (codes "big") then Ok Big else Err Usage

-- the characters that a letter names, as GNU strings has them: s, S, b, l, B or L
abbrev pub encoding_named : ℕ → Result Encoding Fault
encoding_named c = if c == 115 then Ok SevenBits else if c == 83 then Ok EightBits else
    if c == 98 then Ok (SixteenBits true) else if c == 108 then Ok (SixteenBits false) else
    if c == 66 then Ok (ThirtyTwoBits true) else if c == 76 then Ok (ThirtyTwoBits false) else Err Usage

-- those that a word names; seven bits where there is no word
abbrev pub encoding_in : Option (List ℕ) → Result Encoding Fault
encoding_in None = Ok SevenBits
encoding_in (Some (c ∷ [])) = encoding_named c
encoding_in (Some text) = Err Usage

-- how numbers are written: d, o, u or x
abbrev pub form_named : ℕ → Option NumForm
form_named c = if c == 100 then Some form.Signed else if c == 111 then Some form.Octal else if c == 117 then Some form.Unsigned else
    if c == 120 then Some form.Hexadecimal else None

-- how many bytes a number has: 1, 2, 4 or 8, or as C has a char (C), a short (S), an int (I) and a long (L)
abbrev pub size_named : ℕ → Option Size
size_named c = if c == 49 || c == 67 then Some size.One else if c == 50 || c == 83 then Some size.Two else
    if c == 52 || c == 73 then Some size.Four else if c == 56 || c == 76 then Some size.Eight else None

-- numbers of a form and a size
abbrev pub kind_named : Option NumForm → Option Size → Result Kind Fault
kind_named (Some f) (Some s) = Ok (Number f s)
kind_named f s = Err Usage

-- the values that a word names: c, or a letter and a size, which is an int's where it is left out
abbrev pub kind_in : List ℕ → Result Kind Fault
kind_in (c ∷ []) = if c == 99 then Ok Chars else kind_named (form_named c) (Some size.Four)
kind_in (c ∷ d ∷ []) = kind_named (form_named c) (size_named d)
kind_in text = Err Usage

-- ---- names

-- the journal of an image, by its own name or else by the image's
abbrev pub journal_of : List ℕ → Option (List ℕ) → List ℕ
journal_of image None = image ++ codes ".bxj"
journal_of image (Some journal) = journal

-- neither the journal nor the redo file beside it is the image
abbrev pub IsApart : List ℕ → List ℕ → Type 0
IsApart image journal = (journal ≡ image → ⊥) × (journal ++ codes ".redo" ≡ image → ⊥)
