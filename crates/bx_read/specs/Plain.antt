-- Plain hexadecimal: digits, with white space anywhere.
use Rattle.std.specs.Prelude.{ℕ, ◌+◌, Bool, ◌==◌, ◌&&◌, ◌||◌, not, nat_le, if◌then◌else◌, List, [], ◌∷◌, filter, Option, None, Some, Result, ok_or}
use Rattle.std.specs.Option.{option_map, option_map_or}
use Rattle.bx_read.specs.Digits.{is_hex, pair_value}
use Rattle.bx_read.specs.declared.fault.ReadFault.{ReadFault}
use Rattle.bx_read.specs.declared.fault.ReadFault.TheVariants.{BadPair, OddDigits}

-- white space in ASCII: a space, or tab, newline, vertical tab, form feed, carriage return
abbrev pub is_space : ℕ → Bool
is_space c = c == 32 || (nat_le 9 c && nat_le c 13)

-- the bytes that digits in pairs write
abbrev pub hex_bytes : List ℕ → Option (List ℕ)
hex_bytes [] = Some []
hex_bytes (c ∷ []) = None
hex_bytes (high ∷ low ∷ rest) = if is_hex high && is_hex low then option_map (λ bytes. pair_value high low ∷ bytes) (hex_bytes rest) else None

-- the line of the first byte that is neither a digit nor white space, where the text begins on line n
abbrev pub bad_line : ℕ → List ℕ → Option ℕ
bad_line n [] = None
bad_line n (c ∷ text) = if is_hex c || is_space c then bad_line (if c == 10 then n + 1 else n) text else Some n

-- the line of the last digit, or `last` where there is none
abbrev pub digit_line : ℕ → ℕ → List ℕ → ℕ
digit_line last n [] = last
digit_line last n (c ∷ text) = digit_line (if is_hex c then n else last) (if c == 10 then n + 1 else n) text

-- The bytes of a plain text, which are those of its digits without white space, or its fault: a byte that doesn't belong, else a
-- last digit without a second one.
abbrev pub plain_answer : List ℕ → Result (List ℕ) ReadFault
plain_answer text =
    ok_or (hex_bytes (filter (λ c. not (is_space c)) text)) (option_map_or (λ line. BadPair line) (bad_line 1 text) (OddDigits (digit_line 1 1 text)))
