-- Decimal numbers of two bytes by their characters, and of four bytes.
use Rattle.std.specs.Prelude.{ℕ, ◌+◌, ◌-◌, ◌*◌, ◌/◌, ◌%◌, Bool, true, false, nat_le, nat_lt, if◌then◌else◌, List, [], ◌∷◌}
use Rattle.bx_dump_columns.specs.declared.od.options.NumForm.{NumForm}
use Rattle.bx_dump_columns.specs.declared.od.options.NumForm.TheVariants as form
use Rattle.bx_dump_columns.specs.Values.{value_of}

-- each two bytes as a number, the lower one first
abbrev pub words : List ℕ → List ℕ
words [] = []
words (a ∷ []) = []
words (a ∷ b ∷ rest) = (a + 256 * b) ∷ words rest

-- a number of two bytes without its sign, in two's complement where it is signed
abbrev pub amount : Bool → ℕ → ℕ
amount false v = v
amount true v = if nat_lt v 32768 then v else 65536 - v

-- what stands in front of its first digit
abbrev pub front : Bool → ℕ → ℕ
front false v = 32
front true v = if nat_lt v 32768 then 32 else 45

-- its character at the place of a power of ten: a digit, what stands in front of the first digit, or a space
abbrev pub decimal_char : Bool → ℕ → ℕ → ℕ
decimal_char signed power v =
    if nat_lt (amount signed v) power then (if nat_lt (amount signed v) (power / 10) then 32 else front signed v) else 48 + amount signed v / power % 10

-- its last digit
abbrev pub last_char : Bool → ℕ → ℕ
last_char signed v = 48 + amount signed v % 10

-- a space and its characters
abbrev pub cells : Bool → ℕ → List ℕ
cells true v = 32 ∷ decimal_char true 100000 v ∷ decimal_char true 10000 v ∷ decimal_char true 1000 v ∷ decimal_char true 100 v ∷ decimal_char true 10 v ∷ last_char true v ∷ []
cells false v = 32 ∷ decimal_char false 10000 v ∷ decimal_char false 1000 v ∷ decimal_char false 100 v ∷ decimal_char false 10 v ∷ last_char false v ∷ []

-- how long those of eight numbers are
abbrev pub cells_len : Bool → ℕ
cells_len true = 56
cells_len false = 48

-- numbers in two's complement, or without a sign
abbrev pub form_of : Bool → NumForm
form_of true = form.Signed
form_of false = form.Unsigned

-- each four bytes as a number, the lowest one first
abbrev pub fours : List ℕ → List ℕ
fours [] = []
fours (a ∷ []) = []
fours (a ∷ b ∷ []) = []
fours (a ∷ b ∷ c ∷ []) = []
fours (a ∷ b ∷ c ∷ d ∷ rest) = value_of (a ∷ b ∷ c ∷ d ∷ []) ∷ fours rest

-- a number of four bytes without its sign, in two's complement
abbrev pub amount_of_four : ℕ → ℕ
amount_of_four v = if nat_le 2147483648 v then 4294967296 - v else v
