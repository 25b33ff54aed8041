-- How numbers are read.
use Rattle.std.specs.Prelude.{ℕ, ◌*◌, ◌^◌, ◌-◌, ◌==◌, ◌&&◌, ◌||◌, nat_lt, nat_le, if◌then◌else◌, List, [], ◌∷◌, length, take, drop, slice_index, Option, None, Some, Result, Ok, Err}
use Rattle.std.specs.Option.{option_map, option_map_or, option_and_then}
use Rattle.std.specs.Char.{is_digit}
use Rattle.std.specs.List.{prefix_len, slice_split}
use Rattle.std.specs.Str.Parse.{digits_value}
use Rattle.bx_text.specs.declared.number.size.SizeStyle.{SizeStyle}
use Rattle.bx_text.specs.declared.number.size.SizeStyle.TheVariants.{Count, Product}
use Rattle.bx_text.specs.declared.number.size.SizeFault.{SizeFault}
use Rattle.bx_text.specs.declared.number.size.SizeFault.TheVariants.{Bad, TooLarge}

-- how many digits stand in front
abbrev pub digit_count : ℕ → List ℕ → ℕ
digit_count base text = prefix_len (λ c. is_digit c base) text

-- the number that 1 to 16 hexadecimal digits write
abbrev pub hex_number : List ℕ → Option ℕ
hex_number text = if nat_lt 0 (length text) && nat_le (length text) 16 && (digit_count 16 text == length text) then Some (digits_value 16 text) else None

-- what digits are multiplied by for what follows them: nothing, or one suffix of the style; b, k, m, and K, M, G
abbrev pub units_of : SizeStyle → List ℕ → Option ℕ
units_of style [] = Some 1
units_of Count (c ∷ []) = if c == 98 then Some 512 else if c == 107 then Some 1024 else if c == 109 then Some (1024 * 1024) else None
units_of Product (c ∷ []) = if c == 98 then Some 512 else if c == 107 || c == 75 then Some 1024 else if c == 77 then Some (1024 * 1024) else
    if c == 71 then Some (1024 * 1024 * 1024) else None
units_of style text = None

-- digits of a base, and perhaps a suffix
abbrev pub with_suffix : SizeStyle → ℕ → List ℕ → Option ℕ
with_suffix style base text = let n = digit_count base text in option_map (λ unit. digits_value base (take n text) * unit) (units_of style (drop n text))

-- the same with at least one digit
abbrev pub some_digits : SizeStyle → ℕ → List ℕ → Option ℕ
some_digits style base text = if digit_count base text == 0 then None else with_suffix style base text

-- what follows a leading 0: x and hexadecimal digits, or octal digits, perhaps none
abbrev pub after_zero : SizeStyle → List ℕ → Option ℕ
after_zero style text = if slice_index text 0 == 120 || slice_index text 0 == 88 then some_digits style 16 (drop 1 text) else with_suffix style 8 text

-- a number whose base its first characters say
abbrev pub prefixed : SizeStyle → List ℕ → Option ℕ
prefixed style text = if slice_index text 0 == 48 then after_zero style (drop 1 text) else some_digits style 10 text

-- the product of decimal numbers
abbrev pub product_of : List (List ℕ) → Option ℕ
product_of [] = Some 1
product_of (part ∷ parts) = option_and_then (λ first. option_map (λ rest. first * rest) (product_of parts)) (some_digits Product 10 part)

-- the number that a text writes, however large, or none where the text isn't of the form; a product has the letter x between two factors
abbrev pub size_value : SizeStyle → List ℕ → Option ℕ
size_value Product text = product_of (slice_split (λ c. c == 120) text)
size_value style text = prefixed style text

-- the greatest number of each style
abbrev pub greatest : SizeStyle → ℕ
greatest Product = 2 ^ 40 - 1
greatest style = 2 ^ 62

-- What is read of a text in a style: the number, if it isn't too large.
abbrev pub read_size : SizeStyle → List ℕ → Result ℕ SizeFault
read_size style text = option_map_or (λ n. if nat_le n (greatest style) then Ok n else Err TooLarge) (size_value style text) (Err Bad)
