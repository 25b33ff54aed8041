-- How dd's numbers are read: POSIX' products of decimal numbers, with the suffixes of GNU dd.
use Rattle.std.specs.Prelude.{ℕ, ◌*◌, ◌^◌, ◌-◌, ◌==◌, ◌&&◌, ◌||◌, nat_le, if◌then◌else◌, List, [], ◌∷◌, take, drop, Bool, Option, None, Some, Result, Ok, Err}
use Rattle.std.specs.List.{slice_split, list_any}
use Rattle.std.specs.Option.{option_map, option_map_or, option_and_then}
use Rattle.std.specs.Str.Parse.{digits_value}
use Rattle.bx_text.specs.declared.number.size.SizeFault.{SizeFault}
use Rattle.bx_text.specs.declared.number.size.SizeFault.TheVariants.{Bad, TooLarge}
use Rattle.bx_text.specs.Number.{digit_count}

-- which power of 1024, or of 1000, a letter stands for: k or K, M, G and T; 0 for another character
abbrev pub letter_power : ℕ → ℕ
letter_power c = if c == 107 || c == 75 then 1 else if c == 77 then 2 else if c == 71 then 3 else if c == 84 then 4 else 0

-- the power of a base that a letter stands for
abbrev pub power_unit : ℕ → ℕ → Option ℕ
power_unit base c = if letter_power c == 0 then None else Some (base ^ letter_power c)

-- what one letter multiplies by: c 1, w 2, b 512, and others a power of 1024
abbrev pub letter_unit : ℕ → Option ℕ
letter_unit c = if c == 99 then Some 1 else if c == 119 then Some 2 else if c == 98 then Some 512 else power_unit 1024 c

-- what a suffix multiplies by: no character; one letter; a letter and B, by a power of 1000; a letter and iB, by one of 1024
abbrev pub suffix_unit : List ℕ → Option ℕ
suffix_unit [] = Some 1
suffix_unit (c ∷ []) = letter_unit c
suffix_unit (c ∷ d ∷ []) = if d == 66 then power_unit 1000 c else None
suffix_unit (c ∷ d ∷ e ∷ []) = if d == 105 && (e == 66) then power_unit 1024 c else None
suffix_unit text = None

-- at least one decimal digit, and perhaps a suffix
abbrev pub factor_of : List ℕ → Option ℕ
factor_of text = let n = digit_count 10 text in
    if n == 0 then None else option_map (λ unit. digits_value 10 (take n text) * unit) (suffix_unit (drop n text))

-- the product of factors
abbrev pub product_value : List (List ℕ) → Option ℕ
product_value [] = Some 1
product_value (part ∷ parts) = option_and_then (λ first. option_map (λ rest. first * rest) (product_value parts)) (factor_of part)

-- What is read of a text, which has the letter x between two factors: their product, if it isn't above 2^40 - 1.
abbrev pub product_number : List ℕ → Result ℕ SizeFault
product_number text =
    option_map_or (λ n. if nat_le n (2 ^ 40 - 1) then Ok n else Err TooLarge) (product_value (slice_split (λ c. c == 120) text)) (Err Bad)

-- whether a number has a B, by which dd of some ages counts blocks, and of others bytes
abbrev pub has_bytes : List ℕ → Bool
has_bytes text = list_any (λ c. c == 66) text
