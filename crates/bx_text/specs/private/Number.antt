-- The factors of a product, and numbers that aren't too large.
use Rattle.std.specs.Prelude.{ℕ, ◌==◌, nat_le, if◌then◌else◌, List, Option, Result, Ok, Err}
use Rattle.std.specs.List.{onto_first, slice_split}
use Rattle.std.specs.Option.{option_map_or}
use Rattle.bx_text.specs.declared.number.size.SizeFault.{SizeFault}
use Rattle.bx_text.specs.declared.number.size.SizeFault.TheVariants.{Bad, TooLarge}

-- a character in front of the first part
abbrev pub in_first : ℕ → List (List ℕ) → List (List ℕ)
in_first c parts = onto_first c parts

-- the parts between letters x
abbrev pub factors_of : List ℕ → List (List ℕ)
factors_of text = slice_split (λ c. c == 120) text

-- the number, if it isn't too large
abbrev pub within : ℕ → Option ℕ → Result ℕ SizeFault
within most o = option_map_or (λ n. if nat_le n most then Ok n else Err TooLarge) o (Err Bad)
