-- What dd's operands ask for, and which of them is faulty.
use Rattle.std.specs.Prelude.{ℕ, ◌+◌, ◌*◌, ◌^◌, Bool, not, ◌==◌, ◌&&◌, ◌||◌, nat_lt, if◌then◌else◌, List, [], ◌∷◌, ◌++◌, length, slice_get, Option, None, Some, option_and_then, unwrap_or, Result, Ok, Err, codes}
use Rattle.std.specs.List.{slice_split, position_or_len, before_first, after_first, list_any, list_all}
use Rattle.std.specs.Option.{option_map, option_map_or, option_or}
use Rattle.std.specs.Result.{result_ok}
use Rattle.std.specs.Str.{bytes_eq}
use Rattle.bx_dd.specs.declared.fault.DdFault.{DdFault}
use Rattle.bx_dd.specs.declared.fault.DdFault.TheVariants.{UnknownOperand, BadNumber, NumberTooLarge, ZeroSize, Repeated, Conflict, MissingCbs}
use Rattle.bx_text.specs.declared.number.size.SizeFault.{SizeFault}
use Rattle.bx_text.specs.declared.number.size.SizeFault.TheVariants.{Bad, TooLarge}
use Rattle.bx_dd.specs.Number.{has_bytes, product_number}
use Rattle.bx_dd.specs.declared.operands.Kind.{Kind}
use Rattle.bx_dd.specs.declared.operands.Kind.TheVariants.{File, Size, Number, Conversions, Flags, Reports}

-- ---- one operand: the name in front of the first `=`, and the value behind it

-- a word with a `=`
abbrev pub is_operand : List ℕ → Bool
is_operand word = nat_lt (position_or_len (λ b. b == 61) word) (length word)

-- what stands before the first `=`
abbrev pub operand_name : List ℕ → List ℕ
operand_name word = before_first (λ b. b == 61) word

-- what stands behind it
abbrev pub operand_value : List ℕ → List ℕ
operand_value word = after_first (λ b. b == 61) word

-- what the value of an operand of this name is
abbrev pub kind_of : List ℕ → Option Kind
kind_of name = if bytes_eq name (codes "if") || bytes_eq name (codes "of") then Some File else
    if bytes_eq name (codes "ibs") || bytes_eq name (codes "cbs") then Some (Size 16777216) else
    if bytes_eq name (codes "obs") || bytes_eq name (codes "bs") then Some (Size 1099511627775) else
    if bytes_eq name (codes "skip") || bytes_eq name (codes "seek") || bytes_eq name (codes "count") then Some Number else
    if bytes_eq name (codes "conv") then Some Conversions else
    if bytes_eq name (codes "iflag") then Some Flags else if bytes_eq name (codes "status") then Some Reports else None

-- the names of conversions
abbrev pub is_conversion : List ℕ → Bool
is_conversion part = bytes_eq part (codes "block") || bytes_eq part (codes "unblock") || bytes_eq part (codes "lcase") || bytes_eq part (codes "ucase")
    || bytes_eq part (codes "swab") || bytes_eq part (codes "sync") || bytes_eq part (codes "notrunc")
    || bytes_eq part (codes "fsync") || bytes_eq part (codes "fdatasync")

-- the names of what input flags ask for
abbrev pub is_flag : List ℕ → Bool
is_flag part = bytes_eq part (codes "fullblock")

-- the names of what may be reported
abbrev pub is_report : List ℕ → Bool
is_report value = bytes_eq value (codes "none") || bytes_eq value (codes "noxfer") || bytes_eq value (codes "progress")

-- ---- faults, each with the operand's place from 1

-- the fault of a number: of one that is read, what the check finds
abbrev pub checked : ℕ → (ℕ → Option DdFault) → Result ℕ SizeFault → Option DdFault
checked at check (Ok n) = check n
checked at check (Err Bad) = Some (BadNumber at)
checked at check (Err TooLarge) = Some (NumberTooLarge at)

-- the fault of a value; a number is a product of factors, without a B where it counts blocks, and a size is 1 to `most`
abbrev pub value_fault : ℕ → Kind → List ℕ → Option DdFault
value_fault at File value = if length value == 0 then Some (UnknownOperand at) else None
value_fault at (Size most) value =
    checked at (λ n. if nat_lt most n then Some (NumberTooLarge at) else if n == 0 then Some (ZeroSize at) else None) (product_number value)
value_fault at Number value = if has_bytes value then Some (BadNumber at) else checked at (λ n. None) (product_number value)
value_fault at Conversions value = if list_all is_conversion (slice_split (λ b. b == 44) value) then None else Some (UnknownOperand at)
value_fault at Flags value = if list_all is_flag (slice_split (λ b. b == 44) value) then None else Some (UnknownOperand at)
value_fault at Reports value = if is_report value then None else Some (UnknownOperand at)

-- the place of the first word that is an operand of this name, counted from 0, or how many words there are
abbrev pub operand_place : List ℕ → List (List ℕ) → ℕ
operand_place name words = position_or_len (λ word. is_operand word && bytes_eq (operand_name word) name) words

-- whether one of the words is
abbrev pub is_given : List ℕ → List (List ℕ) → Bool
is_given name words = nat_lt (operand_place name words) (length words)

-- the fault of a word behind others: its name isn't known, or was given before, or its value is at fault
abbrev pub operand_fault : List (List ℕ) → List ℕ → Option DdFault
operand_fault before word = let at = length before + 1 in option_map_or
    (λ kind. if is_given (operand_name word) before then Some (Repeated at) else value_fault at kind (operand_value word))
    (if is_operand word then kind_of (operand_name word) else None) (Some (UnknownOperand at))

-- the fault of the first faulty word
abbrev pub first_fault : List (List ℕ) → List (List ℕ) → Option DdFault
first_fault before [] = None
first_fault before (word ∷ words) = option_or (operand_fault before word) (first_fault (before ++ word ∷ []) words)

-- ---- what the operands say

-- the value of the operand of this name
abbrev pub given : List ℕ → List (List ℕ) → Option (List ℕ)
given name words = option_map operand_value (slice_get words (operand_place name words))

-- the number of an operand that is given and has one
abbrev pub number_given : List ℕ → List (List ℕ) → Option ℕ
number_given name words = option_and_then (λ value. result_ok (product_number value)) (given name words)

-- the same, or another number
abbrev pub number_or : ℕ → List ℕ → List (List ℕ) → ℕ
number_or other name words = unwrap_or (number_given name words) other

-- the size of the blocks of this name: `bs` supersedes it
abbrev pub block_size : List ℕ → List (List ℕ) → ℕ
block_size name words = number_or (number_or 512 name words) (codes "bs") words

-- whether nothing is to be reported
abbrev pub is_quiet : List (List ℕ) → Bool
is_quiet words = bytes_eq (unwrap_or (given (codes "status") words) []) (codes "none")

-- whether `conv` has this word
abbrev pub converts : List ℕ → List (List ℕ) → Bool
converts part words = list_any (λ p. bytes_eq p part) (slice_split (λ b. b == 44) (unwrap_or (given (codes "conv") words) []))

-- The fault of dd's operands: the first that one has by itself, and then one of them together: conversions that exclude each other,
-- records that are asked for without a size of them, and skip or seek past 2^48 bytes, in this order.
abbrev pub operands_fault : List (List ℕ) → Option DdFault
operands_fault words = option_or (first_fault [] words) (
    if (converts (codes "lcase") words && converts (codes "ucase") words) || (converts (codes "block") words && converts (codes "unblock") words)
    then Some Conflict else
    if (converts (codes "block") words || converts (codes "unblock") words) && not (is_given (codes "cbs") words) then Some MissingCbs else
    if nat_lt (2 ^ 48) (number_or 0 (codes "skip") words * block_size (codes "ibs") words) then Some (NumberTooLarge (operand_place (codes "skip") words + 1)) else
    if nat_lt (2 ^ 48) (number_or 0 (codes "seek") words * block_size (codes "obs") words) then Some (NumberTooLarge (operand_place (codes "seek") words + 1))
    else None)
