-- What operands ask for, in its parts.
use Rattle.std.specs.Prelude.{ℕ, ◌+◌, ◌*◌, ◌^◌, Bool, not, ◌==◌, ◌&&◌, ◌||◌, if◌then◌else◌, List, codes, nat_lt, Option, None, Some, Result}
use Rattle.std.specs.List.{slice_split}
use Rattle.std.specs.Option.{option_map_or}
use Rattle.std.specs.Str.{bytes_eq}
use Rattle.bx_dd.specs.declared.form.Letters.{Letters}
use Rattle.bx_dd.specs.declared.form.Letters.TheVariants.{Keep, Upper, Lower}
use Rattle.bx_dd.specs.declared.form.Shape.{Shape}
use Rattle.bx_dd.specs.declared.form.Shape.TheVariants.{Flat, Block, Unblock}
use Rattle.bx_dd.specs.Operands.{block_size, checked, converts, is_given, is_operand, operand_name, number_or, operand_place, value_fault}
use Rattle.bx_dd.specs.declared.operands.Kind.{Kind}
use Rattle.bx_dd.specs.declared.fault.DdFault.{DdFault}
use Rattle.bx_dd.specs.declared.fault.DdFault.TheVariants.{UnknownOperand, BadNumber, NumberTooLarge, ZeroSize, Repeated, Conflict, MissingCbs}
use Rattle.bx_text.specs.declared.number.size.SizeFault.{SizeFault}

-- the words of `conv`
abbrev pub parts_of : List ℕ → List (List ℕ)
parts_of value = slice_split (λ b. b == 44) value

-- the byte `=`
abbrev pub is_equals : ℕ → Bool
is_equals b = b == 61

-- the size of an input block
abbrev pub ibs_of : List (List ℕ) → ℕ
ibs_of words = block_size (codes "ibs") words

-- the size of an output block
abbrev pub obs_of : List (List ℕ) → ℕ
obs_of words = block_size (codes "obs") words

-- what becomes of letters
abbrev pub letters_of : List (List ℕ) → Letters
letters_of words = if converts (codes "ucase") words then Upper else if converts (codes "lcase") words then Lower else Keep

-- what becomes of lines and records
abbrev pub shape_of : List (List ℕ) → Shape
shape_of words = if converts (codes "block") words then Block else if converts (codes "unblock") words then Unblock else Flat

-- whether the word is an operand of this name
abbrev pub is_named : List ℕ → List ℕ → Bool
is_named name word = is_operand word && bytes_eq (operand_name word) name

-- the fault of an operand of this kind that may have been given before
abbrev pub kind_fault : ℕ → Option Kind → Bool → List ℕ → Option DdFault
kind_fault at kind before value = option_map_or (λ known. if before then Some (Repeated at) else value_fault at known value) kind (Some (UnknownOperand at))

-- conversions that exclude each other
abbrev pub is_conflict : List (List ℕ) → Bool
is_conflict words = (converts (codes "lcase") words && converts (codes "ucase") words) || (converts (codes "block") words && converts (codes "unblock") words)

-- records are asked for, and no size of them is given
abbrev pub is_cbs_missing : List (List ℕ) → Bool
is_cbs_missing words = (converts (codes "block") words || converts (codes "unblock") words) && not (is_given (codes "cbs") words)

-- a fault of the operands together, where each is sound by itself
abbrev pub later_fault : List (List ℕ) → Option DdFault
later_fault words =
    if is_conflict words then Some Conflict else
    if is_cbs_missing words then Some MissingCbs else
    if nat_lt (2 ^ 48) (number_or 0 (codes "skip") words * ibs_of words) then Some (NumberTooLarge (operand_place (codes "skip") words + 1)) else
    if nat_lt (2 ^ 48) (number_or 0 (codes "seek") words * obs_of words) then Some (NumberTooLarge (operand_place (codes "seek") words + 1)) else None

-- the fault of a number of blocks, which may have a B
abbrev pub number_fault : ℕ → Bool → Result ℕ SizeFault → Option DdFault
number_fault at bytes r = if bytes then Some (BadNumber at) else checked at (λ n. None) r

-- the fault of a size, which is 1 to `most`
abbrev pub size_fault : ℕ → ℕ → Result ℕ SizeFault → Option DdFault
size_fault at most r = checked at (λ n. if nat_lt most n then Some (NumberTooLarge at) else if n == 0 then Some (ZeroSize at) else None) r
