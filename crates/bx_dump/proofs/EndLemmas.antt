-- How long the ends of dumps are.
use Rattle.std.proofs.Common.{◌≡◌, ℕ, zero, suc, ◌+◌, ◌-◌, ◌/◌, ◌%◌, ◌^◌, ◌≤◌, false, List, [], ◌∷◌, ◌++◌, length, replicate, refl, sym, ap, arith, add-one, length-append, ⊎_elim}
use Rattle.std.specs.Prelude.{codes}
use Rattle.std.specs.Fmt.{digits, digits_onto, digit_glyph}
use Rattle.std.proofs.lemmas.Bool.{cases_eq}
use Rattle.std.proofs.lemmas.List.{length-replicate}
use Rattle.bx_text.specs.Field.{left_filled}
use Rattle.bx_text.proofs.FieldLemmas.{digits_onto-last, digits_onto-more, digits_start}
use Rattle.bx_dump_columns.specs.declared.od.options.Address.{Address}
use Rattle.bx_dump_columns.specs.declared.od.options.Address.TheVariants.{Octal, Decimal, Hexadecimal, Without}
use Rattle.bx_dump.specs.private.Hexdump.{canon_end}
use Rattle.bx_dump.specs.Od.{od_end}
use Rattle.bx_dump_columns.specs.Names.{c_name, include_tail}

onto_few : (k base n : ℕ) (acc : List ℕ) → length (digits_onto k base false n acc) ≤ k + length acc
onto_few zero base n acc = omega arith
onto_few (suc k) base n acc =
    let later = onto_few k base (n / base) (digit_glyph false (n % base) ∷ acc) in
    ⊎_elim (λ z. omega (arith, ap length (digits_onto-last (suc k) k base false n acc (sym (add-one k)) z)))
    (λ z. omega (arith, ap length (digits_onto-more (suc k) k base false n acc (sym (add-one k)) z), later)) (cases_eq (n / base) 0)

-- a number has at most 64 digits
pub digits_few : (base n : ℕ) → length (digits base false n) ≤ 64
digits_few base n = omega (arith, ap length (digits_start 64 base false n refl), onto_few 64 base n [])

pub filled_few : (width : ℕ) (text : List ℕ) → width ≤ 64 → length text ≤ 64 → length (left_filled 48 width text) ≤ 64
filled_few width text small few = omega (arith, length-append (replicate (width - length text) 48) text, length-replicate {A = ℕ} (width - length text) 48)

pub canon_end_few : (at : ℕ) → length (canon_end at) ≤ 2 ^ 7
canon_end_few at = omega (arith, length-append (left_filled 48 8 (digits 16 false at)) (10 ∷ []), filled_few 8 (digits 16 false at) (omega arith) (digits_few 16 at))

pub od_end_few : (address : Address) (at : ℕ) → length (od_end address at) ≤ 2 ^ 7
od_end_few Without at = omega arith
od_end_few Octal at = omega (arith, length-append (left_filled 48 7 (digits 8 false at)) (10 ∷ []), filled_few 7 (digits 8 false at) (omega arith) (digits_few 8 at))
od_end_few Decimal at = omega (arith, length-append (left_filled 48 7 (digits 10 false at)) (10 ∷ []), filled_few 7 (digits 10 false at) (omega arith) (digits_few 10 at))
od_end_few Hexadecimal at = omega (arith, length-append (left_filled 48 6 (digits 16 false at)) (10 ∷ []), filled_few 6 (digits 16 false at) (omega arith) (digits_few 16 at))

tail_length : (head name middle number end : List ℕ) →
    length (head ++ name ++ middle ++ (number ++ end)) ≡ length head + length name + length middle + length number + length end
tail_length head name middle number end =
    omega (arith, length-append (head ++ name ++ middle) (number ++ end), length-append (head ++ name) middle, length-append head name, length-append number end)

-- the end of a declaration is longer than its least by the digits of the number alone
abbrev pub least : List ℕ → ℕ
least name = length (codes "};\nunsigned int ") + length (c_name name) + length (codes "_len = ") + length (codes ";\n")

pub tail_of : (name : List ℕ) (n : ℕ) → length (include_tail name n) ≡ least name + length (digits 10 false n)
tail_of name n = omega (arith, tail_length (codes "};\nunsigned int ") (c_name name) (codes "_len = ") (digits 10 false n) (codes ";\n"))

pub tail_few : (name : List ℕ) (n m : ℕ) → length (include_tail name n) ≤ length (include_tail name m) + 2 ^ 6
tail_few name n m = omega (arith, tail_of name n, tail_of name m, digits_few 10 n)
