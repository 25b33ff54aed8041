-- Plain hexadecimal, part by part.
use Rattle.std.proofs.Common.{◌≡◌, ℕ, ◌+◌, ◌*◌, ◌≤◌, ◌<◌, Bool, true, false, ◌&&◌, eqb, leb, Option, None, Some, Ok, List, [], ◌∷◌, ◌++◌, length, get_or, take, refl, arith, sym, ap, append_assoc, ◌∙◌}
use Rattle.std.proofs.Math.ListN.{set}
use Rattle.std.specs.Option.{option_map}
use Rattle.std.proofs.lemmas.Bool.{ne_eqb, lt-leb, le-leb}
use Rattle.std.proofs.lemmas.List.{take_more, take_more_set}
use Rattle.bx_read.specs.Digits.{is_hex, pair_value}
use Rattle.bx_read.specs.Plain.{is_space, hex_bytes, plain_answer}
use Rattle.bx_read.proofs.Parts.{plain_bytes, without_space, bytes_or_fault}
use Rattle.bx_read.proofs.GrammarLemmas.{guard_some}
use Rattle.bx_read.proofs.WrittenLemmas.{hex_range}

-- a digit isn't white space
pub hex-space : (c : ℕ) → is_hex c ≡ true → is_space c ≡ false
hex-space c is =
    let range = hex_range c is in
    let other : eqb c 32 ≡ false = ne_eqb c 32 (λ e. absurd (omega (arith, range.0, e))) in
    let above : leb c 13 ≡ false = lt-leb c 13 (omega (arith, range.0)) in
    let low : leb 9 c ≡ true = le-leb 9 c (omega (arith, range.0)) in
    rw (other, low, above) refl

-- a byte that isn't white space stays
pub keep : (c : ℕ) (rest : List ℕ) → is_space c ≡ false → without_space (c ∷ rest) ≡ c ∷ without_space rest
keep c rest e = rw e refl

pub leave : (c : ℕ) (rest : List ℕ) → is_space c ≡ true → without_space (c ∷ rest) ≡ without_space rest
leave c rest e = rw e refl

pub hex_bytes-none : (c d : ℕ) (rest : List ℕ) → (is_hex c && is_hex d) ≡ false → hex_bytes (c ∷ d ∷ rest) ≡ None
hex_bytes-none c d rest e = rw e refl

pub hex_bytes-some : (c d : ℕ) (rest : List ℕ) → (is_hex c && is_hex d) ≡ true → hex_bytes (c ∷ d ∷ rest) ≡ option_map (λ more. pair_value c d ∷ more) (hex_bytes rest)
hex_bytes-some c d rest e = rw e refl

-- what an option gives was made of what the other gives
pub unmapped : {A B : Type 0} (f : A → B) (o : Option A) (y : B) → option_map f o ≡ Some y → (x : A) × (o ≡ Some x) × (f x ≡ y)
unmapped f None y h = cc
unmapped f (Some x) y h = (x, refl, cc h)

-- the first byte of digits
pub byte_of : (high low : ℕ) (rest bytes : List ℕ) → hex_bytes (high ∷ low ∷ rest) ≡ Some bytes →
    ((is_hex high && is_hex low) ≡ true) × ((more : List ℕ) × (hex_bytes rest ≡ Some more) × (pair_value high low ∷ more ≡ bytes))
byte_of high low rest bytes h =
    let inner = guard_some (is_hex high && is_hex low) (option_map (λ more. pair_value high low ∷ more) (hex_bytes rest)) bytes h in
    (inner.0, unmapped (λ more. pair_value high low ∷ more) (hex_bytes rest) bytes inner.1)

-- a pair behind others
pub hex_bytes-more : (digits bytes : List ℕ) (high low : ℕ) → hex_bytes digits ≡ Some bytes → (is_hex high && is_hex low) ≡ true →
    hex_bytes (digits ++ high ∷ low ∷ []) ≡ Some (bytes ++ pair_value high low ∷ [])
hex_bytes-more [] bytes high low h e =
    let none : [] ≡ bytes = cc h in
    hex_bytes-some high low [] e ∙ ap (λ b. Some (b ++ pair_value high low ∷ [])) none
hex_bytes-more (c ∷ []) bytes high low h e = cc h
hex_bytes-more (c ∷ d ∷ rest) bytes high low h e =
    let first = byte_of c d rest bytes h in
    let later = hex_bytes-more rest first.1.0 high low first.1.1 e in
    hex_bytes-some c d (rest ++ high ∷ low ∷ []) first.0 ∙ ap (option_map (λ more. pair_value c d ∷ more)) later
    ∙ ap (λ b. Some (b ++ pair_value high low ∷ [])) first.1.2

-- a pair of a text behind those before it
pub pair_put : (text out : List ℕ) (i v : ℕ) → hex_bytes (take (2 * i) text) ≡ Some (take i out) → 2 * i + 1 < length text → i < length out →
    (is_hex (get_or text (2 * i) 0) && is_hex (get_or text (2 * i + 1) 0)) ≡ true → v ≡ pair_value (get_or text (2 * i) 0) (get_or text (2 * i + 1) 0) →
    hex_bytes (take (2 * (i + 1)) text) ≡ Some (take (i + 1) (set out i v))
pair_put text out i v before fits room digits value =
    let high = get_or text (2 * i) 0 in
    let low = get_or text (2 * i + 1) 0 in
    let next : 2 * (i + 1) ≡ 2 * i + 1 + 1 = omega arith in
    let longer : take (2 * i + 1 + 1) text ≡ take (2 * i) text ++ high ∷ low ∷ [] =
    take_more text (2 * i + 1) 0 fits ∙ ap (λ t. t ++ low ∷ []) (take_more text (2 * i) 0 (omega arith)) ∙ append_assoc (take (2 * i) text) (high ∷ []) (low ∷ []) in
    rw next (ap hex_bytes longer ∙ hex_bytes-more (take (2 * i) text) (take i out) high low before digits
    ∙ ap (λ b. Some (take i out ++ b ∷ [])) (sym value) ∙ ap Some (sym (take_more_set out i v room)))

-- digits are twice as many as their bytes
pub two_digits : (digits bytes : List ℕ) → hex_bytes digits ≡ Some bytes → 2 * length bytes ≡ length digits
two_digits [] bytes h = let none : [] ≡ bytes = cc h in ap (λ b. 2 * length b) (sym none)
two_digits (c ∷ []) bytes h = cc h
two_digits (c ∷ d ∷ rest) bytes h =
    let first = byte_of c d rest bytes h in
    omega (arith, two_digits rest first.1.0 first.1.1, ap length first.1.2)

-- the bytes that were answered
pub answered : (text bytes : List ℕ) (o : Option (List ℕ)) → bytes_or_fault text o ≡ Ok bytes → o ≡ Some bytes
answered text bytes None h = cc h
answered text bytes (Some found) h = cc h

without_fewer : (text : List ℕ) → length (without_space text) ≤ length text
without_fewer [] = omega arith
without_fewer (c ∷ text) = go (is_space c) refl (without_fewer text)
  where
    go : (b : Bool) → is_space c ≡ b → length (without_space text) ≤ length text → length (without_space (c ∷ text)) ≤ length (c ∷ text)
    go true e later = omega (arith, later, ap length (leave c text e))
    go false e later = omega (arith, later, ap length (keep c text e))

-- a plain text is twice as long as its bytes or longer
pub plain_few : (text bytes : List ℕ) → plain_answer text ≡ Ok bytes → 2 * length bytes ≤ length text
plain_few text bytes h = omega (arith, without_fewer text, two_digits (without_space text) bytes (answered text bytes (plain_bytes text) h))
