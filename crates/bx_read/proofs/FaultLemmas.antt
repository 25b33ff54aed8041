-- What is answered of a line is the fault that it has.
use Rattle.std.proofs.Common.{◌≡◌, ℕ, suc, ◌+◌, ◌^◌, ◌<◌, ◌≤◌, ◌⊎◌, Bool, true, false, ◌||◌, not, cond, eqb, ltb, leb, Option, None, Some, Result, Ok, Err, List, [], ◌∷◌, ◌++◌, length, get_or, take, drop, refl, arith, sym, ap, subst, ◌∙◌, inl, inr, ⊎_elim}
use Rattle.std.specs.Str.Parse.{digits_value}
use Rattle.std.specs.List.{prefix_len}
use Rattle.std.specs.Option.{option_map}
use Rattle.std.proofs.lemmas.List.{take-append-drop, drop_more, get_or-take, get_or-drop, get_or_past, get_or_append_left, take_at, length-append, length-take-le}
use Rattle.std.proofs.Math.Seq.{drop-append-add}
use Rattle.std.proofs.lemmas.List.Sums.{prefix_len_is, prefix_len_passes, prefix_len_stops, prefix_len-le-length}
use Rattle.std.proofs.lemmas.Bool.{eqb-true, eqb-false, ltb-true, ltb-false, leb-true, lt-ltb, le-ltb, le-leb, ne_eqb, eq-eqb, cases_lt, cases_eq}
use Rattle.bx_read.specs.Digits.{is_hex, pairs_of, data_of}
use Rattle.bx_read.specs.private.Digits.{pair_count}
use Rattle.bx_read.specs.Line.{read_line, read_data}
use Rattle.bx_read.proofs.Parts.{read_pairs}
use Rattle.bx_read.specs.Grammar.{EndsData}
use Rattle.bx_read.specs.FaultTable.{BeginsWith, HasAddress, HasData, HasPairs, IsNoPairs, IsFaultOf, FaultIsOfLine}
use Rattle.bx_read.proofs.GrammarLemmas.{first_digit, data_of-ends, data_of-pairs}
use Rattle.bx_read.proofs.PairLaws.{pairs_have_form, digit_no_space}
use Rattle.bx_read.specs.declared.fault.ReadFault.{ReadFault}
use Rattle.bx_read.specs.declared.fault.ReadFault.TheVariants.{NoMemory, BadAddress, MissingColon, BadPair, NoData, TooWide, AddressTooLarge, OddDigits}

-- the fault that was answered
same_fault : {A : Type 0} (x y : ReadFault) → ◌≡◌ {A = Result A ReadFault} (Err x) (Err y) → x ≡ y
same_fault x y h = cc

pub answers : {A : Type 0} (P : ReadFault → Type 0) (x y : ReadFault) → ◌≡◌ {A = Result A ReadFault} (Err x) (Err y) → P x → P y
answers P x y h p = subst P (same_fault x y h) p

-- a test that stopped the reading, or one that let it go on
tested : {A : Type 0} (P : ReadFault → Type 0) (b : Bool) (x fault : ReadFault) (later : Result A ReadFault) → cond b (Err x) later ≡ Err fault →
    (b ≡ true → P x) → (b ≡ false → later ≡ Err fault → P fault) → P fault
tested P true x fault later h stops goes = answers P x fault h (stops refl)
tested P false x fault later h stops goes = goes refl h

either : (a b : Bool) → (a || b) ≡ true → (a ≡ true) ⊎ (b ≡ true)
either true b h = inl refl
either false b h = inr h

neither : (a b : Bool) → (a || b) ≡ false → (a ≡ false) × (b ≡ false)
neither true b h = cc
neither false b h = (refl, h)

is_not : (a : Bool) → not a ≡ true → a ≡ false
is_not true h = cc
is_not false h = refl

is_so : (a : Bool) → not a ≡ false → a ≡ true
is_so true h = refl
is_so false h = cc

-- the digits in front
pub begins : (text : List ℕ) → BeginsWith text (take (prefix_len is_hex text) text) (drop (prefix_len is_hex text) text)
begins text =
    let count = prefix_len is_hex text in
    let within = prefix_len-le-length is_hex text in
    let size : length (take count text) ≡ count = length-take-le count text within in record {
      spelled = sym (take-append-drop count text);
      address = λ k d inside. rw (get_or-take count text k d (omega (arith, size))) (prefix_len_passes is_hex text k d (omega (arith, size)));
      ends = next (cases_lt count (length text));
    }
  where
    next : (prefix_len is_hex text < length text) ⊎ (length text ≤ prefix_len is_hex text) → is_hex (get_or (drop (prefix_len is_hex text) text) 0 0) ≡ false
    next (inl inside) =
        let here : prefix_len is_hex text + 0 ≡ prefix_len is_hex text = omega arith in
        rw (get_or-drop (prefix_len is_hex text) text 0 0, here) (prefix_len_stops is_hex text 0 inside)
    next (inr past) = rw (get_or-drop (prefix_len is_hex text) text 0 0, get_or_past text (prefix_len is_hex text + 0) 0 (omega arith)) refl

empty : (xs : List ℕ) → length xs ≡ 0 → xs ≡ []
empty [] e = refl
empty (x ∷ xs) e = absurd (omega arith)

-- a list that isn't empty, by its first element
first_of : (xs : List ℕ) → eqb (length xs) 0 ≡ false → xs ≡ get_or xs 0 0 ∷ drop 1 xs
first_of [] h = absurd (eqb-false 0 0 h refl)
first_of (x ∷ xs) h = refl

-- one space, or two and anything
spaces : (tail body : List ℕ) → tail ≡ 32 ∷ body → (eqb (length tail) 1 ≡ true) ⊎ (eqb (get_or tail 1 0) 32 ≡ true) →
    (tail ≡ 32 ∷ []) ⊎ ((rest : List ℕ) × (tail ≡ 32 ∷ 32 ∷ rest))
spaces tail [] is e = inl is
spaces tail (c ∷ cs) is (inl one) = absurd (omega (arith, eqb-true (length tail) 1 one, ap length is))
spaces tail (c ∷ cs) is (inr two) =
    let second : c ≡ 32 = sym (ap (λ t. get_or t 1 0) is) ∙ eqb-true (get_or tail 1 0) 32 two in
    inr (cs, is ∙ ap (λ d. 32 ∷ d ∷ cs) second)

-- the data are the pairs in front
pub has_data : (body bytes : List ℕ) → pairs_of (data_of body) ≡ Some bytes → HasData body bytes
has_data body bytes e = let ends = data_of-ends body in (data_of body, ends.0, ends.1, (pairs_have_form (data_of body) bytes).0 e, ends.2)

pub data_read : (body bytes : List ℕ) → HasData body bytes → pairs_of (data_of body) ≡ Some bytes
data_read body bytes has =
    let pairs : pairs_of has.0 ≡ Some bytes = (pairs_have_form has.0 bytes).1 has.3 in
    ap (λ b. pairs_of (data_of b)) has.2 ∙ ap pairs_of (data_of-pairs has.0 has.1 bytes pairs has.4) ∙ pairs

-- no end begins with another character, or goes on behind one space
no_end : (tail : List ℕ) → eqb (length tail) 0 ≡ false → (eqb (get_or tail 0 0) 32 ≡ false) ⊎ ((eqb (length tail) 1 ≡ false) × (eqb (get_or tail 1 0) 32 ≡ false)) →
    EndsData tail → ⊥
no_end tail some other (inl none) = eqb-false (length tail) 0 some (ap length none)
no_end tail some (inl other) (inr (inl one)) = eqb-false (get_or tail 0 0) 32 other (ap (λ t. get_or t 0 0) one)
no_end tail some (inr other) (inr (inl one)) = eqb-false (length tail) 1 other.0 (ap length one)
no_end tail some (inl other) (inr (inr two)) = eqb-false (get_or tail 0 0) 32 other (ap (λ t. get_or t 0 0) two.1)
no_end tail some (inr other) (inr (inr two)) = eqb-false (get_or tail 1 0) 32 other.1 (ap (λ t. get_or t 1 0) two.1)

behind_space : (tail body other : List ℕ) → tail ≡ 32 ∷ body → tail ≡ 32 ∷ other → other ≡ body
behind_space tail body other p q = ap (drop 1) (sym q ∙ p)

no_bytes : (bytes : List ℕ) → ◌≡◌ {A = Option (List ℕ)} None (Some bytes) → ⊥
no_bytes bytes e = cc e

-- behind a space
pairs_fault : (number : ℕ) (text digits body : List ℕ) (fault : ReadFault) → HasAddress text digits (58 ∷ 32 ∷ body) →
    (EndsData (32 ∷ body) → ⊥) → read_pairs number (digits_value 16 digits) (data_of body) (pair_count (data_of body)) ≡ Err fault → IsFaultOf number text fault
pairs_fault number text digits body fault address never = by_pairs (pairs_of (data_of body)) refl
  where
    by_pairs : (found : Option (List ℕ)) → pairs_of (data_of body) ≡ found →
        read_pairs number (digits_value 16 digits) (data_of body) (option_map length found) ≡ Err fault → IsFaultOf number text fault
    by_pairs None is h = answers (IsFaultOf number text) (BadPair number) fault h (refl, (digits, 32 ∷ body, address, (never, λ other bytes spelled has. no_bytes bytes (sym is ∙ data_read body bytes (subst (λ b. HasData b bytes) (behind_space (32 ∷ body) body other refl spelled) has)))))
    by_pairs (Some bytes) is h =
        let pairs : HasPairs text digits body bytes = record { address = address; pairs = has_data body bytes is } in
        let at = digits_value 16 digits in
        tested (IsFaultOf number text) (ltb 256 (length bytes)) (TooWide number) fault (cond (leb (2 ^ 62) at) (Err (AddressTooLarge number)) (Ok (at, data_of body))) h
        (λ wide. (refl, (digits, body, bytes, pairs, ltb-true 256 (length bytes) wide)))
        (λ few goes. tested (IsFaultOf number text) (leb (2 ^ 62) at) (AddressTooLarge number) fault (Ok (at, data_of body)) goes
        (λ large. (refl, (digits, body, bytes, pairs, ltb-false 256 (length bytes) few, leb-true (2 ^ 62) at large)))
        (λ small read. absurd (cc read)))

-- behind the colon
data_fault : (number : ℕ) (text digits tail : List ℕ) (fault : ReadFault) → HasAddress text digits (58 ∷ tail) →
    read_data number (digits_value 16 digits) tail ≡ Err fault → IsFaultOf number text fault
data_fault number text digits tail fault address h =
    let P = IsFaultOf number text in
    let body = drop 1 tail in
    let last = read_pairs number (digits_value 16 digits) (data_of body) (pair_count (data_of body)) in
    let third = cond (eqb (length tail) 1 || eqb (get_or tail 1 0) 32) (Err (NoData number)) last in
    let second = cond (not (eqb (get_or tail 0 0) 32)) (Err (BadPair number)) third in
    tested P (eqb (length tail) 0) (NoData number) fault second h
    (λ none. (refl, (digits, tail, address, inl (empty tail (eqb-true (length tail) 0 none)))))
    (λ some goes. tested P (not (eqb (get_or tail 0 0) 32)) (BadPair number) fault third goes
    (λ other.
    let differs = is_not (eqb (get_or tail 0 0) 32) other in
    (refl, (digits, tail, address, (no_end tail some (inl differs), λ rest bytes spelled has. eqb-false (get_or tail 0 0) 32 differs (ap (λ t. get_or t 0 0) spelled)))))
    (λ space on.
    let is : tail ≡ 32 ∷ body = first_of tail some ∙ ap (λ c. c ∷ body) (eqb-true (get_or tail 0 0) 32 (is_so (eqb (get_or tail 0 0) 32) space)) in
    tested P (eqb (length tail) 1 || eqb (get_or tail 1 0) 32) (NoData number) fault last on
    (λ ends. (refl, (digits, tail, address, inr (spaces tail body is (either (eqb (length tail) 1) (eqb (get_or tail 1 0) 32) ends)))))
    (λ more pairs.
    let never = no_end tail some (inr (neither (eqb (length tail) 1) (eqb (get_or tail 1 0) 32) more)) in
    pairs_fault number text digits body fault (subst (λ t. HasAddress text digits (58 ∷ t)) is address) (subst (λ t. EndsData t → ⊥) is never) pairs)))

pub fault_found : (number : ℕ) (text : List ℕ) (fault : ReadFault) → read_line number text ≡ Err fault → IsFaultOf number text fault
fault_found number text fault h =
    let P = IsFaultOf number text in
    let count = prefix_len is_hex text in
    let digits = take count text in
    let rest = drop count text in
    let front = begins text in
    let size : length digits ≡ count = length-take-le count text (prefix_len-le-length is_hex text) in
    let last = read_data number (digits_value 16 digits) (drop (count + 1) text) in
    let here : get_or rest 0 0 ≡ get_or text count 0 = get_or-drop count text 0 0 ∙ ap (λ n. get_or text n 0) (omega arith) in
    tested P (eqb count 0 || ltb 16 count) (BadAddress number) fault (cond (not (eqb (get_or text count 0) 58)) (Err (MissingColon number)) last) h
    (λ bad. (refl, (digits, rest, front, ⊎_elim (λ none. inl (size ∙ eqb-true count 0 none)) (λ many. inr (omega (arith, size, ltb-true 16 count many))) (either (eqb count 0) (ltb 16 count) bad))))
    (λ good goes.
    let both = neither (eqb count 0) (ltb 16 count) good in
    let address : HasAddress text digits rest = record {
      begins = front;
      some = omega (arith, size, eqb-false count 0 both.0);
      few = omega (arith, size, ltb-false 16 count both.1);
    } in
    tested P (not (eqb (get_or text count 0) 58)) (MissingColon number) fault last goes
    (λ other. (refl, (digits, rest, address, λ colon. eqb-false (get_or text count 0) 58 (is_not (eqb (get_or text count 0) 58) other) (sym here ∙ colon))))
    (λ colon on.
    let is : get_or text count 0 ≡ 58 = eqb-true (get_or text count 0) 58 (is_so (eqb (get_or text count 0) 58) colon) in
    let after : rest ≡ 58 ∷ drop (count + 1) text = drop_more text count 0 (inside text count is) ∙ ap (λ c. c ∷ drop (count + 1) text) is in
    data_fault number text digits (drop (count + 1) text) fault (subst (HasAddress text digits) after address) on))
  where
    inside : (xs : List ℕ) (n : ℕ) → get_or xs n 0 ≡ 58 → n < length xs
    inside xs n e = ⊎_elim (λ h. h) (λ past. absurd (omega (arith, e, get_or_past xs n 0 past))) (cases_lt n (length xs))

-- ---- the other way: what the table says is answered

-- what is read of a line whose digits in front are these
pub read_as : (number : ℕ) (text digits rest : List ℕ) → BeginsWith text digits rest →
    read_line number text ≡ cond (eqb (length digits) 0 || ltb 16 (length digits)) (Err (BadAddress number))
    (cond (not (eqb (get_or rest 0 0) 58)) (Err (MissingColon number)) (read_data number (digits_value 16 digits) (drop 1 rest)))
read_as number text digits rest is =
    let m = length digits in
    let whole = digits ++ rest in
    let next : get_or whole m 0 ≡ get_or rest 0 0 = sym (get_or-drop m whole 0 0 ∙ ap (λ k. get_or whole k 0) (omega arith)) ∙ ap (λ l. get_or l 0 0) behind in
    let count : prefix_len is_hex whole ≡ m = prefix_len_is is_hex whole m 0 (omega (arith, length-append digits rest))
    (λ k lt. rw (get_or_append_left digits rest 0 k lt) (is.address k 0 lt))
    (λ inside. rw next is.ends) in
    let front : take m whole ≡ digits = take_at digits rest m refl in
    let after : drop (m + 1) whole ≡ drop 1 rest = drop-append-add digits rest 1 in
    rw (is.spelled, count, next, front, after) refl
  where
    behind : drop (length digits) (digits ++ rest) ≡ rest
    behind = let e : length digits + 0 ≡ length digits = omega arith in ap (λ k. drop k (digits ++ rest)) (sym e) ∙ drop-append-add digits rest 0

-- behind a good address
pub read_behind : (number : ℕ) (text digits rest : List ℕ) → HasAddress text digits rest →
    read_line number text ≡ cond (not (eqb (get_or rest 0 0) 58)) (Err (MissingColon number)) (read_data number (digits_value 16 digits) (drop 1 rest))
read_behind number text digits rest address =
    let some : eqb (length digits) 0 ≡ false = ne_eqb (length digits) 0 (λ e. absurd (omega (arith, address.some, e))) in
    let few : ltb 16 (length digits) ≡ false = le-ltb 16 (length digits) address.few in
    read_as number text digits rest address.begins
    ∙ rw (some, few) refl

or_true : (b : Bool) → (b || true) ≡ true
or_true true = refl
or_true false = refl

pub read_end : (number at : ℕ) (tail : List ℕ) → EndsData tail → read_data number at tail ≡ Err (NoData number)
read_end number at tail (inl none) = rw none refl
read_end number at tail (inr (inl one)) = rw one refl
read_end number at tail (inr (inr two)) =
    let n = length two.0 in
    let some : eqb (suc (suc n)) 0 ≡ false = ne_eqb (suc (suc n)) 0 (λ e. absurd (omega (arith, e))) in
    rw (two.1, some, or_true (eqb (suc (suc n)) 1)) refl

-- behind a space and another character
pub read_body : (number at c : ℕ) (body : List ℕ) → (c ≡ 32 → ⊥) →
    read_data number at (32 ∷ c ∷ body) ≡ read_pairs number at (data_of (c ∷ body)) (pair_count (data_of (c ∷ body)))
read_body number at c body differs =
    let n = length body in
    let some : eqb (suc (suc n)) 0 ≡ false = ne_eqb (suc (suc n)) 0 (λ e. absurd (omega (arith, e))) in
    let more : eqb (suc (suc n)) 1 ≡ false = ne_eqb (suc (suc n)) 1 (λ e. absurd (omega (arith, e))) in
    let other : eqb c 32 ≡ false = ne_eqb c 32 differs in
    rw (some, more, other) refl

pub read_other : (number at c : ℕ) (body : List ℕ) → (c ≡ 32 → ⊥) → read_data number at (c ∷ body) ≡ Err (BadPair number)
read_other number at c body differs =
    let n = length body in
    let some : eqb (suc n) 0 ≡ false = ne_eqb (suc n) 0 (λ e. absurd (omega (arith, e))) in
    let other : eqb c 32 ≡ false = ne_eqb c 32 differs in
    rw (some, other) refl

read_no_pairs : (number at : ℕ) (tail : List ℕ) → IsNoPairs tail → read_data number at tail ≡ Err (BadPair number)
read_no_pairs number at [] is = absurd (is.0 (inl refl))
read_no_pairs number at (c ∷ tail) is = ⊎_elim (λ space. spaced tail space is) (λ differs. read_other number at c tail differs) (cases_eq c 32)
  where
    spaced : (tail : List ℕ) → c ≡ 32 → IsNoPairs (c ∷ tail) → read_data number at (c ∷ tail) ≡ Err (BadPair number)
    spaced [] space is = absurd (is.0 (inr (inl (ap (λ d. d ∷ []) space))))
    spaced (d ∷ body) space is = ⊎_elim (λ two. absurd (is.0 (inr (inr (body, ap (λ e. c ∷ e ∷ body) two ∙ ap (λ e. e ∷ 32 ∷ body) space))))) (λ differs. other differs) (cases_eq d 32)
      where
        none : (o : Option (List ℕ)) → pairs_of (data_of (d ∷ body)) ≡ o → read_pairs number at (data_of (d ∷ body)) (option_map length o) ≡ Err (BadPair number)
        none None e = refl
        none (Some bytes) e = absurd (is.1 (d ∷ body) bytes (ap (λ e. e ∷ d ∷ body) space) (has_data (d ∷ body) bytes e))

        other : (d ≡ 32 → ⊥) → read_data number at (c ∷ d ∷ body) ≡ Err (BadPair number)
        other differs = ap (λ e. read_data number at (e ∷ d ∷ body)) space ∙ read_body number at d body differs ∙ none (pairs_of (data_of (d ∷ body))) refl

-- behind a space and pairs
read_has : (number at : ℕ) (body bytes : List ℕ) → HasData body bytes → read_data number at (32 ∷ body) ≡ read_pairs number at (data_of body) (Some (length bytes))
read_has number at body bytes has =
    let pairs = data_read body bytes has in
    let first = first_digit has.0 bytes ((pairs_have_form has.0 bytes).1 has.3) in
    let spelled : body ≡ first.0 ∷ (first.1 ++ has.1) = has.2 ∙ ap (λ h. h ++ has.1) first.2 in
    ap (λ b. read_data number at (32 ∷ b)) spelled ∙ read_body number at first.0 (first.1 ++ has.1) (digit_no_space first.0 first.3)
    ∙ ap (λ b. read_pairs number at (data_of b) (pair_count (data_of b))) (sym spelled) ∙ ap (λ o. read_pairs number at (data_of body) (option_map length o)) pairs

pub fault_read : (number : ℕ) (text : List ℕ) (fault : ReadFault) → IsFaultOf number text fault → read_line number text ≡ Err fault
fault_read number text NoMemory is = absurd is
fault_read number text (OddDigits n) is = absurd is
fault_read number text (BadAddress n) (same, (digits, rest, front, bad)) =
    let test : (eqb (length digits) 0 || ltb 16 (length digits)) ≡ true =
    ⊎_elim (λ none. rw (eq-eqb (length digits) 0 none) refl) (λ many. rw (lt-ltb 16 (length digits) many) (or_true (eqb (length digits) 0))) bad in
    read_as number text digits rest front ∙ rw (test, same) refl
fault_read number text (MissingColon n) (same, (digits, rest, address, other)) =
    read_behind number text digits rest address ∙ rw (ne_eqb (get_or rest 0 0) 58 other, same) refl
fault_read number text (NoData n) (same, (digits, tail, address, ends)) =
    read_behind number text digits (58 ∷ tail) address ∙ read_end number (digits_value 16 digits) tail ends ∙ rw same refl
fault_read number text (BadPair n) (same, (digits, tail, address, none)) =
    read_behind number text digits (58 ∷ tail) address ∙ read_no_pairs number (digits_value 16 digits) tail none ∙ rw same refl
fault_read number text (TooWide n) (same, (digits, body, bytes, has, wide)) =
    read_behind number text digits (58 ∷ 32 ∷ body) has.address ∙ read_has number (digits_value 16 digits) body bytes has.pairs
    ∙ rw (lt-ltb 256 (length bytes) wide, same) refl
fault_read number text (AddressTooLarge n) (same, (digits, body, bytes, has, few, large)) =
    read_behind number text digits (58 ∷ 32 ∷ body) has.address ∙ read_has number (digits_value 16 digits) body bytes has.pairs
    ∙ rw (le-ltb 256 (length bytes) few, le-leb (2 ^ 62) (digits_value 16 digits) large, same) refl

pub fault_is_of_line : FaultIsOfLine
fault_is_of_line number text fault = (fault_found number text fault, fault_read number text fault)
