-- The front of a line that isn't whole yet, and whatever follows it.
use Rattle.std.proofs.Common.{◌≡◌, ◌≢◌, ◌⊎◌, inl, inr, ℕ, zero, suc, ◌+◌, ◌-◌, ◌<◌, ◌≤◌, Bool, true, false, ◌||◌, not, cond, eqb, ltb, Option, None, Some, Result, Ok, Err, List, [], ◌∷◌, ◌++◌, length, get_or, take, drop, replicate, refl, arith, sym, ap, subst, ◌∙◌, ⊎_elim, append_assoc, append-nil}
use Rattle.std.specs.List.{All, onto_first, prefix_len}
use Rattle.std.specs.Option.{option_map, option_map_or}
use Rattle.std.specs.Str.Parse.{digits_value}
use Rattle.std.proofs.lemmas.Bool.{ne_eqb, cases_lt, cases_eq, eqb-false, eq-eqb, lt-ltb}
use Rattle.std.proofs.lemmas.Grind.{get_or_default_zero}
use Rattle.std.proofs.lemmas.List.{length-append, take-append-drop, length-take-le, length-drop, get_or_append_left, get_or-drop, take_at, take_more, take-take}
use Rattle.std.proofs.lemmas.List.Elements.{All-append, All-cons, All-drop, All-nil, All-take}
use Rattle.bx_read.specs.Digits.{is_hex, pairs_of, data_of}
use Rattle.bx_read.specs.Grammar.{EndsData}
use Rattle.bx_read.specs.FaultTable.{BeginsWith, HasAddress, HasData, HasPairs, IsNoPairs, IsFaultOf}
use Rattle.bx_read.specs.Line.{read_line, read_data}
use Rattle.bx_read.specs.Text.{lines_of, is_skipped, answer_then, answers, gathered}
use Rattle.bx_read.specs.Window.{ReadsAlike}
use Rattle.bx_read.specs.private.Digits.{pair_count}
use Rattle.bx_read.proofs.Parts.{read_pairs}
use Rattle.bx_read.specs.private.Unfinished.{is_too_wide, IsFaultOfFront, IsWideFront}
use Rattle.bx_read.specs.declared.fault.ReadFault.{ReadFault}
use Rattle.bx_read.specs.declared.fault.ReadFault.TheVariants.{NoMemory, BadAddress, MissingColon, BadPair, NoData, TooWide, AddressTooLarge, OddDigits}
use Rattle.bx_read.proofs.DataLemmas.{data_keep, data_space, data_twice, own_apart, own_behind, own_front, data_gap, data_front, data_pairs, hex_other, pairs_then, pairs_behind, pairs_long, never_pairs}
use Rattle.bx_read.proofs.DumpLemmas.{star}
use Rattle.bx_read.proofs.FaultLemmas.{begins, fault_found, fault_read, read_as, read_behind, read_body, read_other, read_end, has_data, data_read}
use Rattle.bx_read.proofs.GrammarLemmas.{first_digit, read_line-found, data_of-ends}
use Rattle.bx_read.proofs.LinesLemmas.{answers_read}
use Rattle.bx_read.proofs.PairLaws.{pairs_have_form}

abbrev pub Apart : List ℕ → Type 0
Apart text = All (λ c. c ≢ 10) text

-- ---- lines

-- what of a text belongs to the line before it, and the lines behind that one
abbrev until : List ℕ → List ℕ
until [] = []
until (c ∷ text) = cond (eqb c 10) [] (c ∷ until text)

abbrev later : List ℕ → List (List ℕ)
later [] = []
later (c ∷ text) = cond (eqb c 10) (lines_of text) (later text)

one_byte : (c : ℕ) (rest : List ℕ) → (c ≡ 10 → ⊥) → lines_of (c ∷ rest) ≡ (c ∷ until rest) ∷ later rest
one_byte c [] other = rw (ne_eqb c 10 other) refl
one_byte c (d ∷ rest) other = go (eqb d 10) refl (λ differs. one_byte d rest differs)
  where
    go : (b : Bool) → eqb d 10 ≡ b → ((d ≡ 10 → ⊥) → lines_of (d ∷ rest) ≡ (d ∷ until rest) ∷ later rest) → lines_of (c ∷ d ∷ rest) ≡ (c ∷ until (d ∷ rest)) ∷ later (d ∷ rest)
    go true e next = rw (ne_eqb c 10 other, e) refl
    go false e next =
        let one = next (eqb-false d 10 e) in
        let inner : onto_first d (lines_of rest) ≡ (d ∷ until rest) ∷ later rest = rw e at one in
        rw (ne_eqb c 10 other, e) (ap (onto_first c) inner)

line_front : (front rest : List ℕ) → 0 < length front → Apart front → lines_of (front ++ rest) ≡ (front ++ until rest) ∷ later rest
line_front [] rest some apart = absurd (omega arith)
line_front (c ∷ []) rest some apart = one_byte c rest (apart 0 0 (omega arith))
line_front (c ∷ d ∷ front) rest some apart =
    rw (ne_eqb c 10 (apart 0 0 (omega arith))) (ap (onto_first c) (line_front (d ∷ front) rest (omega arith) (λ k e inside. apart (suc k) e (omega (arith, inside)))))

not_left_out : (front more : List ℕ) → 2 ≤ length front → is_skipped (front ++ more) ≡ false
not_left_out front more long = go (is_skipped (front ++ more)) refl
  where
    go : (b : Bool) → is_skipped (front ++ more) ≡ b → is_skipped (front ++ more) ≡ false
    go false e = e
    go true e = ⊎_elim
        (λ none. absurd (omega (arith, long, ap length none, length-append front more)))
        (λ one. absurd (omega (arith, long, ap length one, length-append front more)))
        (star (front ++ more) e)

gives_line : (number : ℕ) (front rest : List ℕ) → 2 ≤ length front → Apart front →
    answers number (lines_of (front ++ rest)) ≡ answer_then number (read_line number (front ++ until rest)) (answers (number + 1) (later rest))
gives_line number front rest long apart =
    ap (answers number) (line_front front rest (omega (arith, long)) apart) ∙ answers_read number (front ++ until rest) (later rest) (not_left_out front (until rest) long)

-- fronts that read alike, whatever follows in their line
pub stands : (front other : List ℕ) → Apart front → Apart other → 2 ≤ length front → 2 ≤ length other →
    ((number : ℕ) (more : List ℕ) → read_line number (front ++ more) ≡ read_line number (other ++ more)) → ReadsAlike front other
stands front other apart also long enough same = record {
  reads = λ number rest. ap gathered (gives_line number front rest long apart
      ∙ ap (λ r. answer_then number r (answers (number + 1) (later rest))) (same number (until rest)) ∙ sym (gives_line number other rest enough also));
  lines = λ rest. ap length (line_front front rest (omega (arith, long)) apart) ∙ sym (ap length (line_front other rest (omega (arith, enough)) also));
  apart = also;
}

pub stands_itself : (front : List ℕ) → Apart front → ReadsAlike front front
stands_itself front apart = record { reads = λ number rest. refl; lines = λ rest. refl; apart = apart }

pub stands_more : (front other more : List ℕ) → Apart more → ReadsAlike front other → ReadsAlike (front ++ more) (other ++ more)
stands_more front other more apart is = record {
  reads = λ number rest. ap (λ t. gathered (answers number (lines_of t))) (append_assoc front more rest) ∙ is.reads number (more ++ rest)
      ∙ sym (ap (λ t. gathered (answers number (lines_of t))) (append_assoc other more rest));
  lines = λ rest. ap (λ t. length (lines_of t)) (append_assoc front more rest) ∙ is.lines (more ++ rest) ∙ sym (ap (λ t. length (lines_of t)) (append_assoc other more rest));
  apart = All-append (λ c. c ≢ 10) other more is.apart apart;
}

pub stands_then : (front other third : List ℕ) → ReadsAlike front other → ReadsAlike other third → ReadsAlike front third
stands_then front other third first second = record {
  reads = λ number rest. first.reads number rest ∙ second.reads number rest;
  lines = λ rest. first.lines rest ∙ second.lines rest;
  apart = second.apart;
}

pub faulty : (number : ℕ) (front : List ℕ) (fault : ReadFault) → 2 ≤ length front → Apart front →
    ((more : List ℕ) → read_line number (front ++ more) ≡ Err fault) → IsFaultOfFront number front fault
faulty number front fault long apart same = λ rest.
    ap gathered (gives_line number front rest long apart ∙ ap (λ r. answer_then number r (answers (number + 1) (later rest))) (same (until rest)))

-- ---- two spaces

begins_gap : (x y : List ℕ) → (digits rest : List ℕ) × BeginsWith (x ++ 32 ∷ 32 ∷ y) digits (rest ++ 32 ∷ 32 ∷ y) × BeginsWith (x ++ 32 ∷ 32 ∷ []) digits (rest ++ 32 ∷ 32 ∷ [])
begins_gap x y =
    let is = begins x in
    let digits = take (prefix_len is_hex x) x in
    let rest = drop (prefix_len is_hex x) x in
    let with : (tail : List ℕ) → BeginsWith (x ++ 32 ∷ tail) digits (rest ++ 32 ∷ tail) = λ tail. record {
      spelled = ap (λ t. t ++ 32 ∷ tail) is.spelled ∙ append_assoc digits rest (32 ∷ tail);
      address = is.address;
      ends = go rest is.ends tail;
    } in
    (digits, rest, with (32 ∷ y), with (32 ∷ []))
  where
    go : (rest : List ℕ) → is_hex (get_or rest 0 0) ≡ false → (tail : List ℕ) → is_hex (get_or (rest ++ 32 ∷ tail) 0 0) ≡ false
    go [] e tail = refl
    go (c ∷ rest) e tail = e

gap_data : (number at : ℕ) (r y : List ℕ) → read_data number at (r ++ 32 ∷ 32 ∷ y) ≡ read_data number at (r ++ 32 ∷ 32 ∷ [])
gap_data number at [] y = read_end number at (32 ∷ 32 ∷ y) (inr (inr (y, refl))) ∙ sym (read_end number at (32 ∷ 32 ∷ []) (inr (inr ([], refl))))
gap_data number at (c ∷ r) y = ⊎_elim
    (λ space. ap (λ d. read_data number at (d ∷ (r ++ 32 ∷ 32 ∷ y))) space ∙ spaced r ∙ sym (ap (λ d. read_data number at (d ∷ (r ++ 32 ∷ 32 ∷ []))) space))
    (λ other. read_other number at c (r ++ 32 ∷ 32 ∷ y) other ∙ sym (read_other number at c (r ++ 32 ∷ 32 ∷ []) other))
    (cases_eq c 32)
  where
    spaced : (r : List ℕ) → read_data number at (32 ∷ (r ++ 32 ∷ 32 ∷ y)) ≡ read_data number at (32 ∷ (r ++ 32 ∷ 32 ∷ []))
    spaced [] = read_end number at (32 ∷ 32 ∷ 32 ∷ y) (inr (inr (32 ∷ y, refl))) ∙ sym (read_end number at (32 ∷ 32 ∷ 32 ∷ []) (inr (inr (32 ∷ [], refl))))
    spaced (d ∷ r) = ⊎_elim
        (λ two. ap (λ e. read_data number at (32 ∷ e ∷ (r ++ 32 ∷ 32 ∷ y))) two
        ∙ read_end number at (32 ∷ 32 ∷ (r ++ 32 ∷ 32 ∷ y)) (inr (inr (r ++ 32 ∷ 32 ∷ y, refl)))
        ∙ sym (read_end number at (32 ∷ 32 ∷ (r ++ 32 ∷ 32 ∷ [])) (inr (inr (r ++ 32 ∷ 32 ∷ [], refl))))
        ∙ sym (ap (λ e. read_data number at (32 ∷ e ∷ (r ++ 32 ∷ 32 ∷ []))) two))
        (λ other. read_body number at d (r ++ 32 ∷ 32 ∷ y) other
        ∙ ap (λ b. read_pairs number at b (pair_count b)) (data_gap (d ∷ r) y)
        ∙ sym (read_body number at d (r ++ 32 ∷ 32 ∷ []) other))
        (cases_eq d 32)

-- From two spaces on nothing is read.
pub gap_reads : (number : ℕ) (x y : List ℕ) → read_line number (x ++ 32 ∷ 32 ∷ y) ≡ read_line number (x ++ 32 ∷ 32 ∷ [])
gap_reads number x y = go (begins_gap x y)
  where
    go : (digits rest : List ℕ) × BeginsWith (x ++ 32 ∷ 32 ∷ y) digits (rest ++ 32 ∷ 32 ∷ y) × BeginsWith (x ++ 32 ∷ 32 ∷ []) digits (rest ++ 32 ∷ 32 ∷ []) →
        read_line number (x ++ 32 ∷ 32 ∷ y) ≡ read_line number (x ++ 32 ∷ 32 ∷ [])
    go (digits, [], first, second) = read_as number (x ++ 32 ∷ 32 ∷ y) digits (32 ∷ 32 ∷ y) first ∙ sym (read_as number (x ++ 32 ∷ 32 ∷ []) digits (32 ∷ 32 ∷ []) second)
    go (digits, c ∷ r, first, second) =
        read_as number (x ++ 32 ∷ 32 ∷ y) digits (c ∷ (r ++ 32 ∷ 32 ∷ y)) first
        ∙ ap (λ d. cond (eqb (length digits) 0 || ltb 16 (length digits)) (Err (BadAddress number)) (cond (not (eqb c 58)) (Err (MissingColon number)) d)) (gap_data number (digits_value 16 digits) r y)
        ∙ sym (read_as number (x ++ 32 ∷ 32 ∷ []) digits (c ∷ (r ++ 32 ∷ 32 ∷ [])) second)

-- ---- more than 256 pairs

-- the data behind the pairs decide which fault it is
abbrev wide_answer : ℕ → List ℕ → Result (ℕ × List ℕ) ReadFault
wide_answer number [] = Err (TooWide number)
wide_answer number (c ∷ more) = option_map_or (λ others. Err (TooWide number)) (cond (eqb c 32) (pairs_of more) (pairs_of (c ∷ more))) (Err (BadPair number))

wide_pairs : (number at : ℕ) (hex bytes : List ℕ) → 256 < length bytes → (more : List ℕ) →
    read_pairs number at hex (option_map length (pairs_then bytes more)) ≡ wide_answer number more
wide_pairs number at hex bytes wide [] = rw (lt-ltb 256 (length bytes) wide) refl
wide_pairs number at hex bytes wide (c ∷ more) = go (cond (eqb c 32) (pairs_of more) (pairs_of (c ∷ more)))
  where
    go : (o : Option (List ℕ)) → read_pairs number at hex (option_map length (option_map (λ others. bytes ++ others) o)) ≡ option_map_or (λ others. Err (TooWide number)) o (Err (BadPair number))
    go None = refl
    go (Some others) = rw (lt-ltb 256 (length (bytes ++ others)) (omega (arith, wide, length-append bytes others))) refl

begins_more : (text digits rest more : List ℕ) → 0 < length rest → BeginsWith text digits rest → BeginsWith (text ++ more) digits (rest ++ more)
begins_more text digits rest more some is = record {
  spelled = ap (λ t. t ++ more) is.spelled ∙ append_assoc digits rest more;
  address = is.address;
  ends = rw (get_or_append_left rest more 0 0 some) is.ends;
}

address_more : (text digits rest more : List ℕ) → 0 < length rest → HasAddress text digits rest → HasAddress (text ++ more) digits (rest ++ more)
address_more text digits rest more some is = record { begins = begins_more text digits rest more some is.begins; some = is.some; few = is.few }

wide_reads : (number : ℕ) (front : List ℕ) → IsWideFront front → (more : List ℕ) → read_line number (front ++ more) ≡ wide_answer number (data_of more)
wide_reads number front is more =
    let at = digits_value 16 is.digits in
    let first = first_digit is.hex is.bytes is.pairs in
    let shape : is.hex ++ more ≡ first.0 ∷ (first.1 ++ more) = ap (λ h. h ++ more) first.2 in
    let pairs : pairs_of (data_of (is.hex ++ more)) ≡ pairs_then is.bytes (data_of more) =
    ap pairs_of (data_pairs is.hex is.bytes more is.pairs) ∙ pairs_behind is.hex is.bytes (data_of more) is.pairs in
    read_behind number (front ++ more) is.digits (58 ∷ 32 ∷ (is.hex ++ more)) (address_more front is.digits (58 ∷ 32 ∷ is.hex) more (omega arith) is.address)
    ∙ ap (λ b. read_data number at (32 ∷ b)) shape ∙ read_body number at first.0 (first.1 ++ more) (hex_other first.0 first.3)
    ∙ ap (λ b. read_pairs number at (data_of b) (pair_count (data_of b))) (sym shape)
    ∙ ap (λ o. read_pairs number at (data_of (is.hex ++ more)) (option_map length o)) pairs
    ∙ wide_pairs number at (data_of (is.hex ++ more)) is.bytes is.wide (data_of more)

pub wide_same : (number : ℕ) (front other : List ℕ) → IsWideFront front → IsWideFront other → (more : List ℕ) → read_line number (front ++ more) ≡ read_line number (other ++ more)
wide_same number front other a b more = wide_reads number front a more ∙ sym (wide_reads number other b more)

-- the shortest one
pub shortest : IsWideFront (48 ∷ 58 ∷ 32 ∷ replicate 514 48)
shortest = record {
  digits = 48 ∷ [];
  hex = replicate 514 48;
  bytes = replicate 257 0;
  address = record {
    begins = record { spelled = refl; address = All-cons (λ c. is_hex c ≡ true) 48 [] refl (All-nil (λ c. is_hex c ≡ true)); ends = refl };
    some = omega arith;
    few = omega arith;
  };
  pairs = refl;
  wide = omega arith;
}

-- ---- faults that are certain

-- what has a good address and at most 256 pairs isn't long
bound : (digits hex tail bytes : List ℕ) → All (λ c. is_hex c ≡ true) digits → length digits ≤ 16 → pairs_of hex ≡ Some bytes → length bytes ≤ 256 → EndsData tail →
    length (data_of (digits ++ 58 ∷ 32 ∷ (hex ++ tail))) ≤ 785
bound digits hex tail bytes address few pairs most ends =
    let first = first_digit hex bytes pairs in
    let shape : hex ++ tail ≡ first.0 ∷ (first.1 ++ tail) = ap (λ h. h ++ tail) first.2 in
    let behind : data_of (32 ∷ (hex ++ tail)) ≡ 32 ∷ data_of (hex ++ tail) =
    ap (λ b. data_of (32 ∷ b)) shape ∙ data_space first.0 (first.1 ++ tail) (hex_other first.0 first.3) ∙ ap (λ b. 32 ∷ data_of b) (sym shape) in
    let whole : data_of (digits ++ 58 ∷ 32 ∷ (hex ++ tail)) ≡ digits ++ 58 ∷ 32 ∷ (hex ++ data_of tail) =
    data_front digits (58 ∷ 32 ∷ (hex ++ tail)) (λ k d inside. hex_other (get_or digits k d) (address k d inside))
    ∙ ap (λ t. digits ++ t) (data_keep 58 (32 ∷ (hex ++ tail)) (λ e. absurd (omega arith)) ∙ ap (λ t. 58 ∷ t) (behind ∙ ap (λ t. 32 ∷ t) (data_pairs hex bytes tail pairs))) in
    let none = no_data tail ends in
    omega (arith, few, most, pairs_long hex bytes pairs, ap length whole, length-append digits (58 ∷ 32 ∷ (hex ++ data_of tail)), length-append hex (data_of tail), none)
  where
    no_data : (tail : List ℕ) → EndsData tail → length (data_of tail) ≡ 0
    no_data tail (inl none) = rw none refl
    no_data tail (inr (inl one)) = rw one refl
    no_data tail (inr (inr two)) = rw (two.1) refl

-- a line that is read isn't long
pub read_bound : (number : ℕ) (line : List ℕ) (got : ℕ × List ℕ) → read_line number line ≡ Ok got → length (data_of line) ≤ 785
read_bound number line got e =
    let found = read_line-found number line got.0 got.1 e in
    let is = found.1 in
    rw is.spelled (bound is.digits got.1 is.tail found.0 is.address is.few_digits is.pairs is.few_pairs is.ends)

-- nor is one whose address is too large
large_bound : (line digits body bytes : List ℕ) → HasPairs line digits body bytes → length bytes ≤ 256 → length (data_of line) ≤ 785
large_bound line digits body bytes has few =
    let found = has.pairs in
    let pairs = (pairs_have_form found.0 bytes).1 found.3 in
    let spelled : line ≡ digits ++ 58 ∷ 32 ∷ (found.0 ++ found.1) = has.address.begins.spelled ∙ ap (λ b. digits ++ 58 ∷ 32 ∷ b) found.2 in
    rw spelled (bound digits found.0 found.1 bytes has.address.begins.address has.address.few pairs few found.4)

-- a line that has too many pairs, by its parts
pub wide_parts : (number : ℕ) (line : List ℕ) (fault : ReadFault) → data_of line ≡ line → read_line number line ≡ Err fault → is_too_wide fault ≡ true → IsWideFront line
wide_parts number line fault own e wide = go fault wide (fault_found number line fault e)
  where
    go : (fault : ReadFault) → is_too_wide fault ≡ true → IsFaultOf number line fault → IsWideFront line
    go NoMemory w is = cc
    go (BadAddress n) w is = cc
    go (MissingColon n) w is = cc
    go (BadPair n) w is = cc
    go (NoData n) w is = cc
    go (AddressTooLarge n) w is = cc
    go (OddDigits n) w is = cc
    go (TooWide n) w (same, (digits, body, bytes, has, many)) =
        let own_body : data_of body ≡ body = own_behind (digits ++ 58 ∷ 32 ∷ []) body
        (subst (λ t. data_of t ≡ t) (has.address.begins.spelled ∙ sym (append_assoc digits (58 ∷ 32 ∷ []) body)) own) in
        record {
          digits = digits;
          hex = body;
          bytes = bytes;
          address = has.address;
          pairs = ap pairs_of (sym own_body) ∙ data_read body bytes has.pairs;
          wide = many;
        }

split_last : (xs : List ℕ) → 0 < length xs → (ys : List ℕ) × (y : ℕ) × (xs ≡ ys ++ y ∷ [])
split_last [] some = absurd (omega arith)
split_last (x ∷ []) some = ([], x, refl)
split_last (x ∷ d ∷ xs) some = let later = split_last (d ∷ xs) (omega arith) in (x ∷ later.0, later.1, ap (λ t. x ∷ t) later.2)

err_same : {A : Type 0} (x y : ReadFault) → ◌≡◌ {A = Result A ReadFault} (Err x) (Err y) → x ≡ y
err_same x y h = cc

no_bytes : (bytes : List ℕ) {o : Option (List ℕ)} → o ≡ None → o ≡ Some bytes → ⊥
no_bytes bytes n e = cc

none_of : (o : Option (List ℕ)) → ((bytes : List ℕ) → o ≡ Some bytes → ⊥) → o ≡ None
none_of None never = refl
none_of (Some bytes) never = absurd (never bytes refl)

heads : (a c : ℕ) (t r : List ℕ) → a ∷ t ≡ c ∷ r → (a ≡ c) × (t ≡ r)
heads a c t r e = (cc e, cc e)

-- the pairs behind an address, where the line has none and its front without the last character has none either
module _ (number : ℕ) (digits body : List ℕ) (f : ReadFault) (address : All (λ c. is_hex c ≡ true) digits) (some : 0 < length digits) (few : length digits ≤ 16)
    (own : data_of (digits ++ 58 ∷ 32 ∷ body) ≡ digits ++ 58 ∷ 32 ∷ body) (long : 1001 ≤ length (digits ++ 58 ∷ 32 ∷ body))
    (front : read_line number (data_of (take (length (digits ++ 58 ∷ 32 ∷ body) - 1) (digits ++ 58 ∷ 32 ∷ body))) ≡ Err f) (other : is_too_wide f ≡ false) where
  body_long : 900 ≤ length body
  body_long = omega (arith, few, long, length-append digits (58 ∷ 32 ∷ body))

  cut : (bx : List ℕ) × (y : ℕ) × (body ≡ bx ++ y ∷ [])
  cut = split_last body (omega (arith, body_long))

  short : List ℕ
  short = digits ++ 58 ∷ 32 ∷ cut.0

  spelled : digits ++ 58 ∷ 32 ∷ body ≡ short ++ cut.1 ∷ []
  unfolding short
  spelled = ap (λ b. digits ++ 58 ∷ 32 ∷ b) cut.2 ∙ sym (append_assoc digits (58 ∷ 32 ∷ cut.0) (cut.1 ∷ []))

  taken : take (length (digits ++ 58 ∷ 32 ∷ body) - 1) (digits ++ 58 ∷ 32 ∷ body) ≡ short
  taken =
      let size : length (digits ++ 58 ∷ 32 ∷ body) ≡ length short + 1 = ap length spelled ∙ length-append short (cut.1 ∷ []) in
      let count : length (digits ++ 58 ∷ 32 ∷ body) - 1 ≡ length short = omega (arith, size) in
      ap (λ n. take n (digits ++ 58 ∷ 32 ∷ body)) count ∙ ap (take (length short)) spelled ∙ take_at short (cut.1 ∷ []) (length short) refl

  own_space : data_of (32 ∷ body) ≡ 32 ∷ body
  own_space = own_behind (digits ++ 58 ∷ []) (32 ∷ body) (subst (λ t. data_of t ≡ t) (sym (append_assoc digits (58 ∷ []) (32 ∷ body))) own)

  own_body : data_of body ≡ body
  own_body = own_behind (32 ∷ []) body own_space

  short_data : data_of short ≡ digits ++ 58 ∷ 32 ∷ data_of cut.0
  unfolding short
  short_data = go cut.0 cut.2
    where
      go : (bx : List ℕ) → body ≡ bx ++ cut.1 ∷ [] → data_of (digits ++ 58 ∷ 32 ∷ bx) ≡ digits ++ 58 ∷ 32 ∷ data_of bx
      go [] e = absurd (omega (arith, body_long, ap length e))
      go (m ∷ bx) e =
          let apart : m ≡ 32 → ⊥ = λ s. own_apart 32 m (bx ++ cut.1 ∷ []) (subst (λ b. data_of (32 ∷ b) ≡ 32 ∷ b) e own_space) refl s in
          data_front digits (58 ∷ 32 ∷ m ∷ bx) (λ k d inside. hex_other (get_or digits k d) (address k d inside))
          ∙ ap (λ t. digits ++ t) (data_keep 58 (32 ∷ m ∷ bx) (λ s. absurd (omega arith)) ∙ ap (λ t. 58 ∷ t) (data_space m bx apart))

  short_long : 1000 ≤ length short
  short_long = omega (arith, long, ap length spelled, length-append short (cut.1 ∷ []))

  few_left : length short ≤ length (data_of short) + 1
  few_left = own_front short (cut.1 ∷ []) (subst (λ t. data_of t ≡ t) spelled own)

  front_none : pairs_of (data_of cut.0) ≡ None
  front_none = none_of (pairs_of (data_of cut.0)) (λ bytes e.
      let has : HasPairs (data_of short) digits (data_of cut.0) bytes = record {
        address = record { begins = record { spelled = short_data; address = address; ends = refl }; some = some; few = few };
        pairs = has_data (data_of cut.0) bytes (ap pairs_of (data_twice cut.0) ∙ e);
      } in
      ⊎_elim
      (λ wide.
      let told = fault_read number (data_of short) (TooWide number) (refl, (digits, data_of cut.0, bytes, has, wide)) in
      let found = ap (λ t. read_line number (data_of t)) (sym taken) ∙ front in
      let same : TooWide number ≡ f = err_same (TooWide number) f (sym told ∙ found) in
      let not_so : is_too_wide (TooWide number) ≡ false = subst (λ g. is_too_wide g ≡ false) (sym same) other in cc)
      (λ most. absurd (omega (arith, short_long, few_left, large_bound (data_of short) digits (data_of cut.0) bytes has most, ap length (data_twice short))))
      (cases_lt 256 (length bytes)))

  pub never : (more bytes : List ℕ) → pairs_of (data_of body) ≡ None → HasData (body ++ more) bytes → ⊥
  never more bytes whole has =
      let is = never_pairs cut.0 cut.1 more (omega (arith, body_long, ap length cut.2, length-append cut.0 (cut.1 ∷ []))) record {
        own = subst (λ b. data_of b ≡ b) cut.2 own_body;
        whole = ap (λ b. pairs_of (data_of b)) (sym cut.2) ∙ whole;
        front = front_none;
      } in
      let same : body ++ more ≡ cut.0 ++ cut.1 ∷ more = ap (λ b. b ++ more) cut.2 ∙ append_assoc cut.0 (cut.1 ∷ []) more in
      no_bytes bytes is (ap (λ b. pairs_of (data_of b)) (sym same) ∙ data_read (body ++ more) bytes has)

-- no pairs stand behind the colon, whatever follows
no_pairs_more : (number : ℕ) (digits tail more : List ℕ) (f : ReadFault) → All (λ c. is_hex c ≡ true) digits → 0 < length digits → length digits ≤ 16 →
    data_of (digits ++ 58 ∷ tail) ≡ digits ++ 58 ∷ tail → 1001 ≤ length (digits ++ 58 ∷ tail) →
    read_line number (data_of (take (length (digits ++ 58 ∷ tail) - 1) (digits ++ 58 ∷ tail))) ≡ Err f → is_too_wide f ≡ false → IsNoPairs tail → IsNoPairs (tail ++ more)
no_pairs_more number digits [] more f address some few own long front other none = absurd (omega (arith, few, long, length-append digits (58 ∷ [])))
no_pairs_more number digits (a ∷ []) more f address some few own long front other none = absurd (omega (arith, few, long, length-append digits (58 ∷ a ∷ [])))
no_pairs_more number digits (a ∷ b ∷ t) more f address some few own long front other none = (ends, pairs)
  where
    ends : EndsData (a ∷ b ∷ (t ++ more)) → ⊥
    ends (inl e) = cc
    ends (inr (inl e)) = cc
    ends (inr (inr (r, e))) =
        let first = heads a 32 (b ∷ (t ++ more)) (32 ∷ r) e in
        let second = heads b 32 (t ++ more) r first.1 in
        none.0 (inr (inr (t, ap (λ c. c ∷ b ∷ t) first.0 ∙ ap (λ c. 32 ∷ c ∷ t) second.0)))

    pairs : (body bytes : List ℕ) → a ∷ b ∷ (t ++ more) ≡ 32 ∷ body → HasData body bytes → ⊥
    pairs body bytes e has =
        let first = heads a 32 (b ∷ (t ++ more)) body e in
        let tail : a ∷ b ∷ t ≡ 32 ∷ b ∷ t = ap (λ c. c ∷ b ∷ t) first.0 in
        let P : List ℕ → Type 0 = λ s. data_of (digits ++ 58 ∷ s) ≡ digits ++ 58 ∷ s in
        let L : List ℕ → Type 0 = λ s. 1001 ≤ length (digits ++ 58 ∷ s) in
        let F : List ℕ → Type 0 = λ s. read_line number (data_of (take (length (digits ++ 58 ∷ s) - 1) (digits ++ 58 ∷ s))) ≡ Err f in
        let whole = none_of (pairs_of (data_of (b ∷ t))) (λ found is. none.1 (b ∷ t) found tail (has_data (b ∷ t) found is)) in
        never number digits (b ∷ t) f address some few (subst P tail own) (subst L tail long) (subst F tail front) other more bytes whole (subst (λ x. HasData x bytes) (sym first.1) has)

-- A long line that is cut at two places, and has neither too many pairs at the one nor at the other, has its fault whatever follows.
pub sure : (number : ℕ) (line more : List ℕ) (fault f : ReadFault) → data_of line ≡ line → 1001 ≤ length line → read_line number line ≡ Err fault → is_too_wide fault ≡ false →
    read_line number (data_of (take (length line - 1) line)) ≡ Err f → is_too_wide f ≡ false → read_line number (line ++ more) ≡ Err fault
sure number line more fault f own long e narrow front other = fault_read number (line ++ more) fault (go fault narrow (fault_found number line fault e))
  where
    all_digits : (digits rest : List ℕ) → BeginsWith line digits rest → rest ≡ [] → (ds rs : List ℕ) × BeginsWith (line ++ more) ds rs × (16 < length ds)
    all_digits digits rest is none =
        let after = begins more in
        let ds = take (prefix_len is_hex more) more in
        let rs = drop (prefix_len is_hex more) more in
        let whole : line ≡ digits = is.spelled ∙ ap (λ r. digits ++ r) none ∙ append-nil digits in (
          digits ++ ds,
          rs,
          record {
            spelled = ap (λ t. t ++ more) whole ∙ ap (λ t. digits ++ t) after.spelled ∙ sym (append_assoc digits ds rs);
            address = All-append (λ c. is_hex c ≡ true) digits ds is.address after.address;
            ends = after.ends;
          },
          omega (arith, long, ap length whole, length-append digits ds),
        )

    bad_address : (n : ℕ) (digits rest : List ℕ) → n ≡ number → BeginsWith line digits rest → ((length digits ≡ 0) ⊎ (16 < length digits)) → IsFaultOf number (line ++ more) (BadAddress n)
    bad_address n digits [] same is bad = let longer = all_digits digits [] is refl in (same, (longer.0, longer.1, longer.2, inr longer.3))
    bad_address n digits (c ∷ rest) same is bad = (same, (digits, c ∷ (rest ++ more), begins_more line digits (c ∷ rest) more (omega arith) is, bad))

    go : (fault : ReadFault) → is_too_wide fault ≡ false → IsFaultOf number line fault → IsFaultOf number (line ++ more) fault
    go NoMemory narrow is = is
    go (OddDigits n) narrow is = is
    go (TooWide n) narrow is = cc
    go (AddressTooLarge n) narrow (same, (digits, body, bytes, has, few, large)) = absurd (omega (arith, long, ap length own, large_bound line digits body bytes has few))
    go (BadAddress n) narrow (same, (digits, rest, is, bad)) = bad_address n digits rest same is bad
    go (MissingColon n) narrow (same, (digits, rest, is, differs)) =
        let some : 0 < length rest = omega (arith, long, is.few, ap length is.begins.spelled, length-append digits rest) in
        (same, (digits, rest ++ more, address_more line digits rest more some is, λ colon. differs (sym (get_or_append_left rest more 0 0 some) ∙ colon)))
    go (NoData n) narrow (same, (digits, tail, is, ends)) =
        let some : 2 ≤ length tail = omega (arith, long, is.few, ap length is.begins.spelled, length-append digits (58 ∷ tail)) in
        (same, (digits, tail ++ more, address_more line digits (58 ∷ tail) more (omega arith) is, two tail some ends))
      where
        two : (tail : List ℕ) → 2 ≤ length tail → EndsData tail → EndsData (tail ++ more)
        two tail some (inl none) = absurd (omega (arith, some, ap length none))
        two tail some (inr (inl one)) = absurd (omega (arith, some, ap length one))
        two tail some (inr (inr spaces)) = inr (inr (spaces.0 ++ more, ap (λ t. t ++ more) spaces.1))
    go (BadPair n) narrow (same, (digits, tail, is, none)) =
        let P : List ℕ → Type 0 = λ s. data_of s ≡ s in
        let L : List ℕ → Type 0 = λ s. 1001 ≤ length s in
        let F : List ℕ → Type 0 = λ s. read_line number (data_of (take (length s - 1) s)) ≡ Err f in
        let line_is = is.begins.spelled in (
          same,
          (
            digits,
            tail ++ more,
            address_more line digits (58 ∷ tail) more (omega arith) is,
            no_pairs_more number digits tail more f is.begins.address is.some is.few (subst P line_is own) (subst L line_is long) (subst F line_is front) other none,
          ),
        )

-- ---- what a long front is shortened to

-- a front with no two spaces
module _ (front : List ℕ) (end : ℕ) (ends : take end front ≡ data_of front) (within : end ≤ length front) (whole : length front ≤ end + 1) (long : 1024 < length front) where
  pub line_own : data_of (take end front) ≡ take end front
  line_own = ap data_of ends ∙ data_twice front ∙ sym ends

  line_size : length (take end front) ≡ end
  line_size = length-take-le end front within

  pub line_long : 785 < length (data_of (take end front))
  line_long = omega (arith, ap length line_own, line_size, whole, long)

  shorter : List ℕ
  shorter = take (end - 1) front

  line_more : take end front ≡ shorter ++ get_or front (end - 1) 0 ∷ []
  unfolding shorter
  line_more =
      let before : end - 1 + 1 ≡ end = omega (arith, whole, long) in
      ap (λ n. take n front) (sym before) ∙ take_more front (end - 1) 0 (omega (arith, whole, long, within))

  shorter_size : length shorter ≡ end - 1
  unfolding shorter
  shorter_size = length-take-le (end - 1) front (omega (arith, within))

  module _ (cut : ℕ) (at : take cut (take (end - 1) front) ≡ data_of (take (end - 1) front)) (inside : cut ≤ length (take (end - 1) front)) where
    cut_is : take cut front ≡ data_of shorter
    unfolding shorter
    cut_is = sym (take-take cut (end - 1) front (omega (arith, inside, length-take-le (end - 1) front (omega (arith, within))))) ∙ at

    cut_size : length (take cut front) ≡ cut
    unfolding shorter
    cut_size = length-take-le cut front (omega (arith, inside, within, length-take-le (end - 1) front (omega (arith, within))))

    cut_least : end ≤ cut + 2
    cut_least =
        let few = own_front shorter (get_or front (end - 1) 0 ∷ []) (subst (λ t. data_of t ≡ t) line_more line_own) in
        omega (arith, few, shorter_size, cut_size, ap length cut_is)

    pub cut_own : data_of (take cut front) ≡ take cut front
    cut_own = ap data_of cut_is ∙ data_twice shorter ∙ sym cut_is

    pub cut_long : 785 < length (data_of (take cut front))
    cut_long = omega (arith, ap length cut_own, cut_size, cut_least, whole, long)

    pub cut_near : (cut ≤ length front) × (length front ≤ cut + 3)
    unfolding shorter
    cut_near = (omega (arith, inside, within, length-take-le (end - 1) front (omega (arith, within))), omega (arith, cut_least, whole))

    pub sure_front : (number : ℕ) (fault f : ReadFault) → read_line number (take end front) ≡ Err fault → is_too_wide fault ≡ false → read_line number (take cut front) ≡ Err f →
        is_too_wide f ≡ false → Apart front → IsFaultOfFront number front fault
    unfolding shorter
    sure_front number fault f e narrow g other apart = faulty number front fault (omega (arith, long)) apart (λ more.
        let line = take end front in
        let parts : front ++ more ≡ line ++ (drop end front ++ more) = ap (λ t. t ++ more) (sym (take-append-drop end front)) ∙ append_assoc line (drop end front) more in
        let size : length line - 1 ≡ length shorter = omega (arith, line_size, shorter_size) in
        let front_is : take (length line - 1) line ≡ shorter =
        ap (λ n. take n line) size ∙ ap (take (length shorter)) line_more ∙ take_at shorter (get_or front (end - 1) 0 ∷ []) (length shorter) refl in
        let found : read_line number (data_of (take (length line - 1) line)) ≡ Err f = ap (λ t. read_line number (data_of t)) front_is ∙ ap (read_line number) (sym cut_is) ∙ g in
        ap (read_line number) parts ∙ sure number line (drop end front ++ more) fault f line_own (omega (arith, line_size, whole, long)) e narrow found other)

zeros_apart : (n : ℕ) → Apart (replicate n 48)
zeros_apart zero = All-nil (λ c. c ≢ 10)
zeros_apart (suc n) = All-cons (λ c. c ≢ 10) 48 (replicate n 48) (λ e. absurd (omega arith)) (zeros_apart n)

shortest_apart : Apart (48 ∷ 58 ∷ 32 ∷ replicate 514 48)
shortest_apart =
    All-cons (λ c. c ≢ 10) 48 (58 ∷ 32 ∷ replicate 514 48) (λ e. absurd (omega arith))
    (All-cons (λ c. c ≢ 10) 58 (32 ∷ replicate 514 48) (λ e. absurd (omega arith))
    (All-cons (λ c. c ≢ 10) 32 (replicate 514 48) (λ e. absurd (omega arith)) (zeros_apart 514)))

-- a front with more than 256 pairs
pub wide_stands : (front short text rest : List ℕ) (cut : ℕ) → IsWideFront (take cut text) → text ≡ front → rest ≡ drop cut text →
    short ≡ 48 ∷ 58 ∷ 32 ∷ (replicate 514 48 ++ rest) → 2 ≤ length front → Apart front → ReadsAlike front short
wide_stands front short text rest cut wide is behind spelled long apart =
    let first = take cut text in
    let other = 48 ∷ 58 ∷ 32 ∷ replicate 514 48 in
    let whole : front ≡ first ++ rest = sym is ∙ sym (take-append-drop cut text) ∙ ap (λ t. first ++ t) (sym behind) in
    let rest_apart : Apart rest = subst Apart (sym behind) (All-drop (λ c. c ≢ 10) cut text (subst Apart (sym is) apart)) in
    let also : Apart short = subst Apart (sym spelled) (All-append (λ c. c ≢ 10) other rest shortest_apart rest_apart) in
    stands front short apart also long (omega (arith, ap length spelled))
    (λ number more.
    ap (read_line number) (ap (λ t. t ++ more) whole ∙ append_assoc first rest more)
    ∙ wide_same number first other wide shortest (rest ++ more)
    ∙ sym (ap (read_line number) (ap (λ t. t ++ more) spelled ∙ append_assoc other rest more)))

-- a front with two spaces
gap_at : (front : List ℕ) → 2 ≤ length front - length (data_of front) → (rest : List ℕ) × (front ≡ data_of front ++ 32 ∷ 32 ∷ rest)
gap_at front long = let ends = data_of-ends front in go ends.0 ends.1 ends.2
  where
    go : (tail : List ℕ) → front ≡ data_of front ++ tail → EndsData tail → (rest : List ℕ) × (front ≡ data_of front ++ 32 ∷ 32 ∷ rest)
    go tail spelled (inl none) = absurd (omega (arith, long, ap length spelled, length-append (data_of front) tail, ap length none))
    go tail spelled (inr (inl one)) = absurd (omega (arith, long, ap length spelled, length-append (data_of front) tail, ap length one))
    go tail spelled (inr (inr two)) = (two.0, spelled ∙ ap (λ t. data_of front ++ t) two.1)

module _ (front : List ℕ) (end : ℕ) (ends : take end front ≡ data_of front) (within : end ≤ length front) (gap : 2 ≤ length front - end) (apart : Apart front) where
  end_size : length (data_of front) ≡ end
  end_size = ap length (sym ends) ∙ length-take-le end front within

  parts : (rest : List ℕ) × (front ≡ data_of front ++ 32 ∷ 32 ∷ rest)
  parts = gap_at front (omega (arith, gap, end_size))

  reads_gap : (number : ℕ) (more : List ℕ) → read_line number (front ++ more) ≡ read_line number (data_of front ++ 32 ∷ 32 ∷ [])
  reads_gap number more =
      ap (read_line number) (ap (λ t. t ++ more) parts.1 ∙ append_assoc (data_of front) (32 ∷ 32 ∷ parts.0) more) ∙ gap_reads number (data_of front) (parts.0 ++ more)

  pub gap_fault : (number : ℕ) (fault : ReadFault) → read_line number front ≡ Err fault → IsFaultOfFront number front fault
  gap_fault number fault e = faulty number front fault (omega (arith, gap)) apart (λ more.
      reads_gap number more ∙ sym (reads_gap number []) ∙ ap (read_line number) (append-nil front) ∙ e)

  pub gap_stands : (short : List ℕ) → short ≡ take (end + 2) front → ReadsAlike front short
  gap_stands short cut =
      let two = data_of front ++ 32 ∷ 32 ∷ [] in
      let size : length two ≡ end + 2 = omega (arith, end_size, length-append (data_of front) (32 ∷ 32 ∷ [])) in
      let whole : front ≡ two ++ parts.0 = parts.1 ∙ sym (append_assoc (data_of front) (32 ∷ 32 ∷ []) parts.0) in
      let is : short ≡ two = cut ∙ ap (take (end + 2)) whole ∙ take_at two parts.0 (end + 2) size in
      stands front short apart (subst Apart (sym cut) (All-take (λ c. c ≢ 10) (end + 2) front apart)) (omega (arith, gap)) (omega (arith, ap length is, size))
      (λ number more.
      reads_gap number more ∙ sym (gap_reads number (data_of front) more)
      ∙ sym (ap (read_line number) (ap (λ t. t ++ more) is ∙ append_assoc (data_of front) (32 ∷ 32 ∷ []) more)))

-- behind the last newline there is none
pub behind_last : (text rest : List ℕ) (n : ℕ) → rest ≡ drop n text → ((k : ℕ) → n ≤ k → k < length text → eqb (get_or text k 0) 10 ≡ true → ⊥) → Apart rest
behind_last text rest n is none k d inside same =
    let size : length rest ≡ length text - n = ap length is ∙ length-drop n text in
    let here : get_or text (n + k) 0 ≡ 10 = sym (get_or_default_zero text (n + k) d (omega (arith, inside, size))) ∙ sym (ap (λ t. get_or t k d) is ∙ get_or-drop n text k d) ∙ same in
    none (n + k) (omega arith) (omega (arith, inside, size)) (eq-eqb (get_or text (n + k) 0) 10 here)
