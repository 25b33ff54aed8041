-- What is answered of plain hexadecimal is the fault that it has.
use Rattle.std.proofs.Common.{◌≡◌, ℕ, zero, suc, ◌+◌, ◌*◌, ◌<◌, Bool, true, false, ◌&&◌, ◌||◌, cond, eqb, Option, None, Some, Result, Err, List, [], ◌∷◌, ◌++◌, length, All, refl, arith, sym, ap, subst, ◌∙◌}
use Rattle.std.specs.Prelude.{filter, ok_or}
use Rattle.std.specs.Option.{option_map}
use Rattle.bx_read.specs.Digits.{is_hex, pair_value}
use Rattle.bx_read.specs.Plain.{is_space, hex_bytes, bad_line, digit_line, plain_answer}
use Rattle.bx_read.specs.PairGrammar.{IsBlank}
use Rattle.bx_read.specs.PlainFaults.{belongs, HasOddDigits, IsFaultOfPlain, FaultIsOfPlain}
use Rattle.bx_read.proofs.Parts.{plain_bytes, without_space, plain_fault}
use Rattle.bx_read.specs.declared.fault.ReadFault.{ReadFault}
use Rattle.bx_read.specs.declared.fault.ReadFault.TheVariants.{NoMemory, BadAddress, MissingColon, BadPair, NoData, TooWide, AddressTooLarge, OddDigits}
use Rattle.bx_read.proofs.FaultLemmas.{answers}
use Rattle.bx_read.proofs.GrammarLemmas.{and_true}
use Rattle.bx_read.proofs.PairLaws.{all_cons}
use Rattle.bx_read.proofs.PlainLemmas.{hex-space, keep, leave, hex_bytes-some, byte_of}

-- ---- lines

abbrev newlines : List ℕ → ℕ
newlines text = length (filter (λ c. eqb c 10) text)

-- a byte more in front
line_step : (c n : ℕ) (before : List ℕ) → newlines before + cond (eqb c 10) (n + 1) n ≡ newlines (c ∷ before) + n
line_step c n before = go (eqb c 10) refl
  where
    go : (b : Bool) → eqb c 10 ≡ b → newlines before + cond (eqb c 10) (n + 1) n ≡ newlines (c ∷ before) + n
    go true e = rw e (omega arith)
    go false e = rw e refl

-- ---- the first byte that doesn't belong

pass : (n c : ℕ) (text : List ℕ) → belongs c ≡ true → bad_line n (c ∷ text) ≡ bad_line (cond (eqb c 10) (n + 1) n) text
pass n c text e = rw e refl

record BadFrom (n : ℕ) (text : List ℕ) (line : ℕ) : Type 0 where
  before : List ℕ
  bad : ℕ
  after : List ℕ
  spelled : text ≡ before ++ bad ∷ after
  fine : All (λ c. belongs c ≡ true) before
  apart : belongs bad ≡ false
  in_line : line ≡ newlines before + n

bad_found : (n : ℕ) (text : List ℕ) (line : ℕ) → bad_line n text ≡ Some line → BadFrom n text line
bad_found n [] line h = cc h
bad_found n (c ∷ text) line h = go (belongs c) refl h (bad_found (cond (eqb c 10) (n + 1) n) text line)
  where
    go : (b : Bool) → belongs c ≡ b → cond b (bad_line (cond (eqb c 10) (n + 1) n) text) (Some n) ≡ Some line →
        (bad_line (cond (eqb c 10) (n + 1) n) text ≡ Some line → BadFrom (cond (eqb c 10) (n + 1) n) text line) → BadFrom n (c ∷ text) line
    go true e h later =
        let rest = later h in record {
          before = c ∷ rest.before;
          bad = rest.bad;
          after = rest.after;
          spelled = ap (λ t. c ∷ t) rest.spelled;
          fine = all_cons (λ d. belongs d ≡ true) c rest.before e rest.fine;
          apart = rest.apart;
          in_line = rest.in_line ∙ line_step c n rest.before;
        }
    go false e h later =
        let same : n ≡ line = cc h in
        record { before = []; bad = c; after = text; spelled = refl; fine = λ k d inside. absurd (omega arith); apart = e; in_line = omega (arith, same) }

bad_only : (n : ℕ) (before : List ℕ) (bad : ℕ) (after : List ℕ) → All (λ c. belongs c ≡ true) before → belongs bad ≡ false →
    bad_line n (before ++ bad ∷ after) ≡ Some (newlines before + n)
bad_only n [] bad after fine apart =
    let same : n ≡ newlines [] + n = omega arith in
    let here : bad_line n (bad ∷ after) ≡ Some n = rw apart refl in
    here ∙ ap Some same
bad_only n (c ∷ before) bad after fine apart =
    pass n c (before ++ bad ∷ after) (fine 0 0 (omega arith))
    ∙ bad_only (cond (eqb c 10) (n + 1) n) before bad after (λ k d inside. fine (suc k) d (omega arith)) apart ∙ ap Some (line_step c n before)

none_bad : (n : ℕ) (text : List ℕ) → bad_line n text ≡ None → All (λ c. belongs c ≡ true) text
none_bad n [] h = λ k d inside. absurd (omega arith)
none_bad n (c ∷ text) h = go (belongs c) refl h (none_bad (cond (eqb c 10) (n + 1) n) text)
  where
    go : (b : Bool) → belongs c ≡ b → cond b (bad_line (cond (eqb c 10) (n + 1) n) text) (Some n) ≡ None →
        (bad_line (cond (eqb c 10) (n + 1) n) text ≡ None → All (λ d. belongs d ≡ true) text) → All (λ d. belongs d ≡ true) (c ∷ text)
    go true e h later = all_cons (λ d. belongs d ≡ true) c text e (later h)
    go false e h later = cc h

all_fine : (n : ℕ) (text : List ℕ) → All (λ c. belongs c ≡ true) text → bad_line n text ≡ None
all_fine n [] fine = refl
all_fine n (c ∷ text) fine = pass n c text (fine 0 0 (omega arith)) ∙ all_fine (cond (eqb c 10) (n + 1) n) text (λ k d inside. fine (suc k) d (omega arith))

-- ---- digits and white space

first_of : (a b : Bool) → a ≡ true → (a || b) ≡ true
first_of a b e = rw e refl

second_of : (a b : Bool) → b ≡ true → (a || b) ≡ true
second_of true b e = refl
second_of false b e = e

other_of : (a b : Bool) → (a || b) ≡ true → a ≡ false → b ≡ true
other_of true b h e = cc e
other_of false b h e = h

space_hex : (c : ℕ) → is_space c ≡ true → is_hex c ≡ false
space_hex c space = go (is_hex c) refl
  where
    go : (b : Bool) → is_hex c ≡ b → b ≡ false
    go false e = refl
    go true e = let other = hex-space c e in cc

digit_kept : (c : ℕ) (text : List ℕ) → is_hex c ≡ true → filter is_hex (c ∷ text) ≡ c ∷ filter is_hex text
digit_kept c text e = rw e refl

digit_left : (c : ℕ) (text : List ℕ) → is_hex c ≡ false → filter is_hex (c ∷ text) ≡ filter is_hex text
digit_left c text e = rw e refl

-- where all bytes belong, what isn't white space are the digits
same_digits : (text : List ℕ) → All (λ c. belongs c ≡ true) text → without_space text ≡ filter is_hex text
same_digits [] fine = refl
same_digits (c ∷ text) fine = go (is_hex c) refl (fine 0 0 (omega arith)) (same_digits text (λ k d inside. fine (suc k) d (omega arith)))
  where
    go : (b : Bool) → is_hex c ≡ b → belongs c ≡ true → without_space text ≡ filter is_hex text → without_space (c ∷ text) ≡ filter is_hex (c ∷ text)
    go true e here later = keep c text (hex-space c e) ∙ ap (λ t. c ∷ t) later ∙ sym (digit_kept c text e)
    go false e here later = leave c text (other_of (is_hex c) (is_space c) here e) ∙ later ∙ sym (digit_left c text e)

all_digits : (text : List ℕ) → All (λ c. is_hex c ≡ true) (filter is_hex text)
all_digits [] = λ k d inside. absurd (omega arith)
all_digits (c ∷ text) = go (is_hex c) refl (all_digits text)
  where
    go : (b : Bool) → is_hex c ≡ b → All (λ d. is_hex d ≡ true) (filter is_hex text) → All (λ d. is_hex d ≡ true) (filter is_hex (c ∷ text))
    go true e later = rw (digit_kept c text e) (all_cons (λ d. is_hex d ≡ true) c (filter is_hex text) e later)
    go false e later = rw (digit_left c text e) later

-- what is read has nothing else
some_digits : (digits bytes : List ℕ) → hex_bytes digits ≡ Some bytes → All (λ c. is_hex c ≡ true) digits
some_digits [] bytes h = λ k d inside. absurd (omega arith)
some_digits (c ∷ []) bytes h = cc h
some_digits (c ∷ d ∷ rest) bytes h =
    let first = byte_of c d rest bytes h in
    let two = and_true (is_hex c) (is_hex d) first.0 in
    all_cons (λ e. is_hex e ≡ true) c (d ∷ rest) two.0 (all_cons (λ e. is_hex e ≡ true) d rest two.1 (some_digits rest first.1.0 first.1.1))

digits_belong : (text : List ℕ) → All (λ c. is_hex c ≡ true) (without_space text) → All (λ c. belongs c ≡ true) text
digits_belong [] all = λ k d inside. absurd (omega arith)
digits_belong (c ∷ text) all = go (is_space c) refl all (digits_belong text)
  where
    go : (b : Bool) → is_space c ≡ b → All (λ d. is_hex d ≡ true) (without_space (c ∷ text)) →
        (All (λ d. is_hex d ≡ true) (without_space text) → All (λ d. belongs d ≡ true) text) → All (λ d. belongs d ≡ true) (c ∷ text)
    go true e all later =
        all_cons (λ d. belongs d ≡ true) c text (second_of (is_hex c) (is_space c) e) (later (subst (All (λ d. is_hex d ≡ true)) (leave c text e) all))
    go false e all later =
        let kept = subst (All (λ d. is_hex d ≡ true)) (keep c text e) all in
        all_cons (λ d. belongs d ≡ true) c text (first_of (is_hex c) (is_space c) (kept 0 0 (omega arith))) (later (λ k d inside. kept (suc k) d (omega arith)))

-- ---- an odd number of digits

both : (a b : Bool) → a ≡ true → b ≡ true → (a && b) ≡ true
both a b p q = rw (p, q) refl

none_of_map : (f : List ℕ → List ℕ) (o : Option (List ℕ)) → option_map f o ≡ None → o ≡ None
none_of_map f None h = refl
none_of_map f (Some bytes) h = cc h

none_odd : (digits : List ℕ) → All (λ c. is_hex c ≡ true) digits → hex_bytes digits ≡ None → (half : ℕ) × (length digits ≡ 2 * half + 1)
none_odd [] all h = cc h
none_odd (c ∷ []) all h = (0, refl)
none_odd (c ∷ d ∷ rest) all h =
    let two = both (is_hex c) (is_hex d) (all 0 0 (omega arith)) (all 1 0 (omega arith)) in
    let none = none_of_map (λ more. pair_value c d ∷ more) (hex_bytes rest) (sym (hex_bytes-some c d rest two) ∙ h) in
    let later = none_odd rest (λ k e inside. all (suc (suc k)) e (omega arith)) none in
    (suc later.0, omega (arith, later.1))

odd_none : (digits : List ℕ) (half : ℕ) → All (λ c. is_hex c ≡ true) digits → length digits ≡ 2 * half + 1 → hex_bytes digits ≡ None
odd_none [] half all e = absurd (omega (arith, e))
odd_none (c ∷ []) half all e = refl
odd_none (c ∷ d ∷ rest) zero all e = absurd (omega (arith, e))
odd_none (c ∷ d ∷ rest) (suc half) all e =
    let two = both (is_hex c) (is_hex d) (all 0 0 (omega arith)) (all 1 0 (omega arith)) in
    hex_bytes-some c d rest two
    ∙ ap (option_map (λ more. pair_value c d ∷ more)) (odd_none rest half (λ k e inside. all (suc (suc k)) e (omega arith)) (omega (arith, e)))

-- ---- the last digit

blank_line : (last n : ℕ) (blank : List ℕ) → IsBlank blank → digit_line last n blank ≡ last
blank_line last n [] is = refl
blank_line last n (c ∷ blank) is =
    ap (λ b. digit_line (cond b n last) (cond (eqb c 10) (n + 1) n) blank) (space_hex c (is 0 0 (omega arith)))
    ∙ blank_line last (cond (eqb c 10) (n + 1) n) blank (λ k d inside. is (suc k) d (omega arith))

last_line : (last n : ℕ) (before : List ℕ) (digit : ℕ) (blank : List ℕ) → is_hex digit ≡ true → IsBlank blank →
    digit_line last n (before ++ digit ∷ blank) ≡ newlines before + n
last_line last n [] digit blank is_digit is =
    let same : n ≡ newlines [] + n = omega arith in
    ap (λ b. digit_line (cond b n last) (cond (eqb digit 10) (n + 1) n) blank) is_digit ∙ blank_line n (cond (eqb digit 10) (n + 1) n) blank is ∙ same
last_line last n (c ∷ before) digit blank is_digit is =
    last_line (cond (is_hex c) n last) (cond (eqb c 10) (n + 1) n) before digit blank is_digit is ∙ line_step c n before

no_digits : (text : List ℕ) → All (λ c. belongs c ≡ true) text → length (filter is_hex text) ≡ 0 → IsBlank text
no_digits [] fine none = λ k d inside. absurd (omega arith)
no_digits (c ∷ text) fine none = go (is_hex c) refl (fine 0 0 (omega arith)) (no_digits text (λ k d inside. fine (suc k) d (omega arith)))
  where
    go : (b : Bool) → is_hex c ≡ b → belongs c ≡ true → (length (filter is_hex text) ≡ 0 → IsBlank text) → IsBlank (c ∷ text)
    go true e here later = absurd (omega (arith, none, ap length (digit_kept c text e)))
    go false e here later =
        all_cons (λ d. is_space d ≡ true) c text (other_of (is_hex c) (is_space c) here e) (later (omega (arith, none, ap length (digit_left c text e))))

record LastDigit (text : List ℕ) : Type 0 where
  before : List ℕ
  last : ℕ
  blank : List ℕ
  spelled : text ≡ before ++ last ∷ blank
  digit : is_hex last ≡ true
  is_blank : IsBlank blank

last_digit : (text : List ℕ) → All (λ c. belongs c ≡ true) text → 0 < length (filter is_hex text) → LastDigit text
last_digit [] fine some = absurd (omega (arith, some))
last_digit (c ∷ text) fine some =
    go (length (filter is_hex text)) refl (λ k d inside. fine (suc k) d (omega arith)) (last_digit text (λ k d inside. fine (suc k) d (omega arith)))
  where
    is_last : (b : Bool) → is_hex c ≡ b → length (filter is_hex text) ≡ 0 → is_hex c ≡ true
    is_last true e none = e
    is_last false e none = absurd (omega (arith, some, none, ap length (digit_left c text e)))

    go : (n : ℕ) → length (filter is_hex text) ≡ n → All (λ d. belongs d ≡ true) text → (0 < length (filter is_hex text) → LastDigit text) → LastDigit (c ∷ text)
    go zero e rest later =
        record { before = []; last = c; blank = text; spelled = refl; digit = is_last (is_hex c) refl e; is_blank = no_digits text rest e }
    go (suc n) e rest later =
        let found = later (omega (arith, e)) in
        record { before = c ∷ found.before; last = found.last; blank = found.blank; spelled = ap (λ t. c ∷ t) found.spelled; digit = found.digit; is_blank = found.is_blank }

-- ---- the law

odd_fault : (text : List ℕ) → plain_bytes text ≡ None → bad_line 1 text ≡ None → HasOddDigits text (digit_line 1 1 text)
odd_fault text none good =
    let fine = none_bad 1 text good in
    let odd = none_odd (filter is_hex text) (all_digits text) (ap hex_bytes (sym (same_digits text fine)) ∙ none) in
    let found = last_digit text fine (omega (arith, odd.1)) in record {
      before = found.before;
      last = found.last;
      blank = found.blank;
      half = odd.0;
      spelled = found.spelled;
      fine = fine;
      odd = odd.1;
      digit = found.digit;
      is_blank = found.is_blank;
      in_line = ap (digit_line 1 1) found.spelled ∙ last_line 1 1 found.before found.last found.blank found.digit found.is_blank;
    }

fault_found : (text : List ℕ) (fault : ReadFault) → plain_answer text ≡ Err fault → IsFaultOfPlain text fault
fault_found text fault = by_bytes (plain_bytes text) refl
  where
    by_line : (found : Option ℕ) → bad_line 1 text ≡ found → plain_bytes text ≡ None →
        ◌≡◌ {A = Result (List ℕ) ReadFault} (Err (plain_fault text found)) (Err fault) → IsFaultOfPlain text fault
    by_line None e none h = answers (IsFaultOfPlain text) (OddDigits (digit_line 1 1 text)) fault h (odd_fault text none e)
    by_line (Some line) e none h =
        let bad = bad_found 1 text line e in
        answers (IsFaultOfPlain text) (BadPair line) fault h (record {
          before = bad.before;
          bad = bad.bad;
          after = bad.after;
          spelled = bad.spelled;
          fine = bad.fine;
          apart = bad.apart;
          in_line = bad.in_line;
        })

    by_bytes : (bytes : Option (List ℕ)) → plain_bytes text ≡ bytes → ok_or bytes (plain_fault text (bad_line 1 text)) ≡ Err fault → IsFaultOfPlain text fault
    by_bytes None e h = by_line (bad_line 1 text) refl e h
    by_bytes (Some bytes) e h = cc h

no_bytes : (text : List ℕ) (line : ℕ) → bad_line 1 text ≡ Some line → plain_bytes text ≡ None
no_bytes text line bad = go (plain_bytes text) refl
  where
    go : (bytes : Option (List ℕ)) → plain_bytes text ≡ bytes → bytes ≡ None
    go None e = refl
    go (Some bytes) e =
        let none = all_fine 1 text (digits_belong text (some_digits (without_space text) bytes e)) in
        cc

fault_only : (text : List ℕ) (fault : ReadFault) → IsFaultOfPlain text fault → plain_answer text ≡ Err fault
fault_only text (BadPair line) is =
    let bad : bad_line 1 text ≡ Some line = ap (bad_line 1) is.spelled ∙ bad_only 1 is.before is.bad is.after is.fine is.apart ∙ ap Some (sym is.in_line) in
    let none : plain_bytes text ≡ None = no_bytes text line bad in
    rw (none, bad) refl
fault_only text (OddDigits line) is =
    let good : bad_line 1 text ≡ None = all_fine 1 text is.fine in
    let none : plain_bytes text ≡ None = ap hex_bytes (same_digits text is.fine) ∙ odd_none (filter is_hex text) is.half (all_digits text) is.odd in
    let ends : digit_line 1 1 text ≡ line = ap (digit_line 1 1) is.spelled ∙ last_line 1 1 is.before is.last is.blank is.digit is.is_blank ∙ sym is.in_line in
    rw (none, good, ends) refl
fault_only text NoMemory is = absurd is
fault_only text (BadAddress line) is = absurd is
fault_only text (MissingColon line) is = absurd is
fault_only text (NoData line) is = absurd is
fault_only text (TooWide line) is = absurd is
fault_only text (AddressTooLarge line) is = absurd is

pub fault_is_of_plain : FaultIsOfPlain
fault_is_of_plain text fault = (fault_found text fault, fault_only text fault)
