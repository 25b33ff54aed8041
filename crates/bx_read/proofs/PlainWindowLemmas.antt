-- Plain hexadecimal that is read window by window.
use Rattle.std.proofs.Common.{◌≡◌, ◌⊎◌, inl, inr, ℕ, ◌+◌, ◌<◌, Bool, true, false, ◌&&◌, cond, eqb, Some, None, Option, Ok, Err, List, [], ◌∷◌, ◌++◌, length, refl, sym, ap, subst, ◌∙◌, append_assoc, append-nil, arith}
use Rattle.std.specs.Prelude.{IsTrue, IfSome}
use Rattle.std.specs.Option.{option_map, is_some}
use Rattle.std.proofs.lemmas.Bool.{eqb-true}
use Rattle.bx_read.specs.Digits.{is_hex, pair_value}
use Rattle.bx_read.specs.Plain.{is_space, hex_bytes, bad_line, digit_line, plain_answer}
use Rattle.bx_read.proofs.Parts.{without_space}
use Rattle.bx_read.specs.PlainWindow.{half_digit, HasDigits, IsPlainFault, HasReadPlainBy, HasReadPlain}
use Rattle.bx_read.specs.declared.fault.ReadFault.{ReadFault}
use Rattle.bx_read.specs.declared.fault.ReadFault.TheVariants.{NoMemory, BadPair, OddDigits}
use Rattle.bx_read.specs.private.PlainWindow.{plain_view}
use Rattle.bx_read.specs.declared.plain_window.digits.DigitsRead.{DigitsRead}
use Rattle.bx_read.proofs.DecodeLemmas.{more_in_front}
use Rattle.bx_read.proofs.PlainLemmas.{hex-space, keep, leave, hex_bytes-some, hex_bytes-none, byte_of}
use Rattle.bx_read.proofs.GrammarLemmas.{and_true}

nothing_in_front : (o : Option (List ℕ)) → o ≡ option_map (λ others. [] ++ others) o
nothing_in_front None = refl
nothing_in_front (Some bytes) = refl

pub no_digits : HasDigits [] [] None 0 1
no_digits = record { digits = λ more. nothing_in_front (hex_bytes (without_space more)); bad = λ more. refl; ends = λ more. refl }

-- one byte more
module _ (text bytes : List ℕ) (half : Option ℕ) (passed last c : ℕ) (was : HasDigits text bytes half passed last) where
  digits_at : (more : List ℕ) → hex_bytes (without_space ((text ++ c ∷ []) ++ more)) ≡ option_map (λ others. bytes ++ others) (hex_bytes (half_digit half ++ without_space (c ∷ more)))
  digits_at more = ap (λ t. hex_bytes (without_space t)) (append_assoc text (c ∷ []) more) ∙ was.digits (c ∷ more)

  bad_at : (more : List ℕ) → bad_line 1 ((text ++ c ∷ []) ++ more) ≡ bad_line (passed + 1) (c ∷ more)
  bad_at more = ap (bad_line 1) (append_assoc text (c ∷ []) more) ∙ was.bad (c ∷ more)

  ends_at : (more : List ℕ) → digit_line 1 1 ((text ++ c ∷ []) ++ more) ≡ digit_line last (passed + 1) (c ∷ more)
  ends_at more = ap (digit_line 1 1) (append_assoc text (c ∷ []) more) ∙ was.ends (c ∷ more)

  -- white space
  module _ (space : is_space c ≡ true) (other : is_hex c ≡ false) where
    pub space_more : (next : ℕ) → next ≡ cond (eqb c 10) (passed + 1) passed → HasDigits (text ++ c ∷ []) bytes half next last
    space_more next is = record {
      digits = λ more. digits_at more ∙ ap (λ w. option_map (λ others. bytes ++ others) (hex_bytes (half_digit half ++ w))) (leave c more space);
      bad = λ more. bad_at more ∙ rw (other, space) (ap (λ n. bad_line n more) (line (eqb c 10) is));
      ends = λ more. ends_at more ∙ rw other (ap (λ n. digit_line last n more) (line (eqb c 10) is));
    }
      where
        line : (b : Bool) → next ≡ cond b (passed + 1) passed → cond b (passed + 1 + 1) (passed + 1) ≡ next + 1
        line true e = ap (λ n. n + 1) (sym e)
        line false e = ap (λ n. n + 1) (sym e)

  -- a digit
  module _ (digit : is_hex c ≡ true) (other : eqb c 10 ≡ false) where
    bad_digit : (more : List ℕ) → bad_line 1 ((text ++ c ∷ []) ++ more) ≡ bad_line (passed + 1) more
    bad_digit more = bad_at more ∙ rw (digit, other) refl

    ends_digit : (more : List ℕ) → digit_line 1 1 ((text ++ c ∷ []) ++ more) ≡ digit_line (passed + 1) (passed + 1) more
    ends_digit more = ends_at more ∙ rw (digit, other) refl

    pub first_digit : half ≡ None → HasDigits (text ++ c ∷ []) bytes (Some c) passed (passed + 1)
    first_digit none = record {
      digits = λ more. digits_at more ∙ ap (λ h. option_map (λ others. bytes ++ others) (hex_bytes (half_digit h ++ without_space (c ∷ more)))) none
          ∙ ap (λ w. option_map (λ others. bytes ++ others) (hex_bytes w)) (keep c more (hex-space c digit));
      bad = bad_digit;
      ends = ends_digit;
    }

    pub second_digit : (high byte : ℕ) (longer : List ℕ) → half ≡ Some high → is_hex high ≡ true → byte ≡ pair_value high c → longer ≡ bytes ++ byte ∷ [] →
        HasDigits (text ++ c ∷ []) longer None passed (passed + 1)
    second_digit high byte longer some first value pushed = record {
      digits = λ more. digits_at more ∙ ap (λ h. option_map (λ others. bytes ++ others) (hex_bytes (half_digit h ++ without_space (c ∷ more)))) some
          ∙ ap (λ w. option_map (λ others. bytes ++ others) (hex_bytes (high ∷ w))) (keep c more (hex-space c digit))
          ∙ ap (option_map (λ others. bytes ++ others)) (hex_bytes-some high c (without_space more) (rw (first, digit) refl))
          ∙ more_in_front bytes (pair_value high c) (hex_bytes (without_space more))
          ∙ ap (λ b. option_map (λ others. b ++ others) (hex_bytes (without_space more))) (sym (pushed ∙ ap (λ v. bytes ++ v ∷ []) value));
      bad = bad_digit;
      ends = ends_digit;
    }

  -- a byte that doesn't belong
  pub bad_byte : is_hex c ≡ false → is_space c ≡ false → (rest : List ℕ) → plain_answer ((text ++ c ∷ []) ++ rest) ≡ Err (BadPair (passed + 1))
  bad_byte other apart rest = rw (none, first) refl
    where
      no_bytes : (h : Option ℕ) → hex_bytes (half_digit h ++ c ∷ without_space rest) ≡ None
      no_bytes None = alone (without_space rest)
        where
          alone : (later : List ℕ) → hex_bytes (c ∷ later) ≡ None
          alone [] = refl
          alone (d ∷ later) = hex_bytes-none c d later (rw other refl)
      no_bytes (Some high) = hex_bytes-none high c (without_space rest) (both (is_hex high))
        where
          both : (b : Bool) → (b && is_hex c) ≡ false
          both true = other
          both false = refl

      none : hex_bytes (without_space ((text ++ c ∷ []) ++ rest)) ≡ None
      none = digits_at rest ∙ ap (λ w. option_map (λ others. bytes ++ others) (hex_bytes (half_digit half ++ w))) (keep c rest apart) ∙ ap (option_map (λ others. bytes ++ others)) (no_bytes half)

      first : bad_line 1 ((text ++ c ∷ []) ++ rest) ≡ Some (passed + 1)
      first = bad_at rest ∙ rw (other, apart) refl

-- a digit is no newline
pub digit_not_newline : (c : ℕ) → is_hex c ≡ true → eqb c 10 ≡ false
digit_not_newline c digit = go (eqb c 10) refl
  where
    go : (b : Bool) → eqb c 10 ≡ b → b ≡ false
    go false e = refl
    go true e =
        let same : c ≡ 10 = eqb-true c 10 e in
        let wrong : is_hex 10 ≡ true = subst (λ n. is_hex n ≡ true) same digit in
        cc

-- a pair more
one_pair : (text bytes : List ℕ) (passed last high low : ℕ) → HasDigits text bytes None passed last → is_hex high ≡ true → is_hex low ≡ true →
    HasDigits (text ++ high ∷ low ∷ []) (bytes ++ pair_value high low ∷ []) None passed (passed + 1)
one_pair text bytes passed last high low was first second =
    let half = first_digit text bytes None passed last high was first (digit_not_newline high first) refl in
    subst (λ t. HasDigits t (bytes ++ pair_value high low ∷ []) None passed (passed + 1)) (append_assoc text (high ∷ []) (low ∷ []))
    (second_digit (text ++ high ∷ []) bytes (Some high) passed (passed + 1) low half second (digit_not_newline low second) high (pair_value high low)
    (bytes ++ pair_value high low ∷ []) refl first refl refl)

-- pairs more: there are some, or the last digit is in this line already
pairs_more : (text bytes run more : List ℕ) (passed last : ℕ) → HasDigits text bytes None passed last → hex_bytes run ≡ Some more →
    (0 < length run) ⊎ (last ≡ passed + 1) → HasDigits (text ++ run) (bytes ++ more) None passed (passed + 1)
pairs_more text bytes [] more passed last was h (inl some) = absurd (omega (arith, some))
pairs_more text bytes [] more passed last was h (inr here) =
    let none : [] ≡ more = cc h in
    rw (append-nil text, ← none, append-nil bytes, ← here) was
pairs_more text bytes (c ∷ []) more passed last was h in_line = cc h
pairs_more text bytes (high ∷ low ∷ run) more passed last was h in_line =
    let first = byte_of high low run more h in
    let two = and_true (is_hex high) (is_hex low) first.0 in
    let later = pairs_more (text ++ high ∷ low ∷ []) (bytes ++ pair_value high low ∷ []) run first.1.0 passed (passed + 1)
    (one_pair text bytes passed last high low was two.0 two.1) first.1.1 (inr refl) in
    subst (λ t. HasDigits t (bytes ++ more) None passed (passed + 1)) (append_assoc text (high ∷ low ∷ []) run)
    (subst (λ b. HasDigits ((text ++ high ∷ low ∷ []) ++ run) b None passed (passed + 1))
    (append_assoc bytes (pair_value high low ∷ []) first.1.0 ∙ ap (λ b. bytes ++ b) first.1.2) later)

-- the same where half a pair may have been read before
pub pairs_taken : (text bytes run more longer : List ℕ) (half : Option ℕ) (passed last : ℕ) → half ≡ None → HasDigits text bytes half passed last →
    hex_bytes run ≡ Some more → 0 < length run → longer ≡ bytes ++ more → HasDigits (text ++ run) longer half passed (passed + 1)
pairs_taken text bytes run more longer half passed last none was h some pushed =
    rw (none, pushed) (pairs_more text bytes run more passed last (subst (λ d. HasDigits text bytes d passed last) none was) h (inl some))

-- at the end of the text
module _ (text bytes : List ℕ) (passed last : ℕ) where
  whole : text ++ [] ≡ text
  whole = append-nil text

  pub plain_end : HasDigits text bytes None passed last → plain_answer text ≡ Ok bytes
  plain_end was =
      let all : hex_bytes (without_space text) ≡ Some bytes =
      ap (λ t. hex_bytes (without_space t)) (sym whole) ∙ was.digits [] ∙ ap Some (append-nil bytes) in
      rw all refl

  pub odd_end : (high : ℕ) → HasDigits text bytes (Some high) passed last → plain_answer text ≡ Err (OddDigits last)
  odd_end high was =
      let none : hex_bytes (without_space text) ≡ None = ap (λ t. hex_bytes (without_space t)) (sym whole) ∙ was.digits [] in
      let fine : bad_line 1 text ≡ None = ap (bad_line 1) (sym whole) ∙ was.bad [] in
      let ends : digit_line 1 1 text ≡ last = ap (digit_line 1 1) (sym whole) ∙ was.ends [] in
      rw (none, fine, ends) refl

-- what is known of a text, by the fault that is kept
pub digits_of_read : {A : Type 0} (text : List ℕ) (read : DigitsRead A) → read.fault ≡ None → HasReadPlain text (plain_view read) → HasDigits text read.bytes.items read.half read.passed read.last
digits_of_read text read none is = subst (HasReadPlainBy text (plain_view read)) none is

pub read_of_digits : {A : Type 0} (text : List ℕ) (read : DigitsRead A) → read.fault ≡ None → HasDigits text read.bytes.items read.half read.passed read.last → HasReadPlain text (plain_view read)
read_of_digits text read none has = subst (HasReadPlainBy text (plain_view read)) (sym none) has

pub read_of_fault : {A : Type 0} (text : List ℕ) (read : DigitsRead A) (fault : ReadFault) → read.fault ≡ Some fault →
    (fault ≡ NoMemory) ⊎ ((rest : List ℕ) → plain_answer (text ++ rest) ≡ Err fault) → HasReadPlain text (plain_view read)
read_of_fault text read fault known has = subst (HasReadPlainBy text (plain_view read)) (sym known) has

pub fault_stays : {A : Type 0} (text more : List ℕ) (read : DigitsRead A) (fault : ReadFault) → read.fault ≡ Some fault → HasReadPlain text (plain_view read) → HasReadPlain (text ++ more) (plain_view read)
fault_stays text more read fault known is = read_of_fault (text ++ more) read fault known (go (subst (HasReadPlainBy text (plain_view read)) known is))
  where
    go : (fault ≡ NoMemory) ⊎ ((rest : List ℕ) → plain_answer (text ++ rest) ≡ Err fault) → (fault ≡ NoMemory) ⊎ ((rest : List ℕ) → plain_answer ((text ++ more) ++ rest) ≡ Err fault)
    go (inl none) = inl none
    go (inr all) = inr (λ rest. ap plain_answer (append_assoc text more rest) ∙ all (more ++ rest))

pub fault_at_end : {A : Type 0} (text : List ℕ) (read : DigitsRead A) (fault : ReadFault) → read.fault ≡ Some fault → HasReadPlain text (plain_view read) → IsPlainFault text fault
fault_at_end text read fault known is = go (subst (HasReadPlainBy text (plain_view read)) known is)
  where
    go : (fault ≡ NoMemory) ⊎ ((rest : List ℕ) → plain_answer (text ++ rest) ≡ Err fault) → IsPlainFault text fault
    go (inl none) = inl none
    go (inr all) = inr (ap plain_answer (sym (append-nil text)) ∙ all [])

pub half_is_digit : (half : Option ℕ) (high : ℕ) → half ≡ Some high → IfSome half (λ d. IsTrue (is_hex d)) → IsTrue (is_hex high)
half_is_digit half high is all = subst (λ h. IfSome h (λ d. IsTrue (is_hex d))) is all

-- at the end, by whether half a pair is left
pub half_left : (text bytes : List ℕ) (passed last : ℕ) (half : Option ℕ) → is_some half ≡ true → HasDigits text bytes half passed last → plain_answer text ≡ Err (OddDigits last)
half_left text bytes passed last None e was = cc
half_left text bytes passed last (Some high) e was = odd_end text bytes passed last high was

pub none_left : (text bytes : List ℕ) (passed last : ℕ) (half : Option ℕ) → is_some half ≡ false → HasDigits text bytes half passed last → plain_answer text ≡ Ok bytes
none_left text bytes passed last None e was = plain_end text bytes passed last was
none_left text bytes passed last (Some high) e was = cc

-- nothing more
pub nothing_more : {A : Type 0} (text : List ℕ) (read : DigitsRead A) → HasReadPlain text (plain_view read) → HasReadPlain (text ++ []) (plain_view read)
nothing_more text read is = rw (append-nil text) is
