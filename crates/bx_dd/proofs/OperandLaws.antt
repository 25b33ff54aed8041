-- Operands are what their form says.
use Rattle.std.proofs.Common.{◌≡◌, ◌≢◌, ◌⊎◌, ℕ, zero, suc, ◌+◌, ◌-◌, ◌^◌, ◌<◌, ◌≤◌, Bool, true, false, not, cond, ◌&&◌, ◌||◌, eqb, ltb, Option, None, Some, Result, Ok, Err, List, [], ◌∷◌, ◌++◌, length, get_or, take, drop, slice_get, unwrap_or, codes, All, IsTrue, refl, arith, sym, ap, subst, ◌∙◌, inl, inr, ⊎_elim, append_assoc, append-nil, length-append}
use Rattle.std.specs.List.{prefix_len, position_or_len, list_all, list_any}
use Rattle.std.specs.Option.{option_map, option_and_then}
use Rattle.std.specs.Result.{result_ok}
use Rattle.std.specs.Str.{bytes_eq}
use Rattle.std.proofs.lemmas.Bool.{eqb-true, eqb-false, ne_eqb, eq-eqb, ltb-true, ltb-false, lt-ltb, le-ltb, cases_lt, false≢true}
use Rattle.std.proofs.lemmas.List.{take-append-drop, drop_more, get_or-take, get_or_at, get_or_append_left, length-take-le, take_at}
use Rattle.std.proofs.lemmas.List.Sums.{prefix_len_is, prefix_len_passes, prefix_len_stops}
use Rattle.std.proofs.lemmas.Slice.Eq.{bytes_eq-Decides}
use Rattle.std.proofs.Math.Seq.{drop-append-add}
use Rattle.bx_text.specs.declared.number.size.SizeFault.{SizeFault}
use Rattle.bx_text.specs.declared.number.size.SizeFault.TheVariants.{Bad, TooLarge}
use Rattle.bx_dd.specs.NumberGrammar.{IsNumberOf}
use Rattle.bx_dd.proofs.NumberLaws.{number_has_form}
use Rattle.bx_dd.specs.declared.fault.DdFault.{DdFault}
use Rattle.bx_dd.specs.declared.fault.DdFault.TheVariants.{UnknownOperand, BadNumber, NumberTooLarge, ZeroSize, Repeated}
use Rattle.bx_dd.specs.declared.operands.Kind.{Kind}
use Rattle.bx_dd.specs.declared.operands.Kind.TheVariants.{File, Size, Number, Conversions, Flags, Reports}
use Rattle.bx_dd.specs.Number.{has_bytes, product_number}
use Rattle.bx_dd.specs.Operands.{is_operand, operand_name, operand_value, kind_of, is_conversion, is_flag, is_report, value_fault, is_given, operand_fault, first_fault, given, number_given, converts}
use Rattle.bx_dd.specs.private.Operands.{parts_of, is_equals, is_named, kind_fault, number_fault, size_fault}
use Rattle.bx_dd.specs.OperandGrammar.{IsOperand, IsAmong, AreConversions, AreFlags, IsSoundValue, IsValueFault, IsSoundBehind, IsOperandFault, OperandHasForm, AreSoundBehind, OperandsHaveForm, Says, WordsAreAskedFor}

and_true : (a b : Bool) → (a && b) ≡ true → (a ≡ true) × (b ≡ true)
and_true true b h = (refl, h)
and_true false b h = cc

-- ---- a word by its name and its value

operand_of : (word : List ℕ) → is_operand word ≡ true → IsOperand word (operand_name word) (operand_value word)
operand_of word is =
    let p = λ (b : ℕ). not (is_equals b) in
    let k = prefix_len p word in
    let inside : k < length word = ltb-true k (length word) is in
    let here : get_or word k 0 ≡ 61 = equals (get_or word k 0) (prefix_len_stops p word 0 inside) in
    let size : length (take k word) ≡ k = length-take-le k word (omega arith) in
    let rest : drop k word ≡ 61 ∷ drop (k + 1) word = drop_more word k 0 inside ∙ ap (λ c. c ∷ drop (k + 1) word) here in (
      sym (take-append-drop k word) ∙ ap (λ r. take k word ++ r) rest,
      λ j d within. rw (get_or-take k word j d (omega (arith, size))) (differs (get_or word j d) (prefix_len_passes p word j d (omega (arith, size)))),
    )
  where
    equals : (c : ℕ) → not (eqb c 61) ≡ false → c ≡ 61
    equals c e = go (eqb c 61) refl e
      where
        go : (b : Bool) → eqb c 61 ≡ b → not b ≡ false → c ≡ 61
        go true same h = eqb-true c 61 same
        go false same h = cc

    differs : (c : ℕ) → not (eqb c 61) ≡ true → c ≢ 61
    differs c e same = false≢true (ap not (sym (eq-eqb c 61 same)) ∙ e)

operand_back : (word name value : List ℕ) → IsOperand word name value → (is_operand word ≡ true) × ((operand_name word ≡ name) × (operand_value word ≡ value))
operand_back word name value is =
    let p = λ (b : ℕ). not (is_equals b) in
    let whole = name ++ 61 ∷ value in
    let n = length name in
    let long : length whole ≡ n + suc (length value) = length-append name (61 ∷ value) in
    let count : prefix_len p whole ≡ n = prefix_len_is p whole n 0 (omega (arith, long))
    (λ j lt. rw (get_or_append_left name (61 ∷ value) 0 j lt) (ap not (ne_eqb (get_or name j 0) 61 (is.1 j 0 lt))))
    (λ inside. rw (get_or_at name 61 value 0 n refl) refl) in
    let found : ltb n (length whole) ≡ true = lt-ltb n (length whole) (omega (arith, long)) in (
      rw (is.0, count) found,
      (rw (is.0, count) (take_at name (61 ∷ value) n refl), rw (is.0, count) (drop-append-add name (61 ∷ value) 1)),
    )

named_of : (name word : List ℕ) → is_named name word ≡ true → IsOperand word name (operand_value word)
named_of name word is =
    let two = and_true (is_operand word) (bytes_eq (operand_name word) name) is in
    subst (λ n. IsOperand word n (operand_value word)) ((bytes_eq-Decides (operand_name word) name).0 two.1) (operand_of word two.0)

named_back : (name word value : List ℕ) → IsOperand word name value → is_named name word ≡ true
named_back name word value is =
    let back = operand_back word name value is in
    let same : bytes_eq (operand_name word) name ≡ true = (bytes_eq-Decides (operand_name word) name).1 back.1.0 in
    rw (back.0, same) refl

-- ---- the first word of a name

-- no word of them passes
abbrev NonePasses : (List ℕ → Bool) → List (List ℕ) → Type 0
NonePasses p words = (front rest : List (List ℕ)) → (word : List ℕ) → words ≡ front ++ word ∷ rest → p word ≡ false

record FirstAt (p : List ℕ → Bool) (words : List (List ℕ)) : Type 0 where
  front : List (List ℕ)
  rest : List (List ℕ)
  word : List ℕ
  stands : words ≡ front ++ word ∷ rest
  passes : p word ≡ true
  none : NonePasses p front

cons_same : (x y : List ℕ) (xs ys : List (List ℕ)) → x ∷ xs ≡ y ∷ ys → (x ≡ y) × (xs ≡ ys)
cons_same x y xs ys e = (cc, cc)

none_empty : (p : List ℕ → Bool) → NonePasses p []
none_empty p [] rest word e = cc
none_empty p (x ∷ front) rest word e = cc

none_more : (p : List ℕ → Bool) (x : List ℕ) (xs : List (List ℕ)) → p x ≡ false → NonePasses p xs → NonePasses p (x ∷ xs)
none_more p x xs here later [] rest word e = ap p (sym (cons_same x word xs rest e).0) ∙ here
none_more p x xs here later (y ∷ front) rest word e = later front rest word (cons_same x y xs (front ++ word ∷ rest) e).1

none_later : (p : List ℕ → Bool) (x : List ℕ) (xs : List (List ℕ)) → NonePasses p (x ∷ xs) → NonePasses p xs
none_later p x xs none front rest word e = none (x ∷ front) rest word (ap (λ l. x ∷ l) e)

find : (p : List ℕ → Bool) (words : List (List ℕ)) → FirstAt p words ⊎ NonePasses p words
find p [] = inr (none_empty p)
find p (x ∷ xs) = go (p x) refl (find p xs)
  where
    go : (b : Bool) → p x ≡ b → FirstAt p xs ⊎ NonePasses p xs → FirstAt p (x ∷ xs) ⊎ NonePasses p (x ∷ xs)
    go true e later = inl (record { front = []; rest = xs; word = x; stands = refl; passes = e; none = none_empty p })
    go false e (inl f) = inl (record {
      front = x ∷ f.front;
      rest = f.rest;
      word = f.word;
      stands = ap (λ l. x ∷ l) f.stands;
      passes = f.passes;
      none = none_more p x f.front e f.none;
    })
    go false e (inr none) = inr (none_more p x xs e none)

-- where it stands
first_place : (p : List ℕ → Bool) (front rest : List (List ℕ)) (word : List ℕ) → NonePasses p front → p word ≡ true → position_or_len p (front ++ word ∷ rest) ≡ length front
first_place p [] rest word none passes = rw passes refl
first_place p (x ∷ front) rest word none passes =
    let fails : p x ≡ false = none [] front x refl in
    rw fails (omega (arith, first_place p front rest word (none_later p x front none) passes))

no_place : (p : List ℕ → Bool) (words : List (List ℕ)) → NonePasses p words → position_or_len p words ≡ length words
no_place p [] none = refl
no_place p (x ∷ xs) none =
    let fails : p x ≡ false = none [] xs x refl in
    rw fails (omega (arith, no_place p xs (none_later p x xs none)))

got_at : (front rest : List (List ℕ)) (word : List ℕ) → slice_get (front ++ word ∷ rest) (length front) ≡ Some word
got_at [] rest word = refl
got_at (x ∷ front) rest word = got_at front rest word

got_past : (words : List (List ℕ)) → slice_get words (length words) ≡ None
got_past [] = refl
got_past (x ∷ xs) = got_past xs

-- names that aren't among words
none_named : (name : List ℕ) (words : List (List ℕ)) → (IsAmong name words → ⊥) → NonePasses (is_named name) words
none_named name words never front rest word e = go (is_named name word) refl
  where
    go : (b : Bool) → is_named name word ≡ b → b ≡ false
    go true is = absurd (never (front, rest, word, operand_value word, e, named_of name word is))
    go false is = refl

not_among : (name : List ℕ) (words : List (List ℕ)) → NonePasses (is_named name) words → IsAmong name words → ⊥
not_among name words none is = false≢true (sym (none is.0 is.1 is.2 is.4) ∙ named_back name is.2 is.3 is.5)

given_is : (name : List ℕ) (words : List (List ℕ)) → ((is_given name words ≡ true) × IsAmong name words) ⊎ ((is_given name words ≡ false) × (IsAmong name words → ⊥))
given_is name words = ⊎_elim (λ f. inl (found f)) (λ none. inr (missing none)) (find (is_named name) words)
  where
    found : FirstAt (is_named name) words → (is_given name words ≡ true) × IsAmong name words
    found f =
        let place : position_or_len (is_named name) words ≡ length f.front = ap (position_or_len (is_named name)) f.stands ∙ first_place (is_named name) f.front f.rest f.word f.none f.passes in
        let long : length words ≡ length f.front + suc (length f.rest) = ap length f.stands ∙ length-append f.front (f.word ∷ f.rest) in (
          lt-ltb (position_or_len (is_named name) words) (length words) (omega (arith, place, long)),
          (f.front, f.rest, f.word, operand_value f.word, f.stands, named_of name f.word f.passes),
        )

    missing : NonePasses (is_named name) words → (is_given name words ≡ false) × (IsAmong name words → ⊥)
    missing none = (
      le-ltb (position_or_len (is_named name) words) (length words) (omega (arith, no_place (is_named name) words none)),
      not_among name words none,
    )

given_true : (name : List ℕ) (words : List (List ℕ)) → IsAmong name words → is_given name words ≡ true
given_true name words is = ⊎_elim (λ yes_it. yes_it.0) (λ never. absurd (never.1 is)) (given_is name words)

given_false : (name : List ℕ) (words : List (List ℕ)) → (IsAmong name words → ⊥) → is_given name words ≡ false
given_false name words never = ⊎_elim (λ yes_it. absurd (never yes_it.1)) (λ not_it. not_it.0) (given_is name words)

-- ---- numbers

number_ok : (value : List ℕ) (n : ℕ) → IsNumberOf value n → n ≤ 2 ^ 40 - 1 → product_number value ≡ Ok n
number_ok value n is few = ((number_has_form value).0 n).1 (is, few)

number_large : (value : List ℕ) (n : ℕ) → IsNumberOf value n → 2 ^ 40 - 1 < n → product_number value ≡ Err TooLarge
number_large value n is many = (number_has_form value).1.1 (n, is, many)

number_bad : (value : List ℕ) → ((n : ℕ) → IsNumberOf value n → ⊥) → product_number value ≡ Err Bad
number_bad value never = (number_has_form value).2.1 never

number_is : (value : List ℕ) (r : Result ℕ SizeFault) → product_number value ≡ r →
    ((n : ℕ) × (r ≡ Ok n) × IsNumberOf value n × (n ≤ 2 ^ 40 - 1))
    ⊎ (((n : ℕ) × (r ≡ Err TooLarge) × IsNumberOf value n × (2 ^ 40 - 1 < n)) ⊎ ((r ≡ Err Bad) × ((n : ℕ) → IsNumberOf value n → ⊥)))
number_is value (Ok n) e = let is = ((number_has_form value).0 n).0 e in inl (n, refl, is.0, is.1)
number_is value (Err TooLarge) e = let is = (number_has_form value).1.0 e in inr (inl (is.0, refl, is.1, is.2))
number_is value (Err Bad) e = inr (inr (refl, (number_has_form value).2.0 e))

-- ---- faults by form

-- a fault that is found or none, and both decide
abbrev Settled : Option DdFault → Type 0 → (DdFault → Type 0) → Type 0
Settled o S F = ((o ≡ None) × S) ⊎ ((fault : DdFault) × (o ≡ Some fault) × F fault)

some_same : (x y : DdFault) → ◌≡◌ {A = Option DdFault} (Some x) (Some y) → x ≡ y
some_same x y e = cc

none_some : (x : DdFault) → ◌≡◌ {A = Option DdFault} None (Some x) → ⊥
none_some x e = cc

to_sound : (o : Option DdFault) (S : Type 0) (F : DdFault → Type 0) → Settled o S F → o ≡ None → S
to_sound o S F (inl fine) e = fine.1
to_sound o S F (inr bad) e = absurd (none_some bad.0 (sym e ∙ bad.1))

to_fault : (o : Option DdFault) (S : Type 0) (F : DdFault → Type 0) → Settled o S F → (fault : DdFault) → o ≡ Some fault → F fault
to_fault o S F (inl fine) fault e = absurd (none_some fault (sym fine.0 ∙ e))
to_fault o S F (inr bad) fault e = subst F (some_same bad.0 fault (sym bad.1 ∙ e)) bad.2

-- ---- a value

no_list : (xs : List ℕ) → eqb (length xs) 0 ≡ true → xs ≡ []
no_list [] e = refl
no_list (x ∷ xs) e = absurd (omega (arith, eqb-true (length (x ∷ xs)) 0 e))

all_known : (is : List ℕ → Bool) (parts : List (List ℕ)) → list_all is parts ≡ true → All (λ part. IsTrue (is part)) parts
all_known is [] e = λ k d inside. absurd (omega arith)
all_known is (x ∷ xs) e =
    let two = and_true (is x) (list_all is xs) e in
    λ k d inside. at k d inside two.0 (all_known is xs two.1)
  where
    at : (k : ℕ) (d : List ℕ) → k < suc (length xs) → is x ≡ true → All (λ part. IsTrue (is part)) xs → is (get_or (x ∷ xs) k d) ≡ true
    at zero d inside first later = first
    at (suc k) d inside first later = later k d (omega arith)

known_all : (is : List ℕ → Bool) (parts : List (List ℕ)) → All (λ part. IsTrue (is part)) parts → list_all is parts ≡ true
known_all is [] are = refl
known_all is (x ∷ xs) are =
    let first : is x ≡ true = are 0 [] (omega arith) in
    let later : list_all is xs ≡ true = known_all is xs (λ k d inside. are (suc k) d (omega arith)) in
    rw (first, later) refl

-- a value that is known or not
known_is : (at : ℕ) (known : Bool) (S : Type 0) → (known ≡ true → S) → (S → known ≡ true)
    → Settled (cond known None (Some (UnknownOperand at))) S (λ fault. (fault ≡ UnknownOperand at) × (S → ⊥))
known_is at true S sound back = inl (refl, sound refl)
known_is at false S sound back = inr (UnknownOperand at, refl, (refl, λ is. false≢true (back is)))

value_is : (at : ℕ) (kind : Kind) (value : List ℕ) → Settled (value_fault at kind value) (IsSoundValue kind value) (IsValueFault at kind value)
value_is at File value = go (eqb (length value) 0) refl
  where
    go : (b : Bool) → eqb (length value) 0 ≡ b → Settled (cond b (Some (UnknownOperand at)) None) (value ≢ []) (λ fault. (fault ≡ UnknownOperand at) × (value ≡ []))
    go true e = inr (UnknownOperand at, refl, (refl, no_list value e))
    go false e = inl (refl, λ none. eqb-false (length value) 0 e (ap length none))
value_is at Conversions value = known_is at (list_all is_conversion (parts_of value)) (AreConversions value) (all_known is_conversion (parts_of value)) (known_all is_conversion (parts_of value))
value_is at Flags value = known_is at (list_all is_flag (parts_of value)) (AreFlags value) (all_known is_flag (parts_of value)) (known_all is_flag (parts_of value))
value_is at Reports value = known_is at (is_report value) (IsTrue (is_report value)) (λ is. is) (λ is. is)
value_is at Number value = by_bytes (has_bytes value) refl
  where
    Answer : Option DdFault → Type 0
    Answer o = Settled o (IsSoundValue Number value) (IsValueFault at Number value)

    fine : has_bytes value ≡ false → ((n : ℕ) × (product_number value ≡ Ok n) × IsNumberOf value n × (n ≤ 2 ^ 40 - 1)) → Answer (number_fault at false (product_number value))
    fine e is = inl (ap (number_fault at false) is.1, (e, (is.0, is.2, is.3)))

    large : has_bytes value ≡ false → ((n : ℕ) × (product_number value ≡ Err TooLarge) × IsNumberOf value n × (2 ^ 40 - 1 < n)) → Answer (number_fault at false (product_number value))
    large e is = inr (NumberTooLarge at, ap (number_fault at false) is.1, inr (refl, e, (is.0, is.2, is.3)))

    bad : ((product_number value ≡ Err Bad) × ((n : ℕ) → IsNumberOf value n → ⊥)) → Answer (number_fault at false (product_number value))
    bad is = inr (BadNumber at, ap (number_fault at false) is.0, inl (refl, inr is.1))

    by_bytes : (b : Bool) → has_bytes value ≡ b → Answer (number_fault at b (product_number value))
    by_bytes true e = inr (BadNumber at, refl, inl (refl, inl e))
    by_bytes false e = ⊎_elim (fine e) (λ other. ⊎_elim (large e) bad other) (number_is value (product_number value) refl)
value_is at (Size most) value = ⊎_elim fine (λ other. ⊎_elim large bad other) (number_is value (product_number value) refl)
  where
    zero_or : (n : ℕ) → product_number value ≡ Ok n → IsNumberOf value n → n ≤ most → n ≤ 2 ^ 40 - 1 → (b : Bool) → eqb n 0 ≡ b → Settled (cond b (Some (ZeroSize at)) None) (IsSoundValue (Size most) value) (IsValueFault at (Size most) value)
    zero_or n e is few small true z = inr (ZeroSize at, refl, inr (inr (refl, subst (IsNumberOf value) (eqb-true n 0 z) is)))
    zero_or n e is few small false z = inl (refl, (n, is, omega (arith, eqb-false n 0 z), few, small))

    by_most : (n : ℕ) → product_number value ≡ Ok n → IsNumberOf value n → n ≤ 2 ^ 40 - 1 → (b : Bool) → ltb most n ≡ b →
        Settled (cond b (Some (NumberTooLarge at)) (cond (eqb n 0) (Some (ZeroSize at)) None)) (IsSoundValue (Size most) value) (IsValueFault at (Size most) value)
    by_most n e is small true many = inr (NumberTooLarge at, refl, inr (inl (refl, (n, is, inl (ltb-true most n many)))))
    by_most n e is small false few = zero_or n e is (ltb-false most n few) small (eqb n 0) refl

    fine : ((n : ℕ) × (product_number value ≡ Ok n) × IsNumberOf value n × (n ≤ 2 ^ 40 - 1)) → Settled (size_fault at most (product_number value)) (IsSoundValue (Size most) value) (IsValueFault at (Size most) value)
    fine is = subst (λ r. Settled (size_fault at most r) (IsSoundValue (Size most) value) (IsValueFault at (Size most) value)) (sym is.1) (by_most is.0 is.1 is.2 is.3 (ltb most is.0) refl)

    large : ((n : ℕ) × (product_number value ≡ Err TooLarge) × IsNumberOf value n × (2 ^ 40 - 1 < n)) →
        Settled (size_fault at most (product_number value)) (IsSoundValue (Size most) value) (IsValueFault at (Size most) value)
    large is = inr (NumberTooLarge at, ap (size_fault at most) is.1, inr (inl (refl, (is.0, is.2, inr is.3))))

    bad : ((product_number value ≡ Err Bad) × ((n : ℕ) → IsNumberOf value n → ⊥)) → Settled (size_fault at most (product_number value)) (IsSoundValue (Size most) value) (IsValueFault at (Size most) value)
    bad is = inr (BadNumber at, ap (size_fault at most) is.0, inl (refl, is.1))

value_sound : (at : ℕ) (kind : Kind) (value : List ℕ) → IsSoundValue kind value → value_fault at kind value ≡ None
value_sound at File value is = let e : eqb (length value) 0 ≡ false = ne_eqb (length value) 0 (λ z. is (no_list value (eq-eqb (length value) 0 z))) in rw e refl
value_sound at Conversions value is = rw (known_all is_conversion (parts_of value) is) refl
value_sound at Flags value is = rw (known_all is_flag (parts_of value) is) refl
value_sound at Reports value is = rw is refl
value_sound at Number value (none, (n, is, few)) = ap (λ b. number_fault at b (product_number value)) none ∙ ap (number_fault at false) (number_ok value n is few)
value_sound at (Size most) value is =
    let few : ltb most is.0 ≡ false = le-ltb most is.0 is.3 in
    let some : eqb is.0 0 ≡ false = ne_eqb is.0 0 (λ z. absurd (omega (arith, z, is.2))) in
    ap (size_fault at most) (number_ok value is.0 is.1 is.4) ∙ rw (few, some) refl

value_faulty : (at : ℕ) (kind : Kind) (value : List ℕ) (fault : DdFault) → IsValueFault at kind value fault → value_fault at kind value ≡ Some fault
value_faulty at File value fault is = rw (is.1, is.0) refl
value_faulty at Conversions value fault is = ⊎_elim (λ fine. absurd (is.1 fine.1)) (λ bad. bad.1 ∙ ap Some (bad.2.0 ∙ sym is.0)) (value_is at Conversions value)
value_faulty at Flags value fault is = ⊎_elim (λ fine. absurd (is.1 fine.1)) (λ bad. bad.1 ∙ ap Some (bad.2.0 ∙ sym is.0)) (value_is at Flags value)
value_faulty at Reports value fault is = ⊎_elim (λ fine. absurd (is.1 fine.1)) (λ bad. bad.1 ∙ ap Some (bad.2.0 ∙ sym is.0)) (value_is at Reports value)
value_faulty at Number value fault (inl (is, inl some)) = ap (λ b. number_fault at b (product_number value)) some ∙ ap Some (sym is)
value_faulty at Number value fault (inl (is, inr never)) =
    ⊎_elim (λ fine. absurd (never fine.1.1.0 fine.1.1.1)) (λ bad. bad.1 ∙ ap Some (only bad.0 bad.2 ∙ sym is)) (value_is at Number value)
  where
    only : (found : DdFault) → IsValueFault at Number value found → found ≡ BadNumber at
    only found (inl bad) = bad.0
    only found (inr (large, none, (n, product, many))) = absurd (never n product)
value_faulty at Number value fault (inr (is, none, (n, product, many))) =
    ap (λ b. number_fault at b (product_number value)) none ∙ ap (number_fault at false) (number_large value n product many) ∙ ap Some (sym is)
value_faulty at (Size most) value fault (inl bad) = ap (size_fault at most) (number_bad value bad.1) ∙ ap Some (sym bad.0)
value_faulty at (Size most) value fault (inr (inr none)) =
    ap (size_fault at most) (number_ok value 0 none.1 (omega arith)) ∙ rw (le-ltb most 0 (omega arith), none.0) refl
value_faulty at (Size most) value fault (inr (inl large)) =
    ⊎_elim beyond (λ few. ⊎_elim (λ over. at_most (omega arith) over) (λ over. absurd (omega (arith, few, over))) large.1.2) (cases_lt (2 ^ 40 - 1) large.1.0)
  where
    beyond : 2 ^ 40 - 1 < large.1.0 → size_fault at most (product_number value) ≡ Some fault
    beyond many = ap (size_fault at most) (number_large value large.1.0 large.1.1 many) ∙ ap Some (sym large.0)

    at_most : large.1.0 ≤ 2 ^ 40 - 1 → most < large.1.0 → size_fault at most (product_number value) ≡ Some fault
    at_most few over = ap (size_fault at most) (number_ok value large.1.0 large.1.1 few) ∙ rw (lt-ltb most large.1.0 over, large.0) refl

-- ---- a word behind others

-- what is asked of an operand of this name
operand_as : (before : List (List ℕ)) (word name value : List ℕ) (kind : Kind) → IsOperand word name value → kind_of name ≡ Some kind →
    operand_fault before word ≡ cond (is_given name before) (Some (Repeated (length before + 1))) (value_fault (length before + 1) kind value)
operand_as before word name value kind is known = let back = operand_back word name value is in rw (back.0, back.1.0, back.1.1, known) refl

-- a word that is none
operand_unknown : (before : List (List ℕ)) (word : List ℕ) → ((name value : List ℕ) → (kind : Kind) → IsOperand word name value → kind_of name ≡ Some kind → ⊥) →
    operand_fault before word ≡ Some (UnknownOperand (length before + 1))
operand_unknown before word never = go (is_operand word) refl
  where
    known : (o : Option Kind) → kind_of (operand_name word) ≡ o → is_operand word ≡ true →
        kind_fault (length before + 1) o (is_given (operand_name word) before) (operand_value word) ≡ Some (UnknownOperand (length before + 1))
    known None e is = refl
    known (Some kind) e is = absurd (never (operand_name word) (operand_value word) kind (operand_of word is) e)

    go : (b : Bool) → is_operand word ≡ b →
        kind_fault (length before + 1) (cond b (kind_of (operand_name word)) None) (is_given (operand_name word) before) (operand_value word) ≡ Some (UnknownOperand (length before + 1))
    go false e = refl
    go true e = known (kind_of (operand_name word)) refl e

-- the word is an operand of a known name, or it isn't
is_known : (word : List ℕ) → ((name value : List ℕ) × (kind : Kind) × IsOperand word name value × (kind_of name ≡ Some kind))
    ⊎ ((name value : List ℕ) → (kind : Kind) → IsOperand word name value → kind_of name ≡ Some kind → ⊥)
is_known word = go (is_operand word) refl
  where
    no_kind : (kind : Kind) → ◌≡◌ {A = Option Kind} None (Some kind) → ⊥
    no_kind kind e = cc e

    known : (o : Option Kind) → kind_of (operand_name word) ≡ o → is_operand word ≡ true → ((name value : List ℕ) × (kind : Kind) × IsOperand word name value × (kind_of name ≡ Some kind))
        ⊎ ((name value : List ℕ) → (kind : Kind) → IsOperand word name value → kind_of name ≡ Some kind → ⊥)
    known (Some kind) e is = inl (operand_name word, operand_value word, kind, operand_of word is, e)
    known None e is = inr (λ name value kind has knows. no_kind kind (sym e ∙ ap kind_of (operand_back word name value has).1.0 ∙ knows))

    go : (b : Bool) → is_operand word ≡ b → ((name value : List ℕ) × (kind : Kind) × IsOperand word name value × (kind_of name ≡ Some kind))
        ⊎ ((name value : List ℕ) → (kind : Kind) → IsOperand word name value → kind_of name ≡ Some kind → ⊥)
    go true is = known (kind_of (operand_name word)) refl is
    go false e = inr (λ name value kind has knows. false≢true (sym e ∙ (operand_back word name value has).0))

operand_is : (before : List (List ℕ)) (word : List ℕ) → Settled (operand_fault before word) (IsSoundBehind before word) (IsOperandFault before word)
operand_is before word = ⊎_elim found (λ never. inr (UnknownOperand (length before + 1), operand_unknown before word never, inl (refl, never))) (is_known word)
  where
    found : ((name value : List ℕ) × (kind : Kind) × IsOperand word name value × (kind_of name ≡ Some kind)) →
        Settled (operand_fault before word) (IsSoundBehind before word) (IsOperandFault before word)
    found (name, value, kind, has, knows) = ⊎_elim repeated fresh (given_is name before)
      where
        repeated : ((is_given name before ≡ true) × IsAmong name before) → Settled (operand_fault before word) (IsSoundBehind before word) (IsOperandFault before word)
        repeated is =
            inr (Repeated (length before + 1), operand_as before word name value kind has knows ∙ rw is.0 refl, inr (name, value, kind, has, knows, inl (refl, is.1)))

        fresh : ((is_given name before ≡ false) × (IsAmong name before → ⊥)) → Settled (operand_fault before word) (IsSoundBehind before word) (IsOperandFault before word)
        fresh is =
            let now : operand_fault before word ≡ value_fault (length before + 1) kind value = operand_as before word name value kind has knows ∙ rw is.0 refl in
            ⊎_elim (λ fine. inl (now ∙ fine.0, (name, value, kind, has, knows, is.1, fine.1)))
            (λ bad. inr (bad.0, now ∙ bad.1, inr (name, value, kind, has, knows, inr (is.1, bad.2)))) (value_is (length before + 1) kind value)

operand_sound : (before : List (List ℕ)) (word : List ℕ) → IsSoundBehind before word → operand_fault before word ≡ None
operand_sound before word (name, value, kind, has, knows, never, is) =
    operand_as before word name value kind has knows ∙ rw (given_false name before never) (value_sound (length before + 1) kind value is)

operand_faulty : (before : List (List ℕ)) (word : List ℕ) (fault : DdFault) → IsOperandFault before word fault → operand_fault before word ≡ Some fault
operand_faulty before word fault (inl unknown) = operand_unknown before word unknown.1 ∙ ap Some (sym unknown.0)
operand_faulty before word fault (inr (name, value, kind, has, knows, inl repeated)) =
    operand_as before word name value kind has knows ∙ rw (given_true name before repeated.1, repeated.0) refl
operand_faulty before word fault (inr (name, value, kind, has, knows, inr bad)) =
    operand_as before word name value kind has knows ∙ rw (given_false name before bad.0) (value_faulty (length before + 1) kind value fault bad.1)

pub operand_has_form : OperandHasForm
operand_has_form before word =
    let is = operand_is before word in (
      (to_sound (operand_fault before word) (IsSoundBehind before word) (IsOperandFault before word) is, operand_sound before word),
      λ fault. (to_fault (operand_fault before word) (IsSoundBehind before word) (IsOperandFault before word) is fault, operand_faulty before word fault),
    )

-- ---- several words

abbrev IsFirstBehind : List (List ℕ) → List (List ℕ) → DdFault → Type 0
IsFirstBehind before words fault =
    (front rest : List (List ℕ)) × (word : List ℕ) × (words ≡ front ++ word ∷ rest) × AreSoundBehind before front × IsOperandFault (before ++ front) word fault

first_is : (before words : List (List ℕ)) → Settled (first_fault before words) (AreSoundBehind before words) (IsFirstBehind before words)
first_is before [] = inl (refl, tt)
first_is before (word ∷ words) = go (operand_is before word) (first_is (before ++ word ∷ []) words)
  where
    go : Settled (operand_fault before word) (IsSoundBehind before word) (IsOperandFault before word) →
        Settled (first_fault (before ++ word ∷ []) words) (AreSoundBehind (before ++ word ∷ []) words) (IsFirstBehind (before ++ word ∷ []) words) →
        Settled (first_fault before (word ∷ words)) (AreSoundBehind before (word ∷ words)) (IsFirstBehind before (word ∷ words))
    go (inr bad) later = inr (bad.0, rw bad.1 refl, ([], words, word, refl, tt, rw (append-nil before) bad.2))
    go (inl fine) (inl rest) = inl (rw fine.0 rest.0, (fine.1, rest.1))
    go (inl fine) (inr (fault, is, (front, rest, next, stands, are, faulty))) =
        let place : before ++ word ∷ front ≡ (before ++ word ∷ []) ++ front = sym (append_assoc before (word ∷ []) front) in
        inr (fault, rw fine.0 is, (word ∷ front, rest, next, ap (λ l. word ∷ l) stands, (fine.1, are), rw place faulty))

all_sound : (before words : List (List ℕ)) → AreSoundBehind before words → first_fault before words ≡ None
all_sound before [] are = refl
all_sound before (word ∷ words) are = rw (operand_sound before word are.0) (all_sound (before ++ word ∷ []) words are.1)

first_read : (before front rest : List (List ℕ)) (word : List ℕ) (fault : DdFault) → AreSoundBehind before front → IsOperandFault (before ++ front) word fault →
    first_fault before (front ++ word ∷ rest) ≡ Some fault
first_read before [] rest word fault are is =
    let here : operand_fault before word ≡ Some fault = operand_faulty before word fault (subst (λ b. IsOperandFault b word fault) (append-nil before) is) in
    rw here refl
first_read before (next ∷ front) rest word fault are is =
    let place : before ++ next ∷ front ≡ (before ++ next ∷ []) ++ front = sym (append_assoc before (next ∷ []) front) in
    rw (operand_sound before next are.0) (first_read (before ++ next ∷ []) front rest word fault are.1 (subst (λ b. IsOperandFault b word fault) place is))

pub operands_have_form : OperandsHaveForm
operands_have_form words =
    let is = first_is [] words in (
      (to_sound (first_fault [] words) (AreSoundBehind [] words) (IsFirstBehind [] words) is, all_sound [] words),
      λ fault. (
        to_fault (first_fault [] words) (AreSoundBehind [] words) (IsFirstBehind [] words) is fault,
        λ first. ap (first_fault []) first.3 ∙ first_read [] first.0 first.1 first.2 fault first.4 first.5,
      ),
    )

-- ---- what is asked for

given_at : (words : List (List ℕ)) (name value : List ℕ) → Says words name value → given name words ≡ Some value
given_at words name value (front, rest, word, stands, has, never) =
    let place = first_place (is_named name) front rest word (none_named name front never) (named_back name word value has) in
    let whole = front ++ word ∷ rest in
    let got : slice_get whole (position_or_len (is_named name) whole) ≡ Some word = ap (slice_get whole) place ∙ got_at front rest word in
    ap (given name) stands ∙ ap (option_map operand_value) got ∙ ap Some (operand_back word name value has).1.1

given_none : (words : List (List ℕ)) (name : List ℕ) → (IsAmong name words → ⊥) → given name words ≡ None
given_none words name never =
    ap (λ k. option_map operand_value (slice_get words k)) (no_place (is_named name) words (none_named name words never)) ∙ ap (option_map operand_value) (got_past words)

-- one is given, or none
says_or : (words : List (List ℕ)) (name : List ℕ) → ((value : List ℕ) × Says words name value) ⊎ (IsAmong name words → ⊥)
says_or words name =
    ⊎_elim (λ f. inl (operand_value f.word, (f.front, f.rest, f.word, f.stands, named_of name f.word f.passes, not_among name f.front f.none))) (λ none. inr (not_among name words none))
    (find (is_named name) words)

text_same : (x y : List ℕ) → ◌≡◌ {A = Option (List ℕ)} (Some x) (Some y) → x ≡ y
text_same x y e = cc

none_text : (x : List ℕ) → ◌≡◌ {A = Option (List ℕ)} None (Some x) → ⊥
none_text x e = cc

given_says : (words : List (List ℕ)) (name value : List ℕ) → given name words ≡ Some value → Says words name value
given_says words name value e =
    ⊎_elim (λ is. subst (Says words name) (text_same is.0 value (sym (given_at words name is.0 is.1) ∙ e)) is.1)
    (λ never. absurd (none_text value (sym (given_none words name never) ∙ e))) (says_or words name)

number_said : (words : List (List ℕ)) (name : List ℕ) (n : ℕ) → number_given name words ≡ Some n →
    (value : List ℕ) × Says words name value × IsNumberOf value n × (n ≤ 2 ^ 40 - 1)
number_said words name n e = ⊎_elim found (λ never. absurd (no_number (sym (ap (option_and_then (λ v. result_ok (product_number v))) (given_none words name never)) ∙ e))) (says_or words name)
  where
    no_number : ◌≡◌ {A = Option ℕ} None (Some n) → ⊥
    no_number h = cc h

    number_same : (m : ℕ) → ◌≡◌ {A = Option ℕ} (Some m) (Some n) → m ≡ n
    number_same m h = cc h

    found : ((value : List ℕ) × Says words name value) → (value : List ℕ) × Says words name value × IsNumberOf value n × (n ≤ 2 ^ 40 - 1)
    found (value, says) =
        let now : result_ok (product_number value) ≡ Some n = sym (ap (option_and_then (λ v. result_ok (product_number v))) (given_at words name value says)) ∙ e in
        ⊎_elim (λ is. fine is now)
        (λ other. ⊎_elim (λ large. absurd (no_number (sym (ap result_ok large.1) ∙ now))) (λ bad. absurd (no_number (sym (ap result_ok bad.0) ∙ now))) other)
        (number_is value (product_number value) refl)
      where
        fine : ((m : ℕ) × (product_number value ≡ Ok m) × IsNumberOf value m × (m ≤ 2 ^ 40 - 1)) → result_ok (product_number value) ≡ Some n →
            (value : List ℕ) × Says words name value × IsNumberOf value n × (n ≤ 2 ^ 40 - 1)
        fine (m, e, is, few) now = let same = number_same m (sym (ap result_ok e) ∙ now) in (value, says, subst (IsNumberOf value) same is, omega (arith, few, same))

number_read : (words : List (List ℕ)) (name : List ℕ) (n : ℕ) → (value : List ℕ) × Says words name value × IsNumberOf value n × (n ≤ 2 ^ 40 - 1) → number_given name words ≡ Some n
number_read words name n (value, says, is, few) =
    ap (option_and_then (λ v. result_ok (product_number v))) (given_at words name value says) ∙ ap result_ok (number_ok value n is few)

part_found : (part : List ℕ) (parts : List (List ℕ)) → list_any (λ p. bytes_eq p part) parts ≡ true → (front rest : List (List ℕ)) × (parts ≡ front ++ part ∷ rest)
part_found part [] e = cc
part_found part (x ∷ xs) e = go (bytes_eq x part) refl e (part_found part xs)
  where
    go : (b : Bool) → bytes_eq x part ≡ b → (b || list_any (λ p. bytes_eq p part) xs) ≡ true →
        (list_any (λ p. bytes_eq p part) xs ≡ true → (front rest : List (List ℕ)) × (xs ≡ front ++ part ∷ rest)) → (front rest : List (List ℕ)) × (x ∷ xs ≡ front ++ part ∷ rest)
    go true same h later = ([], xs, ap (λ y. y ∷ xs) ((bytes_eq-Decides x part).0 same))
    go false same h later = let rest = later h in (x ∷ rest.0, rest.1, ap (λ l. x ∷ l) rest.2)

part_read : (part : List ℕ) (front rest : List (List ℕ)) → list_any (λ p. bytes_eq p part) (front ++ part ∷ rest) ≡ true
part_read part [] rest = rw ((bytes_eq-Decides part part).1 refl) refl
part_read part (x ∷ front) rest = go (bytes_eq x part) (part_read part front rest)
  where
    go : (b : Bool) → list_any (λ p. bytes_eq p part) (front ++ part ∷ rest) ≡ true → (b || list_any (λ p. bytes_eq p part) (front ++ part ∷ rest)) ≡ true
    go true later = refl
    go false later = later

-- a conversion that is asked for
asked : (words : List (List ℕ)) (part : List ℕ) → part ≢ [] → converts part words ≡ true →
    (value : List ℕ) × (front rest : List (List ℕ)) × Says words (codes "conv") value × (parts_of value ≡ front ++ part ∷ rest)
asked words part some e = ⊎_elim found missing (says_or words (codes "conv"))
  where
    found : ((value : List ℕ) × Says words (codes "conv") value) →
        (value : List ℕ) × (front rest : List (List ℕ)) × Says words (codes "conv") value × (parts_of value ≡ front ++ part ∷ rest)
    found (value, says) =
        let now : list_any (λ p. bytes_eq p part) (parts_of value) ≡ true =
        sym (ap (λ o. list_any (λ p. bytes_eq p part) (parts_of (unwrap_or o []))) (given_at words (codes "conv") value says)) ∙ e in
        let is = part_found part (parts_of value) now in
        (value, is.0, is.1, says, is.2)

    empty : list_any (λ p. bytes_eq p part) ([] ∷ []) ≡ true → part ≡ []
    empty h = sole (bytes_eq [] part) refl h
      where
        sole : (b : Bool) → bytes_eq [] part ≡ b → (b || false) ≡ true → part ≡ []
        sole true same g = sym ((bytes_eq-Decides [] part).0 same)
        sole false same g = cc g

    missing : (IsAmong (codes "conv") words → ⊥) → (value : List ℕ) × (front rest : List (List ℕ)) × Says words (codes "conv") value × (parts_of value ≡ front ++ part ∷ rest)
    missing never = absurd (some (empty (sym (ap (λ o. list_any (λ p. bytes_eq p part) (parts_of (unwrap_or o []))) (given_none words (codes "conv") never)) ∙ e)))

asked_read : (words : List (List ℕ)) (part : List ℕ) →
    ((value : List ℕ) × (front rest : List (List ℕ)) × Says words (codes "conv") value × (parts_of value ≡ front ++ part ∷ rest)) → converts part words ≡ true
asked_read words part (value, front, rest, says, are) =
    ap (λ o. list_any (λ p. bytes_eq p part) (parts_of (unwrap_or o []))) (given_at words (codes "conv") value says)
    ∙ ap (list_any (λ p. bytes_eq p part)) are ∙ part_read part front rest

missing_is : (words : List (List ℕ)) (name : List ℕ) → given name words ≡ None → IsAmong name words → ⊥
missing_is words name e is =
    ⊎_elim (λ says. none_text says.0 (sym e ∙ given_at words name says.0 says.1)) (λ never. never is) (says_or words name)

pub words_are_asked_for : WordsAreAskedFor
words_are_asked_for words name = (
  λ value. (given_says words name value, given_at words name value),
  (missing_is words name, given_none words name),
  λ n. (number_said words name n, number_read words name n),
  λ part some. (asked words part some, asked_read words part),
)
