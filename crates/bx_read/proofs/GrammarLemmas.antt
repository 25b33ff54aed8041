-- What is read of a line is what the grammar gives.
use Rattle.std.proofs.Common.{◌≡◌, ℕ, suc, ◌+◌, ◌^◌, ◌<◌, ◌≤◌, Bool, true, false, ◌&&◌, ◌||◌, not, cond, eqb, ltb, leb, Option, None, Some, Result, Ok, Err, List, [], ◌∷◌, ◌++◌, length, get_or, take, drop, refl, arith, sym, ap, subst, ◌∙◌, inl, inr, ⊎_elim}
use Rattle.std.specs.Option.{option_map}
use Rattle.std.specs.Str.Parse.{digits_value}
use Rattle.std.specs.List.{prefix_len}
use Rattle.std.proofs.lemmas.List.{get_or_past, take-append-drop, drop_more, get_or-take, length-take-le, get_or_at, take_at, length-append, get_or_append_left}
use Rattle.std.proofs.Math.Seq.{drop-append-add}
use Rattle.std.proofs.lemmas.List.Sums.{prefix_len_is, prefix_len_passes}
use Rattle.std.proofs.lemmas.Bool.{eqb-true, eqb-false, ltb-false, leb-false, cases_lt, ne_eqb, le-ltb, lt-leb, false≢true}
use Rattle.bx_read.specs.Digits.{is_hex, pairs_of, pair_value, data_of}
use Rattle.bx_read.specs.private.Digits.{pair_count}
use Rattle.bx_read.specs.Line.{read_line, read_data}
use Rattle.bx_read.proofs.Parts.{read_pairs}
use Rattle.bx_read.specs.Grammar.{IsLine, EndsData}
use Rattle.bx_read.specs.declared.fault.ReadFault.{ReadFault}
use Rattle.bx_read.specs.declared.fault.ReadFault.TheVariants.{BadAddress, MissingColon, BadPair, NoData, TooWide, AddressTooLarge}

pub and_true : (a b : Bool) → (a && b) ≡ true → (a ≡ true) × (b ≡ true)
and_true true b h = (refl, h)
and_true false b h = cc

or_false : (a b : Bool) → (a || b) ≡ false → (a ≡ false) × (b ≡ false)
or_false true b h = cc
or_false false b h = (refl, h)

not_false : (a : Bool) → not a ≡ false → a ≡ true
not_false true h = refl
not_false false h = cc

pub ok_same : {A : Type 0} (x y : A) → ◌≡◌ {A = Result A ReadFault} (Ok x) (Ok y) → x ≡ y
ok_same x y h = cc

-- The front and the rest of what is read as data.
pub data_of-ends : (body : List ℕ) → (tail : List ℕ) × (body ≡ data_of body ++ tail) × EndsData tail
data_of-ends [] = ([], refl, inl refl)
data_of-ends (c ∷ []) = go (eqb c 32) refl
  where
    go : (b : Bool) → eqb c 32 ≡ b → (tail : List ℕ) × (c ∷ [] ≡ cond b [] (c ∷ []) ++ tail) × EndsData tail
    go true e = (32 ∷ [], ap (λ d. d ∷ []) (eqb-true c 32 e), inr (inl refl))
    go false e = ([], refl, inl refl)
data_of-ends (c ∷ d ∷ rest) = go (eqb c 32 && eqb d 32) refl (data_of-ends (d ∷ rest))
  where
    go : (b : Bool) → (eqb c 32 && eqb d 32) ≡ b → ((tail : List ℕ) × (d ∷ rest ≡ data_of (d ∷ rest) ++ tail) × EndsData tail) →
        (tail : List ℕ) × (c ∷ d ∷ rest ≡ cond b [] (c ∷ data_of (d ∷ rest)) ++ tail) × EndsData tail
    go true e later =
        let both = and_true (eqb c 32) (eqb d 32) e in
        let first = eqb-true c 32 both.0 in
        let second = eqb-true d 32 both.1 in
        (c ∷ d ∷ rest, refl, inr (inr (rest, ap (λ x. x ∷ d ∷ rest) first ∙ ap (λ y. 32 ∷ y ∷ rest) second)))
    go false e later = (later.0, ap (λ t. c ∷ t) later.1, later.2)

-- a digit isn't a space
pub is_hex-space : (c : ℕ) → is_hex c ≡ true → eqb c 32 ≡ false
is_hex-space c is = ne_eqb c 32 (λ e. false≢true (subst (λ d. is_hex d ≡ true) e is))

data_of-keep : (c d : ℕ) (rest : List ℕ) → eqb c 32 ≡ false → data_of (c ∷ d ∷ rest) ≡ c ∷ data_of (d ∷ rest)
data_of-keep c d rest e = rw e refl

data_of-space : (d : ℕ) (rest : List ℕ) → eqb d 32 ≡ false → data_of (32 ∷ d ∷ rest) ≡ 32 ∷ data_of (d ∷ rest)
data_of-space d rest e = rw e refl

-- the last digit, and an end
data_of-last : (l : ℕ) (tail : List ℕ) → eqb l 32 ≡ false → EndsData tail → data_of (l ∷ tail) ≡ l ∷ []
data_of-last l tail e (inl none) = rw (none, e) refl
data_of-last l tail e (inr (inl one)) = rw (one, e) refl
data_of-last l tail e (inr (inr two)) = rw (two.1, e) refl

-- what a test that let something through says
guard : {A : Type 0} (b : Bool) (e : ReadFault) (y : Result A ReadFault) (x : A) → cond b (Err e) y ≡ Ok x → (b ≡ false) × (y ≡ Ok x)
guard true e y x h = cc
guard false e y x h = (refl, h)

pub guard_some : {A : Type 0} (b : Bool) (o : Option A) (x : A) → cond b o None ≡ Some x → (b ≡ true) × (o ≡ Some x)
guard_some true o x h = (refl, h)
guard_some false o x h = cc

pub unmap : {A B : Type 0} (f : A → B) (o : Option A) (y : B) → option_map f o ≡ Some y → (x : A) × (o ≡ Some x)
unmap f None y h = cc
unmap f (Some x) y h = (x, refl)

-- pairs begin with a digit
pub first_digit : (hex bytes : List ℕ) → pairs_of hex ≡ Some bytes → (c : ℕ) × (rest : List ℕ) × (hex ≡ c ∷ rest) × (is_hex c ≡ true)
first_digit [] bytes h = cc
first_digit (c ∷ []) bytes h = cc
first_digit (c ∷ l ∷ []) bytes h = (c, l ∷ [], refl, (and_true (is_hex c) (is_hex l) (guard_some (is_hex c && is_hex l) (Some (pair_value c l ∷ [])) bytes h).0).0)
first_digit (c ∷ l ∷ n ∷ rest) bytes h = (
  c,
  l ∷ n ∷ rest,
  refl,
  (and_true (is_hex c) (is_hex l) (guard_some (is_hex c && is_hex l)
      (option_map (λ more. pair_value c l ∷ more) (cond (eqb n 32) (pairs_of rest) (pairs_of (n ∷ rest)))) bytes h).0).0,
)

-- what follows a pair: one space and the next pair, or the next pair
data_of-next : (n : ℕ) (rest tail : List ℕ) → (bytes : List ℕ) → cond (eqb n 32) (pairs_of rest) (pairs_of (n ∷ rest)) ≡ Some bytes →
    (pairs_of rest ≡ Some bytes → data_of (rest ++ tail) ≡ rest) → (pairs_of (n ∷ rest) ≡ Some bytes → data_of (n ∷ (rest ++ tail)) ≡ n ∷ rest) →
    data_of (n ∷ (rest ++ tail)) ≡ n ∷ rest
data_of-next n rest tail bytes h spaced joined = go (eqb n 32) refl
  where
    go : (b : Bool) → eqb n 32 ≡ b → data_of (n ∷ (rest ++ tail)) ≡ n ∷ rest
    go false e = joined (rw e at h)
    go true e =
        let now : pairs_of rest ≡ Some bytes = rw e at h in
        let first = first_digit rest bytes now in
        let is : n ≡ 32 = eqb-true n 32 e in
        let whole : rest ++ tail ≡ first.0 ∷ (first.1 ++ tail) = ap (λ r. r ++ tail) first.2 in
        let later : data_of (first.0 ∷ (first.1 ++ tail)) ≡ rest = rw (← whole) (spaced now) in
        rw (is, whole) (data_of-space first.0 (first.1 ++ tail) (is_hex-space first.0 first.3) ∙ ap (λ t. 32 ∷ t) later)

-- The data of pairs and an end is the pairs.
pub data_of-pairs : (hex tail bytes : List ℕ) → pairs_of hex ≡ Some bytes → EndsData tail → data_of (hex ++ tail) ≡ hex
data_of-pairs [] tail bytes h ends = cc
data_of-pairs (c ∷ []) tail bytes h ends = cc
data_of-pairs (c ∷ l ∷ []) tail bytes h ends =
    let both = and_true (is_hex c) (is_hex l) (guard_some (is_hex c && is_hex l) (Some (pair_value c l ∷ [])) bytes h).0 in
    data_of-keep c l tail (is_hex-space c both.0) ∙ ap (λ t. c ∷ t) (data_of-last l tail (is_hex-space l both.1) ends)
data_of-pairs (c ∷ l ∷ n ∷ rest) tail bytes h ends =
    let inner = guard_some (is_hex c && is_hex l) (option_map (λ more. pair_value c l ∷ more) (cond (eqb n 32) (pairs_of rest) (pairs_of (n ∷ rest)))) bytes h in
    let both = and_true (is_hex c) (is_hex l) inner.0 in
    let more = unmap (λ more. pair_value c l ∷ more) (cond (eqb n 32) (pairs_of rest) (pairs_of (n ∷ rest))) bytes inner.1 in
    data_of-keep c l (n ∷ (rest ++ tail)) (is_hex-space c both.0)
    ∙ ap (λ t. c ∷ t) (data_of-keep l n (rest ++ tail) (is_hex-space l both.1)
    ∙ ap (λ t. l ∷ t) (data_of-next n rest tail more.0 more.1 (λ d. data_of-pairs rest tail more.0 d ends) (λ d. data_of-pairs (n ∷ rest) tail more.0 d ends)))

-- the pairs and the address, where they were read
pairs_read : (line at : ℕ) (hex : List ℕ) (o : Option ℕ) (x : ℕ × List ℕ) → read_pairs line at hex o ≡ Ok x →
    (count : ℕ) × (o ≡ Some count) × (count ≤ 256) × (at < 2 ^ 62) × ((at, hex) ≡ x)
pairs_read line at hex None x h = cc
pairs_read line at hex (Some count) x h =
    let few = guard (ltb 256 count) (TooWide line) (cond (leb (2 ^ 62) at) (Err (AddressTooLarge line)) (Ok (at, hex))) x h in
    let small = guard (leb (2 ^ 62) at) (AddressTooLarge line) (Ok (at, hex)) x few.1 in
    (count, refl, ltb-false 256 count few.0, leb-false (2 ^ 62) at small.0, ok_same (at, hex) x small.1)

-- a list that isn't empty, by its first element
uncons : (xs : List ℕ) → eqb (length xs) 0 ≡ false → xs ≡ get_or xs 0 0 ∷ drop 1 xs
uncons [] h = absurd (eqb-false 0 0 h refl)
uncons (x ∷ xs) h = refl

-- what is read after the colon
data_read : (line at : ℕ) (text : List ℕ) (x : ℕ × List ℕ) → read_data line at text ≡ Ok x →
    (text ≡ 32 ∷ drop 1 text) × ((count : ℕ) × (pair_count (data_of (drop 1 text)) ≡ Some count) × (count ≤ 256) × (at < 2 ^ 62) × ((at, data_of (drop 1 text)) ≡ x))
data_read line at text x h =
    let body = drop 1 text in
    let last = read_pairs line at (data_of body) (pair_count (data_of body)) in
    let third = cond (eqb (length text) 1 || eqb (get_or text 1 0) 32) (Err (NoData line)) last in
    let second = cond (not (eqb (get_or text 0 0) 32)) (Err (BadPair line)) third in
    let some = guard (eqb (length text) 0) (NoData line) second x h in
    let space = guard (not (eqb (get_or text 0 0) 32)) (BadPair line) third x some.1 in
    let one = guard (eqb (length text) 1 || eqb (get_or text 1 0) 32) (NoData line) last x space.1 in
    let first = eqb-true (get_or text 0 0) 32 (not_false (eqb (get_or text 0 0) 32) space.0) in
    (uncons text some.0 ∙ ap (λ c. c ∷ drop 1 text) first, pairs_read line at (data_of body) (pair_count (data_of body)) x one.1)

zero_suc : (c : ℕ) → 0 ≡ suc c → ⊥
zero_suc c h = omega arith

-- a place with a byte other than 0 is in the list
below_end : (xs : List ℕ) (n c : ℕ) → get_or xs n 0 ≡ suc c → n < length xs
below_end xs n c e = ⊎_elim (λ h. h) (λ past. absurd (zero_suc c (sym (get_or_past xs n 0 past) ∙ e))) (cases_lt n (length xs))

-- the count of pairs is how many bytes they are
few_of : (bytes : List ℕ) (count : ℕ) (o : Option (List ℕ)) → o ≡ Some bytes → option_map length o ≡ Some count → count ≤ 256 → length bytes ≤ 256
few_of bytes count o e counted few =
    let same : length bytes ≡ count = cc (ap (option_map length) e) in
    omega arith

pub read_line-found : (line : ℕ) (text : List ℕ) (at : ℕ) (hex : List ℕ) → read_line line text ≡ Ok (at, hex) → (bytes : List ℕ) × IsLine text at hex bytes
read_line-found line text at hex e =
    let count = prefix_len is_hex text in
    let digits = take count text in
    let rest = drop (count + 1) text in
    let value = digits_value 16 digits in
    let last = read_data line value rest in
    let second = cond (not (eqb (get_or text count 0) 58)) (Err (MissingColon line)) last in
    let address = guard (eqb count 0 || ltb 16 count) (BadAddress line) second (at, hex) e in
    let colon = guard (not (eqb (get_or text count 0) 58)) (MissingColon line) last (at, hex) address.1 in
    let read = data_read line value rest (at, hex) colon.1 in
    let number = or_false (eqb count 0) (ltb 16 count) address.0 in
    let is_colon = eqb-true (get_or text count 0) 58 (not_false (eqb (get_or text count 0) 58) colon.0) in
    let inside : count < length text = below_end text count 57 is_colon in
    let digits_len : length digits ≡ count = length-take-le count text (omega arith) in
    let ends = data_of-ends (drop 1 rest) in
    let same : (value, data_of (drop 1 rest)) ≡ (at, hex) = read.1.4 in
    let hex_is : data_of (drop 1 rest) ≡ hex = ap (λ p. p.1) same in
    let after : drop count text ≡ 58 ∷ rest = drop_more text count 0 inside ∙ ap (λ c. c ∷ rest) is_colon in
    let spelled : text ≡ digits ++ 58 ∷ 32 ∷ (hex ++ ends.0) =
    sym (take-append-drop count text) ∙ ap (λ t. digits ++ t) after ∙ ap (λ t. digits ++ 58 ∷ t) read.0
    ∙ ap (λ t. digits ++ 58 ∷ 32 ∷ t) (ends.1 ∙ ap (λ t. t ++ ends.0) hex_is) in
    let bytes = unmap length (pairs_of (data_of (drop 1 rest))) read.1.0 read.1.1 in (
      bytes.0,
      record {
        digits = digits;
        tail = ends.0;
        spelled = spelled;
        address = λ k d within. rw (get_or-take count text k d (omega (arith, digits_len))) (prefix_len_passes is_hex text k d (omega (arith, digits_len)));
        some_digits = omega (arith, digits_len, eqb-false count 0 number.0);
        few_digits = omega (arith, digits_len, ltb-false 16 count number.1);
        value = sym (ap (λ p. p.0) same);
        small = subst (λ v. v < 2 ^ 62) (ap (λ p. p.0) same) read.1.3;
        pairs = ap pairs_of (sym hex_is) ∙ bytes.1;
        few_pairs = few_of bytes.0 read.1.0 (pairs_of (data_of (drop 1 rest))) bytes.1 read.1.1 read.1.2;
        ends = ends.2;
      },
    )

-- what the grammar gives after the colon is read
data_read-only : (line at : ℕ) (hex tail bytes : List ℕ) → pairs_of hex ≡ Some bytes → EndsData tail → length bytes ≤ 256 → at < 2 ^ 62 →
    read_data line at (32 ∷ (hex ++ tail)) ≡ Ok (at, hex)
data_read-only line at hex tail bytes pairs ends few small =
    let body = hex ++ tail in
    let first = first_digit hex bytes pairs in
    let shape : body ≡ first.0 ∷ (first.1 ++ tail) = ap (λ h. h ++ tail) first.2 in
    let some : length body ≡ suc (length (first.1 ++ tail)) = ap length shape in
    let not_empty : eqb (suc (length body)) 0 ≡ false = ne_eqb (suc (length body)) 0 (λ h. zero_suc (length body) (sym h)) in
    let not_one : eqb (suc (length body)) 1 ≡ false = ne_eqb (suc (length body)) 1 (λ h. zero_suc (length (first.1 ++ tail)) (omega arith)) in
    let start : get_or body 0 0 ≡ first.0 = ap (λ b. get_or b 0 0) shape in
    let digit : eqb (get_or body 0 0) 32 ≡ false = rw start (is_hex-space first.0 first.3) in
    let front : data_of body ≡ hex = data_of-pairs hex tail bytes pairs ends in
    let not_wide : ltb 256 (length bytes) ≡ false = le-ltb 256 (length bytes) few in
    let not_large : leb (2 ^ 62) at ≡ false = lt-leb (2 ^ 62) at small in
    rw (not_empty, not_one, digit, front, pairs, not_wide, not_large) refl

pub read_line-only : (line : ℕ) (text : List ℕ) (at : ℕ) (hex bytes : List ℕ) → IsLine text at hex bytes → read_line line text ≡ Ok (at, hex)
read_line-only line text at hex bytes is =
    let n = length is.digits in
    let rest = 32 ∷ (hex ++ is.tail) in
    let whole = is.digits ++ 58 ∷ rest in
    let colon : get_or whole n 0 ≡ 58 = get_or_at is.digits 58 rest 0 n refl in
    let count : prefix_len is_hex whole ≡ n = prefix_len_is is_hex whole n 0 (omega (arith, length-append is.digits (58 ∷ rest)))
    (λ k lt. rw (get_or_append_left is.digits (58 ∷ rest) 0 k lt) (is.address k 0 lt))
    (λ inside. rw colon refl) in
    let front : take n whole ≡ is.digits = take_at is.digits (58 ∷ rest) n refl in
    let after : drop (n + 1) whole ≡ rest = drop-append-add is.digits (58 ∷ rest) 1 in
    let some : eqb n 0 ≡ false = ne_eqb n 0 (λ h. absurd (omega (arith, is.some_digits))) in
    let few : ltb 16 n ≡ false = le-ltb 16 n is.few_digits in
    rw (is.spelled, count, some, few, colon, front, after, ← is.value) (data_read-only line at hex is.tail bytes is.pairs is.ends is.few_pairs is.small)
