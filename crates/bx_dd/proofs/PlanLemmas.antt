-- The bounds that accepted operands keep.
use Rattle.std.proofs.Common.{◌≡◌, ◌≢◌, ℕ, zero, suc, ◌+◌, ◌*◌, ◌^◌, ◌<◌, ◌≤◌, Bool, true, false, not, cond, ◌&&◌, ◌||◌, eqb, ltb, leb, List, [], ◌∷◌, ◌++◌, length, get_or, slice_get, Option, Some, None, Result, Ok, Err, unwrap_or, codes, refl, sym, ap, ◌∙◌, ◌⊎◌, inl, inr, subst, arith}
use Rattle.std.specs.List.{position_or_len}
use Rattle.std.specs.Option.{option_or, option_map, option_and_then}
use Rattle.std.specs.Result.{result_ok}
use Rattle.std.specs.Str.{bytes_eq}
use Rattle.std.proofs.lemmas.Bool.{ltb-false, ltb-true, not-false, eqb-false, leb-true}
use Rattle.std.proofs.lemmas.List.Sums.{prefix_len_stops}
use Rattle.std.proofs.lemmas.Option.{get_or_from_slice_get, slice_get_within, slice_get_past, slice_get-get_or}
use Rattle.std.proofs.lemmas.Slice.Eq.{bytes_eq-Decides}
use Rattle.bx_dd.specs.declared.fault.DdFault.{DdFault}
use Rattle.bx_dd.specs.declared.form.Shape.TheVariants.{Flat, Block, Unblock}
use Rattle.bx_text.specs.declared.number.size.SizeFault.{SizeFault}
use Rattle.bx_text.specs.declared.number.size.SizeFault.TheVariants.{Bad, TooLarge}
use Rattle.bx_dd.specs.declared.operands.Kind.{Kind}
use Rattle.bx_dd.specs.declared.operands.Kind.TheVariants.{Size}
use Rattle.bx_text.specs.private.Number.{factors_of, within}
use Rattle.bx_dd.specs.Number.{product_number, product_value}
use Rattle.bx_dd.specs.Operands.{is_operand, operand_name, operand_value, kind_of, is_given, value_fault, operand_fault, first_fault, given, number_given, number_or, converts, operands_fault}
use Rattle.bx_dd.specs.private.Operands.{ibs_of, obs_of, shape_of, is_named, kind_fault, is_conflict, is_cbs_missing, later_fault, size_fault}

-- ---- options and tests

pub or_none : (a b : Option DdFault) → option_or a b ≡ None → (a ≡ None) × (b ≡ None)
or_none None b e = (refl, e)
or_none (Some x) b e = absurd (let wrong : Some x ≡ None = e in cc)

-- a test that no fault follows from
test_none : (c : Bool) (f : DdFault) (y : Option DdFault) → cond c (Some f) y ≡ None → (c ≡ false) × (y ≡ None)
test_none true f y e = absurd (let wrong : Some f ≡ None = e in cc)
test_none false f y e = (refl, e)

and_true : (a b : Bool) → (a && b) ≡ true → (a ≡ true) × (b ≡ true)
and_true true b e = (refl, e)
and_true false b e = absurd (let wrong : false ≡ true = e in cc)

map_some : (f : List ℕ → List ℕ) (o : Option (List ℕ)) (v : List ℕ) → option_map f o ≡ Some v → (w : List ℕ) × (o ≡ Some w) × (f w ≡ v)
map_some f None v e = absurd (let wrong : None ≡ Some v = e in cc)
map_some f (Some w) v e = (w, refl, cc)

-- ---- one operand of sound ones

sound : (before words : List (List ℕ)) → first_fault before words ≡ None → (k : ℕ) (w : List ℕ) → slice_get words k ≡ Some w → (b : List (List ℕ)) × (operand_fault b w ≡ None)
sound before [] none k w is = absurd (let wrong : None ≡ Some w = is in cc)
sound before (x ∷ xs) none zero w is =
    let same : x ≡ w = cc in
    (before, subst (λ (y : List ℕ). operand_fault before y ≡ None) same (or_none (operand_fault before x) (first_fault (before ++ x ∷ []) xs) none).0)
sound before (x ∷ xs) none (suc k) w is = sound (before ++ x ∷ []) xs (or_none (operand_fault before x) (first_fault (before ++ x ∷ []) xs) none).1 k w is

kind_sound : (at : ℕ) (ok : Option Kind) (kind : Kind) (before : Bool) (value : List ℕ) → ok ≡ Some kind → kind_fault at ok before value ≡ None → value_fault at kind value ≡ None
kind_sound at None kind before value is e = absurd (let wrong : None ≡ Some kind = is in cc)
kind_sound at (Some k) kind before value is e =
    let same : k ≡ kind = cc in
    subst (λ (j : Kind). value_fault at j value ≡ None) same (test_none before _ (value_fault at k value) e).1

named : (name word : List ℕ) → is_named name word ≡ true → (is_operand word ≡ true) × (operand_name word ≡ name)
named name word is =
    let both = and_true (is_operand word) (bytes_eq (operand_name word) name) is in
    (both.0, (bytes_eq-Decides (operand_name word) name).0 both.1)

-- the operand of this name is sound
value_sound : (name : List ℕ) (kind : Kind) (words : List (List ℕ)) (value : List ℕ) → first_fault [] words ≡ None → kind_of name ≡ Some kind → given name words ≡ Some value → (at : ℕ) × (value_fault at kind value ≡ None)
value_sound name kind words value none is found =
    let k = position_or_len (is_named name) words in
    let got = map_some operand_value (slice_get words k) value found in
    let w = got.0 in
    let inside : k < length words = slice_get_within words k w got.1 in
    let read : get_or words k [] ≡ w = get_or_from_slice_get words k w [] got.1 in
    let stops : not (is_named name (get_or words k [])) ≡ false = prefix_len_stops (λ x. not (is_named name x)) words [] inside in
    let passes : is_named name w ≡ true = ap (is_named name) (sym read) ∙ not-false (is_named name (get_or words k [])) stops in
    let is_name = named name w passes in
    let one = sound [] words none k w got.1 in
    let at = length one.0 + 1 in
    let known : cond (is_operand w) (kind_of (operand_name w)) None ≡ Some kind = rw (is_name.0, is_name.1) is in
    (at, subst (λ (v : List ℕ). value_fault at kind v ≡ None) got.2 (kind_sound at (cond (is_operand w) (kind_of (operand_name w)) None) kind _ (operand_value w) known one.1))

some : (n : ℕ) → (n ≡ 0 → ⊥) → 0 < n
some n other = omega arith

size_sound : (at most : ℕ) (r : Result ℕ SizeFault) → size_fault at most r ≡ None → (n : ℕ) × (r ≡ Ok n) × (0 < n) × (n ≤ most)
size_sound at most (Ok n) e =
    let first = test_none (ltb most n) _ _ e in
    let second = test_none (eqb n 0) _ None first.1 in
    (n, refl, some n (eqb-false n 0 second.0), ltb-false most n first.0)
size_sound at most (Err Bad) e = absurd (let wrong = e in cc)
size_sound at most (Err TooLarge) e = absurd (let wrong = e in cc)

module _ (name : List ℕ) (most : ℕ) (words : List (List ℕ)) (none : first_fault [] words ≡ None) (kind : kind_of name ≡ Some (Size most)) where
  -- a size that is given
  pub size_given : (value : List ℕ) → given name words ≡ Some value → (n : ℕ) × (number_given name words ≡ Some n) × (0 < n) × (n ≤ most)
  size_given value found =
      let fine = value_sound name (Size most) words value none kind found in
      let size = size_sound fine.0 most (product_number value) fine.1 in
      (size.0, ap (option_and_then (λ v. result_ok (product_number v))) found ∙ ap result_ok size.1, size.2, size.3)

-- a number that is given
abbrev chosen : Bool → ℕ → Result ℕ SizeFault
chosen b m = cond b (Ok m) (Err TooLarge)

low_limit : (m n : ℕ) (b : Bool) → b ≡ leb m 1099511627775 → chosen b m ≡ Ok n → n ≤ 1099511627775
low_limit m n true is e = let same : m ≡ n = cc in omega (arith, leb-true m 1099511627775 (sym is))
low_limit m n false is e = absurd (cc)

within_limit : (n : ℕ) (o : Option ℕ) → within 1099511627775 o ≡ Ok n → n ≤ 1099511627775
within_limit n None is = absurd (cc)
within_limit n (Some m) is = low_limit m n (leb m 1099511627775) refl is

number_limit : (value : List ℕ) (n : ℕ) → product_number value ≡ Ok n → n ≤ 1099511627775
number_limit value n is = within_limit n (product_value (factors_of value)) is

pub number_few : (name : List ℕ) (words : List (List ℕ)) (n : ℕ) → number_given name words ≡ Some n → n ≤ 1099511627775
number_few name words n is = number_in (given name words) is where
  number_in : (value : Option (List ℕ)) → option_and_then (λ v. result_ok (product_number v)) value ≡ Some n → n ≤ 1099511627775
  number_in None is = absurd (let wrong : None ≡ Some n = is in cc)
  number_in (Some v) is = number_at (product_number v) (number_limit v) is where
    number_at : (r : Result ℕ SizeFault) → ((m : ℕ) → r ≡ Ok m → m ≤ 1099511627775) → result_ok r ≡ Some n → n ≤ 1099511627775
    number_at (Ok m) limit is = let same : m ≡ n = cc in subst (λ (k : ℕ). k ≤ 1099511627775) same (limit m refl)
    number_at (Err e) limit is = absurd (let wrong : None ≡ Some n = is in cc)

-- ---- operands that are given, and others

cases_given : (o : Option (List ℕ)) → (o ≡ None) ⊎ ((v : List ℕ) × (o ≡ Some v))
cases_given None = inl refl
cases_given (Some v) = inr (v, refl)

pub given_some : (name : List ℕ) (words : List (List ℕ)) → is_given name words ≡ true → (v : List ℕ) × (given name words ≡ Some v)
given_some name words is =
    let k = position_or_len (is_named name) words in
    (operand_value (get_or words k []), ap (option_map operand_value) (slice_get-get_or words k [] (ltb-true k (length words) is)))

pub given_none : (name : List ℕ) (words : List (List ℕ)) → is_given name words ≡ false → given name words ≡ None
given_none name words is =
    let k = position_or_len (is_named name) words in
    ap (option_map operand_value) (slice_get_past words k (ltb-false k (length words) is))

pub number_none : (name : List ℕ) (words : List (List ℕ)) → given name words ≡ None → number_given name words ≡ None
number_none name words is = ap (option_and_then (λ v. result_ok (product_number v))) is

-- an operand that isn't given says 0, which is not too far
pub far_given : (name : List ℕ) (words : List (List ℕ)) (size : ℕ) → ltb (2 ^ 48) (number_or 0 name words * size) ≡ true → is_given name words ≡ true
far_given name words size far = cases_bool (is_given name words) (λ is.
    let zero_is : number_or 0 name words ≡ 0 = ap (λ o. unwrap_or o 0) (number_none name words (given_none name words is)) in
    absurd (omega (arith, ltb-true (2 ^ 48) (number_or 0 name words * size) far, ap (λ n. n * size) zero_is))) where
      cases_bool : (b : Bool) → (b ≡ false → b ≡ true) → b ≡ true
      cases_bool true f = refl
      cases_bool false f = f refl

module _ (name : List ℕ) (most : ℕ) (words : List (List ℕ)) (none : first_fault [] words ≡ None) (kind : kind_of name ≡ Some (Size most)) where
  size_or_some : (other : ℕ) → 0 < other → 0 < number_or other name words
  size_or_some other above = elim (cases_given (given name words)) [
    | inl no_value ↦ subst (λ (o : Option ℕ). 0 < unwrap_or o other) (sym (number_none name words no_value)) above
    | inr (v, is) ↦ let size = size_given name most words none kind v is in subst (λ (o : Option ℕ). 0 < unwrap_or o other) (sym size.1) size.2
  ]

  size_or_few : (other limit : ℕ) → other ≤ limit → most ≤ limit → number_or other name words ≤ limit
  size_or_few other limit below low = elim (cases_given (given name words)) [
    | inl no_value ↦ subst (λ (o : Option ℕ). unwrap_or o other ≤ limit) (sym (number_none name words no_value)) below
    | inr (v, is) ↦ let size = size_given name most words none kind v is in subst (λ (o : Option ℕ). unwrap_or o other ≤ limit) (sym size.1) (omega (arith, size.3))
  ]

  size_some : is_given name words ≡ true → 0 < number_or 0 name words
  size_some is =
      let got = given_some name words is in
      let size = size_given name most words none kind got.0 got.1 in
      subst (λ (o : Option ℕ). 0 < unwrap_or o 0) (sym size.1) size.2

shape_test : (a b : Bool) → cond a Block (cond b Unblock Flat) ≢ Flat → (a || b) ≡ true
shape_test true b other = refl
shape_test false true other = refl
shape_test false false other = absurd (other refl)

cbs_test : (a b : Bool) → a ≡ true → (a && not b) ≡ false → b ≡ true
cbs_test true true is e = refl
cbs_test true false is e = absurd (let wrong : true ≡ false = e in cc)
cbs_test false b is e = absurd (let wrong : false ≡ true = is in cc)

-- a number that is given, or else 0
number_or_few : (name : List ℕ) (words : List (List ℕ)) → number_or 0 name words ≤ 1099511627775
number_or_few name words = few_of (number_given name words) (number_few name words) where
  few_of : (o : Option ℕ) → ((n : ℕ) → o ≡ Some n → n ≤ 1099511627775) → unwrap_or o 0 ≤ 1099511627775
  few_of None few = omega arith
  few_of (Some n) few = few n refl

-- the bounds of a plan
pub record KeepsBounds (words : List (List ℕ)) : Type 0 where
  pub some_ibs : 0 < ibs_of words
  pub few_ibs : ibs_of words ≤ 1099511627775
  pub some_obs : 0 < obs_of words
  pub few_obs : obs_of words ≤ 1099511627775
  pub some_cbs : shape_of words ≢ Flat → 0 < number_or 0 (codes "cbs") words
  pub few_cbs : number_or 0 (codes "cbs") words ≤ 16777216
  pub few_skip : number_or 0 (codes "skip") words ≤ 1099511627775
  pub few_seek : number_or 0 (codes "seek") words ≤ 1099511627775
  pub few_count : (n : ℕ) → number_given (codes "count") words ≡ Some n → n ≤ 1099511627775
  pub skip_fits : number_or 0 (codes "skip") words * ibs_of words ≤ 2 ^ 48
  pub seek_fits : number_or 0 (codes "seek") words * obs_of words ≤ 2 ^ 48

pub bounds : (words : List (List ℕ)) → operands_fault words ≡ None → KeepsBounds words
bounds words accepted =
    let both = or_none (first_fault [] words) (later_fault words) accepted in
    let none = both.0 in
    let conflict = test_none (is_conflict words) _ _ both.1 in
    let missing = test_none (is_cbs_missing words) _ _ conflict.1 in
    let skip = test_none (ltb (2 ^ 48) (number_or 0 (codes "skip") words * ibs_of words)) _ _ missing.1 in
    let seek = test_none (ltb (2 ^ 48) (number_or 0 (codes "seek") words * obs_of words)) _ None skip.1 in
    record {
      some_ibs = size_or_some (codes "bs") 1099511627775 words none refl _ (size_or_some (codes "ibs") 16777216 words none refl 512 (omega arith));
      few_ibs = size_or_few (codes "bs") 1099511627775 words none refl _ _ (size_or_few (codes "ibs") 16777216 words none refl 512 _ (omega arith) (omega arith)) (omega arith);
      some_obs = size_or_some (codes "bs") 1099511627775 words none refl _ (size_or_some (codes "obs") 1099511627775 words none refl 512 (omega arith));
      few_obs = size_or_few (codes "bs") 1099511627775 words none refl _ _ (size_or_few (codes "obs") 1099511627775 words none refl 512 _ (omega arith) (omega arith)) (omega arith);
      some_cbs = λ other. size_some (codes "cbs") 16777216 words none refl (cbs_test _ (is_given (codes "cbs") words) (shape_test (converts (codes "block") words) (converts (codes "unblock") words) other) missing.0);
      few_cbs = size_or_few (codes "cbs") 16777216 words none refl 0 _ (omega arith) (omega arith);
      few_skip = number_or_few (codes "skip") words;
      few_seek = number_or_few (codes "seek") words;
      few_count = λ n is. number_few (codes "count") words n is;
      skip_fits = ltb-false (2 ^ 48) _ skip.0;
      seek_fits = ltb-false (2 ^ 48) _ seek.0;
    }
