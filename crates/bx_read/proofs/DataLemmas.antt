-- The data of a line, and pairs in it, in front of anything.
use Rattle.std.proofs.Common.{◌≡◌, ◌⊎◌, inl, inr, ℕ, suc, ◌+◌, ◌*◌, ◌<◌, ◌≤◌, Bool, true, false, ◌&&◌, cond, eqb, Option, None, Some, List, [], ◌∷◌, ◌++◌, length, get_or, refl, arith, sym, ap, subst, ◌∙◌, ⊎_elim}
use Rattle.std.specs.Option.{option_map}
use Rattle.std.proofs.lemmas.Bool.{eqb-true, ne_eqb, cases_eq}
use Rattle.bx_read.specs.Digits.{is_hex, pairs_of, pair_value, data_of}
use Rattle.bx_read.proofs.GrammarLemmas.{and_true, guard_some, unmap, first_digit}
use Rattle.bx_read.proofs.PairsLemmas.{pairs_of-wrong, pairs_of-last, pairs_of-space, pairs_of-next}

-- the data begin with the first character, or there are none
pub data_first : (c : ℕ) (t : List ℕ) → (data_of (c ∷ t) ≡ []) ⊎ ((s : List ℕ) × (data_of (c ∷ t) ≡ c ∷ s))
data_first c [] = go (eqb c 32)
  where
    go : (b : Bool) → (cond b [] (c ∷ []) ≡ []) ⊎ ((s : List ℕ) × (cond b [] (c ∷ []) ≡ c ∷ s))
    go true = inl refl
    go false = inr ([], refl)
data_first c (d ∷ t) = go (eqb c 32 && eqb d 32)
  where
    go : (b : Bool) → (cond b [] (c ∷ data_of (d ∷ t)) ≡ []) ⊎ ((s : List ℕ) × (cond b [] (c ∷ data_of (d ∷ t)) ≡ c ∷ s))
    go true = inl refl
    go false = inr (data_of (d ∷ t), refl)

-- and there are some where it is no space
pub data_some : (c : ℕ) (t : List ℕ) → (c ≡ 32 → ⊥) → (s : List ℕ) × (data_of (c ∷ t) ≡ c ∷ s)
data_some c [] other = ([], rw (ne_eqb c 32 other) refl)
data_some c (d ∷ t) other = (data_of (d ∷ t), rw (ne_eqb c 32 other) refl)

pub data_keep : (c : ℕ) (t : List ℕ) → (c ≡ 32 → ⊥) → data_of (c ∷ t) ≡ c ∷ data_of t
data_keep c [] other = rw (ne_eqb c 32 other) refl
data_keep c (d ∷ t) other = rw (ne_eqb c 32 other) refl

pub data_space : (d : ℕ) (t : List ℕ) → (d ≡ 32 → ⊥) → data_of (32 ∷ d ∷ t) ≡ 32 ∷ data_of (d ∷ t)
data_space d t other = rw (ne_eqb d 32 other) refl

both_tests : (c d : ℕ) → (eqb c 32 && eqb d 32) ≡ false → (c ≡ 32) → (d ≡ 32) → ⊥
both_tests c d e p q = let no : (eqb 32 32 && eqb 32 32) ≡ false = subst (λ x. (eqb 32 32 && eqb x 32) ≡ false) q (subst (λ x. (eqb x 32 && eqb d 32) ≡ false) p e) in cc

-- data of data are the same
pub data_twice : (x : List ℕ) → data_of (data_of x) ≡ data_of x
data_twice [] = refl
data_twice (c ∷ []) = go (eqb c 32) refl
  where
    go : (b : Bool) → eqb c 32 ≡ b → data_of (cond b [] (c ∷ [])) ≡ cond b [] (c ∷ [])
    go true e = refl
    go false e = rw e refl
data_twice (c ∷ d ∷ r) = go (eqb c 32 && eqb d 32) refl (data_twice (d ∷ r))
  where
    first : (eqb c 32 && eqb d 32) ≡ false → (data_of (d ∷ r) ≡ []) ⊎ ((s : List ℕ) × (data_of (d ∷ r) ≡ d ∷ s)) → data_of (data_of (d ∷ r)) ≡ data_of (d ∷ r) →
        data_of (c ∷ data_of (d ∷ r)) ≡ c ∷ data_of (d ∷ r)
    first e (inl none) later =
        let space : d ≡ 32 = ⊎_elim (λ h. h) (λ other. let some = data_some d r other in cc) (cases_eq d 32) in
        let other : c ≡ 32 → ⊥ = λ h. both_tests c d e h space in
        rw none (data_keep c [] other)
    first e (inr (s, some)) later =
        rw some (rw e (ap (λ t. c ∷ t) (subst (λ t. data_of t ≡ t) some later)))

    go : (b : Bool) → (eqb c 32 && eqb d 32) ≡ b → data_of (data_of (d ∷ r)) ≡ data_of (d ∷ r) → data_of (cond b [] (c ∷ data_of (d ∷ r))) ≡ cond b [] (c ∷ data_of (d ∷ r))
    go true e later = refl
    go false e later = first e (data_first d r) later

cons_same : (c : ℕ) (x y : List ℕ) → c ∷ x ≡ c ∷ y → x ≡ y
cons_same c x y h = cc

-- a text that is its own data, without its first character
own_tail : (c : ℕ) (x : List ℕ) → data_of (c ∷ x) ≡ c ∷ x → data_of x ≡ x
own_tail c [] own = refl
own_tail c (d ∷ r) own = go (eqb c 32 && eqb d 32) own
  where
    go : (b : Bool) → cond b [] (c ∷ data_of (d ∷ r)) ≡ c ∷ d ∷ r → data_of (d ∷ r) ≡ d ∷ r
    go true h = cc
    go false h = cons_same c (data_of (d ∷ r)) (d ∷ r) h

pub own_behind : (x y : List ℕ) → data_of (x ++ y) ≡ x ++ y → data_of y ≡ y
own_behind [] y own = own
own_behind (c ∷ x) y own = own_behind x y (own_tail c (x ++ y) own)

-- no two spaces are in it
pub own_apart : (c d : ℕ) (r : List ℕ) → data_of (c ∷ d ∷ r) ≡ c ∷ d ∷ r → c ≡ 32 → d ≡ 32 → ⊥
own_apart c d r own = go (eqb c 32 && eqb d 32) refl own
  where
    go : (b : Bool) → (eqb c 32 && eqb d 32) ≡ b → cond b [] (c ∷ data_of (d ∷ r)) ≡ c ∷ d ∷ r → c ≡ 32 → d ≡ 32 → ⊥
    go true e h p q = cc
    go false e h p q = both_tests c d e p q

-- a front of it is its own data too, but for a space at its end
pub own_front : (x y : List ℕ) → data_of (x ++ y) ≡ x ++ y → length x ≤ length (data_of x) + 1
own_front [] y own = omega arith
own_front (c ∷ []) y own = omega arith
own_front (c ∷ d ∷ r) y own = go (eqb c 32 && eqb d 32) refl (own_front (d ∷ r) y (own_tail c (d ∷ r ++ y) own))
  where
    go : (b : Bool) → (eqb c 32 && eqb d 32) ≡ b → length (d ∷ r) ≤ length (data_of (d ∷ r)) + 1 → length (c ∷ d ∷ r) ≤ length (cond b [] (c ∷ data_of (d ∷ r))) + 1
    go true e later =
        let both = and_true (eqb c 32) (eqb d 32) e in
        absurd (own_apart c d (r ++ y) own (eqb-true c 32 both.0) (eqb-true d 32 both.1))
    go false e later = omega (arith, later)

-- from two spaces on nothing is read
pub data_gap : (x y : List ℕ) → data_of (x ++ 32 ∷ 32 ∷ y) ≡ data_of (x ++ 32 ∷ 32 ∷ [])
data_gap [] y = refl
data_gap (c ∷ []) y = ap (λ t. cond (eqb c 32 && eqb 32 32) [] (c ∷ t)) refl
data_gap (c ∷ d ∷ x) y = ap (λ t. cond (eqb c 32 && eqb d 32) [] (c ∷ t)) (data_gap (d ∷ x) y)

-- characters that are no spaces, in front
pub data_front : (x y : List ℕ) → ((k d : ℕ) → k < length x → get_or x k d ≡ 32 → ⊥) → data_of (x ++ y) ≡ x ++ data_of y
data_front [] y apart = refl
data_front (c ∷ x) y apart = data_keep c (x ++ y) (apart 0 0 (omega arith)) ∙ ap (λ t. c ∷ t) (data_front x y (λ k d inside. apart (suc k) d (omega (arith, inside))))

-- a digit is no space
pub hex_other : (c : ℕ) → is_hex c ≡ true → c ≡ 32 → ⊥
hex_other c is same = let h : is_hex 32 ≡ true = subst (λ d. is_hex d ≡ true) same is in cc

-- pairs in front
pub data_pairs : (hex bytes more : List ℕ) → pairs_of hex ≡ Some bytes → data_of (hex ++ more) ≡ hex ++ data_of more
data_pairs [] bytes more h = cc
data_pairs (c ∷ []) bytes more h = cc
data_pairs (c ∷ l ∷ []) bytes more h =
    let both = and_true (is_hex c) (is_hex l) (guard_some (is_hex c && is_hex l) (Some (pair_value c l ∷ [])) bytes h).0 in
    data_keep c (l ∷ more) (hex_other c both.0) ∙ ap (λ t. c ∷ t) (data_keep l more (hex_other l both.1))
data_pairs (c ∷ l ∷ n ∷ rest) bytes more h =
    let o = cond (eqb n 32) (pairs_of rest) (pairs_of (n ∷ rest)) in
    let inner = guard_some (is_hex c && is_hex l) (option_map (λ more. pair_value c l ∷ more) o) bytes h in
    let both = and_true (is_hex c) (is_hex l) inner.0 in
    let found = unmap (λ more. pair_value c l ∷ more) o bytes inner.1 in
    data_keep c (l ∷ n ∷ (rest ++ more)) (hex_other c both.0)
    ∙ ap (λ t. c ∷ t) (data_keep l (n ∷ (rest ++ more)) (hex_other l both.1)
    ∙ ap (λ t. l ∷ t) (go (eqb n 32) refl found.1 (λ d. data_pairs rest found.0 more d) (λ d. data_pairs (n ∷ rest) found.0 more d)))
  where
    go : (b : Bool) → eqb n 32 ≡ b → {m : List ℕ} → cond b (pairs_of rest) (pairs_of (n ∷ rest)) ≡ Some m →
        (pairs_of rest ≡ Some m → data_of (rest ++ more) ≡ rest ++ data_of more) →
        (pairs_of (n ∷ rest) ≡ Some m → data_of (n ∷ (rest ++ more)) ≡ n ∷ (rest ++ data_of more)) →
        data_of (n ∷ (rest ++ more)) ≡ n ∷ (rest ++ data_of more)
    go false e {m} now spaced whole = whole now
    go true e {m} now spaced whole =
        let first = first_digit rest m now in
        let is : n ≡ 32 = eqb-true n 32 e in
        let shape : rest ++ more ≡ first.0 ∷ (first.1 ++ more) = ap (λ r. r ++ more) first.2 in
        let later : data_of (first.0 ∷ (first.1 ++ more)) ≡ rest ++ data_of more = ap data_of (sym shape) ∙ spaced now in
        ap (λ t. data_of (n ∷ t)) shape ∙ ap (λ c. data_of (c ∷ first.0 ∷ (first.1 ++ more))) is ∙ data_space first.0 (first.1 ++ more) (hex_other first.0 first.3)
        ∙ ap (λ t. 32 ∷ t) later ∙ ap (λ c. c ∷ (rest ++ data_of more)) (sym is)

-- what pairs and a text behind them read as
abbrev pub pairs_then : List ℕ → List ℕ → Option (List ℕ)
pairs_then bytes [] = Some bytes
pairs_then bytes (c ∷ more) = option_map (λ others. bytes ++ others) (cond (eqb c 32) (pairs_of more) (pairs_of (c ∷ more)))

one_front : (b : ℕ) (bytes more : List ℕ) → option_map (λ others. b ∷ others) (pairs_then bytes more) ≡ pairs_then (b ∷ bytes) more
one_front b bytes [] = refl
one_front b bytes (c ∷ more) = go (cond (eqb c 32) (pairs_of more) (pairs_of (c ∷ more)))
  where
    go : (o : Option (List ℕ)) → option_map (λ others. b ∷ others) (option_map (λ others. bytes ++ others) o) ≡ option_map (λ others. (b ∷ bytes) ++ others) o
    go None = refl
    go (Some others) = refl

pub pairs_behind : (hex bytes more : List ℕ) → pairs_of hex ≡ Some bytes → pairs_of (hex ++ more) ≡ pairs_then bytes more
pairs_behind [] bytes more h = cc
pairs_behind (c ∷ []) bytes more h = cc
pairs_behind (c ∷ l ∷ []) bytes more h =
    let inner = guard_some (is_hex c && is_hex l) (Some (pair_value c l ∷ [])) bytes h in
    let same : pair_value c l ∷ [] ≡ bytes = cc (inner.1) in
    go more inner.0 ∙ ap (λ b. pairs_then b more) same
  where
    go : (more : List ℕ) → (is_hex c && is_hex l) ≡ true → pairs_of (c ∷ l ∷ more) ≡ pairs_then (pair_value c l ∷ []) more
    go [] e = rw e refl
    go (d ∷ more) e = rw e refl
pairs_behind (c ∷ l ∷ n ∷ rest) bytes more h =
    let o = cond (eqb n 32) (pairs_of rest) (pairs_of (n ∷ rest)) in
    let inner = guard_some (is_hex c && is_hex l) (option_map (λ more. pair_value c l ∷ more) o) bytes h in
    let found = unmap (λ more. pair_value c l ∷ more) o bytes inner.1 in
    let same : pair_value c l ∷ found.0 ≡ bytes = cc (ap (option_map (λ more. pair_value c l ∷ more)) found.1, inner.1) in
    go (eqb n 32) refl inner.0 found.1 (λ d. pairs_behind rest found.0 more d) (λ d. pairs_behind (n ∷ rest) found.0 more d)
    ∙ one_front (pair_value c l) found.0 more ∙ ap (λ b. pairs_then b more) same
  where
    go : (b : Bool) → eqb n 32 ≡ b → (is_hex c && is_hex l) ≡ true → {m : List ℕ} → cond b (pairs_of rest) (pairs_of (n ∷ rest)) ≡ Some m →
        (pairs_of rest ≡ Some m → pairs_of (rest ++ more) ≡ pairs_then m more) → (pairs_of (n ∷ rest) ≡ Some m → pairs_of (n ∷ (rest ++ more)) ≡ pairs_then m more) →
        pairs_of (c ∷ l ∷ n ∷ (rest ++ more)) ≡ option_map (λ others. pair_value c l ∷ others) (pairs_then m more)
    go true e two {m} now spaced whole = rw (e, two) (ap (option_map (λ others. pair_value c l ∷ others)) (spaced now))
    go false e two {m} now spaced whole = rw (e, two) (ap (option_map (λ others. pair_value c l ∷ others)) (whole now))

-- pairs are at most three characters for each byte, but for the last one
pub pairs_long : (hex bytes : List ℕ) → pairs_of hex ≡ Some bytes → length hex + 1 ≤ 3 * length bytes
pairs_long [] bytes h = cc
pairs_long (c ∷ []) bytes h = cc
pairs_long (c ∷ l ∷ []) bytes h =
    let inner = guard_some (is_hex c && is_hex l) (Some (pair_value c l ∷ [])) bytes h in
    let same : pair_value c l ∷ [] ≡ bytes = cc (inner.1) in
    omega (arith, ap length same)
pairs_long (c ∷ l ∷ n ∷ rest) bytes h =
    let o = cond (eqb n 32) (pairs_of rest) (pairs_of (n ∷ rest)) in
    let inner = guard_some (is_hex c && is_hex l) (option_map (λ more. pair_value c l ∷ more) o) bytes h in
    let found = unmap (λ more. pair_value c l ∷ more) o bytes inner.1 in
    let same : pair_value c l ∷ found.0 ≡ bytes = cc (ap (option_map (λ more. pair_value c l ∷ more)) found.1, inner.1) in
    let later = go (eqb n 32) found.1 (pairs_long rest found.0) (pairs_long (n ∷ rest) found.0) in
    omega (arith, ap length same, later)
  where
    go : (b : Bool) → {m : List ℕ} → cond b (pairs_of rest) (pairs_of (n ∷ rest)) ≡ Some m → (pairs_of rest ≡ Some m → length rest + 1 ≤ 3 * length m) →
        (pairs_of (n ∷ rest) ≡ Some m → length (n ∷ rest) + 1 ≤ 3 * length m) → length (n ∷ rest) ≤ 3 * length m
    go true {m} now spaced whole = let s = spaced now in omega (arith, s)
    go false {m} now spaced whole = let s = whole now in omega (arith, s)

-- a pair in front of data
wrong_front : (h l : ℕ) (t : List ℕ) → (is_hex h && is_hex l) ≡ false → pairs_of (data_of (h ∷ l ∷ t)) ≡ None
wrong_front h l t e = go (eqb h 32 && eqb l 32) (data_first l t)
  where
    go : (b : Bool) → (data_of (l ∷ t) ≡ []) ⊎ ((s : List ℕ) × (data_of (l ∷ t) ≡ l ∷ s)) → pairs_of (cond b [] (h ∷ data_of (l ∷ t))) ≡ None
    go true f = refl
    go false (inl none) = rw none refl
    go false (inr (s, some)) = rw some (pairs_of-wrong h l s e)

next_front : (h l n : ℕ) (t : List ℕ) → (is_hex h && is_hex l) ≡ true → (n ≡ 32 → ⊥) →
    pairs_of (data_of (h ∷ l ∷ n ∷ t)) ≡ option_map (λ bytes. pair_value h l ∷ bytes) (pairs_of (data_of (n ∷ t)))
next_front h l n t e other =
    let both = and_true (is_hex h) (is_hex l) e in
    let some = data_some n t other in
    ap pairs_of (data_keep h (l ∷ n ∷ t) (hex_other h both.0) ∙ ap (λ d. h ∷ d) (data_keep l (n ∷ t) (hex_other l both.1)) ∙ ap (λ d. h ∷ l ∷ d) some.1)
    ∙ pairs_of-next h l n some.0 e other ∙ ap (λ d. option_map (λ bytes. pair_value h l ∷ bytes) (pairs_of d)) (sym some.1)

space_front : (h l m : ℕ) (t : List ℕ) → (is_hex h && is_hex l) ≡ true → (m ≡ 32 → ⊥) →
    pairs_of (data_of (h ∷ l ∷ 32 ∷ m ∷ t)) ≡ option_map (λ bytes. pair_value h l ∷ bytes) (pairs_of (data_of (m ∷ t)))
space_front h l m t e other =
    let both = and_true (is_hex h) (is_hex l) e in
    ap pairs_of (data_keep h (l ∷ 32 ∷ m ∷ t) (hex_other h both.0) ∙ ap (λ d. h ∷ d) (data_keep l (32 ∷ m ∷ t) (hex_other l both.1)) ∙ ap (λ d. h ∷ l ∷ d) (data_space m t other))
    ∙ pairs_of-space h l (data_of (m ∷ t)) e

unmapped : (b : ℕ) (o : Option (List ℕ)) → option_map (λ bytes. b ∷ bytes) o ≡ None → o ≡ None
unmapped b None h = refl
unmapped b (Some bytes) h = cc

-- What a text is that has no pairs yet, whether it is cut behind its last character or in front of it.
pub record NoPairs (x : List ℕ) (z : ℕ) : Type 0 where
  pub own : data_of (x ++ z ∷ []) ≡ x ++ z ∷ []
  pub whole : pairs_of (data_of (x ++ z ∷ [])) ≡ None
  pub front : pairs_of (data_of x) ≡ None

-- no longer text is pairs
abbrev Never : List ℕ → ℕ → List ℕ → Type 0
Never x z more = pairs_of (data_of (x ++ z ∷ more)) ≡ None

last_pair : (h l : ℕ) → (is_hex h && is_hex l) ≡ true → pairs_of (data_of (h ∷ l ∷ [])) ≡ Some (pair_value h l ∷ [])
last_pair h l e =
    let both = and_true (is_hex h) (is_hex l) e in
    ap pairs_of (data_keep h (l ∷ []) (hex_other h both.0) ∙ ap (λ d. h ∷ d) (data_keep l [] (hex_other l both.1))) ∙ pairs_of-last h l e

last_space : (h l : ℕ) → (is_hex h && is_hex l) ≡ true → pairs_of (data_of (h ∷ l ∷ 32 ∷ [])) ≡ Some (pair_value h l ∷ [])
last_space h l e =
    let both = and_true (is_hex h) (is_hex l) e in
    ap pairs_of (data_keep h (l ∷ 32 ∷ []) (hex_other h both.0) ∙ ap (λ d. h ∷ d) (data_keep l (32 ∷ []) (hex_other l both.1))) ∙ pairs_of-last h l e

some_none : (bytes : List ℕ) {o : Option (List ℕ)} → o ≡ Some bytes → o ≡ None → ⊥
some_none bytes e n = cc

-- behind a pair without a space
behind_next : (h l n : ℕ) (r : List ℕ) (z : ℕ) (more : List ℕ) → (is_hex h && is_hex l) ≡ true → (n ≡ 32 → ⊥) → NoPairs (h ∷ l ∷ n ∷ r) z →
    (NoPairs (n ∷ r) z → Never (n ∷ r) z more) → Never (h ∷ l ∷ n ∷ r) z more
behind_next h l n r z more e other is later =
    let b = pair_value h l in
    next_front h l n (r ++ z ∷ more) e other
    ∙ ap (option_map (λ bytes. b ∷ bytes)) (later record {
      own = own_tail l (n ∷ (r ++ z ∷ [])) (own_tail h (l ∷ n ∷ (r ++ z ∷ [])) is.own);
      whole = unmapped b (pairs_of (data_of (n ∷ (r ++ z ∷ [])))) (sym (next_front h l n (r ++ z ∷ []) e other) ∙ is.whole);
      front = unmapped b (pairs_of (data_of (n ∷ r))) (sym (next_front h l n r e other) ∙ is.front);
    })

-- behind a pair and a space
behind_space : (h l m : ℕ) (r : List ℕ) (z : ℕ) (more : List ℕ) → (is_hex h && is_hex l) ≡ true → NoPairs (h ∷ l ∷ 32 ∷ m ∷ r) z →
    (NoPairs (m ∷ r) z → Never (m ∷ r) z more) → Never (h ∷ l ∷ 32 ∷ m ∷ r) z more
behind_space h l m r z more e is later =
    let b = pair_value h l in
    let behind = own_tail l (32 ∷ m ∷ (r ++ z ∷ [])) (own_tail h (l ∷ 32 ∷ m ∷ (r ++ z ∷ [])) is.own) in
    let other : m ≡ 32 → ⊥ = λ s. own_apart 32 m (r ++ z ∷ []) behind refl s in
    space_front h l m (r ++ z ∷ more) e other
    ∙ ap (option_map (λ bytes. b ∷ bytes)) (later record {
      own = own_tail 32 (m ∷ (r ++ z ∷ [])) behind;
      whole = unmapped b (pairs_of (data_of (m ∷ (r ++ z ∷ [])))) (sym (space_front h l m (r ++ z ∷ []) e other) ∙ is.whole);
      front = unmapped b (pairs_of (data_of (m ∷ r))) (sym (space_front h l m r e other) ∙ is.front);
    })

-- Where neither a text nor its front without the last character is pairs, no longer one is.
pub never_pairs : (x : List ℕ) (z : ℕ) (more : List ℕ) → 0 < length x → NoPairs x z → Never x z more
never_pairs [] z more some is = absurd (omega arith)
never_pairs (h ∷ []) z more some is = go (is_hex h && is_hex z) refl
  where
    go : (b : Bool) → (is_hex h && is_hex z) ≡ b → Never (h ∷ []) z more
    go false e = wrong_front h z more e
    go true e = absurd (some_none (pair_value h z ∷ []) (ap pairs_of is.own ∙ pairs_of-last h z e) is.whole)
never_pairs (h ∷ l ∷ []) z more some is = go (is_hex h && is_hex l) refl
  where
    go : (b : Bool) → (is_hex h && is_hex l) ≡ b → Never (h ∷ l ∷ []) z more
    go false e = wrong_front h l (z ∷ more) e
    go true e = absurd (some_none (pair_value h l ∷ []) (last_pair h l e) is.front)
never_pairs (h ∷ l ∷ n ∷ []) z more some is = go (is_hex h && is_hex l) refl (never_pairs (n ∷ []) z more (omega arith))
  where
    go : (b : Bool) → (is_hex h && is_hex l) ≡ b → (NoPairs (n ∷ []) z → Never (n ∷ []) z more) → Never (h ∷ l ∷ n ∷ []) z more
    go false e later = wrong_front h l (n ∷ z ∷ more) e
    go true e later = ⊎_elim
        (λ space. absurd (some_none (pair_value h l ∷ []) (ap (λ s. pairs_of (data_of (h ∷ l ∷ s ∷ []))) space ∙ last_space h l e) is.front))
        (λ other. behind_next h l n [] z more e other is later)
        (cases_eq n 32)
never_pairs (h ∷ l ∷ n ∷ m ∷ r) z more some is = go (is_hex h && is_hex l) refl (never_pairs (n ∷ m ∷ r) z more (omega arith)) (never_pairs (m ∷ r) z more (omega arith))
  where
    go : (b : Bool) → (is_hex h && is_hex l) ≡ b → (NoPairs (n ∷ m ∷ r) z → Never (n ∷ m ∷ r) z more) → (NoPairs (m ∷ r) z → Never (m ∷ r) z more) → Never (h ∷ l ∷ n ∷ m ∷ r) z more
    go false e next space = wrong_front h l (n ∷ m ∷ (r ++ z ∷ more)) e
    go true e next space = ⊎_elim
        (λ same. subst (λ s. Never (h ∷ l ∷ s ∷ m ∷ r) z more) (sym same) (behind_space h l m r z more e (subst (λ s. NoPairs (h ∷ l ∷ s ∷ m ∷ r) z) same is) space))
        (λ other. behind_next h l n (m ∷ r) z more e other is next)
        (cases_eq n 32)
