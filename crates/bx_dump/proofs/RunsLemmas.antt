-- The pairs of places that the runs by position stand for.
use Rattle.std.proofs.Common.{◌≡◌, ℕ, zero, suc, ◌+◌, ◌-◌, ◌<◌, ◌≤◌, Bool, true, false, List, [], ◌∷◌, ◌++◌, length, take, drop, slice_index, get_or, refl, sym, ap, ◌∙◌, subst, arith, append-nil, inl, inr}
use Rattle.std.specs.Prelude.{nat_le, ◌&&◌, not, codes, if◌then◌else◌, All, Contains}
use Rattle.std.specs.List.{flat_map, range_with_len, prefix_len}
use Rattle.std.proofs.lemmas.Bool.{cases_order, and_parts}
use Rattle.std.proofs.lemmas.Bool.Decides.{nat_tests}
use Rattle.std.proofs.lemmas.Grind.{flat_map-append}
use Rattle.std.proofs.lemmas.List.{length-drop, length-take-le, get_or-drop}
use Rattle.std.proofs.lemmas.List.Sums.{prefix_len-le-length, prefix_len_passes, prefix_len_stops}
use Rattle.std.proofs.lemmas.List.Elements.{All-nil, All-cons, All-head, All-tail, All-append, All-weaker, Contains-append_left, Contains-append_right, Contains-push}
use Rattle.bx_dump_columns.specs.declared.od.options.Address.{Address}
use Rattle.bx_text.specs.Ascii.{is_printable}
use Rattle.bx_dump_columns.specs.Places.{place_text}
use Rattle.bx_dump.specs.Strings.{is_run_start, line_at}
use Rattle.bx_dump.specs.private.Strings.{run_at}
use Rattle.bx_dump.specs.Runs.{IsPrintableRun, IsRising, run_line, ShowsRuns}
use Rattle.bx_dump.proofs.ScanLemmas.{both}

-- whether a run that is long enough begins at a place
abbrev begins_run : ℕ → List ℕ → ℕ → Bool
begins_run least x a = is_run_start false x a && nat_le least (length (run_at x a))

abbrev pair_at : ℕ → List ℕ → ℕ → List (ℕ × ℕ)
pair_at least x a = if begins_run least x a then (a, a + length (run_at x a)) ∷ [] else []

abbrev pairs : ℕ → List ℕ → ℕ → ℕ → List (ℕ × ℕ)
pairs least x n m = flat_map (pair_at least x) (range_with_len n m)

run_len : (x : List ℕ) (a : ℕ) → length (run_at x a) ≡ prefix_len is_printable (drop a x)
run_len x a = length-take-le (prefix_len is_printable (drop a x)) (drop a x) (prefix_len-le-length is_printable (drop a x))

no-yes : {A : Type 0} {b : Bool} → b ≡ true → b ≡ false → A
no-yes p q = absurd (grind (arith, p, q))

not-is : (b : Bool) → not b ≡ true → b ≡ false
not-is true e = absurd (grind (arith, e))
not-is false e = refl

before_start : (x : List ℕ) (a k : ℕ) → is_run_start false x a ≡ true → k + 1 ≡ a → is_printable (slice_index x k) ≡ false
before_start x zero k start e = absurd (omega arith)
before_start x (suc a) k start e =
    let same : a ≡ k = omega arith in
    subst (λ j. is_printable (slice_index x j) ≡ false) same (not-is _ (and_parts _ _ start).1)

-- a pair is a maximal run
is_run : (least : ℕ) (x : List ℕ) (a : ℕ) → 0 < least → begins_run least x a ≡ true → IsPrintableRun least x a (a + length (run_at x a))
is_run least x a some begins =
    let parts : (is_run_start false x a ≡ true) × (nat_le least (length (run_at x a)) ≡ true) = and_parts _ _ begins in
    let len = run_len x a in
    let n = prefix_len is_printable (drop a x) in
    let most = prefix_len-le-length is_printable (drop a x) in
    let left = length-drop a x in
    let long : least ≤ length (run_at x a) = grind (arith, nat_tests, parts.1) in
    record {
      long = omega (arith, long);
      within = omega (arith, long, len, most, left, some);
      prints = λ k from to.
          let back : a + (k - a) ≡ k = omega arith in
          ap is_printable (ap (λ j. get_or x j 0) (sym back) ∙ sym (get_or-drop a x (k - a) 0)) ∙ prefix_len_passes is_printable (drop a x) (k - a) 0 (omega (arith, len));
      before = λ k e. before_start x a k parts.0 e;
      behind = λ short.
          ap is_printable (ap (λ j. get_or x (a + j) 0) len ∙ sym (get_or-drop a x n 0)) ∙ prefix_len_stops is_printable (drop a x) 0 (omega (arith, short, len, left));
    }

-- a count is the only one up to which all print, and behind which one doesn't
count_is : (xs : List ℕ) (n : ℕ) → n ≤ length xs → ((k : ℕ) → k < n → is_printable (get_or xs k 0) ≡ true) → (n < length xs → is_printable (get_or xs n 0) ≡ false) →
    prefix_len is_printable xs ≡ n
count_is xs n within prints behind =
    let most = prefix_len-le-length is_printable xs in
    elim (cases_order (prefix_len is_printable xs) n) [
      | inl same ↦ same
      | inr (inl less) ↦ no-yes (prints (prefix_len is_printable xs) less) (prefix_len_stops is_printable xs 0 (omega arith))
      | inr (inr more) ↦ no-yes (prefix_len_passes is_printable xs n 0 more) (behind (omega arith))
    ]

starts : (x : List ℕ) (a : ℕ) → is_printable (slice_index x a) ≡ true → ((k : ℕ) → k + 1 ≡ a → is_printable (slice_index x k) ≡ false) → is_run_start false x a ≡ true
starts x zero prints before = rw prints refl
starts x (suc a) prints before =
    let quiet : is_printable (slice_index x a) ≡ false = before a (omega arith) in
    rw (prints, quiet) refl

-- a maximal run is the pair at its place
module _ (least : ℕ) (x : List ℕ) (a b : ℕ) (some : 0 < least) (run : IsPrintableRun least x a b) where
  run_end : a + length (run_at x a) ≡ b
  run_end =
      let left = length-drop a x in
      let count = count_is (drop a x) (b - a) (omega (arith, left, run.within, run.long))
      (λ k lt. ap is_printable (get_or-drop a x k 0) ∙ run.prints (a + k) (omega arith) (omega arith))
      (λ lt. let end : a + (b - a) ≡ b = omega (arith, run.long) in ap is_printable (get_or-drop a x (b - a) 0 ∙ ap (λ j. get_or x j 0) end) ∙ run.behind (omega (arith, left, lt))) in
      omega (arith, run_len x a, count, run.long)

  run_begins : begins_run least x a ≡ true
  run_begins =
      let start = starts x a (run.prints a (omega arith) (omega (arith, run.long, some))) run.before in
      let long : nat_le least (length (run_at x a)) ≡ true = grind (arith, nat_tests, run_end, run.long) in
      rw (start, long) refl

  run_pair : pair_at least x a ≡ (a, b) ∷ []
  run_pair = rw (run_begins, run_end) refl

  run_inside : a < length x
  run_inside = omega (arith, run.long, run.within, some)

found_here : (least : ℕ) (x : List ℕ) (a : ℕ) → 0 < least → All (λ r. IsPrintableRun least x r.0 r.1) (pair_at least x a)
found_here least x a some = elim (both (begins_run least x a)) [
  | inl holds ↦ rw holds (All-cons (λ r. IsPrintableRun least x r.0 r.1) (a, a + length (run_at x a)) [] (is_run least x a some holds) (All-nil (λ r. IsPrintableRun least x r.0 r.1)))
  | inr fails ↦ rw fails (All-nil (λ r. IsPrintableRun least x r.0 r.1))
]

found_all : (least : ℕ) (x : List ℕ) (n m : ℕ) → 0 < least → All (λ r. IsPrintableRun least x r.0 r.1) (pairs least x n m)
found_all least x n zero some = All-nil (λ r. IsPrintableRun least x r.0 r.1)
found_all least x n (suc m) some =
    All-append (λ r. IsPrintableRun least x r.0 r.1) (pair_at least x n) (pairs least x (n + 1) m) (found_here least x n some) (found_all least x (n + 1) m some)

-- the pairs from a place on
later : (least : ℕ) (x : List ℕ) (n m : ℕ) → All (λ r. n ≤ r.0) (pairs least x n m)
later least x n zero = All-nil (λ r. n ≤ r.0)
later least x n (suc m) =
    let rest = All-weaker (λ r. n + 1 ≤ r.0) (λ r. n ≤ r.0) (λ r le. omega arith) (pairs least x (n + 1) m) (later least x (n + 1) m) in
    elim (both (begins_run least x n)) [
      | inl holds ↦ rw holds (All-cons (λ r. n ≤ r.0) (n, n + length (run_at x n)) (pairs least x (n + 1) m) (omega arith) rest)
      | inr fails ↦ rw fails rest
    ]

-- a run ends before a later one begins
apart : (least : ℕ) (x : List ℕ) (a b c d : ℕ) → IsPrintableRun least x a b → IsPrintableRun least x c d → a < c → b < c
apart least x a b c d one two less = elim (cases_order b c) [
  | inr (inl below) ↦ below
  | inl same ↦ no-yes (one.prints (c - 1) (omega arith) (omega arith)) (two.before (c - 1) (omega arith))
  | inr (inr above) ↦ no-yes (one.prints (c - 1) (omega arith) (omega arith)) (two.before (c - 1) (omega arith))
]

behind_all : (least : ℕ) (x : List ℕ) (a b : ℕ) (rs : List (ℕ × ℕ)) → IsPrintableRun least x a b → All (λ r. IsPrintableRun least x r.0 r.1) rs → All (λ r. a + 1 ≤ r.0) rs →
    All (λ s. b < s.0) rs
behind_all least x a b rs run found above = All-both rs found above
  where
    All-both : (rs : List (ℕ × ℕ)) → All (λ r. IsPrintableRun least x r.0 r.1) rs → All (λ r. a + 1 ≤ r.0) rs → All (λ s. b < s.0) rs
    All-both [] found above = All-nil (λ s. b < s.0)
    All-both (r ∷ rs) found above =
        All-cons (λ s. b < s.0) r rs
        (apart least x a b r.0 r.1 run (All-head (λ r. IsPrintableRun least x r.0 r.1) r rs found) (omega (arith, All-head (λ r. a + 1 ≤ r.0) r rs above)))
        (All-both rs (All-tail (λ r. IsPrintableRun least x r.0 r.1) r rs found) (All-tail (λ r. a + 1 ≤ r.0) r rs above))

rises : (least : ℕ) (x : List ℕ) (n m : ℕ) → 0 < least → IsRising (pairs least x n m)
rises least x n zero some = tt
rises least x n (suc m) some =
    let rest = rises least x (n + 1) m some in
    elim (both (begins_run least x n)) [
      | inl holds ↦ rw holds (behind_all least x n (n + length (run_at x n)) (pairs least x (n + 1) m) (is_run least x n some holds) (found_all least x (n + 1) m some) (later least x (n + 1) m), rest)
      | inr fails ↦ rw fails rest
    ]

-- the pair at a place is among them
among : (least : ℕ) (x : List ℕ) (q : ℕ × ℕ) (a n m : ℕ) → n ≤ a → a < n + m → Contains (pair_at least x a) q → Contains (pairs least x n m) q
among least x q a n zero from to has = absurd (omega arith)
among least x q a n (suc m) from to has = elim (cases_order n a) [
  | inl same ↦ Contains-append_left (pair_at least x n) (pairs least x (n + 1) m) q (subst (λ j. Contains (pair_at least x j) q) (sym same) has)
  | inr (inl below) ↦ Contains-append_right (pair_at least x n) (pairs least x (n + 1) m) q (among least x q a (n + 1) m (omega arith) (omega arith) has)
  | inr (inr above) ↦ absurd (omega arith)
]

-- the lines are those of the pairs
line_is : (least : ℕ) (o : Address) (x : List ℕ) (a : ℕ) → line_at least o false 0 x a ≡ flat_map (run_line o x) (pair_at least x a)
line_is least o x a =
    let first : 0 + a ≡ a = omega arith in
    let size : a + length (run_at x a) - a ≡ prefix_len is_printable (drop a x) = omega (arith, run_len x a) in
    elim (both (begins_run least x a)) [
      | inl holds ↦
          rw (holds, first) (sym (append-nil (run_line o x (a, a + length (run_at x a))) ∙ ap (λ n. place_text o a ++ (take n (drop a x) ++ codes "\n")) size))
      | inr fails ↦ rw fails refl
    ]

lines_are : (least : ℕ) (o : Address) (x : List ℕ) (n m : ℕ) → flat_map (line_at least o false 0 x) (range_with_len n m) ≡ flat_map (run_line o x) (pairs least x n m)
lines_are least o x n zero = refl
lines_are least o x n (suc m) =
    (λ i. line_is least o x n i ++ lines_are least o x (n + 1) m i) ∙ sym (flat_map-append (run_line o x) (pair_at least x n) (pairs least x (n + 1) m))

pub shows_runs : (least : ℕ) (o : Address) (x : List ℕ) → 0 < least → ShowsRuns least o x
shows_runs least o x some = record {
  runs = pairs least x 0 (length x);
  found = found_all least x 0 (length x) some;
  all = λ a b run.
      among least x (a, b) a 0 (length x) (omega arith) (omega (arith, run_inside least x a b some run))
      (subst (λ l. Contains l (a, b)) (sym (run_pair least x a b some run)) (Contains-push [] (a, b)));
  rising = rises least x 0 (length x) some;
  text = lines_are least o x 0 (length x);
}
