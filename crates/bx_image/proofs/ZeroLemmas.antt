-- Ranges without blocks of zeros.
use Rattle.std.proofs.Common.{◌≡◌, ℕ, zero, suc, ◌+◌, ◌-◌, ◌<◌, ◌≤◌, inl, inr, max, min, Bool, true, false, ◌||◌, ◌&&◌, Option, None, Some, List, [], ◌∷◌, ◌++◌, length, map, take, drop, slice_index, if◌then◌else◌, refl, ap, ◌∙◌, sym, subst, arith, length-take, length-drop}
use Rattle.std.specs.Prelude.{nat_lt, nat_le, ◌==◌, ◌⊎◌}
use Rattle.std.specs.List.{list_all}
use Rattle.std.specs.Option.{option_map_or}
use Rattle.std.proofs.Math.Bool.{or_assoc}
use Rattle.std.proofs.lemmas.Bool.{cases_lt, cases_Bool}
use Rattle.std.proofs.lemmas.Bool.Decides.{nat_tests}
use Rattle.std.proofs.lemmas.List.Elements.{All-pop}
use Rattle.bx_text.specs.declared.owned.pieces.Piece.{Piece}
use Rattle.bx_image.specs.declared.change.Change.{Change}
use Rattle.bx_image.specs.declared.record.Saved.{Saved}
use Rattle.bx_image.specs.declared.record.spans.Span.{Span}
use Rattle.bx_image.specs.Change.{byte_in, kept_byte, saved, touches}
use Rattle.bx_image.specs.Runs.{IsRunOf}
use Rattle.bx_image.specs.Over.{IsWithin, run_over, saved_over, LeavesZerosOut, LieWithin}
use Rattle.bx_image.specs.private.Spans.{are_over, is_between, with_span, AddAllButZeros, HasAllButZero}
use Rattle.bx_image.proofs.OverLemmas.{runs_over, stand_over}
use Rattle.bx_image.proofs.Records.{len-saved, saved-maximal}
use Rattle.bx_image.proofs.Runs.{byte_in_runs, IsRunOf-read}
use Rattle.bx_image.proofs.SpanLemmas.{are_over-push, are_over-with_span, covered-StandOver, joined, LieWithin-with_span}

-- one range as two
between_split : (at more end i : ℕ) → at ≤ more → more ≤ end → is_between at end i ≡ (is_between at more i || is_between more end i)
between_split at more end i low high =
    let most : max more end ≡ end = omega (arith, high) in
    ap (λ n. is_between at n i) (sym most) ∙ joined at more more end i low (omega arith)

between_out : (at end i : ℕ) → i < at → is_between at end i ≡ false
between_out at end i below = let no : nat_le at i ≡ false = grind (arith, nat_tests) in rw no refl

between_behind : (at end i : ℕ) → end ≤ i → is_between at end i ≡ false
between_behind at end i behind = elim (cases_lt i at) [
  | inl below ↦ between_out at end i below
  | inr hi ↦
      let yes : nat_le at i ≡ true = grind (arith, nat_tests) in
      let no : nat_lt i end ≡ false = grind (arith, nat_tests) in
      rw (yes, no) refl
]

between_in : (at end i : ℕ) → at ≤ i → i < end → is_between at end i ≡ true
between_in at end i low high =
    let yes : nat_le at i ≡ true = grind (arith, nat_tests) in
    let also : nat_lt i end ≡ true = grind (arith, nat_tests) in
    rw (yes, also) refl

between_low : (at end i : ℕ) → is_between at end i ≡ true → (at ≤ i) × (i < end)
between_low at end i is = elim (cases_lt i at) [
  | inl below ↦ let no = sym (between_out at end i below) ∙ is in cc
  | inr hi ↦ elim (cases_lt i end) [
    | inl low ↦ (hi, low)
    | inr behind ↦ let no = sym (between_behind at end i behind) ∙ is in cc
  ]
]

or_false : (b : Bool) → (b || false) ≡ b
or_false true = refl
or_false false = refl

-- nothing is added yet
pub none_added : (x : List ℕ) (base i : ℕ) (old new : Bool) → new ≡ old → HasAllButZero x base base i old new
none_added x base i old new is =
    inl (is ∙ sym (or_false old) ∙ ap (λ b. old || b) (sym (by_place (cases_lt i base))))
  where
    by_place : (i < base) ⊎ (base ≤ i) → is_between base base i ≡ false
    by_place (inl below) = between_out base base i below
    by_place (inr behind) = between_behind base base i behind

-- a block that is kept
pub block_added : (x : List ℕ) (base from at end i : ℕ) (old over : Bool) → from ≤ at → base ≤ at → at ≤ end
    → HasAllButZero x base at i old (over || is_between from at i) → HasAllButZero x base end i old (over || is_between from end i)
block_added x base from at end i old over low begun high so_far =
    let grown : (over || is_between from end i) ≡ ((over || is_between from at i) || is_between at end i) =
    ap (λ b. over || b) (between_split from at end i low high) ∙ sym (or_assoc over (is_between from at i) (is_between at end i)) in
    elim so_far [
      | inl is ↦
          inl (grown ∙ ap (λ b. b || is_between at end i) is ∙ or_assoc old (is_between base at i) (is_between at end i)
          ∙ ap (λ b. old || b) (sym (between_split base at end i begun high)))
      | inr zero_ ↦
          let within = between_low base at i zero_.0 in
          let same : (over || is_between from end i) ≡ old =
          grown ∙ ap (λ b. (over || is_between from at i) || b) (between_out at end i within.1) ∙ or_false (over || is_between from at i) ∙ zero_.1 in
          inr (between_in base end i within.0 (omega (arith, within.1, high)), same, zero_.2)
    ]

-- a block of zeros
pub block_left : (x : List ℕ) (base at end i : ℕ) (old new : Bool) → base ≤ at → at ≤ end → (at ≤ i → i < end → slice_index x i ≡ 0)
    → HasAllButZero x base at i old new → HasAllButZero x base end i old new
block_left x base at end i old new begun high zeros so_far = elim (cases_lt i at) [
  | inl below ↦
      let none : is_between at end i ≡ false = between_out at end i below in
      let same : is_between base end i ≡ is_between base at i =
      between_split base at end i begun high ∙ ap (λ b. is_between base at i || b) none ∙ or_false (is_between base at i) in
      elim so_far [
        | inl is ↦ inl (is ∙ ap (λ b. old || b) (sym same))
        | inr zero_ ↦ inr (same ∙ zero_.0, zero_.1, zero_.2)
      ]
  | inr hi ↦
      let out : is_between base at i ≡ false = between_behind base at i hi in
      let is_old : new ≡ old = by_case out so_far in
      elim (cases_lt i end) [
        | inl low ↦ inr (between_in base end i (omega (arith, begun, hi)) low, is_old, zeros hi low)
        | inr behind ↦ inl (is_old ∙ sym (or_false old) ∙ ap (λ b. old || b) (sym (between_behind base end i behind)))
      ]
]
  where
    by_case : is_between base at i ≡ false → HasAllButZero x base at i old new → new ≡ old
    by_case out (inl is) = is ∙ ap (λ b. old || b) out ∙ or_false old
    by_case out (inr zero_) = zero_.1

-- a loop that went on to the end, or didn't begin
pub all_added : (x : List ℕ) (base at len : ℕ) (old new : List Span) → len ≤ at → (base < at → at ≤ len) → ((i : ℕ) → HasAllButZero x base at i (are_over old i) (are_over new i)) → base ≤ at
    → AddAllButZeros x base len old new
all_added x base at len old new behind short so_far begun i = elim (cases_lt base at) [
  | inl some ↦ let end : at ≡ len = omega (arith, behind, short some) in subst (λ n. HasAllButZero x base n i (are_over old i) (are_over new i)) end (so_far i)
  | inr none ↦
      let end : at ≡ base = omega (arith, none, begun) in
      let here : HasAllButZero x base base i (are_over old i) (are_over new i) = subst (λ n. HasAllButZero x base n i (are_over old i) (are_over new i)) end (so_far i) in
      let never : is_between base base i ≡ false = empty base base i (omega arith) in
      let none_now : is_between base len i ≡ false = empty base len i (omega (arith, behind, end)) in
      elim here [
        | inl is ↦ inl (is ∙ ap (λ b. are_over old i || b) (never ∙ sym none_now))
        | inr zero_ ↦ let no = sym never ∙ zero_.0 in cc
      ]
]
  where
    empty : (a b k : ℕ) → b ≤ a → is_between a b k ≡ false
    empty a b k le = elim (cases_lt k a) [
      | inl below ↦ between_out a b k below
      | inr hi ↦ between_behind a b k (omega (arith, hi, le))
    ]

-- bytes that are all zeros
pub zero_at : (bytes : List ℕ) (j : ℕ) → list_all (λ b. b == 0) bytes ≡ true → slice_index bytes j ≡ 0
zero_at [] j all = refl
zero_at (b ∷ bytes) zero all = first (b == 0) refl all
  where
    first : (t : Bool) → (b == 0) ≡ t → (t && list_all (λ b. b == 0) bytes) ≡ true → b ≡ 0
    first true is all = grind (arith, nat_tests)
    first false is all = cc
zero_at (b ∷ bytes) (suc j) all = zero_at bytes j (others (b == 0) all)
  where
    others : (t : Bool) → (t && list_all (λ b. b == 0) bytes) ≡ true → list_all (λ b. b == 0) bytes ≡ true
    others true all = all
    others false all = cc

pub zeros_read : (x bytes : List ℕ) (at count i : ℕ) → bytes ≡ take count (drop at x) → at + count ≤ length x → list_all (λ b. b == 0) bytes ≡ true
    → at ≤ i → i < at + count → slice_index x i ≡ 0
zeros_read x bytes at count i read fits all low high =
    let run : Piece (Unit {0}) = record { at = at; bytes = bytes } in
    let size : at + count - at ≡ count = omega arith in
    let of_x : IsRunOf x run = IsRunOf-read x run at (at + count) refl (omega arith) fits (read ∙ ap (λ n. take n (drop at x)) (sym size)) in
    let long : length bytes ≡ count = omega (arith, ap length read, length-take count (drop at x), length-drop at x, fits) in
    let place : at + (i - at) ≡ i = omega (arith, low) in
    ap (slice_index x) (sym place) ∙ sym (of_x.same (i - at) (omega (arith, long, low, high))) ∙ zero_at bytes (i - at) all

-- the last range taken off, or put back
pub taken_over : (spans front : List Span) (last : Span) (base i : ℕ) → spans ≡ front ++ last ∷ [] → last.end ≡ base → (are_over front i || is_between last.at base i) ≡ are_over spans i
taken_over spans front last base i is end = ap (λ n. are_over front i || is_between last.at n i) (sym end) ∙ sym (are_over-push front last i) ∙ ap (λ ss. are_over ss i) (sym is)

pub put_back : (spans front new : List Span) (last : Span) (base i : ℕ) → spans ≡ front ++ last ∷ [] → new ≡ with_span last.at last.end front → (are_over new i || is_between base base i) ≡ are_over spans i
put_back spans front new last base i is new_is =
    ap (λ b. are_over new i || b) (by_place (cases_lt i base)) ∙ or_false (are_over new i) ∙ ap (λ ss. are_over ss i) new_is ∙ are_over-with_span last.at last.end front i
    ∙ sym (are_over-push front last i) ∙ ap (λ ss. are_over ss i) (sym is)
  where
    by_place : (i < base) ⊎ (base ≤ i) → is_between base base i ≡ false
    by_place (inl below) = between_out base base i below
    by_place (inr behind) = between_behind base base i behind

-- a range that is ended
pub ended_over : (items new : List Span) (from at end i : ℕ) → new ≡ with_span from at items → (are_over new i || is_between end end i) ≡ (are_over items i || is_between from at i)
ended_over items new from at end i is =
    ap (λ b. are_over new i || b) (by_place (cases_lt i end)) ∙ or_false (are_over new i) ∙ ap (λ ss. are_over ss i) is ∙ are_over-with_span from at items i
  where
    by_place : (i < end) ⊎ (end ≤ i) → is_between end end i ≡ false
    by_place (inl below) = between_out end end i below
    by_place (inr behind) = between_behind end end i behind

pub within_ended : (len from at : ℕ) (items new : List Span) → new ≡ with_span from at items → LieWithin len items → (from < at → at ≤ len) → LieWithin len new
unfolding with_span
within_ended len from at items new is within short = elim (cases_lt from at) [
  | inl some ↦ subst (LieWithin len) (sym is) (LieWithin-with_span len from at items within (short some))
  | inr none ↦ let test : nat_lt from at ≡ false = grind (arith, nat_tests) in subst (LieWithin len) (sym (is ∙ ap (λ b. if b then items ++ record { at = from; end = at } ∷ [] else items) test)) within
]

pub within_back : (len : ℕ) (spans front new : List Span) (last : Span) → spans ≡ front ++ last ∷ [] → new ≡ with_span last.at last.end front → LieWithin len spans → LieWithin len new
within_back len spans front new last is new_is within =
    let parts = All-pop (IsWithin len) spans front (Some last) is within in
    subst (LieWithin len) (sym new_is) (LieWithin-with_span len last.at last.end front parts.0 parts.1.within)

-- what the ranges give of x leaves zeros out
touched_behind : {A : Type 0} (c : Change A) (base i : ℕ) → c.base ≡ Some base → base ≤ i → touches c i ≡ true
unfolding touches
touched_behind c base i is hi = let yes : nat_le base i ≡ true = grind (arith, nat_tests) in rw (is, yes) refl

pub zeros_left : {A : Type 0} (c : Change A) (base : ℕ) (x : List ℕ) (old new : List Span) → c.base ≡ Some base → LieWithin (length x) new
    → ((i : ℕ) → are_over old i ≡ (nat_lt i (min (length x) base) && touches c i)) → AddAllButZeros x base (length x) old new
    → LeavesZerosOut base (saved c x) (saved_over {A = A} x new)
zeros_left {A = A} c base x old new is within front added = record { len = sym (len-saved c x); bytes = λ i. by_case i (added i) }
  where
    here : (i : ℕ) → byte_in (map (run_over {A = A} x) new) i ≡ (if are_over new i then Some (slice_index x i) else None)
    here i =
        byte_in_runs x (map (run_over x) new) i (runs_over A x new within)
        ∙ ap (λ b. if b then Some (slice_index x i) else None) (covered-StandOver new (map (run_over {A = A} x) new) i (stand_over A x new within))

    there : (i : ℕ) → byte_in (saved c x).runs i ≡ kept_byte c x i
    there i = (saved-maximal c x).same i

    none_behind : (i : ℕ) → base ≤ i → are_over old i ≡ false
    none_behind i hi = let no : nat_lt i (min (length x) base) ≡ false = grind (arith, nat_tests) in front i ∙ ap (λ b. b && touches c i) no

    whole : (i : ℕ) → (are_over old i || is_between base (length x) i) ≡ (nat_lt i (length x) && touches c i)
    whole i = elim (cases_lt i base) [
      | inl low ↦
          let same : nat_lt i (min (length x) base) ≡ nat_lt i (length x) = below low (cases_lt i (length x)) in
          ap (λ b. are_over old i || b) (between_out base (length x) i low) ∙ or_false (are_over old i) ∙ front i ∙ ap (λ b. b && touches c i) same
      | inr hi ↦
          let yes : nat_le base i ≡ true = grind (arith, nat_tests) in
          rw (none_behind i hi, touched_behind c base i is hi, yes) (sym (and_true (nat_lt i (length x))))
    ]
      where
        and_true : (b : Bool) → (b && true) ≡ b
        and_true true = refl
        and_true false = refl

        below : i < base → (i < length x) ⊎ (length x ≤ i) → nat_lt i (min (length x) base) ≡ nat_lt i (length x)
        below low (inl in_x) =
            let least : i < min (length x) base = omega (arith, low, in_x) in
            let one : nat_lt i (min (length x) base) ≡ true = grind (arith, nat_tests) in
            let two : nat_lt i (length x) ≡ true = grind (arith, nat_tests) in
            one ∙ sym two
        below low (inr out) =
            let least : min (length x) base ≤ i = omega (arith, out) in
            let one : nat_lt i (min (length x) base) ≡ false = grind (arith, nat_tests) in
            let two : nat_lt i (length x) ≡ false = grind (arith, nat_tests) in
            one ∙ sym two

    by_case : (i : ℕ) → HasAllButZero x base (length x) i (are_over old i) (are_over new i)
        → (byte_in (map (run_over {A = A} x) new) i ≡ byte_in (saved c x).runs i) ⊎ ((base ≤ i) × (byte_in (map (run_over {A = A} x) new) i ≡ None) × (byte_in (saved c x).runs i ≡ Some 0))
    by_case i (inl same) = inl (here i ∙ ap (λ b. if b then Some (slice_index x i) else None) (same ∙ whole i) ∙ sym (there i))
    by_case i (inr zero_) =
        let at = between_low base (length x) i zero_.0 in
        let in_x : nat_lt i (length x) ≡ true = grind (arith, nat_tests, at) in
        let full : kept_byte c x i ≡ Some 0 = ap (λ b. if b && touches c i then Some (slice_index x i) else None) in_x ∙ ap (λ b. if b then Some (slice_index x i) else None) (touched_behind c base i is at.0) ∙ ap Some zero_.2 in
        inr (at.0, here i ∙ ap (λ b. if b then Some (slice_index x i) else None) (zero_.1 ∙ none_behind i at.0), there i ∙ full)
