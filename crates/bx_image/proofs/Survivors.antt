-- What may be found after a loss of power, call by call.
use Rattle.std.proofs.Common.{◌≡◌, ◌<◌, ◌≤◌, ℕ, ◌+◌, ◌-◌, ◌⊎◌, inl, inr, min, List, [], ◌∷◌, ◌++◌, length, take, drop, slice_index, ap, sym, subst, ◌∙◌, refl, arith}
use Rattle.std.proofs.lemmas.Bool.{cases_lt}
use Rattle.std.proofs.lemmas.List.{places, take_rest, append_assoc, take-append-drop}
use Rattle.bx_image.specs.Image.{place, cut}
use Rattle.bx_image.specs.Power.{NoMore, Follows, KeepsOutside, KeepsBelow, IsFaded, AllFade, FadesBehind, FadesFrom}
use Rattle.bx_image.proofs.Images.{same_image, length-place, length-cut, slice_index-cut, slice_index-place_within, slice_index-place_below, slice_index-place_above}

pub NoMore_then : (P Q R : List ℕ → Type 0) → NoMore P Q → NoMore Q R → NoMore P R
NoMore_then P Q R first next = λ c there. first c (next c there)

pub KeepsOutside_refl : (at n : ℕ) (x : List ℕ) → KeepsOutside at n x x
KeepsOutside_refl at n x = λ i old out. (old, refl)

pub KeepsBelow_refl : (n : ℕ) (x : List ℕ) → KeepsBelow n x x
KeepsBelow_refl n x = λ i old below. (old, refl)

pub KeepsOutside_then : (at n : ℕ) (x y z : List ℕ) → KeepsOutside at n x y → KeepsOutside at n y z → KeepsOutside at n x z
KeepsOutside_then at n x y z first next = λ i old out.
    let one = first i old out in
    let two = next i one.0 out in
    (two.0, two.1 ∙ one.1)

pub KeepsBelow_then : (n : ℕ) (x y z : List ℕ) → KeepsBelow n x y → KeepsBelow n y z → KeepsBelow n x z
KeepsBelow_then n x y z first next = λ i old below.
    let one = first i old below in
    let two = next i one.0 below in
    (two.0, two.1 ∙ one.1)

-- a part of the range
pub KeepsOutside_wider : (at n from m : ℕ) (x y : List ℕ) → at ≤ from → from + m ≤ at + n → KeepsOutside from m x y → KeepsOutside at n x y
KeepsOutside_wider at n from m x y low high keeps = λ i old out. keeps i old (outside i out)
  where
    outside : (i : ℕ) → (i < at) ⊎ (at + n ≤ i) → (i < from) ⊎ (from + m ≤ i)
    outside i (inl below) = inl (omega arith)
    outside i (inr above) = inr (omega arith)

pub KeepsBelow_fewer : (m n : ℕ) (x y : List ℕ) → m ≤ n → KeepsBelow n x y → KeepsBelow m x y
KeepsBelow_fewer m n x y few keeps = λ i old below. keeps i old (omega arith)

pub KeepsOutside-place : (x : List ℕ) (at : ℕ) (bytes : List ℕ) → KeepsOutside at (length bytes) x (place x at bytes)
KeepsOutside-place x at bytes = λ i old out. (omega (arith, length-place x at bytes), same i out)
  where
    same : (i : ℕ) → (i < at) ⊎ (at + length bytes ≤ i) → slice_index (place x at bytes) i ≡ slice_index x i
    same i (inl below) = slice_index-place_below x at bytes i below
    same i (inr above) = slice_index-place_above x at bytes i above

pub KeepsBelow-cut : (x : List ℕ) (n : ℕ) → KeepsBelow (min n (length x)) x (cut x n)
KeepsBelow-cut x n = λ i old below. (omega (arith, length-cut x n), slice_index-cut x n i (omega arith))

-- a step that nothing came before
pub Follows_same : (step : List ℕ → List ℕ → Type 0) (P : List ℕ → Type 0) → ((x : List ℕ) → step x x) → Follows step P P
Follows_same step P same = λ c there. (c, there, same c)

pub Follows-NoMore : (step : List ℕ → List ℕ → Type 0) (P Q : List ℕ → Type 0) → ((x : List ℕ) → step x x) → NoMore P Q → Follows step P Q
Follows-NoMore step P Q same less = λ c there. (c, less c there, same c)

pub Follows_then : (step : List ℕ → List ℕ → Type 0) (P Q R : List ℕ → Type 0) → ((x y z : List ℕ) → step x y → step y z → step x z)
    → Follows step P Q → Follows step Q R → Follows step P R
Follows_then step P Q R joined first next = λ c there. on c (next c there)
  where
    back : (c d : List ℕ) → step d c → (e : List ℕ) × P e × step e d → (e : List ℕ) × P e × step e c
    back c d two (e, old, one) = (e, old, joined e d c one two)

    on : (c : List ℕ) → (d : List ℕ) × Q d × step d c → (e : List ℕ) × P e × step e c
    on c (d, between, two) = back c d two (first d between)

pub Follows_weaker : (step wider : List ℕ → List ℕ → Type 0) (P Q : List ℕ → Type 0) → ((x y : List ℕ) → step x y → wider x y) → Follows step P Q → Follows wider P Q
Follows_weaker step wider P Q weaker first = λ c there. on c (first c there)
  where
    on : (c : List ℕ) → (d : List ℕ) × P d × step d c → (d : List ℕ) × P d × wider d c
    on c (d, old, one) = (d, old, weaker d c one)

-- one content that may be found
pub Follows_one : (step : List ℕ → List ℕ → Type 0) (x y : List ℕ) → step x y → Follows step (λ c. c ≡ x) (λ c. c ≡ y)
Follows_one step x y one = λ c is. (x, refl, rw is one)

-- a part of a write, and then the rest of it
pub Follows_written : (P Q R : List ℕ → Type 0) (at n from m : ℕ) → at ≤ from → from + m ≤ at + n
    → Follows (KeepsOutside at n) P Q → Follows (KeepsOutside from m) Q R → Follows (KeepsOutside at n) P R
Follows_written P Q R at n from m low high first next =
    Follows_then (KeepsOutside at n) P Q R (KeepsOutside_then at n) first
    (Follows_weaker (KeepsOutside from m) (KeepsOutside at n) Q R (λ x y. KeepsOutside_wider at n from m x y low high) next)

-- bytes that are placed at the end are appended
pub place_end : (x bytes : List ℕ) → place x (length x) bytes ≡ x ++ bytes
place_end x bytes = same_image _ _ (lengths bytes) (λ i h. elim (cases_lt i (length x)) [
  | inl lo ↦ grind (arith, places, slice_index-place_below)
  | inr hi ↦ grind (arith, places, slice_index-place_within, lengths)
])
  where
    lengths : (bs : List ℕ) → length (place x (length x) bs) ≡ length (x ++ bs)
    lengths [] = grind (arith, places, length-place)
    lengths (b ∷ bs) = grind (arith, places, length-place)

-- a front that was placed at the end, and the rest behind it, are the whole
pub front_and_rest : (x y bytes rest : List ℕ) (at d : ℕ) → at ≡ length x → d ≤ length bytes → y ≡ place x at (take d bytes)
    → y ++ take (length bytes - d) (drop d bytes) ++ rest ≡ x ++ bytes ++ rest
front_and_rest x y bytes rest at d is fits placed =
    let y_is : y ≡ x ++ take d bytes = placed ∙ ap (λ (n : ℕ). place x n (take d bytes)) is ∙ place_end x (take d bytes) in
    ap (λ (l : List ℕ). l ++ rest) (
    ap (λ (l : List ℕ). l ++ take (length bytes - d) (drop d bytes)) y_is
    ∙ ap (λ (l : List ℕ). x ++ take d bytes ++ l) (take_rest bytes d)
    ∙ append_assoc x (take d bytes) (drop d bytes)
    ∙ ap (λ (l : List ℕ). x ++ l) (take-append-drop d bytes)
    )

pub front_is_long : (x y bytes : List ℕ) (at d : ℕ) → at ≡ length x → d ≤ length bytes → y ≡ place x at (take d bytes) → at + d ≡ length y
front_is_long x y bytes at d is fits placed =
    let y_is : y ≡ x ++ take d bytes = placed ∙ ap (λ (n : ℕ). place x n (take d bytes)) is ∙ place_end x (take d bytes) in
    rw y_is (grind (arith, places))

-- the text was read as it is
pub FadesBehind_of : (x y bytes : List ℕ) (at : ℕ) (P Q : List ℕ → Type 0) → y ≡ x → (at ≡ length y → FadesBehind y bytes P Q) → at ≡ length x → FadesBehind x bytes P Q
FadesBehind_of x y bytes at P Q same step = go y same step
  where
    go : (z : List ℕ) → z ≡ x → (at ≡ length z → FadesBehind z bytes P Q) → at ≡ length x → FadesBehind x bytes P Q
    go z is f long = let T : List ℕ → Type 0 = λ w. FadesBehind w bytes P Q in subst T is (f (long ∙ ap length (sym is)))

pub FadesBehind_then : (x bytes : List ℕ) (P Q R : List ℕ → Type 0) → FadesBehind x bytes P Q → FadesBehind x bytes Q R → FadesBehind x bytes P R
FadesBehind_then x bytes P Q R first next = record { fade = λ n rest old. next.fade n rest (first.fade n rest old) }

pub FadesBehind-NoMore : (x bytes : List ℕ) (P Q : List ℕ → Type 0) → NoMore P Q → FadesBehind x bytes P Q
FadesBehind-NoMore x bytes P Q less = record { fade = λ n rest old c there. old c (less c there) }

-- a front was written at the end, and then the rest of the bytes is
pub FadesBehind_written : (x y bytes : List ℕ) (at d : ℕ) (P Q R : List ℕ → Type 0) → d ≤ length bytes → y ≡ place x at (take d bytes)
    → (at ≡ length x → FadesBehind x bytes P Q)
    → (at + d ≡ length y → FadesBehind y (take (length bytes - d) (drop d bytes)) Q R)
    → at ≡ length x → FadesBehind x bytes P R
FadesBehind_written x y bytes at d P Q R fits placed first next is = record {
  fade = λ n rest old.
      let whole : y ++ take (length bytes - d) (drop d bytes) ++ rest ≡ x ++ bytes ++ rest = front_and_rest x y bytes rest at d is fits placed in
      let T : List ℕ → Type 0 = λ w. AllFade n w R in
      let U : List ℕ → Type 0 = λ w. AllFade n w Q in
      subst T whole ((next (front_is_long x y bytes at d is fits placed)).fade n rest (subst U (sym whole) ((first is).fade n rest old)));
}

-- fewer bytes are sure
IsFaded_fewer : (m n : ℕ) (x c : List ℕ) → IsFaded m x c → IsFaded (min m n) x c
IsFaded_fewer m n x c fades = record {
  kept = omega (arith, fades.kept);
  no_longer = fades.no_longer;
  front = λ i h. fades.front i (omega arith);
  bytes = fades.bytes;
}

pub FadesFrom-NoMore : (n : ℕ) (P Q : List ℕ → Type 0) → NoMore P Q → FadesFrom n P Q
FadesFrom-NoMore n P Q less = record { fade = λ m longer old c there. IsFaded_fewer m n longer c (old c (less c there)) }

pub Follows_below : (n : ℕ) (x y : List ℕ) (P Q R : List ℕ → Type 0) → y ≡ x → Follows (KeepsBelow (min n (length x))) P Q → Follows (KeepsBelow (min n (length y))) Q R
    → Follows (KeepsBelow (min n (length x))) P R
Follows_below n x y P Q R same first next =
    let T : List ℕ → Type 0 = λ w. Follows (KeepsBelow (min n (length w))) Q R in
    Follows_then (KeepsBelow (min n (length x))) P Q R (KeepsBelow_then _) first (subst T same next)

pub FadesFrom_then : (n : ℕ) (x y : List ℕ) (P Q R : List ℕ → Type 0) → y ≡ x → (n ≤ length x → FadesFrom n P Q) → (n ≤ length y → FadesFrom n Q R) → n ≤ length x → FadesFrom n P R
FadesFrom_then n x y P Q R same first next fits = record {
  fade = λ m longer old c there.
      let long : length y ≡ length x = ap length same in
      let fades = (next (omega arith)).fade (min m n) longer ((first fits).fade m longer old) c there in
      record {
        kept = omega (arith, fades.kept);
        no_longer = fades.no_longer;
        front = λ i h. fades.front i (omega arith);
        bytes = fades.bytes;
      };
}

-- a front of the bytes was written, and then the rest is
pub Follows_rest : (bytes : List ℕ) (at d : ℕ) (P Q R : List ℕ → Type 0) → d ≤ length bytes → Follows (KeepsOutside at (length bytes)) P Q
    → Follows (KeepsOutside (at + d) (length (take (length bytes - d) (drop d bytes)))) Q R → Follows (KeepsOutside at (length bytes)) P R
Follows_rest bytes at d P Q R fits first next =
    let part : length (take (length bytes - d) (drop d bytes)) ≡ length bytes - d = grind (arith, places) in
    Follows_written P Q R at (length bytes) (at + d) _ (omega arith) (omega (arith, part)) first next

pub Follows_shorter : (P Q : List ℕ → Type 0) (at m n : ℕ) → m ≤ n → Follows (KeepsOutside at m) P Q → Follows (KeepsOutside at n) P Q
Follows_shorter P Q at m n few = Follows_weaker (KeepsOutside at m) (KeepsOutside at n) P Q (λ x y. KeepsOutside_wider at n at m x y (omega arith) (omega arith))

pub Follows_place : (x y : List ℕ) (at : ℕ) (bytes : List ℕ) → y ≡ place x at bytes → Follows (KeepsOutside at (length bytes)) (λ c. c ≡ x) (λ c. c ≡ y)
Follows_place x y at bytes is = Follows_one _ x y (rw is (KeepsOutside-place x at bytes))

pub Follows_cut : (x y : List ℕ) (n : ℕ) → y ≡ cut x n → Follows (KeepsBelow (min n (length x))) (λ c. c ≡ x) (λ c. c ≡ y)
Follows_cut x y n is = Follows_one _ x y (rw is (KeepsBelow-cut x n))

pub FadesBehind_same : (x bytes : List ℕ) (P : List ℕ → Type 0) → FadesBehind x bytes P P
FadesBehind_same x bytes P = record { fade = λ n rest old. old }

-- a cut to more bytes, after a look
pub FadesFrom_fewer : (n m : ℕ) (P Q R : List ℕ → Type 0) → n ≤ m → NoMore P Q → FadesFrom m Q R → FadesFrom n P R
FadesFrom_fewer n m P Q R few less part = record {
  fade = λ k longer old c there.
      let fades = part.fade k longer (λ d before. old d (less d before)) c there in
      record {
        kept = omega (arith, fades.kept);
        no_longer = fades.no_longer;
        front = λ i h. fades.front i (omega arith);
        bytes = fades.bytes;
      };
}
