-- What is left of a text, call by call of a file.
use Rattle.std.proofs.Common.{◌≡◌, ◌≤◌, ℕ, ◌+◌, ◌/◌, List, ◌++◌, length, take, drop, ap, sym, subst, ◌∙◌, arith}
use Rattle.std.proofs.lemmas.List.{append_assoc, take-append-drop}
use Rattle.bx_image.specs.Power.{NoMore, AllFade, FadesBehind, FadesFrom}
use Rattle.bx_image.proofs.Survivors.{FadesBehind_of, FadesFrom_fewer}

-- the end was read first
pub FadesBehind_found : (x y bytes : List ℕ) (end : ℕ) (P Q R : List ℕ → Type 0) → end ≡ length x → y ≡ x → NoMore P Q → (end ≡ length y → FadesBehind y bytes Q R)
    → FadesBehind x bytes P R
FadesBehind_found x y bytes end P Q R is same less next =
    let after = FadesBehind_of x y bytes end Q R same next is in
    record { fade = λ n rest old. after.fade n rest (λ c there. old c (less c there)) }

-- a front of the bytes
pub FadesBehind_front : (x bytes : List ℕ) (k : ℕ) (P Q : List ℕ → Type 0) → FadesBehind x (take k bytes) P Q → FadesBehind x bytes P Q
FadesBehind_front x bytes k P Q part = record {
  fade = λ n rest.
      let whole : x ++ take k bytes ++ (drop k bytes ++ rest) ≡ x ++ bytes ++ rest =
      sym (append_assoc (x ++ take k bytes) (drop k bytes) rest)
      ∙ ap (λ (l : List ℕ). l ++ rest) (append_assoc x (take k bytes) (drop k bytes) ∙ ap (λ (l : List ℕ). x ++ l) (take-append-drop k bytes)) in
      let T : List ℕ → Type 0 = λ w. AllFade n w P → AllFade n w Q in
      subst T whole (part.fade n (drop k bytes ++ rest));
}
