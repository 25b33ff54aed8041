-- What a page has of an image.
use Rattle.std.proofs.Common.{◌≡◌, inl, inr, ℕ, ◌+◌, ◌-◌, ◌<◌, ◌≤◌, List, length, take, drop, ap, sym, ◌∙◌, arith}
use Rattle.std.proofs.Math.Nat.{eq-or-lt_of_le}
use Rattle.std.proofs.lemmas.List.{drop-drop, drop-take, take-take, take_all}
use Rattle.bx_image.specs.Cached.{IsCache}
use Rattle.bx_image.specs.declared.cached.Cached.{Cached}

-- a cache of an image that is the same as before
pub cache_again : (faithful now_faithful : Type 0) (image now page : List ℕ) (c : Cached) → (now_faithful → faithful) → (now_faithful → now ≡ image) → IsCache faithful image page c → IsCache now_faithful now page c
cache_again faithful now_faithful image now page c still same cache = record {
  long = λ h. cache.long (still h) ∙ sym (ap length (same h));
  are = λ h. cache.are (still h) ∙ ap (λ im. take c.count (drop c.at im)) (sym (same h));
  inside = cache.inside;
}

-- bytes within others that are the image's
pub same_bytes : (image page : List ℕ) (start size at count : ℕ) → take size page ≡ take size (drop start image) → start ≤ at → at + count ≤ start + size → take count (drop (at - start) page) ≡ take count (drop at image)
same_bytes image page start size at count are behind inside =
    let m : ℕ = size - (at - start) in
    let parts : (at - start) + m ≡ size = omega (arith, behind, inside) in
    let fits : count ≤ m = omega (arith, behind, inside) in
    let place : start + (at - start) ≡ at = omega (arith, behind) in
    let more : take m (drop (at - start) page) ≡ take m (drop at image) =
    sym (drop-take (at - start) m page) ∙ ap (λ n. drop (at - start) (take n page)) parts ∙ ap (drop (at - start)) are ∙ ap (λ n. drop (at - start) (take n (drop start image))) (sym parts)
    ∙ drop-take (at - start) m (drop start image) ∙ ap (take m) (drop-drop (at - start) start image ∙ ap (λ n. drop n image) place) in
    sym (take-take count m (drop (at - start) page) fits) ∙ ap (take count) more ∙ take-take count m (drop at image) fits

-- a front of a list that is shorter only where the list is
pub take_least : (n m : ℕ) (xs : List ℕ) → m ≤ n → (m < n → length xs ≤ m) → take n xs ≡ take m xs
take_least n m xs less short = elim (eq-or-lt_of_le less) [
  | inl e ↦ ap (λ k. take k xs) (sym e)
  | inr lt ↦ take_all n xs (omega (arith, lt, short lt)) ∙ sym (take_all m xs (short lt))
]
