-- What may be found of a file behind a cache: its content, and whatever might be found before.
use Rattle.std.proofs.Common.{◌≡◌, ◌↔◌, ◌<◌, ◌≤◌, ◌⊎◌, inl, inr, ℕ, min, List, [], ◌∷◌, ◌++◌, length, slice_index, refl, subst, sym, ◌∙◌, arith}
use Rattle.std.proofs.lemmas.List.{places}
use Rattle.bx_image.specs.Image.{place, cut}
use Rattle.bx_image.specs.Power.{FadesBehind, FadesFrom, Follows, IsFaded, KeepsBelow, KeepsOutside, NoMore}
use Rattle.bx_image.proofs.Images.{length-cut, slice_index-cut}
use Rattle.bx_image.proofs.Survivors.{KeepsBelow-cut, KeepsBelow_refl, KeepsOutside-place, KeepsOutside_refl, place_end}
use Rattle.test_cache.specs.Cached.{MayBeFound, MayBeResized, MayBeWritten, MayFollow, after_one, content_of}
use Rattle.test_cache.specs.declared.unsynced.Unsynced.{Unsynced}
use Rattle.test_cache.specs.declared.unsynced.Unsynced.TheVariants.{Write, Resize}

-- a front of a text is left of it
faded_front : (n : ℕ) (y rest : List ℕ) → n ≤ length y → IsFaded n (y ++ rest) y
faded_front n y rest fits = record {
  kept = fits;
  no_longer = grind (arith, places);
  front = λ i h. grind (arith, places);
  bytes = λ i h. inl (grind (arith, places));
}

-- fewer bytes are sure
faded_fewer : (m n : ℕ) (x c : List ℕ) → IsFaded m x c → IsFaded (min m n) x c
faded_fewer m n x c fades = record {
  kept = omega (arith, fades.kept);
  no_longer = fades.no_longer;
  front = λ i h. fades.front i (omega arith);
  bytes = fades.bytes;
}

appended_fades : (n : ℕ) (x bytes rest : List ℕ) → n ≤ length x → IsFaded n (x ++ bytes ++ rest) (place x (length x) bytes)
appended_fades n x bytes rest fits =
    let T : List ℕ → Type 0 = λ y. IsFaded n (x ++ bytes ++ rest) y in
    subst T (sym (place_end x bytes)) (faded_front n (x ++ bytes) rest (grind (arith, places)))

-- a write that went through
pub written_there : (at : ℕ) (bytes x : List ℕ) (P : List ℕ → Type 0) → P x → MayBeWritten at bytes x P (place x at bytes)
written_there at bytes x P there = record {
  outside = (x, there, KeepsOutside-place x at bytes);
  fades = λ is n rest all.
      let T : ℕ → Type 0 = λ a. IsFaded n (x ++ bytes ++ rest) (place x a bytes) in
      subst T (sym is) (appended_fades n x bytes rest (all x there).kept);
}

-- a write that is lost
pub written_lost : (at : ℕ) (bytes x c : List ℕ) (P : List ℕ → Type 0) → P c → MayBeWritten at bytes x P c
written_lost at bytes x c P there = record {
  outside = (c, there, KeepsOutside_refl at (length bytes) c);
  fades = λ is n rest all. all c there;
}

cut_fades : (m n : ℕ) (x longer : List ℕ) → n ≤ length x → IsFaded m longer x → IsFaded (min m n) longer (cut x n)
cut_fades m n x longer fits fades =
    let long = length-cut x n in
    record {
      kept = omega (arith, long);
      no_longer = omega (arith, long, fades.no_longer);
      front = λ i h. slice_index-cut x n i (omega arith) ∙ fades.front i (omega arith);
      bytes = λ i h. bytes i (omega (arith, long)) (fades.bytes i (omega (arith, long)));
    }
  where
    bytes : (i : ℕ) → i < n → (slice_index x i ≡ slice_index longer i) ⊎ (slice_index x i ≡ 0) → (slice_index (cut x n) i ≡ slice_index longer i) ⊎ (slice_index (cut x n) i ≡ 0)
    bytes i h (inl as_it_was) = inl (slice_index-cut x n i h ∙ as_it_was)
    bytes i h (inr zero) = inr (slice_index-cut x n i h ∙ zero)

-- a change of the length that went through
pub resized_there : (n : ℕ) (x : List ℕ) (P : List ℕ → Type 0) → P x → MayBeResized n x P (cut x n)
resized_there n x P there = record {
  below = (x, there, KeepsBelow-cut x n);
  fades = λ fits m longer all. cut_fades m n x longer fits (all x there);
}

-- and one that is lost
pub resized_lost : (n : ℕ) (x c : List ℕ) (P : List ℕ → Type 0) → P c → MayBeResized n x P c
resized_lost n x c P there = record {
  below = (c, there, KeepsBelow_refl (min n (length x)) c);
  fades = λ fits m longer all. faded_fewer m n longer c (all c there);
}

content_there : (synced : List ℕ) (changes : List Unsynced) → MayBeFound synced changes (content_of synced changes)
content_there synced [] = refl
content_there synced (Write at bytes ∷ earlier) = written_there at bytes.items (content_of synced earlier) (MayBeFound synced earlier) (content_there synced earlier)
content_there synced (Resize n ∷ earlier) = resized_there n (content_of synced earlier) (MayBeFound synced earlier) (content_there synced earlier)

-- what is there may be found
pub present : (synced : List ℕ) (changes : List Unsynced) (x : List ℕ) → content_of synced changes ≡ x → MayBeFound synced changes x
present synced changes x is = let T : List ℕ → Type 0 = λ y. MayBeFound synced changes y in subst T is (content_there synced changes)

outside_of : (at n : ℕ) (c : List ℕ) (P Q : List ℕ → Type 0) → NoMore Q P → (d : List ℕ) × P d × KeepsOutside at n d c → (d : List ℕ) × Q d × KeepsOutside at n d c
outside_of at n c P Q more (d, old, keeps) = (d, more d old, keeps)

below_of : (n : ℕ) (c : List ℕ) (P Q : List ℕ → Type 0) → NoMore Q P → (d : List ℕ) × P d × KeepsBelow n d c → (d : List ℕ) × Q d × KeepsBelow n d c
below_of n c P Q more (d, old, keeps) = (d, more d old, keeps)

-- where more might be found before, more may be found now
pub written_more : (at : ℕ) (bytes x c : List ℕ) (P Q : List ℕ → Type 0) → NoMore Q P → MayBeWritten at bytes x P c → MayBeWritten at bytes x Q c
written_more at bytes x c P Q more w = record {
  outside = outside_of at (length bytes) c P Q more w.outside;
  fades = λ is n rest all. w.fades is n rest (λ d old. all d (more d old));
}

pub resized_more : (n : ℕ) (x c : List ℕ) (P Q : List ℕ → Type 0) → NoMore Q P → MayBeResized n x P c → MayBeResized n x Q c
resized_more n x c P Q more r = record {
  below = below_of (min n (length x)) c P Q more r.below;
  fades = λ fits m longer all. r.fades fits m longer (λ d old. all d (more d old));
}

pub follows_more : (change : Unsynced) (x c : List ℕ) (P Q : List ℕ → Type 0) → NoMore Q P → MayFollow change x P c → MayFollow change x Q c
follows_more (Write at bytes) x c P Q more = written_more at bytes.items x c P Q more
follows_more (Resize n) x c P Q more = resized_more n x c P Q more

pub change_there : (change : Unsynced) (x : List ℕ) (P : List ℕ → Type 0) → P x → MayFollow change x P (after_one change x)
change_there (Write at bytes) x P there = written_there at bytes.items x P there
change_there (Resize n) x P there = resized_there n x P there

-- what the file has is among what may come of its changes
of_found : (synced : List ℕ) (changes : List Unsynced) (x c : List ℕ) → content_of synced changes ≡ x → (c ≡ x) ⊎ MayBeFound synced changes c → MayBeFound synced changes c
of_found synced changes x c same (inl is) = let T : List ℕ → Type 0 = λ y. MayBeFound synced changes y in subst T (sym is) (present synced changes x same)
of_found synced changes x c same (inr there) = there

-- what may be found behind one change more
pub found_behind : (change : Unsynced) (synced : List ℕ) (earlier : List Unsynced) (x y c : List ℕ) → content_of synced earlier ≡ x → y ≡ after_one change x
    → ((c ≡ y) ⊎ MayBeFound synced (change ∷ earlier) c) ↔ MayFollow change x (λ d. (d ≡ x) ⊎ MayBeFound synced earlier d) c
found_behind change synced earlier x y c same is = (to, from)
  where
    P : List ℕ → Type 0
    P d = (d ≡ x) ⊎ MayBeFound synced earlier d

    to : (c ≡ y) ⊎ MayBeFound synced (change ∷ earlier) c → MayFollow change x P c
    to (inl now) = let T : List ℕ → Type 0 = λ z. MayFollow change x P z in subst T (sym (now ∙ is)) (change_there change x P (inl refl))
    to (inr there) =
        let T : List ℕ → Type 0 = λ z. MayFollow change z (MayBeFound synced earlier) c in
        follows_more change x c (MayBeFound synced earlier) P (λ d old. inr old) (subst T same there)

    from : MayFollow change x P c → (c ≡ y) ⊎ MayBeFound synced (change ∷ earlier) c
    from there =
        let T : List ℕ → Type 0 = λ z. MayFollow change z (MayBeFound synced earlier) c in
        inr (subst T (sym same) (follows_more change x c P (MayBeFound synced earlier) (λ d old. of_found synced earlier x d same old) there))

-- what the clauses of a file ask of a write, and of a change of the length
pub Follows_written : (at : ℕ) (bytes x : List ℕ) (P : List ℕ → Type 0) (Q : List ℕ → Type 0) → ((c : List ℕ) → Q c → MayBeWritten at bytes x P c)
    → Follows (KeepsOutside at (length bytes)) P Q
Follows_written at bytes x P Q to = λ c there. (to c there).outside

pub FadesBehind_written : (at : ℕ) (bytes x : List ℕ) (P : List ℕ → Type 0) (Q : List ℕ → Type 0) → ((c : List ℕ) → Q c → MayBeWritten at bytes x P c)
    → at ≡ length x → FadesBehind x bytes P Q
FadesBehind_written at bytes x P Q to is = record { fade = λ n rest all c there. (to c there).fades is n rest all }

pub Follows_resized : (n : ℕ) (x : List ℕ) (P : List ℕ → Type 0) (Q : List ℕ → Type 0) → ((c : List ℕ) → Q c → MayBeResized n x P c)
    → Follows (KeepsBelow (min n (length x))) P Q
Follows_resized n x P Q to = λ c there. (to c there).below

pub FadesFrom_resized : (n : ℕ) (x : List ℕ) (P : List ℕ → Type 0) (Q : List ℕ → Type 0) → ((c : List ℕ) → Q c → MayBeResized n x P c)
    → n ≤ length x → FadesFrom n P Q
FadesFrom_resized n x P Q to fits = record { fade = λ m longer all c there. (to c there).fades fits m longer all }
