-- A record and the same of no allocator.
use Rattle.std.proofs.Common.{◌≡◌, ℕ, List, [], ◌∷◌, ◌++◌, map, refl, ap, sym, ◌∙◌}
use Rattle.std.specs.Prelude.{slice_index, unwrap_or}
use Rattle.std.specs.Option.{option_or}
use Rattle.std.specs.List.{range_with_len}
use Rattle.bx_text.specs.declared.owned.pieces.Piece.{Piece}
use Rattle.bx_image.specs.declared.record.Saved.{Saved}
use Rattle.bx_image.specs.Image.{image_of}
use Rattle.bx_image.specs.Change.{byte_in, restore, AllWithin, Covers, HaveBytes, IsOf, IsAsGood}
use Rattle.bx_image.specs.private.Change.{byte_of}
use Rattle.bx_journal_format.specs.Kept.{run_of, kept_of}

pub same_byte : {A : Type 0} → (runs : List (Piece A)) (i : ℕ) → byte_in (map run_of runs) i ≡ byte_in runs i
unfolding byte_in
same_byte [] i = refl
same_byte (run ∷ runs) i = ap (λ o. option_or o (byte_of run i)) (same_byte runs i)

map_same : {A B : Type 0} (f g : A → B) (xs : List A) → ((x : A) → f x ≡ g x) → map f xs ≡ map g xs
map_same f g [] h = refl
map_same f g (x ∷ xs) h = rw (h x) (ap (λ ys. g x ∷ ys) (map_same f g xs h))

pub same_restore : {A : Type 0} → (s : Saved A) (y : List ℕ) → restore (kept_of s) y ≡ restore s y
unfolding restore image_of
same_restore s y = map_same (λ i. unwrap_or (byte_in (map run_of s.runs) i) (slice_index y i)) (λ i. unwrap_or (byte_in s.runs i) (slice_index y i)) (range_with_len 0 s.len)
    (λ i. ap (λ o. unwrap_or o (slice_index y i)) (same_byte s.runs i))

pub covers_in : {A : Type 0} → (s : Saved A) (y : List ℕ) → Covers s y → Covers (kept_of s) y
covers_in s y covers i below none = covers i below (sym (same_byte s.runs i) ∙ none)

pub covers_out : {A : Type 0} → (s : Saved A) (y : List ℕ) → Covers (kept_of s) y → Covers s y
covers_out s y covers i below none = covers i below (same_byte s.runs i ∙ none)

pub within_in : {A : Type 0} → (len : ℕ) (runs : List (Piece A)) → AllWithin len runs → AllWithin len (map run_of runs)
within_in len [] w = tt
within_in len (run ∷ runs) w = (w.0, within_in len runs w.1)

pub within_out : {A : Type 0} → (len : ℕ) (runs : List (Piece A)) → AllWithin len (map run_of runs) → AllWithin len runs
within_out len [] w = tt
within_out len (run ∷ runs) w = (w.0, within_out len runs w.1)

pub bytes_in : {A : Type 0} → (runs : List (Piece A)) → HaveBytes runs → HaveBytes (map run_of runs)
bytes_in [] h = tt
bytes_in (run ∷ runs) h = (h.0, bytes_in runs h.1)

pub is_of_in : {A : Type 0} → (s : Saved A) (x : List ℕ) → IsOf s x → IsOf (kept_of s) x
is_of_in s x is = record {
  len = is.len;
  within = within_in s.len s.runs is.within;
  bytes = bytes_in s.runs is.bytes;
  back = same_restore s x ∙ is.back;
  covers = covers_in s x is.covers;
}

pub good_in : {A : Type 0} → (s : Saved A) (x y : List ℕ) → IsAsGood s x y → IsAsGood (kept_of s) x y
good_in s x y good = record {
  same = same_restore s y ∙ good.same ∙ sym (same_restore s x);
  covers = covers_in s y good.covers;
}

pub runs_push : {A : Type 0} → (runs : List (Piece A)) (piece : Piece A) → map run_of (runs ++ piece ∷ []) ≡ map run_of runs ++ run_of piece ∷ []
runs_push [] piece = refl
runs_push (run ∷ runs) piece = ap (λ rs. run_of run ∷ rs) (runs_push runs piece)
