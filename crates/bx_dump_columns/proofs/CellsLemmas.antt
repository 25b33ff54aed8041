-- Digits put one after another.
use Rattle.std.proofs.Common.{◌≡◌, ℕ, ◌+◌, ◌-◌, ◌*◌, ◌/◌, ◌<◌, List, [], ◌∷◌, ◌++◌, length, get_or, take, drop, replicate, refl, sym, ap, ◌∙◌, arith, append_assoc, append-nil, length-append}
use Rattle.std.proofs.Math.ListN.{set}
use borrow.Rule.Slice.PartMut.{put_mid, post_of}
use Rattle.std.specs.List.{flat_map, range_with_len}
use Rattle.std.proofs.lemmas.Slice.{take-put_mid}
use Rattle.std.proofs.lemmas.List.{take_more, take_more_set, length-take-le, length-drop, length-replicate, get_or-replicate, ext_get_or}
use Rattle.std.proofs.lemmas.Grind.{flat_map-append}
use Rattle.bx_text.proofs.RangeLemmas.{flat_map_split}
use Rattle.bx_dump_columns.specs.Cells.{piece_at, grouped}

-- the text of one element more
pub flat_more : (f : ℕ → List ℕ) (xs : List ℕ) (i : ℕ) → i < length xs → flat_map f (take (i + 1) xs) ≡ flat_map f (take i xs) ++ f (get_or xs i 0)
flat_more f xs i inside =
    ap (flat_map f) (take_more xs i 0 inside) ∙ flat_map-append f (take i xs) (get_or xs i 0 ∷ []) ∙ ap (λ t. flat_map f (take i xs) ++ t) (append-nil (f (get_or xs i 0)))

-- the text of one number more
pub range_more : (f : ℕ → List ℕ) (k : ℕ) → flat_map f (range_with_len 0 (k + 1)) ≡ flat_map f (range_with_len 0 k) ++ f k
range_more f k =
    let z : 0 + k ≡ k = omega arith in
    flat_map_split f 0 k 1 ∙ rw (z, append-nil (f k)) refl

-- a piece and a space more
pub piece_more : (field part : List ℕ) (a n k m : ℕ) → length part ≡ n → k ≡ n → a + n < length field → m ≡ a + n + 1 →
    take m (set (put_mid a k field part) (a + n) 32) ≡ take a field ++ (part ++ 32 ∷ [])
piece_more field part a n k m len same fits is =
    let long : a + n < length (put_mid a k field part) = omega (arith, length-append (take a field) (part ++ post_of a k field), length-append part (post_of a k field), length-take-le a field (omega arith), length-drop k (drop a field), length-drop a field) in
    ap (λ j. take j (set (put_mid a k field part) (a + n) 32)) is
    ∙ take_more_set (put_mid a k field part) (a + n) 32 long
    ∙ ap (λ t. t ++ 32 ∷ []) (take-put_mid a k field part (a + n) (omega arith) (omega arith)) ∙ append_assoc (take a field) part (32 ∷ [])

-- what is left of a list of cells after its whole pieces, and blanks
pub blanks : (xs : List ℕ) (n : ℕ) → length xs ≡ n → ((k : ℕ) → k < length xs → get_or xs k 0 ≡ 32) → xs ≡ replicate n 32
blanks xs n len all = ext_get_or 0 xs (replicate n 32) (omega (arith, length-replicate {A = ℕ} n 32)) (λ i inside. all i inside ∙ sym (get_or-replicate n i 32 0 (omega arith)))

pub grouped_parts : (cells front last gap : List ℕ) (piece count width : ℕ) → count ≡ length cells / piece → front ≡ flat_map (piece_at piece cells) (range_with_len 0 count) →
    last ≡ drop (piece * count) cells → length gap ≡ width - (length cells + count) → ((k : ℕ) → k < length gap → get_or gap k 0 ≡ 32) → front ++ (last ++ gap) ≡ grouped piece cells width
grouped_parts cells front last gap piece count width is p q len all =
    rw (p, q, blanks gap (width - (length cells + count)) len all, is) refl
