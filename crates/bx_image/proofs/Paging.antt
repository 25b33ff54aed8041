-- Bytes that stand in pages.
use Rattle.std.proofs.Common.{◌≡◌, ◌≢◌, ℕ, zero, suc, ◌+◌, ◌-◌, ◌*◌, ◌/◌, ◌%◌, ◌<◌, ◌≤◌, inl, inr, max, List, [], ◌∷◌, ◌++◌, length, take, drop, replicate, get_or, slice_index, refl, ap, sym, ◌∙◌, arith}
use Rattle.std.proofs.lemmas.Bool.{cases_lt}
use Rattle.std.proofs.lemmas.List.{places, take-append-le, length-take}
use Rattle.bx_image.specs.Image.{image_of, place, cut}
use Rattle.bx_image.specs.Pages.{byte_at}
use Rattle.bx_image.specs.private.Pages.{page_at, IsWrittenOver, IsCleared}
use Rattle.bx_image.proofs.Images.{same_image, end_of_some, length-image_of, slice_index-image_of, slice_index_past, length-place, length-cut, slice_index-cut, slice_index-place_within, slice_index-place_below, slice_index-place_above}

pub page_at-get_or : {P : Type 0} (pages : List P) (bytes : P → List ℕ) (k : ℕ) (d : P) → k < length pages → page_at pages bytes k ≡ bytes (get_or pages k d)
page_at-get_or [] bytes k d h = absurd (omega arith)
page_at-get_or (p ∷ pages) bytes zero d h = refl
page_at-get_or (p ∷ pages) bytes (suc k) d h = page_at-get_or pages bytes k d (omega arith)

pub page_at-past : {P : Type 0} (pages : List P) (bytes : P → List ℕ) (k : ℕ) → length pages ≤ k → page_at pages bytes k ≡ []
page_at-past [] bytes k h = refl
page_at-past (p ∷ pages) bytes zero h = absurd (omega arith)
page_at-past (p ∷ pages) bytes (suc k) h = page_at-past pages bytes k (omega arith)

in_front : (p bytes : List ℕ) (o r : ℕ) → r < o → o ≤ length p → slice_index (take o p ++ bytes ++ drop (o + length bytes) p) r ≡ slice_index p r
in_front p bytes o r lo fits = grind (arith, places)

in_mid : (p bytes : List ℕ) (o r j : ℕ) → r ≡ o + j → j < length bytes → o ≤ length p → slice_index (take o p ++ bytes ++ drop (o + length bytes) p) r ≡ slice_index bytes j
in_mid p bytes o r j is lo fits = grind (arith, places)

in_back : (p bytes : List ℕ) (o r : ℕ) → o + length bytes ≤ r → o + length bytes ≤ length p → slice_index (take o p ++ bytes ++ drop (o + length bytes) p) r ≡ slice_index p r
in_back p bytes o r lo fits = grind (arith, places)

-- what is written in one page
pub written_part : {P : Type 0} (old new : List P) (f : P → List ℕ) (index offset at : ℕ) (bytes : List ℕ) (d : P) → length new ≡ length old → index < length old → offset + length bytes ≤ 4096
    → length (f (get_or old index d)) ≡ 4096 → ((k : ℕ) → k ≢ index → get_or new k d ≡ get_or old k d)
    → f (get_or new index d) ≡ take offset (f (get_or old index d)) ++ bytes ++ drop (offset + length bytes) (f (get_or old index d))
    → at ≡ 4096 * index + offset → IsWrittenOver at bytes (byte_at old f) (byte_at new f)
unfolding byte_at
written_part {P = P} old new f index offset at bytes d len some fits size others page is = record {
  below = λ i h. elim (cases_lt (i / 4096) index) [
    | inl lt ↦ ap (λ (p : List ℕ). slice_index p (i % 4096)) (same (i / 4096) (omega arith))
    | inr ge ↦
        let here : i / 4096 ≡ index = omega arith in
        change i here ∙ in_front old_page bytes offset (i % 4096) (omega arith) (omega (arith, size)) ∙ sym (kept i here)
  ];
  within = λ j h.
      let here : (at + j) / 4096 ≡ index = omega arith in
      change (at + j) here ∙ in_mid old_page bytes offset ((at + j) % 4096) j (omega arith) h (omega (arith, size));
  above = λ i h. elim (cases_lt index (i / 4096)) [
    | inl lt ↦ ap (λ (p : List ℕ). slice_index p (i % 4096)) (same (i / 4096) (omega arith))
    | inr ge ↦
        let here : i / 4096 ≡ index = omega arith in
        change i here ∙ in_back old_page bytes offset (i % 4096) (omega arith) (omega (arith, size)) ∙ sym (kept i here)
  ];
}
  where
    old_page : List ℕ
    old_page = f (get_or old index d)

    same : (k : ℕ) → k ≢ index → page_at new f k ≡ page_at old f k
    same k ne = elim (cases_lt k (length old)) [
      | inl lt ↦ page_at-get_or new f k d (omega arith) ∙ ap f (others k ne) ∙ sym (page_at-get_or old f k d lt)
      | inr ge ↦ page_at-past new f k (omega arith) ∙ sym (page_at-past old f k ge)
    ]

    kept : (i : ℕ) → i / 4096 ≡ index → slice_index (page_at old f (i / 4096)) (i % 4096) ≡ slice_index old_page (i % 4096)
    kept i here = ap (λ (k : ℕ). slice_index (page_at old f k) (i % 4096)) here ∙ ap (λ (p : List ℕ). slice_index p (i % 4096)) (page_at-get_or old f index d some)

    change : (i : ℕ) → i / 4096 ≡ index → slice_index (page_at new f (i / 4096)) (i % 4096) ≡ slice_index (take offset old_page ++ bytes ++ drop (offset + length bytes) old_page) (i % 4096)
    change i here = ap (λ (k : ℕ). slice_index (page_at new f k) (i % 4096)) here ∙ ap (λ (p : List ℕ). slice_index p (i % 4096)) (page_at-get_or new f index d (omega arith) ∙ page)

-- an item of a list that has one
some_item : {P : Type 0} (pages : List P) (k : ℕ) → k < length pages → P
some_item [] k h = absurd (omega arith)
some_item (p ∷ pages) k h = p

-- the same, at an address
pub written_at : {P : Type 0} (old new : List P) (f : P → List ℕ) (at : ℕ) (bytes : List ℕ) → length new ≡ length old → at / 4096 < length old → at % 4096 + length bytes ≤ 4096
    → ((d : P) → length (f (get_or old (at / 4096) d)) ≡ 4096) → ((k : ℕ) (d : P) → k ≢ at / 4096 → get_or new k d ≡ get_or old k d)
    → ((d : P) → f (get_or new (at / 4096) d) ≡ take (at % 4096) (f (get_or old (at / 4096) d)) ++ bytes ++ drop (at % 4096 + length bytes) (f (get_or old (at / 4096) d)))
    → IsWrittenOver at bytes (byte_at old f) (byte_at new f)
written_at old new f at bytes len some fits size others page =
    let d = some_item old (at / 4096) some in
    written_part old new f (at / 4096) (at % 4096) at bytes d len some fits (size d) (λ k ne. others k d ne) (page d) (omega arith)

-- a write that goes on where another ended
pub IsWrittenOver_next : (at end next : ℕ) (bytes : List ℕ) (old mid new : ℕ → ℕ) → end ≤ next → next ≤ length bytes → IsWrittenOver at (take end bytes) old mid
    → IsWrittenOver (at + end) (take (next - end) (drop end bytes)) mid new → IsWrittenOver at (take next bytes) old new
IsWrittenOver_next at end next bytes old mid new le fits first second = record {
  below = λ i h. second.below i (omega arith) ∙ first.below i h;
  within = λ j h. elim (cases_lt j end) [
    | inl lo ↦ second.below (at + j) (omega arith) ∙ first.within j (grind (arith, places)) ∙ grind (arith, places)
    | inr hi ↦ within_second j hi (grind (arith, places))
  ];
  above = λ i h. second.above i (grind (arith, places)) ∙ first.above i (grind (arith, places));
}
  where
    within_second : (j : ℕ) → end ≤ j → j < next → new (at + j) ≡ slice_index (take next bytes) j
    within_second j hi lt =
        let there : at + end + (j - end) ≡ at + j = omega arith in
        ap new (sym there) ∙ second.within (j - end) (grind (arith, places)) ∙ grind (arith, places)

-- what is read from one page
pub read_in_page : {P : Type 0} (pages : List P) (f : P → List ℕ) (at n : ℕ) (d : P) → at / 4096 < length pages → at % 4096 + n ≤ 4096
    → (j : ℕ) → j < n → slice_index (take n (drop (at % 4096) (f (get_or pages (at / 4096) d)))) j ≡ byte_at pages f (at + j)
unfolding byte_at
read_in_page pages f at n d some fits j h =
    let page : (at + j) / 4096 ≡ at / 4096 = omega arith in
    let place : (at + j) % 4096 ≡ at % 4096 + j = omega arith in
    parts (f (get_or pages (at / 4096) d)) (at % 4096)
    ∙ ap (λ (p : List ℕ). slice_index p (at % 4096 + j)) (sym (page_at-get_or pages f (at / 4096) d some))
    ∙ ap (λ (k : ℕ). slice_index (page_at pages f k) (at % 4096 + j)) (sym page)
    ∙ ap (slice_index (page_at pages f ((at + j) / 4096))) (sym place)
  where
    parts : (p : List ℕ) (o : ℕ) → slice_index (take n (drop o p)) j ≡ slice_index p (o + j)
    parts p o = grind (arith, places)

-- zeros that are written on
pub IsCleared_next : (from mid next : ℕ) (zeros : List ℕ) (old m new : ℕ → ℕ) → from ≤ mid → mid ≤ next → length zeros ≡ next - mid → ((j : ℕ) → slice_index zeros j ≡ 0)
    → IsCleared from mid old m → IsWrittenOver mid zeros m new → IsCleared from next old new
IsCleared_next from mid next zeros old m new least most long empty first second = record {
  below = λ i h. second.below i (omega arith) ∙ first.below i h;
  within = λ i lo hi. elim (cases_lt i mid) [
    | inl front ↦ second.below i front ∙ first.within i lo front
    | inr back ↦
        let there : mid + (i - mid) ≡ i = omega arith in
        ap new (sym there) ∙ second.within (i - mid) (omega (arith, long)) ∙ empty (i - mid)
  ];
  above = λ i h. second.above i (omega (arith, long)) ∙ first.above i (omega arith);
}

-- a page of zeros more
pub byte_at-more : {P : Type 0} (pages : List P) (f : P → List ℕ) (p : P) (n : ℕ) → f p ≡ replicate n 0 → (i : ℕ) → byte_at (pages ++ p ∷ []) f i ≡ byte_at pages f i
unfolding byte_at
byte_at-more pages f p n empty i = elim (cases_lt (i / 4096) (length pages)) [
  | inl lt ↦ ap (λ (q : List ℕ). slice_index q (i % 4096)) (page_at-get_or (pages ++ p ∷ []) f (i / 4096) p (grind (arith, places)) ∙ ap f (grind (arith, places)) ∙ sym (page_at-get_or pages f (i / 4096) p lt))
  | inr ge ↦ elim (cases_lt (length pages) (i / 4096)) [
    | inl gt ↦ ap (λ (q : List ℕ). slice_index q (i % 4096)) (page_at-past (pages ++ p ∷ []) f (i / 4096) (grind (arith, places)) ∙ sym (page_at-past pages f (i / 4096) ge))
    | inr le ↦
        ap (λ (q : List ℕ). slice_index q (i % 4096)) (page_at-get_or (pages ++ p ∷ []) f (i / 4096) p (grind (arith, places)) ∙ ap f (grind (arith, places)) ∙ empty)
        ∙ zeros n (i % 4096)
        ∙ sym (ap (λ (q : List ℕ). slice_index q (i % 4096)) (page_at-past pages f (i / 4096) ge))
  ]
]
  where
    zeros : (m r : ℕ) → slice_index (replicate m 0) r ≡ slice_index [] r
    zeros m r = grind (arith, places)

pub zeros_only : (n m j : ℕ) → slice_index (take n (replicate m 0)) j ≡ 0
zeros_only n m j = elim (cases_lt j n) [
  | inl lo ↦ elim (cases_lt j m) [
    | inl some ↦ grind (arith, places)
    | inr past ↦ grind (arith, places)
  ]
  | inr hi ↦ grind (arith, places)
]

-- the same with zeros of a list that has enough
pub IsCleared_on : (from mid next n : ℕ) (old m new : ℕ → ℕ) → from ≤ mid → mid ≤ next → next - mid ≤ n → IsCleared from mid old m → IsWrittenOver mid (take (next - mid) (replicate n 0)) m new → IsCleared from next old new
IsCleared_on from mid next n old m new least most enough first second =
    IsCleared_next from mid next (take (next - mid) (replicate n 0)) old m new least most (grind (arith, places)) (zeros_only (next - mid) n) first second

-- what was read is the page's part
pub read_at_page : {P : Type 0} (pages : List P) (f : P → List ℕ) (at n : ℕ) (page : P) (bytes buf : List ℕ) → page ≡ get_or pages (at / 4096) page → bytes ≡ f page → buf ≡ take n (drop (at % 4096) bytes)
    → at / 4096 < length pages → at % 4096 + n ≤ 4096 → (j : ℕ) → j < length buf → slice_index buf j ≡ byte_at pages f (at + j)
read_at_page pages f at n page bytes buf read value is some fits j h =
    let long : length buf ≤ n = omega (arith, ap length is, length-take n (drop (at % 4096) bytes)) in
    ap (λ (l : List ℕ). slice_index l j) (is ∙ ap (λ (l : List ℕ). take n (drop (at % 4096) l)) (value ∙ ap f read))
    ∙ read_in_page pages f at n page some fits j (omega arith)

pub front_kept : {P : Type 0} (pages old new : List P) (p : P) (n : ℕ) → new ≡ pages ++ p ∷ [] → n ≤ length pages → take n pages ≡ old → take n new ≡ old
front_kept pages old new p n is le front = ap (take n) is ∙ take-append-le n pages (p ∷ []) le ∙ front

pub bytes_kept : {P : Type 0} (pages new : List P) (f : P → List ℕ) (p : P) (n : ℕ) → new ≡ pages ++ p ∷ [] → f p ≡ replicate n 0 → (i : ℕ) → byte_at new f i ≡ byte_at pages f i
bytes_kept pages new f p n is empty i = ap (λ (l : List _). byte_at l f i) is ∙ byte_at-more pages f p n empty i

-- images of the bytes up to a length, past which they are zeros
pub image_read : (len at n : ℕ) (byte : ℕ → ℕ) (buf : List ℕ) → at + n ≤ len → length buf ≡ n → ((j : ℕ) → j < length buf → slice_index buf j ≡ byte (at + j)) → buf ≡ take n (drop at (image_of len byte))
image_read len at n byte buf fits long is =
    let whole : length (image_of len byte) ≡ len = length-image_of len byte in
    same_image _ _ (grind (arith, places)) (λ j h. is j h ∙ sym (slice_index-image_of len byte (at + j) (omega arith)) ∙ part (image_of len byte) j (omega arith))
  where
    part : (x : List ℕ) (j : ℕ) → j < n → slice_index x (at + j) ≡ slice_index (take n (drop at x)) j
    part x j h = grind (arith, places)

-- the byte of the image is the byte there, also past its end
pub image_byte : (len : ℕ) (byte : ℕ → ℕ) → ((i : ℕ) → len ≤ i → byte i ≡ 0) → (i : ℕ) → slice_index (image_of len byte) i ≡ byte i
image_byte len byte zeros i = elim (cases_lt i len) [
  | inl here ↦ slice_index-image_of len byte i here
  | inr past ↦ slice_index_past (image_of len byte) i (omega (arith, length-image_of len byte)) ∙ sym (zeros i past)
]

pub image_written : (len at : ℕ) (bytes : List ℕ) (old new : ℕ → ℕ) → 0 < length bytes → ((i : ℕ) → len ≤ i → old i ≡ 0) → IsWrittenOver at bytes old new
    → image_of (max len (at + length bytes)) new ≡ place (image_of len old) at bytes
image_written len at bytes old new some zeros over =
    let whole : length (image_of len old) ≡ len = length-image_of len old in
    let long : length (image_of (max len (at + length bytes)) new) ≡ max len (at + length bytes) = length-image_of _ new in
    same_image _ _ (omega (arith, length-place (image_of len old) at bytes, end_of_some at bytes some)) (λ i h. slice_index-image_of _ new i (omega arith) ∙ byte i)
  where
    byte : (i : ℕ) → new i ≡ slice_index (place (image_of len old) at bytes) i
    byte i = elim (cases_lt i at) [
      | inl lo ↦ over.below i lo ∙ sym (image_byte len old zeros i) ∙ sym (slice_index-place_below (image_of len old) at bytes i lo)
      | inr hi ↦ elim (cases_lt i (at + length bytes)) [
        | inl within ↦
            let there : at + (i - at) ≡ i = omega arith in
            ap new (sym there) ∙ over.within (i - at) (omega arith) ∙ sym (slice_index-place_within (image_of len old) at bytes i hi within)
        | inr above ↦ over.above i above ∙ sym (image_byte len old zeros i) ∙ sym (slice_index-place_above (image_of len old) at bytes i above)
      ]
    ]

pub image_resized : (len n top : ℕ) (old new : ℕ → ℕ) → top ≡ max len n → ((i : ℕ) → len ≤ i → old i ≡ 0) → IsCleared n top old new → image_of n new ≡ cut (image_of len old) n
image_resized len n top old new is zeros cleared =
    let long : length (image_of n new) ≡ n = length-image_of n new in
    same_image _ _ (omega (arith, length-cut (image_of len old) n)) (λ i h. slice_index-image_of n new i (omega arith) ∙ cleared.below i (omega arith) ∙ sym (image_byte len old zeros i) ∙ sym (slice_index-cut (image_of len old) n i (omega arith)))

pub image_same : (len : ℕ) (old new : ℕ → ℕ) → ((i : ℕ) → new i ≡ old i) → image_of len new ≡ image_of len old
image_same len old new same =
    let long : length (image_of len new) ≡ len = length-image_of len new in
    same_image _ _ (omega (arith, length-image_of len old)) (λ i h. slice_index-image_of len new i (omega arith) ∙ same i ∙ sym (slice_index-image_of len old i (omega arith)))

pub byte_at-none : {P : Type 0} (pages : List P) (f : P → List ℕ) (i : ℕ) → pages ≡ [] → byte_at pages f i ≡ 0
unfolding byte_at
byte_at-none pages f i none = ap (λ (p : List ℕ). slice_index p (i % 4096)) (page_at-past pages f (i / 4096) (omega (arith, ap length none)))

pub image_none : (byte : ℕ → ℕ) → image_of 0 byte ≡ []
image_none byte = same_image _ _ (length-image_of 0 byte) (λ i h. absurd (omega (arith, length-image_of 0 byte)))
