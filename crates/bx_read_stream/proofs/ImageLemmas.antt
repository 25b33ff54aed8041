-- What a line more makes of an image.
use Rattle.std.proofs.Common.{◌≡◌, ◌⊎◌, inl, inr, ℕ, ◌+◌, ◌-◌, ◌^◌, ◌<◌, ◌≤◌, List, [], ◌∷◌, ◌++◌, length, map, replicate, slice_index, Option, Some, None, Result, Ok, Err, refl, sym, ap, ◌∙◌, append_assoc, arith}
use Rattle.std.specs.Option.{unwrap_or, option_map}
use Rattle.std.proofs.lemmas.Bool.{cases_lt}
use Rattle.std.proofs.lemmas.List.{places, length-append, length-replicate, map-append}
use Rattle.bx_text.specs.declared.owned.pieces.Piece.{Piece}
use Rattle.bx_image.specs.Change.{placed}
use Rattle.bx_image.specs.Image.{place}
use Rattle.bx_image.proofs.Images.{same_image, length-place, end_of_some, slice_index-place_within, slice_index-place_below}
use Rattle.bx_read.specs.Digits.{pairs_of}
use Rattle.bx_read.specs.Line.{read_line, line_piece}
use Rattle.bx_read.specs.Text.{ReadLine}
use Rattle.bx_read.specs.declared.fault.ReadFault.{ReadFault}
use Rattle.bx_read.proofs.GrammarLemmas.{read_line-found, read_line-only, unmap}
use Rattle.bx_read.proofs.PieceLemmas.{piece_ok, piece_err}
use Rattle.bx_read_stream.specs.Laid.{line_piece_at, image_made}
use Rattle.bx_read_stream.specs.private.Laying.{ReadsAs}

some_same : {A : Type 0} (x y : A) → Some x ≡ Some y → x ≡ y
some_same x y h = cc

-- a line that gives a piece is read, whichever line it is
pub reads_full : (number : ℕ) (line : List ℕ) (at : ℕ) (bytes : List ℕ) → line_piece line ≡ Some (at, bytes) → ReadsAs number line at bytes
reads_full number line at bytes is = go (read_line 1 line) refl
  where
    go : (r : Result (ℕ × List ℕ) ReadFault) → read_line 1 line ≡ r → ReadsAs number line at bytes
    go (Err f) e = let none = piece_err 1 line f e in cc
    go (Ok x) e =
        let some = sym (piece_ok 1 line x.0 x.1 e) ∙ is in
        let f : List ℕ → ℕ × List ℕ = λ b. (x.0, b) in
        let more = unmap f (pairs_of x.1) (at, bytes) some in
        let same : (x.0, more.0) ≡ (at, bytes) = some_same (x.0, more.0) (at, bytes) (sym (ap (option_map f) more.1) ∙ some) in
        let found = read_line-found 1 line x.0 x.1 e in
        (x.1, read_line-only number line x.0 x.1 found.0 found.1 ∙ ap (λ (p : ℕ × List ℕ). Ok (p.0, x.1)) same, more.1 ∙ ap (λ (p : ℕ × List ℕ). Some p.1) same)

-- bytes that are placed behind a gap
pub place_gap : (x : List ℕ) (gap : ℕ) (bytes : List ℕ) → 0 < length bytes → place x (length x + gap) bytes ≡ (x ++ replicate gap 0) ++ bytes
place_gap x gap bytes some = same_image _ _ lengths (λ i h. elim (cases_lt i (length x + gap)) [
  | inl lo ↦ slice_index-place_below x (length x + gap) bytes i lo ∙ below i lo
  | inr hi ↦ grind (arith, places, slice_index-place_within, lengths, length-replicate {A = ℕ})
])
  where
    lengths : length (place x (length x + gap) bytes) ≡ length ((x ++ replicate gap 0) ++ bytes)
    lengths = omega (arith, length-place x (length x + gap) bytes, end_of_some (length x + gap) bytes some, length-append (x ++ replicate gap 0) bytes, length-append x (replicate gap 0), length-replicate {A = ℕ} gap 0)

    below : (i : ℕ) → i < length x + gap → slice_index x i ≡ slice_index ((x ++ replicate gap 0) ++ bytes) i
    below i lo = elim (cases_lt i (length x)) [
      | inl here ↦ grind (arith, places, length-replicate {A = ℕ})
      | inr past ↦ grind (arith, places, length-replicate {A = ℕ})
    ]

-- one piece more
pub placed_one : {A : Type 0} (ws : List (Piece A)) (w : Piece A) (x : List ℕ) → placed (ws ++ w ∷ []) x ≡ place (placed ws x) w.at w.bytes
unfolding placed
placed_one [] w x = refl
placed_one (v ∷ ws) w x = placed_one ws w (place x v.at v.bytes)

-- one line more
pub image_grows : (shift : ℕ) (before : List ReadLine) (at : ℕ) (hex : List ℕ) (number gap : ℕ) (bytes : List ℕ) → pairs_of hex ≡ Some bytes → 0 < length bytes
    → at + shift ≡ length (image_made shift before) + gap
    → image_made shift (before ++ (at, hex, number) ∷ []) ≡ (image_made shift before ++ replicate gap 0) ++ bytes
image_grows shift before at hex number gap bytes pairs some is =
    let line : ReadLine = (at, hex, number) in
    let x = image_made shift before in
    ap (λ ps. placed ps []) (map-append (line_piece_at shift) before (line ∷ []))
    ∙ placed_one (map (line_piece_at shift) before) (line_piece_at shift line) []
    ∙ ap (λ b. place x (at + shift) b) (ap (λ o. unwrap_or o []) pairs)
    ∙ ap (λ n. place x n bytes) is
    ∙ place_gap x gap bytes some

-- the address of a line
pub near_of : (number : ℕ) (line : List ℕ) (at : ℕ) (bytes : List ℕ) → ReadsAs number line at bytes → at < 2 ^ 62
near_of number line at bytes (hex, read, pairs) =
    let found = read_line-found number line at hex read in
    found.1.small
