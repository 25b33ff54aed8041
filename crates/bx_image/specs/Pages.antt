-- Bytes that stand in pages of 4,096 bytes.
use Rattle.std.specs.Prelude.{◌≤◌, ℕ, ◌/◌, ◌%◌, List, [], length, get_or, map, slice_index}
use Rattle.std.proofs.Common.{subst, sym}
use Rattle.std.proofs.lemmas.List.FromFn.{length-map-range_with_len}
use Rattle.bx_image.specs.Image.{image_of}

-- the byte at an address: one of those of its page, 0 past the last page
unfoldable pub byte_at : {P : Type 0} → List P → (P → List ℕ) → ℕ → ℕ
byte_at pages bytes i = slice_index (get_or (map bytes pages) (i / 4096) []) (i % 4096)

-- an image is within the room that its length is within
pub image_within : (len room : ℕ) (byte : ℕ → ℕ) → len ≤ room → length (image_of len byte) ≤ room
unfolding image_of
image_within len room byte fits = let P : ℕ → Type 0 = λ n. n ≤ room in subst P (sym (length-map-range_with_len byte 0 len)) fits
