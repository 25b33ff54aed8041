-- The digest of an image's bytes.
use Rattle.std.specs.Prelude.{ℕ, ◌+◌, Bool, ◌&&◌, ◌==◌, List, [], ◌∷◌, slice_index}
use Rattle.std.specs.Int.{from_be_bytes, w64}
use Rattle.md5.specs.Md5.{md5}
use Rattle.bx_journal_image.specs.declared.line.digest.Digest.{Digest}

-- eight bytes of a list from a place on, as a number
abbrev pub eight_at : ℕ → List ℕ → ℕ
eight_at i s = from_be_bytes w64 (slice_index s i ∷ slice_index s (i + 1) ∷ slice_index s (i + 2) ∷ slice_index s (i + 3)
    ∷ slice_index s (i + 4) ∷ slice_index s (i + 5) ∷ slice_index s (i + 6) ∷ slice_index s (i + 7) ∷ [])

-- the digest of bytes, which is MD5
unfoldable pub image_digest : List ℕ → Digest
image_digest bytes = record { high = eight_at 0 (md5 bytes); low = eight_at 8 (md5 bytes) }

-- whether two digests are the same
abbrev pub is_same : Digest → Digest → Bool
is_same a b = (a.high == b.high) && (a.low == b.low)
