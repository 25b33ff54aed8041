-- The blocks of an image whose digests the line has.
use Rattle.std.specs.Prelude.{ℕ, ◌≡◌, ◌≢◌, ◌+◌, ◌-◌, ◌*◌, ◌/◌, ◌%◌, ◌^◌, ◌<◌, ◌≤◌, ◌⊎◌, Bool, false, ◌&&◌, nat_lt, nat_le, Option, None, Some, List, [], ◌∷◌, ◌++◌, length, take, drop, min, slice_index_or, if◌then◌else◌}
use Rattle.std.specs.List.{list_any}
use Rattle.bx_journal_image.specs.declared.line.ranges.Range.{Range}
use Rattle.bx_journal_image.specs.Digest.{image_digest}
use Rattle.bx_journal_image.specs.declared.line.form.ImageLine.{ImageLine}
use Rattle.bx_journal_image.specs.declared.judging.judge.Verdict.{Verdict}
use Rattle.bx_journal_image.specs.declared.judging.judge.Verdict.TheVariants.{Same, Other, Untold}
use Rattle.bx_image.specs.declared.change.TheConstants.{MAX_LEN}
use Rattle.bx_journal_format.specs.Kept.{Run}
use Rattle.bx_journal_format.specs.Line.{saved_in}
use Rattle.bx_journal_format.specs.Text.{split}

-- how many bytes each block has of an image of n bytes: a part of 32, rounded up, and 4,096 at most
abbrev pub block_len : ℕ → ℕ
block_len n = if nat_le 131072 n then 4096 else (n + 31) / 32

-- where block i begins, of blocks of s bytes
abbrev pub spread_at : ℕ → ℕ → ℕ
spread_at room i = room / 31 * i + room % 31 * i / 31

-- where block i begins: the first at 0, the last so that it ends the image, the others evenly between
abbrev pub block_at : ℕ → ℕ → ℕ
block_at n i = spread_at (n - block_len n) i

-- the bytes of block i that an image has, by the blocks of one of n bytes
abbrev pub block : ℕ → ℕ → List ℕ → List ℕ
block n i x = take (block_len n) (drop (block_at n i) x)

-- a digest of 32 bits: the first of MD5's
abbrev pub short_digest : List ℕ → ℕ
short_digest bytes = (image_digest bytes).high / 2 ^ 32

-- the digest of block i
abbrev pub block_digest : ℕ → ℕ → List ℕ → ℕ
block_digest n i x = short_digest (block n i x)

-- what is known of block i
abbrev pub mark_at : List (Option ℕ) → ℕ → Option ℕ
mark_at marks i = slice_index_or marks i None

-- the range has a byte of block i, of an image of n bytes
abbrev pub is_touched : ℕ → Range → ℕ → Bool
is_touched n r i = nat_lt r.at (block_at n i + block_len n) && nat_lt (block_at n i) (r.at + r.count)

-- one of the ranges has one
abbrev pub is_one_touched : ℕ → List Range → ℕ → Bool
is_one_touched n ranges i = list_any (λ (r : Range). is_touched n r i) ranges

-- all from an address on, as far as numbers of 64 bits go
abbrev pub rest_from : ℕ → Range
rest_from at = record { at = at; count = 2 ^ 64 - 1 - at }

-- nothing is known any more of a block that one of the ranges touches, and of each other one what was
abbrev pub AreStruck : ℕ → List Range → List (Option ℕ) → List (Option ℕ) → Type 0
AreStruck n ranges old new = (i : ℕ) → i < 32 → mark_at new i ≡ (if is_one_touched n ranges i then None else mark_at old i)

-- the range of what a line saved, if it did
abbrev pub range_of : Option Run → List Range
range_of None = []
range_of (Some run) = record { at = run.at; count = length run.bytes } ∷ []

-- those of lines
unfoldable pub ranges_in : List (List ℕ) → List Range
ranges_in [] = []
ranges_in (line ∷ lines) = range_of (saved_in MAX_LEN line) ++ ranges_in lines

-- nothing is known of a block, or its digest in the image x
abbrev pub IsMarkOf : List ℕ → ℕ → Option ℕ → Type 0
IsMarkOf x i None = Unit
IsMarkOf x i (Some d) = d ≡ block_digest (length x) i x

-- the marks say nothing wrong of the image x
abbrev pub AreTrueMarks : List ℕ → List (Option ℕ) → Type 0
AreTrueMarks x marks = (i : ℕ) → i < 32 → IsMarkOf x i (mark_at marks i)

-- block i of an image of n bytes ends within the image x
abbrev pub IsBlockThere : ℕ → ℕ → List ℕ → Type 0
IsBlockThere n i x = block_at n i + block_len n ≤ length x

-- what block i is by its mark: another one, the one, or one that nothing is known of
abbrev pub IsBlockRead : ℕ → Option ℕ → ℕ → List ℕ → Verdict → Type 0
IsBlockRead n mark i x Other = (d : ℕ) × (mark ≡ Some d) × IsBlockThere n i x × (block_digest n i x ≢ d)
IsBlockRead n mark i x Same = (d : ℕ) × (mark ≡ Some d) × IsBlockThere n i x × (block_digest n i x ≡ d)
IsBlockRead n mark i x Untold = IsBlockThere n i x → mark ≡ None

-- one of the first k blocks is known, there, and another one
pub record HasOtherBlock (k n : ℕ) (marks : List (Option ℕ)) (x : List ℕ) : Type 0 where
  pub i : ℕ
  pub block : i < k
  pub read : IsBlockRead n (mark_at marks i) i x Other

-- each of them that is known and there is the one
abbrev pub HasNoOther : ℕ → ℕ → List (Option ℕ) → List ℕ → Type 0
HasNoOther k n marks x = (i d : ℕ) → i < k → mark_at marks i ≡ Some d → IsBlockThere n i x → block_digest n i x ≡ d

-- one of them is known and there
pub record HasKnown (k n : ℕ) (marks : List (Option ℕ)) (x : List ℕ) : Type 0 where
  pub i : ℕ
  pub block : i < k
  pub read : IsBlockRead n (mark_at marks i) i x Same

-- what the image x is by the first k blocks: another one than the marks are of, the one, or one that nothing is known of
abbrev pub AreRead : ℕ → ℕ → List (Option ℕ) → List ℕ → Verdict → Type 0
AreRead k n marks x Other = HasOtherBlock k n marks x
AreRead k n marks x Same = HasNoOther k n marks x × HasKnown k n marks x
AreRead k n marks x Untold = (i : ℕ) → i < k → IsBlockThere n i x → mark_at marks i ≡ None

-- what the image x is by a line, of whose blocks these are known: another one too where a stopped command can't have made its length
abbrev pub IsJudged : ImageLine → List (Option ℕ) → List ℕ → Verdict → Type 0
IsJudged line marks x Other = (length x < line.least) ⊎ (line.most < length x) ⊎ AreRead 32 line.length marks x Other
IsJudged line marks x Same = (line.least ≤ length x) × (length x ≤ line.most) × AreRead 32 line.length marks x Same
IsJudged line marks x Untold = (line.least ≤ length x) × (length x ≤ line.most) × AreRead 32 line.length marks x Untold

-- the range has an address
abbrev pub is_in : Range → ℕ → Bool
is_in r a = nat_le r.at a && nat_lt a (r.at + r.count)

-- one of the ranges has it
abbrev pub is_in_one : List Range → ℕ → Bool
is_in_one ranges a = list_any (λ (r : Range). is_in r a) ranges

-- each byte that both images have and no range has is the same
abbrev pub DiffersWithin : List Range → List ℕ → List ℕ → Type 0
DiffersWithin ranges x y = (a : ℕ) → a < length x → a < length y → is_in_one ranges a ≡ false → slice_index_or y a 0 ≡ slice_index_or x a 0

-- the digest of each block
abbrev pub AreWholeMarks : List ℕ → List (Option ℕ) → Type 0
AreWholeMarks x marks = (i : ℕ) → i < 32 → mark_at marks i ≡ Some (block_digest (length x) i x)

-- a block that no range touches isn't the one that its mark tells
pub record HasOtherOutside (line : ImageLine) (ranges : List Range) (y : List ℕ) : Type 0 where
  pub i : ℕ
  pub d : ℕ
  pub block : i < 32
  pub known : mark_at line.marks i ≡ Some d
  pub untouched : is_one_touched line.length ranges i ≡ false
  pub there : IsBlockThere line.length i y
  pub differs : block_digest line.length i y ≢ d

-- the image y isn't the one that a line is of, whatever was done in the ranges: by its length, or by a block
abbrev pub IsOther : ImageLine → List Range → List ℕ → Type 0
IsOther line ranges y = (length y < line.least) ⊎ (line.most < length y) ⊎ HasOtherOutside line ranges y

-- an address is in a block of an image of n bytes
pub record IsInBlock (n a : ℕ) : Type 0 where
  pub i : ℕ
  pub block : i < 32
  pub begins : block_at n i ≤ a
  pub ends : a < block_at n i + block_len n

-- between two places of a text no line ends in what a window has at a third
pub record HasLongLine (room from to : ℕ) (text : List ℕ) : Type 0 where
  pub at : ℕ
  pub low : from ≤ at
  pub below : at < to
  pub long : (split (take (min room (to - at)) (drop at text))).lines ≡ []
