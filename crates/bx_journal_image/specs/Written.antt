-- What an image has where the last entry of a text wrote.
use Rattle.std.specs.Prelude.{ℕ, ◌≡◌, ◌-◌, Option, None, Some, List, [], ◌++◌, length, take, drop, flat_map}
use Rattle.md5.specs.Md5.{Holds}
use Rattle.bx_image.specs.declared.change.TheConstants.{MAX_LEN}
use Rattle.bx_journal_format.specs.Kept.{Run}
use Rattle.bx_journal_format.specs.Line.{saved_in}
use Rattle.bx_journal_format.specs.Text.{split}
use Rattle.bx_journal_image.specs.declared.finding.summed.Sum.{Sum}

-- the bytes of a run's addresses, as far as the image x has these; none without a run
abbrev pub at_run : List ℕ → Option Run → List ℕ
at_run x None = []
at_run x (Some run) = take (length run.bytes) (drop run.at x)

-- those of a saved line; another line has none
abbrev pub at_line : List ℕ → List ℕ → List ℕ
at_line x line = at_run x (saved_in MAX_LEN line)

-- those of the lines of a text, in their order
abbrev pub at_lines : List ℕ → List ℕ → List ℕ
at_lines x text = flat_map (at_line x) (split text).lines

-- those that count of an entry: the first 1,048,576, of the lines that stand whole in its first 4,456,448 bytes
abbrev pub saved_bytes : List ℕ → List ℕ → List ℕ
saved_bytes x entry = take 1048576 (at_lines x (take 4456448 entry))

-- and those behind the length that it restores: what its change appended; 65,536 of them count
abbrev pub appended_bytes : List ℕ → Option ℕ → List ℕ
appended_bytes x None = []
appended_bytes x (Some before) = take 65536 (drop before x)

-- the first 1,048,576 of these bytes were digested, and as many more count as are said
pub record HasSummed (sum : Sum) (all : List ℕ) : Type 0 where
  pub hash : Holds sum.hash (take 1048576 all)
  pub left : sum.left ≡ 1048576 - length all

-- these were digested behind all before them
abbrev pub Sums : Sum → Sum → List ℕ → Type 0
Sums old new bytes = (all : List ℕ) → HasSummed old all → HasSummed new (all ++ bytes)
