use Rattle.std.proofs.Common.{◌≡◌, ℕ, ◌<◌, [], ◌∷◌, get_or, true, refl}
use Rattle.std.specs.Prelude.{bytes_eq}
use Rattle.std.specs.Fmt.{digits}
use Rattle.std.proofs.lemmas.Bool.{agree_below_at}
use Rattle.std.proofs.lemmas.Slice.Eq.{bytes_eq-Decides}
use Rattle.bx_text.specs.Field.{left_filled}
use Rattle.bx_dump_columns.specs.Values.{char_text}
use Rattle.bx_dump_columns.specs.declared.od.byte_tables.TheConstants.{CHARS}
use Rattle.bx_dump_columns.proofs.od.byte_tables.char_of.Goals as goal

all_chars : (b : ℕ) → b < 256 → get_or CHARS b [] ≡ 32 ∷ left_filled 32 3 (char_text b)
unfolding digits
all_chars b below =
    (bytes_eq-Decides (get_or CHARS b []) (32 ∷ left_filled 32 3 (char_text b))).0
    (agree_below_at (λ i. bytes_eq (get_or CHARS i []) (32 ∷ left_filled 32 3 (char_text i))) (λ _. true) 256 b refl below)

pub returns : goal.returns
returns c = all_chars c.args.byte c.ranges.byte.fits
