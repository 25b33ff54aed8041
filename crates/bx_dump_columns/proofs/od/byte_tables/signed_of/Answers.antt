use Rattle.std.proofs.Common.{◌≡◌, ℕ, ◌<◌, [], get_or, true, refl}
use Rattle.std.specs.Prelude.{bytes_eq}
use Rattle.std.specs.Fmt.{digits}
use Rattle.std.proofs.lemmas.Bool.{agree_below_at}
use Rattle.std.proofs.lemmas.Slice.Eq.{bytes_eq-Decides}
use Rattle.bx_text.specs.Field.{left_filled}
use Rattle.bx_dump_columns.specs.Values.{signed_text}
use Rattle.bx_dump_columns.specs.declared.od.byte_tables.TheConstants.{SIGNED}
use Rattle.bx_dump_columns.proofs.od.byte_tables.signed_of.Goals as goal

all_signed : (b : ℕ) → b < 256 → get_or SIGNED b [] ≡ left_filled 32 4 (signed_text 1 b)
unfolding digits
all_signed b below =
    (bytes_eq-Decides (get_or SIGNED b []) (left_filled 32 4 (signed_text 1 b))).0
    (agree_below_at (λ i. bytes_eq (get_or SIGNED i []) (left_filled 32 4 (signed_text 1 i))) (λ _. true) 256 b refl below)

pub returns : goal.returns
returns c = all_signed c.args.byte c.ranges.byte.fits
