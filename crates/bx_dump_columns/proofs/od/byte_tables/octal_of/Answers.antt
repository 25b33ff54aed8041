use Rattle.std.proofs.Common.{◌≡◌, ℕ, ◌<◌, [], ◌∷◌, get_or, false, true, refl}
use Rattle.std.specs.Prelude.{bytes_eq}
use Rattle.std.specs.Fmt.{digits}
use Rattle.std.proofs.lemmas.Bool.{agree_below_at}
use Rattle.std.proofs.lemmas.Slice.Eq.{bytes_eq-Decides}
use Rattle.bx_text.specs.Field.{left_filled}
use Rattle.bx_dump_columns.specs.declared.od.byte_tables.TheConstants.{OCTALS}
use Rattle.bx_dump_columns.proofs.od.byte_tables.octal_of.Goals as goal

all_octals : (b : ℕ) → b < 256 → get_or OCTALS b [] ≡ 32 ∷ left_filled 48 3 (digits 8 false b)
unfolding digits
all_octals b below =
    (bytes_eq-Decides (get_or OCTALS b []) (32 ∷ left_filled 48 3 (digits 8 false b))).0
    (agree_below_at (λ i. bytes_eq (get_or OCTALS i []) (32 ∷ left_filled 48 3 (digits 8 false i))) (λ _. true) 256 b refl below)

pub returns : goal.returns
returns c = all_octals c.args.byte c.ranges.byte.fits
