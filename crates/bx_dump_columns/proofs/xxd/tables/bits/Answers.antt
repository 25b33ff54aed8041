use Rattle.std.proofs.Common.{◌≡◌, ℕ, ◌<◌, [], get_or, true, refl}
use Rattle.std.specs.Prelude.{bytes_eq}
use Rattle.std.proofs.lemmas.Bool.{agree_below_at}
use Rattle.std.proofs.lemmas.Slice.Eq.{bytes_eq-Decides}
use Rattle.bx_dump_columns.specs.Cells.{bits_of}
use Rattle.bx_dump_columns.specs.declared.xxd.tables.TheConstants.{BITS}
use Rattle.bx_dump_columns.proofs.xxd.tables.bits.Goals as goal

all_bits : (b : ℕ) → b < 256 → get_or BITS b [] ≡ bits_of b
all_bits b below =
    (bytes_eq-Decides (get_or BITS b []) (bits_of b)).0 (agree_below_at (λ i. bytes_eq (get_or BITS i []) (bits_of i)) (λ _. true) 256 b refl below)

pub returns : goal.returns
returns c = all_bits c.args.byte c.ranges.byte.fits
