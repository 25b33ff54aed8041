use Rattle.std.proofs.Common.{◌≡◌, ℕ, ◌<◌, [], get_or, false, true, refl}
use Rattle.std.specs.Prelude.{bytes_eq}
use Rattle.std.proofs.lemmas.Bool.{agree_below_at}
use Rattle.std.proofs.lemmas.Slice.Eq.{bytes_eq-Decides}
use Rattle.bx_text.specs.Dump.{pair_of}
use Rattle.bx_text.specs.declared.line.tables.TheConstants.{PAIRS}
use Rattle.bx_text.proofs.line.tables.digits_of.Goals as goal

all_pairs : (b : ℕ) → b < 256 → get_or PAIRS b [] ≡ pair_of false b
all_pairs b below =
    (bytes_eq-Decides (get_or PAIRS b []) (pair_of false b)).0
    (agree_below_at (λ i. bytes_eq (get_or PAIRS i []) (pair_of false i)) (λ _. true) 256 b refl below)

pub returns : goal.returns
returns c = all_pairs c.args.byte c.ranges.byte.fits
