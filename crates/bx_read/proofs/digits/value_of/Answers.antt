use Rattle.std.proofs.Common.{◌≡◌, ℕ, ◌<◌, get_or, cond, refl}
use Rattle.std.specs.Char.{digit_value}
use Rattle.std.proofs.lemmas.Bool.{agree_below_at, eqb-true}
use Rattle.std.specs.Prelude.{nat_eq, true}
use Rattle.bx_read.specs.Digits.{is_hex}
use Rattle.bx_read.specs.declared.digits.TheConstants.{VALUES}
use Rattle.bx_read.proofs.digits.value_of.Goals as goal

all_values : (b : ℕ) → b < 256 → get_or VALUES b 0 ≡ cond (is_hex b) (digit_value b) 255
all_values b below =
    eqb-true (get_or VALUES b 0) (cond (is_hex b) (digit_value b) 255)
    (agree_below_at (λ i. nat_eq (get_or VALUES i 0) (cond (is_hex i) (digit_value i) 255)) (λ _. true) 256 b refl below)

pub returns : goal.returns
returns c = all_values c.args.byte c.ranges.byte.fits
