use Rattle.std.proofs.Common.{◌≡◌, ℕ, ◌<◌, [], get_or, false, true, refl}
use Rattle.std.specs.Prelude.{bytes_eq}
use Rattle.std.specs.Fmt.{digits}
use Rattle.std.proofs.lemmas.Bool.{agree_below_at}
use Rattle.std.proofs.lemmas.Slice.Eq.{bytes_eq-Decides}
use Rattle.bx_text.specs.Field.{left_filled}
use Rattle.bx_dump_columns.specs.declared.od.decimal.TheConstants.{TWO}
use Rattle.bx_dump_columns.proofs.od.decimal.two_of.Goals as goal

all_two : (v : ℕ) → v < 100 → get_or TWO v [] ≡ left_filled 48 2 (digits 10 false v)
unfolding digits
all_two v below =
    (bytes_eq-Decides (get_or TWO v []) (left_filled 48 2 (digits 10 false v))).0
    (agree_below_at (λ i. bytes_eq (get_or TWO i []) (left_filled 48 2 (digits 10 false i))) (λ _. true) 100 v refl below)

pub returns : goal.returns
returns c = all_two c.args.v c.requires
