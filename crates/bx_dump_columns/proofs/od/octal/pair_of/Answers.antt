use Rattle.std.proofs.Common.{◌≡◌, ℕ, ◌<◌, [], get_or, false, true, refl}
use Rattle.std.specs.Prelude.{bytes_eq}
use Rattle.std.specs.Fmt.{digits}
use Rattle.std.proofs.lemmas.Bool.{agree_below_at}
use Rattle.std.proofs.lemmas.Slice.Eq.{bytes_eq-Decides}
use Rattle.bx_text.specs.Field.{left_filled}
use Rattle.bx_dump_columns.specs.declared.od.octal.TheConstants.{PAIRS}
use Rattle.bx_dump_columns.proofs.od.octal.pair_of.Goals as goal

all_pairs : (v : ℕ) → v < 64 → get_or PAIRS v [] ≡ left_filled 48 2 (digits 8 false v)
unfolding digits
all_pairs v below =
    (bytes_eq-Decides (get_or PAIRS v []) (left_filled 48 2 (digits 8 false v))).0
    (agree_below_at (λ i. bytes_eq (get_or PAIRS i []) (left_filled 48 2 (digits 8 false i))) (λ _. true) 64 v refl below)

pub returns : goal.returns
returns c = all_pairs c.args.v c.requires
