use Rattle.std.proofs.Common.{◌≡◌, ℕ, ◌<◌, [], get_or, false, true, refl}
use Rattle.std.specs.Prelude.{bytes_eq}
use Rattle.std.specs.Fmt.{digits}
use Rattle.std.proofs.lemmas.Bool.{agree_below_at}
use Rattle.std.proofs.lemmas.Slice.Eq.{bytes_eq-Decides}
use Rattle.bx_text.specs.Field.{left_filled}
use Rattle.bx_dump_columns.specs.declared.od.decimal.TheConstants.{LEADS}
use Rattle.bx_dump_columns.proofs.od.decimal.lead_of.Goals as goal

all_leads : (v : ℕ) → v < 100 → get_or LEADS v [] ≡ left_filled 32 2 (digits 10 false v)
unfolding digits
all_leads v below =
    (bytes_eq-Decides (get_or LEADS v []) (left_filled 32 2 (digits 10 false v))).0
    (agree_below_at (λ i. bytes_eq (get_or LEADS i []) (left_filled 32 2 (digits 10 false i))) (λ _. true) 100 v refl below)

pub returns : goal.returns
returns c = all_leads c.args.v c.requires
