use Rattle.std.proofs.Common.{◌≡◌, ℕ, ◌+◌, ◌<◌, Bool, [], ◌∷◌, ◌++◌, if◌then◌else◌, get_or, false, true, refl}
use Rattle.std.specs.Prelude.{bytes_eq}
use Rattle.std.specs.Fmt.{digits}
use Rattle.std.proofs.lemmas.Bool.{agree_below_at}
use Rattle.std.proofs.lemmas.Slice.Eq.{bytes_eq-Decides}
use Rattle.bx_text.specs.Field.{left_filled}
use Rattle.bx_dump_columns.specs.declared.od.decimal.TheConstants.{SIGNED_LEADS}
use Rattle.bx_dump_columns.proofs.od.decimal.signed_lead_of.Goals.{then-negative, else-negative}
use Rattle.bx_dump_columns.proofs.od.decimal.signed_lead_of.Goals as goal

plus : (v : ℕ) → v < 100 → get_or SIGNED_LEADS v [] ≡ left_filled 32 3 (digits 10 false v)
unfolding digits
plus v below =
    (bytes_eq-Decides (get_or SIGNED_LEADS v []) (left_filled 32 3 (digits 10 false v))).0
    (agree_below_at (λ i. bytes_eq (get_or SIGNED_LEADS i []) (left_filled 32 3 (digits 10 false i))) (λ _. true) 100 v refl below)

minus : (v : ℕ) → v < 100 → get_or SIGNED_LEADS (100 + v) [] ≡ left_filled 32 3 (45 ∷ digits 10 false v)
unfolding digits
minus v below =
    (bytes_eq-Decides (get_or SIGNED_LEADS (100 + v) []) (left_filled 32 3 (45 ∷ digits 10 false v))).0
    (agree_below_at (λ i. bytes_eq (get_or SIGNED_LEADS (100 + i) []) (left_filled 32 3 (45 ∷ digits 10 false i))) (λ _. true) 100 v refl below)

with_minus : (negative : Bool) (at v : ℕ) → negative ≡ true → at ≡ 100 + v → v < 100 → get_or SIGNED_LEADS at [] ≡ left_filled 32 3 ((if negative then 45 ∷ [] else []) ++ digits 10 false v)
with_minus negative at v e is below = rw (e, is) (minus v below)

with_plus : (negative : Bool) (at v : ℕ) → negative ≡ false → at ≡ v → v < 100 → get_or SIGNED_LEADS at [] ≡ left_filled 32 3 ((if negative then 45 ∷ [] else []) ++ digits 10 false v)
with_plus negative at v e is below = rw (e, is) (plus v below)

pub returns : goal.returns
returns c = elim c.if-negative.branch [
  | then-negative w ↦ with_minus c.args.negative c.if-negative.at c.args.v w.if-negative.true w.at-is c.requires
  | else-negative w ↦ with_plus c.args.negative c.if-negative.at c.args.v w.if-negative.false w.at-is c.requires
]
