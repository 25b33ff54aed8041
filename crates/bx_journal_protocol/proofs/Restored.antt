-- What restoring a record keeps of an image.
use Rattle.std.proofs.Common.{◌≡◌, ℕ, ◌<◌, ◌≤◌, false, Option, Some, List, ap, ◌∙◌, arith, slice_index}
use Rattle.std.specs.Prelude.{nat_le}
use Rattle.std.specs.Option.{unwrap_or}
use Rattle.std.proofs.lemmas.Bool.Decides.{nat_tests}
use Rattle.bx_image.specs.declared.change.Change.{Change}
use Rattle.bx_image.specs.Change.{byte_in, restore, touches, KeepsUntouched}
use Rattle.bx_image.proofs.Records.{byte_in_untouched, length-restore, or_false, slice_index-restore}
use Rattle.bx_journal_format.specs.Kept.{Kept}

-- the change that puts a record back
abbrev pub back_of : Kept → Change (Unit {0})
back_of s = record { base = Some s.len; writes = s.runs }

-- restoring a record keeps what its change doesn't touch
pub keeps_restored : (e : Kept) (y : List ℕ) → KeepsUntouched (back_of e) y (restore e y)
unfolding touches
keeps_restored e y = record {
  there = λ i old un. let parts = or_false _ _ un in let low : i < e.len = low_of i parts.0 in omega (arith, length-restore e y, low);
  same = λ i old un.
      let parts = or_false _ _ un in
      let low : i < e.len = low_of i parts.0 in
      slice_index-restore e y i low ∙ ap (λ (o : Option ℕ). unwrap_or o (slice_index y i)) (byte_in_untouched (back_of e) i un);
}
  where
    low_of : (i : ℕ) → nat_le e.len i ≡ false → i < e.len
    low_of i is = grind (arith, nat_tests)
