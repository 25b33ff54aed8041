-- What a change takes before its first write.
use Rattle.std.specs.Prelude.{◌≡◌, ◌≤◌, ℕ, List, length}
use Rattle.bx_image.specs.declared.change.Change.{Change}
use Rattle.bx_image.specs.declared.change.TheConstants.{MAX_LEN}
use Rattle.bx_image.specs.Change.{effect, Fits}
use Rattle.bx_journal_format.specs.Entry.{end_text}
use Rattle.bx_journal_protocol.specs.declared.before.change.Prepared.{Prepared}
use Rattle.bx_journal_protocol.specs.write.Begun.{BeginsEntry}

-- The entry of a change of the image x is begun, the change fits the image, and the line that ends the entry has its number
pub record IsReadyChange {A B : Type 0} (c : Change B) (x : List ℕ) (number : ℕ) (p : Prepared A) : Type 0 where
  pub begins : BeginsEntry c x p.ranges.items p.head
  pub fits : Fits c (length x) MAX_LEN
  pub bound : length (effect c x) ≤ MAX_LEN
  pub end : p.end ≡ end_text number (length (effect c x))
