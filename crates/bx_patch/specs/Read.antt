-- What is read of the text of a patch.
use Rattle.std.specs.Prelude.{Option}
use Rattle.std.specs.Option.{option_map}
use Rattle.bx_read.specs.Text.{contents}
use Rattle.bx_patch.specs.declared.read.patch.Patch.{Patch}
use Rattle.bx_patch.specs.declared.read.lengths.PatchLengths.{PatchLengths}
use Rattle.bx_patch.specs.Patch.{Asked, Pieces}

-- a patch of these lengths, if any are stated, and these pieces
abbrev pub asked_with : Option PatchLengths → Pieces → Pieces → Asked
asked_with lengths expected written = record { lengths = option_map (λ lengths. (lengths.old, lengths.new)) lengths; expected = expected; written = written }

-- what a patch asks
abbrev pub asked_of : {A : Type 0} → Patch A → Asked
asked_of patch = asked_with patch.lengths (contents patch.expected.items) (contents patch.written.items)
