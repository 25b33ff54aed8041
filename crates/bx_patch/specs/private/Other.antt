-- How an image is compared with pieces.
use Rattle.std.specs.Prelude.{ℕ, Option, None, Some, List}
use Rattle.std.specs.List.{All}
use Rattle.bx_patch.specs.Other.{IsFirstOther}
use Rattle.bx_patch.specs.Patch.{HasPiece, Pieces}

-- the first address of pieces at which the image hasn't their byte; none where it has all
abbrev pub FindsAmong : List ℕ → Pieces → Option ℕ → Type 0
FindsAmong x pieces None = All (HasPiece x) pieces
FindsAmong x pieces (Some at) = IsFirstOther x pieces at
