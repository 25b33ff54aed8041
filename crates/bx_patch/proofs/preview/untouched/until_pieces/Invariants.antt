use Rattle.std.proofs.Common.{◌≡◌, ◌<◌, ◌≤◌, ℕ, drop}
use Rattle.bx_image.specs.private.Change.{is_covered}
use Rattle.bx_patch.proofs.preview.untouched.until_pieces.Given as goal

-- what is left of the pieces covers what all do
abbrev pub invariant-loop-piece : goal.invariant-loop-piece
invariant-loop-piece g l = record {
  most : l.until ≤ l.end;
  untouched : (j : ℕ) → l.at ≤ j → j < l.until → is_covered l.pieces j ≡ is_covered (drop l.piece-index l.pieces) j;
}
