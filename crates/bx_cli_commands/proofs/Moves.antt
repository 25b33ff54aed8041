-- Pieces of a dump as the writes of a change.
use Rattle.std.proofs.Common.{◌≡◌, ℕ, ◌+◌, List, [], ◌∷◌, map, refl, ap, length, take, ◌++◌}
use Rattle.std.proofs.Math.Seq.{take-append_seam}
use Rattle.bx_text.specs.declared.owned.pieces.Piece.{Piece}
use Rattle.bx_read.specs.Text.{contents}
use Rattle.bx_cli_commands.specs.Command.{moved}

pub moved_contents : {A : Type 0} (offset : ℕ) (pieces : List (Piece A))
    → map (moved offset) pieces ≡ map (λ (piece : ℕ × List ℕ). let p : Piece A = record { at = piece.0 + offset; bytes = piece.1 } in p) (contents pieces)
moved_contents offset [] = refl
moved_contents offset (piece ∷ pieces) = ap (λ rest. moved offset piece ∷ rest) (moved_contents offset pieces)

-- what was written through a whole Vec
pub whole_lent : {X : Type 0} (n : ℕ) (xs ys : List X) → n ≡ length xs → take n (xs ++ ys) ≡ xs
whole_lent n xs ys e = rw e (take-append_seam xs ys)
