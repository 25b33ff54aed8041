use Rattle.std.proofs.Common.{◌≡◌, ◌<◌, length, get_or, refl, sym, subst, ◌∙◌, arith}
use Rattle.std.specs.Prelude.{List, ℕ}
use Rattle.std.proofs.lemmas.Grind.{common_steps}
use Rattle.bx_image.specs.Image.{place}
use Rattle.bx_image.proofs.Changes.{placed_more, placed_all}
use Rattle.bx_patch.specs.private.preview.Window.{IsWindow}
use Rattle.bx_patch.proofs.preview.image.window.put_pieces.Goals as goal

pub loop-piece-init : goal.loop-piece-init
loop-piece-init g c = record { long = refl; put = λ y win. (y, win, refl) }

pub loop-piece-preserved : goal.loop-piece-preserved
loop-piece-preserved g c =
    let read : c.piece-item.result ≡ get_or c.args.pieces.now c.loop-piece.piece-index c.piece-item.result = c.piece-item.is in
    let within : c.loop-piece.piece-index < length c.args.pieces.now = grind (arith, common_steps) in
    record {
      long = c.put_piece.ensures.length ∙ c.loop-piece.invariant.long;
      put = λ y win.
          let (z, now, leads) = c.loop-piece.invariant.put y win in
          (place z c.piece-item.result.at c.piece-item.result.bytes, c.put_piece.ensures.put z now, sym (placed_more _ _ _ _ within read) ∙ leads);
    }

pub returns-clause-put : goal.returns-clause-put
returns-clause-put g c y win =
    let (z, now, leads) = c.loop-piece.invariant.put y win in
    let P : List ℕ → Type 0 = λ w. IsWindow c.loop-piece.buf c.args.at w in
    subst P (sym (placed_all c.args.pieces.now c.loop-piece.piece-index z (grind (arith, common_steps))) ∙ leads) now
