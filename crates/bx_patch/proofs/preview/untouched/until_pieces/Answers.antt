use Rattle.std.proofs.Common.{◌≡◌, ◌<◌, length, get_or, refl, ◌∙◌, arith}
use Rattle.std.proofs.lemmas.Grind.{common_steps}
use Rattle.bx_patch.proofs.UntouchedLemmas.{written_more, written_all}
use Rattle.bx_patch.proofs.preview.untouched.until_pieces.Goals as goal

pub loop-piece-init : goal.loop-piece-init
loop-piece-init g c = record { most = omega arith; untouched = λ j above below. refl }

pub loop-piece-preserved : goal.loop-piece-preserved
loop-piece-preserved g c =
    let read : c.piece-item.result ≡ get_or c.args.pieces.now c.loop-piece.piece-index c.piece-item.result = c.piece-item.is in
    let within : c.loop-piece.piece-index < length c.args.pieces.now = grind (arith, common_steps) in
    record {
      most = omega (arith, c.until_piece-until.ensures.most, c.loop-piece.invariant.most);
      untouched = λ j above below.
          c.loop-piece.invariant.untouched j above (omega (arith, c.until_piece-until.ensures.most, below))
          ∙ written_more c.args.pieces.now c.loop-piece.piece-index c.piece-item.result j within read (c.until_piece-until.ensures.untouched j above below);
    }

pub returns-clause-untouched : goal.returns-clause-untouched
returns-clause-untouched g c j above below =
    c.loop-piece.invariant.untouched j above below ∙ written_all c.args.pieces.now c.loop-piece.piece-index j (grind (arith, common_steps))
