use Rattle.std.proofs.Common.{refl}
use Rattle.bx_patch.proofs.IndexLemmas.{put_one}
use Rattle.bx_patch.proofs.preview.image.window.put_next.Goals as goal

pub returns-then-i-done-clause-put : goal.returns-then-i-done-clause-put
returns-then-i-done-clause-put g c x z win leads = (z, win, leads)

pub returns-in-Some-clause-put : goal.returns-in-Some-clause-put
returns-in-Some-clause-put g c x z win leads =
    let found = c.in-Some.ensures.lookup in
    put_one c.args.buf.now _ c.args.at _ c.args.pieces.now c.args.done c.args.i c.in-Some.piece.now x z refl c.if-i-done.false found.3.0 found.1 c.requires.outside
    c.put_piece.ensures.put win leads

pub returns-in-None-clause-put : goal.returns-in-None-clause-put
returns-in-None-clause-put g c x z win leads = (z, win, leads)
