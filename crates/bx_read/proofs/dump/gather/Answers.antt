use Rattle.std.proofs.Common.{refl}
use Rattle.bx_read.specs.Text.{dump_pieces}
use Rattle.bx_read.specs.Lines.{coming}
use Rattle.bx_read.proofs.DumpLemmas.{one_more, next_is}
use Rattle.bx_read.proofs.dump.gather.Goals as goal

pub loop-pieces-preserved : goal.loop-pieces-preserved
loop-pieces-preserved g c =
    let next = next_is (coming c.loop-pieces.lines) (coming c.next_piece.new.lines) c.in_ok-piece.field-0 c.in-Some.piece c.in-Some.is c.in_ok-piece.ensures in
    one_more (dump_pieces c.args.text.now) c.loop-pieces.pieces.items c.push.new.self.items c.in-Some.piece (coming c.loop-pieces.lines) (coming c.next_piece.new.lines) c.in-Some.piece.at next.1 next.0
    c.loop-pieces.invariant next.3 refl next.2 c.in_ok-push.ensures.items
