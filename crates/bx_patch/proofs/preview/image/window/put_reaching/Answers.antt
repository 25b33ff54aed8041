use Rattle.bx_patch.proofs.ChangesOrder.{ordered_front, reached}
use Rattle.bx_patch.proofs.preview.image.window.put_reaching.Goals as goal

pub count_ended-requires : goal.count_ended-requires
count_ended-requires g c = record {
  ordered = rw c.split_at.ensures.front (ordered_front c.count_begun.result c.args.pieces.now c.requires.ordered);
}

pub returns-clause-put : goal.returns-clause-put
returns-clause-put g c y win =
    let pieces = c.args.pieces.now in
    let begun = c.count_begun.result in
    let ended = c.count_ended.result in
    let front = c.split_at.ensures.front in
    reached c.args.buf.now c.put_pieces.new.buf c.args.at begun ended pieces y c.put_pieces.ensures.length c.count_begun.ensures.most
    (rw (← front) c.count_ended.ensures.most) c.count_begun.ensures.behind (rw (← front) c.count_ended.ensures.ended)
    (rw (← front, ← c.split_at-2.ensures.back) c.put_pieces.ensures.put) win
