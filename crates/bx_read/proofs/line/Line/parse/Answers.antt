use Rattle.bx_read.proofs.PieceLemmas.{piece_same}
use Rattle.bx_read.proofs.line.Line.parse.Goals as goal

pub returns-clause-piece : goal.returns-clause-piece
returns-clause-piece c = piece_same (λ l. l.at) (λ l. l.hex.now) c.args.number c.args.line.now c.parse_parts.result c.parse_parts.ensures.exact
