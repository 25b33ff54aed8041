use Rattle.bx_patch.proofs.ReadLemmas.{IfSome-map, gives_piece}
use Rattle.bx_patch.proofs.read.signed.full_piece.Goals as goal

pub returns-then-line-eq67 : goal.returns-then-line-eq67
returns-then-line-eq67 c = IfSome-map c.full_text.result (λ full is. gives_piece c.args.line.now full.at full.bytes is) c.full_text.ensures
