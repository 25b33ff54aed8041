use Rattle.std.proofs.Common.{length, ap, arith, ◌∙◌}
use Rattle.bx_journal_protocol.proofs.RangeLemmas.{line_same}
use Rattle.bx_journal_protocol.proofs.before.lengths.line_len.Goals as goal

pub returns : goal.returns
returns g bytes long =
    ap length g.as_bytes.ensures.value ∙ ap length g.row_of.ensures ∙ line_same g.args.at g.split_at.result.0.now bytes (omega (arith, g.split_at.ensures.front_len, long, g.requires.few))
