use Rattle.bx_patch.proofs.PushLemmas.{rows_added}
use Rattle.bx_patch.proofs.diff.lines.push_rows.Goals as goal

pub loop-k-preserved : goal.loop-k-preserved
loop-k-preserved g c =
    rows_added c.args.extent c.args.text.now.items c.loop-k.text.items c.push_kth.new.text.items c.args.at c.args.old.now c.args.new.now c.loop-k.k
    c.loop-k.invariant c.in_ok-push_kth.ensures
