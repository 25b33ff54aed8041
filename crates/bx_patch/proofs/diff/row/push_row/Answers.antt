use Rattle.std.proofs.Common.{sym}
use Rattle.std.proofs.lemmas.Slice.Eq.{bytes_eq-Decides}
use Rattle.bx_patch.proofs.PushLemmas.{equal_added}
use Rattle.bx_patch.proofs.diff.row.push_row.Goals as goal

pub returns-then-eq : goal.returns-then-eq
returns-then-eq g c =
    let same = (bytes_eq-Decides c.args.old.now c.args.new.now).0 (sym c.if-eq.ensures) in
    equal_added c.args.text.now.items c.args.extent c.args.at c.args.old.now c.args.new.now same
