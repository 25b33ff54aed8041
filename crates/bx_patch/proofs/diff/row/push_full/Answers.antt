use Rattle.std.proofs.Common.{◌<◌, length, arith}
use Rattle.bx_patch.proofs.PushLemmas.{pushed_line}
use Rattle.bx_patch.proofs.diff.row.push_full.Goals as goal

pub returns : goal.returns
returns g c =
    let some : 0 < length c.args.bytes.now = grind arith in
    pushed_line c.args.text.now.items c.push.new.self.items c.extend_from_slice.new.self.items c.put_full_line.new.line c.args.bytes.now c.sign_of.result c.args.at c.args.new
    c.in_ok-push.ensures.items c.in_ok-extend_from_slice.ensures.items c.sign_of.ensures c.put_full_line.ensures some
