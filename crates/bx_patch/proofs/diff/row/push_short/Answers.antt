use Rattle.std.proofs.Common.{◌<◌, ◌∙◌, length, arith}
use Rattle.std.proofs.lemmas.Bool.Decides.{nat_tests}
use Rattle.bx_patch.proofs.PushLemmas.{pushed_line}
use Rattle.bx_patch.proofs.diff.row.push_short.Goals as goal

pub returns : goal.returns
returns g c =
    let some : 0 < length c.args.bytes.now = grind (arith, nat_tests, c.if-is_empty.false, c.is_empty.ensures) in
    pushed_line c.args.text.now.items c.push.new.self.items c.extend_from_slice.new.self.items c.as_bytes.result.now c.args.bytes.now c.sign_of.result c.args.at c.args.new
    c.in_ok-push.ensures.items c.in_ok-extend_from_slice.ensures.items c.sign_of.ensures (c.as_bytes.ensures.value ∙ c.xxd_line.ensures) some
