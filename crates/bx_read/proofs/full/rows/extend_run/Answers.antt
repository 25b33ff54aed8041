use Rattle.std.proofs.Common.{◌≡◌, ◌+◌, ◌++◌, length, subst, arith}
use Rattle.std.proofs.lemmas.Grind.{common_steps}
use Rattle.bx_read.specs.private.Full.{IsFull}
use Rattle.bx_read.proofs.GoesOnLemmas.{goes_none, goes_more}
use Rattle.bx_read.proofs.full.rows.extend_run.Goals as goal

pub loop-more-init : goal.loop-more-init
loop-more-init g c = goes_none c.args.text.now c.args.at c.args.bytes.now.items

pub loop-more-preserved : goal.loop-more-preserved
loop-more-preserved g c =
    let run = c.loop-more.bytes.items in
    let rest = c.loop-more.rest.now in
    let longer : c.extend_from_slice.new.self.items ≡ run ++ c.in-Some.more = grind (arith, common_steps) in
    let size : c.len.result ≡ length run = omega arith in
    let full = subst (λ n. IsFull rest (c.args.at + n) c.in-Some.more) size c.in-Some.ensures.full in
    goes_more c.args.text.now rest c.split_at.result.1.now c.loop-more.count c.args.at c.args.bytes.now.items run c.extend_from_slice.new.self.items c.in-Some.more
    c.loop-more.invariant full c.split_at.ensures.back longer
