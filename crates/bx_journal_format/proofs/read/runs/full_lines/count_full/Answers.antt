use Rattle.std.proofs.Common.{◌≡◌, ◌+◌, ◌*◌, drop, ap, ◌∙◌, subst, arith}
use Rattle.bx_journal_format.specs.read.Followed.{BeginsFull}
use Rattle.bx_journal_format.proofs.FullLemmas.{one_full}
use Rattle.bx_journal_format.proofs.ReadLoop.{drop_twice}
use Rattle.bx_journal_format.proofs.read.runs.full_lines.count_full.Goals as goal

pub loop-rest-preserved : goal.loop-rest-preserved
loop-rest-preserved c =
    let text = c.args.text.now in
    let count = c.loop-rest.count in
    let inv = c.loop-rest.invariant in
    let place : 68 * count + 68 ≡ 68 * (count + 1) = omega arith in
    record {
      left = c.split_at.ensures.back ∙ ap (drop 68) inv.left ∙ drop_twice (68 * count) 68 text ∙ ap (λ n. drop n text) place;
      so = one_full c.args.len count text inv.so (subst (BeginsFull c.args.len) inv.left (c.is_full.ensures c.loop-rest-test.true));
    }
