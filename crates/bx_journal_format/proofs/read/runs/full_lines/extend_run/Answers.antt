use Rattle.std.proofs.Common.{◌≡◌, ◌+◌, ◌*◌, ◌++◌, length, drop, ap, sym, ◌∙◌, subst, arith}
use Rattle.std.proofs.lemmas.Grind.{common_steps}
use Rattle.bx_journal_format.specs.read.Followed.{IsFullSaved, GoesOnBy, with_last}
use Rattle.bx_journal_format.proofs.FollowLemmas.{one_goes_on}
use Rattle.bx_journal_format.proofs.ReadLoop.{drop_twice}
use Rattle.bx_journal_format.proofs.read.runs.full_lines.extend_run.Goals as goal

pub loop-more-preserved : goal.loop-more-preserved
loop-more-preserved g c =
    let old = c.loop-more.bytes.items in
    let text = c.args.text.now in
    let count = c.loop-more.count in
    let longer : c.extend_from_slice.new.self.items ≡ c.loop-more.bytes.items ++ c.in-Some.more = grind (arith, common_steps) in
    let size : c.len.result ≡ length c.loop-more.bytes.items = omega arith in
    let full = subst (λ n. IsFullSaved c.args.len (c.args.at + n) c.loop-more.rest.now c.in-Some.more) size c.in-Some.ensures in
    let place : 68 * c.loop-more.count + 68 ≡ 68 * (c.loop-more.count + 1) = omega arith in
    record {
      left = c.split_at.ensures.back ∙ ap (drop 68) c.loop-more.invariant.left ∙ drop_twice (68 * count) 68 text ∙ ap (λ n. drop n text) place;
      so = λ front. subst (λ b. GoesOnBy c.args.len text (with_last front c.args.at c.args.bytes.now.items) (with_last front c.args.at b) (count + 1)) (sym longer)
          (one_goes_on c.args.len text c.loop-more.rest.now (with_last front c.args.at c.args.bytes.now.items) front c.args.at old c.in-Some.more count c.loop-more.invariant.left full (c.loop-more.invariant.so front));
    }
