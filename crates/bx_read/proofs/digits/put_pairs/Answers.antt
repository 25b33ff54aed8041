use Rattle.std.proofs.Common.{◌≡◌, ◌+◌, ◌*◌, ◌-◌, length, take, Some, subst, arith}
use borrow.Rule.Slice.PartMut.{put_mid}
use Rattle.bx_read.specs.Plain.{hex_bytes}
use Rattle.bx_read.proofs.FrontLemmas.{pairs_put}
use Rattle.bx_read.proofs.digits.put_pairs.Goals as goal

pub returns-then-more-lt-LANES-clause-bytes : goal.returns-then-more-lt-LANES-clause-bytes
returns-then-more-lt-LANES-clause-bytes c =
    let done = c.loop-count.count in
    pairs_put c.args.text.now c.loop-count.out c.put_front-more.new.out done c.put_front-more.result (length c.loop-count.out - done) (omega arith)
    (omega (arith, c.put_front-more.auto.out, c.put_front-more.ensures.few)) c.loop-count.invariant.bytes c.put_front-more.ensures.bytes

pub loop-count-preserved : goal.loop-count-preserved
loop-count-preserved c =
    let text = c.args.text.now in
    let out = c.loop-count.out in
    let put = c.put_front-more.new.out in
    let done = c.loop-count.count in
    let room = length out - done in
    let all : c.put_front-more.result ≡ 8 = omega (arith, c.put_front-more.ensures.few) in
    record {
      inside = omega arith;
      bytes = subst (λ n. hex_bytes (take (2 * (done + n)) text) ≡ Some (take (done + n) (put_mid done room out put))) all
          (pairs_put text out put done c.put_front-more.result room (omega arith) (omega (arith, c.put_front-more.auto.out, c.put_front-more.ensures.few))
          c.loop-count.invariant.bytes c.put_front-more.ensures.bytes);
    }

pub returns-clause-bytes : goal.returns-clause-bytes
returns-clause-bytes c =
    let done = c.loop-count.count in
    pairs_put c.args.text.now c.loop-count.out c.put_each.new.out done c.put_each.result (length c.loop-count.out - done) (omega arith)
    (omega (arith, c.put_each.auto.out, c.put_each.ensures.room)) c.loop-count.invariant.bytes c.put_each.ensures.bytes
