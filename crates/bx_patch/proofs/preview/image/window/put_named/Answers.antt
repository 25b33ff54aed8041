use Rattle.std.proofs.Common.{length, refl, ◌∙◌, arith}
use Rattle.bx_patch.proofs.IndexLemmas.{passed_more, put_rest, skipped, skipped_rest}
use Rattle.bx_patch.proofs.preview.image.window.put_named.Goals as goal

pub loop-i-init : goal.loop-i-init
loop-i-init g c = record {
  long = refl;
  most = omega arith;
  passed = λ k d low high. absurd (omega (arith, high));
  put = λ y win. (y, win, refl);
}

pub number_at-requires : goal.number_at-requires
number_at-requires g c = record { within = c.loop-i-test.true; least = c.requires.least c.loop-i.i 0 c.loop-i-test.true }

pub put_next-done-requires : goal.put_next-done-requires
put_next-done-requires g c = record {
  within = c.loop-i.invariant.most;
  outside = skipped c.args.names.now c.args.first c.args.pieces.now c.args.at (length c.args.buf.now) (length c.loop-i.buf) c.loop-i.i c.loop-i.done
      c.number_at.result c.requires.found c.requires.rise c.loop-i.invariant.long c.number_at.ensures c.loop-i.invariant.passed;
}

pub loop-i-preserved : goal.loop-i-preserved
loop-i-preserved g c = record {
  long = c.put_next-done.ensures.length ∙ c.loop-i.invariant.long;
  most = c.put_next-done.ensures.most;
  passed = passed_more c.args.names.now c.args.first (length c.args.pieces.now) c.loop-i.done c.put_next-done.result c.loop-i.i c.number_at.result
      c.loop-i-test.true c.number_at.ensures c.put_next-done.ensures.more c.put_next-done.ensures.behind c.loop-i.invariant.passed;
  put = λ y win.
      let (z, now, leads) = c.loop-i.invariant.put y win in
      c.put_next-done.ensures.put _ z now leads;
}

pub returns-clause-put : goal.returns-clause-put
returns-clause-put g c y win =
    let (z, now, leads) = c.loop-i.invariant.put y win in
    put_rest c.loop-i.buf c.args.at (length c.loop-i.buf) c.args.pieces.now c.loop-i.done _ z refl c.loop-i.invariant.most
    (skipped_rest c.args.names.now c.args.first c.args.pieces.now c.args.at (length c.args.buf.now) (length c.loop-i.buf) c.loop-i.i c.loop-i.done
    c.requires.found c.loop-i.invariant.long (omega (arith, c.loop-i-test.false)) c.loop-i.invariant.passed) now leads
