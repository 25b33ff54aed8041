use Rattle.std.proofs.Common.{take, arith}
use Rattle.bx_read.proofs.DecodeLemmas.{pair_fits, pair_there, rest_kept, after_space, after_pair}
use Rattle.bx_read.proofs.line.decode_pairs.Goals as goal

pub decoded-requires-clause-within : goal.decoded-requires-clause-within
decoded-requires-clause-within c =
    omega (arith, pair_fits c.args.hex.now (take c.loop-at.count c.loop-at.out) c.loop-at.at c.requires.few c.loop-at.invariant.all c.loop-at.invariant.within)

pub decoded-requires-clause-digits : goal.decoded-requires-clause-digits
decoded-requires-clause-digits c = pair_there c.args.hex.now (take c.loop-at.count c.loop-at.out) c.loop-at.at c.requires.few c.loop-at.invariant.all c.loop-at.invariant.within

pub loop-at-preserved-then-hex-at-eq32 : goal.loop-at-preserved-then-hex-at-eq32
loop-at-preserved-then-hex-at-eq32 c =
    let fits = pair_fits c.args.hex.now (take c.loop-at.count c.loop-at.out) c.loop-at.at c.requires.few c.loop-at.invariant.all c.loop-at.invariant.within in
    let next = after_space c.args.hex.now c.loop-at.out c.loop-at.at c.loop-at.count c.decoded.result c.requires.few c.loop-at.invariant.all c.decoded.ensures (omega arith) c.loop-at.invariant.full
    c.loop-at.invariant.within (omega arith) c.if-hex-at-eq32.true in
    record {
      within = next.0;
      all = next.2;
      full = next.1;
      rest = rest_kept c.args.hex.now c.loop-at.out c.loop-at.at c.loop-at.count c.decoded.result c.requires.few c.loop-at.invariant.all c.decoded.ensures (omega arith) c.loop-at.invariant.full
          c.loop-at.invariant.within c.args.out.now c.loop-at.invariant.rest (omega arith);
    }

pub loop-at-preserved : goal.loop-at-preserved
loop-at-preserved c =
    let fits = pair_fits c.args.hex.now (take c.loop-at.count c.loop-at.out) c.loop-at.at c.requires.few c.loop-at.invariant.all c.loop-at.invariant.within in
    let next = after_pair c.args.hex.now c.loop-at.out c.loop-at.at c.loop-at.count c.decoded.result c.requires.few c.loop-at.invariant.all c.decoded.ensures (omega arith) c.loop-at.invariant.full
    c.loop-at.invariant.within (omega arith) c.if-hex-at-eq32.false in
    record {
      within = next.0;
      all = next.2;
      full = next.1;
      rest = rest_kept c.args.hex.now c.loop-at.out c.loop-at.at c.loop-at.count c.decoded.result c.requires.few c.loop-at.invariant.all c.decoded.ensures (omega arith) c.loop-at.invariant.full
          c.loop-at.invariant.within c.args.out.now c.loop-at.invariant.rest (omega arith);
    }
