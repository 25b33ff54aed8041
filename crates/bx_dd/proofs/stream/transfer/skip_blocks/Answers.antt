use Rattle.std.proofs.Common.{◌≡◌, ◌+◌, ◌-◌, ◌*◌, ◌≤◌, ◌++◌, length, take, arith, ap, ◌∙◌, sym}
use Rattle.std.proofs.Math.Nat.{mul-le-mul_right}
use Rattle.std.proofs.lemmas.List.{length-append, length-take-le}
use Rattle.std.proofs.lemmas.Result.{err_from_is_err_and}
use Rattle.bx_text.proofs.KnownLemmas.{Consumes-trans}
use Rattle.bx_dd.proofs.TransferLemmas.{stopped_more, read_last}
use Rattle.bx_dd.proofs.stream.transfer.skip_blocks.Goals as goal

pub returns-in_err-n-clause-stopped : goal.returns-in_err-n-clause-stopped
returns-in_err-n-clause-stopped g c =
    let p = err_from_is_err_and c.from_residual.result c.from_residual.ensures.1 in
    let read = c.loop-i.invariant.read in
    let room : length read.0 ≤ c.args.meter.now.limit - c.args.meter.now.taken = omega (arith, read.2, c.loop-i.invariant.limit, c.loop-i.meter.within) in
    let turn : (c.loop-i._i + 1) * length c.loop-i.block ≤ c.args.skip * length c.loop-i.block = mul-le-mul_right (length c.loop-i.block) (omega (arith, c.loop-i-test.true)) in
    let size : c.args.skip * length c.loop-i.block ≡ c.args.skip * length c.args.block.now = ap (λ n. c.args.skip * n) c.loop-i.auto.block in
    rw (p.1, p.2) (stopped_more _ _ _ read.0 _ _ _ _ _ read.3 (omega (arith, read.2, c.loop-i.invariant.limit)) room (omega (arith, read.1, turn, size)) c.in_err-n.ensures.stopped)

pub returns-then-n-block-clause-read : goal.returns-then-n-block-clause-read
returns-then-n-block-clause-read g c =
    let read = c.loop-i.invariant.read in
    let fill = c.in_ok-n.ensures in
    let size : length c.read_block.new.block ≡ length c.args.block.now = omega (arith, c.read_block.auto.block, c.loop-i.auto.block) in
    let before : length read.0 ≡ c.loop-i._i * length c.args.block.now = read.1 ∙ ap (λ n. c.loop-i._i * n) c.loop-i.auto.block in
    let end = fill.ended (omega arith) in (
      read.0 ++ take c.in_ok-n.n c.read_block.new.block,
      read_last _ _ _ read.0 c.read_block.new.block c.loop-i._i c.in_ok-n.n c.args.skip (length c.args.block.now) fill.bound size before c.loop-i-test.true _ (omega arith) read.3 fill.bytes end.0 end.1,
      omega (arith, fill.taken, read.2, length-append read.0 (take c.in_ok-n.n c.read_block.new.block), length-take-le c.in_ok-n.n c.read_block.new.block fill.bound),
    )

pub loop-i-preserved : goal.loop-i-preserved
loop-i-preserved g c =
    let read = c.loop-i.invariant.read in
    let fill = c.in_ok-n.ensures in
    let chunk = take c.in_ok-n.n c.read_block.new.block in
    let len : length chunk ≡ c.in_ok-n.n = length-take-le c.in_ok-n.n c.read_block.new.block fill.bound in
    let full : c.in_ok-n.n ≡ length c.read_block.new.block = omega (arith, fill.bound) in
    let before : length read.0 ≡ c.loop-i._i * length c.read_block.new.block = read.1 ∙ ap (λ n. c.loop-i._i * n) (sym c.read_block.auto.block) in
    record {
      open_now = fill.full (omega arith) ∙ c.loop-i.invariant.open_now;
      limit = fill.limit ∙ c.loop-i.invariant.limit;
      read = (
        read.0 ++ chunk,
        omega (arith, length-append read.0 chunk, len, full, before),
        omega (arith, fill.taken, read.2, length-append read.0 chunk, len),
        Consumes-trans _ _ _ _ _ read.3 fill.bytes,
      );
    }
