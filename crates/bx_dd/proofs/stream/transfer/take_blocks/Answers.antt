use Rattle.std.proofs.Common.{◌≡◌, ◌+◌, ◌-◌, ◌*◌, ◌≤◌, ◌++◌, length, take, arith, ap, ◌∙◌, sym, inl}
use Rattle.std.proofs.Math.Nat.{mul-le-mul_right}
use Rattle.std.proofs.lemmas.List.{length-append, length-take-le}
use Rattle.std.proofs.lemmas.Result.{err_from_is_err_and}
use Rattle.bx_text.proofs.KnownLemmas.{Consumes-trans}
use Rattle.bx_text.specs.declared.stream.State.TheVariants.{Open, Ended}
use Rattle.bx_dd.proofs.TransferLemmas.{stopped_more, within_memory, read_last, whole_blocks, still_open}
use Rattle.bx_dd.proofs.stream.transfer.take_blocks.Goals as goal

pub returns-in_err-n-clause-stopped : goal.returns-in_err-n-clause-stopped
returns-in_err-n-clause-stopped g c =
    let p = err_from_is_err_and c.from_residual.result c.from_residual.ensures.1 in
    let read = c.loop-i.invariant.read in
    let room : length read.0 ≤ c.args.meter.now.limit - c.args.meter.now.taken = omega (arith, read.3, c.loop-i.invariant.limit, c.loop-i.meter.within) in
    let turn : (c.loop-i._i + 1) * length c.loop-i.block ≤ c.args.count * length c.loop-i.block = mul-le-mul_right (length c.loop-i.block) (omega (arith, c.loop-i-test.true)) in
    let size : c.args.count * length c.loop-i.block ≡ c.args.count * length c.args.block.now = ap (λ n. c.args.count * n) c.loop-i.auto.block in
    rw (p.1, p.2) (stopped_more _ _ _ read.0 _ _ _ _ _ read.4 (omega (arith, read.3, c.loop-i.invariant.limit)) room (omega (arith, read.2, turn, size)) c.in_err-n.ensures.stopped)

pub block-requires-clause-whole : goal.block-requires-clause-whole
block-requires-clause-whole g c =
    let read = c.loop-i.invariant.read in
    let size : length c.loop-i.block ≡ c.loop-i.convert.form.ibs = c.loop-i.auto.block ∙ c.requires.size ∙ ap (λ f. f.ibs) (sym c.loop-i.invariant.form) in
    whole_blocks c.loop-i._i c.loop-i.convert.taken c.loop-i.convert.form.ibs (read.1.0 ∙ read.2 ∙ ap (λ n. c.loop-i._i * n) size)

pub returns-in_err-convert-clause-stopped : goal.returns-in_err-convert-clause-stopped
returns-in_err-convert-clause-stopped g c =
    let p = err_from_is_err_and c.from_residual-in_err-convert.result c.from_residual-in_err-convert.ensures.1 in
    let read = c.loop-i.invariant.read in
    let fill = c.in_ok-n.ensures in
    let input = read.0 ++ take c.in_ok-n.n c.read_block.new.block in
    let long : length input ≡ length read.0 + c.in_ok-n.n =
    omega (arith, length-append read.0 (take c.in_ok-n.n c.read_block.new.block), length-take-le c.in_ok-n.n c.read_block.new.block fill.bound) in
    let room : length input ≤ c.args.meter.now.limit - c.args.meter.now.taken = omega (arith, long, read.3, fill.taken, fill.limit, c.loop-i.invariant.limit, c.read_block.new.meter.within) in
    let turn : (c.loop-i._i + 1) * length c.loop-i.block ≤ c.args.count * length c.loop-i.block = mul-le-mul_right (length c.loop-i.block) (omega (arith, c.loop-i-test.true)) in
    let size : c.args.count * length c.loop-i.block ≡ c.args.count * length c.args.block.now = ap (λ n. c.args.count * n) c.loop-i.auto.block in
    let all : length input ≤ c.args.count * length c.args.block.now = omega (arith, long, read.2, fill.bound, c.read_block.auto.block, turn, size) in
    rw (p.1, p.2) (within_memory _ _ input _ _ _ (Consumes-trans _ _ _ _ _ read.4 fill.bytes) room all c.in_err-convert.ensures.fault)

pub returns-then-n-block-clause-read : goal.returns-then-n-block-clause-read
returns-then-n-block-clause-read g c =
    let read = c.loop-i.invariant.read in
    let fill = c.in_ok-n.ensures in
    let size : length c.read_block.new.block ≡ length c.args.block.now = omega (arith, c.read_block.auto.block, c.loop-i.auto.block) in
    let before : length read.0 ≡ c.loop-i._i * length c.args.block.now = read.2 ∙ ap (λ n. c.loop-i._i * n) c.loop-i.auto.block in
    let end = fill.ended (omega arith) in (
      read.0 ++ take c.in_ok-n.n c.read_block.new.block,
      c.in_ok-convert.ensures.after read.0 read.1,
      read_last _ _ _ read.0 c.read_block.new.block c.loop-i._i c.in_ok-n.n c.args.count (length c.args.block.now) fill.bound size before c.loop-i-test.true _ (omega arith) read.4 fill.bytes end.0 end.1,
      omega (arith, fill.taken, read.3, length-append read.0 (take c.in_ok-n.n c.read_block.new.block), length-take-le c.in_ok-n.n c.read_block.new.block fill.bound),
    )

pub loop-i-preserved : goal.loop-i-preserved
loop-i-preserved g c =
    let read = c.loop-i.invariant.read in
    let fill = c.in_ok-n.ensures in
    let chunk = take c.in_ok-n.n c.read_block.new.block in
    let len : length chunk ≡ c.in_ok-n.n = length-take-le c.in_ok-n.n c.read_block.new.block fill.bound in
    let full : c.in_ok-n.n ≡ length c.read_block.new.block = omega (arith, fill.bound) in
    let before : length read.0 ≡ c.loop-i._i * length c.read_block.new.block = read.2 ∙ ap (λ n. c.loop-i._i * n) (sym c.read_block.auto.block) in
    let open_now : c.loop-i.meter.state ≡ Open = still_open c.loop-i.meter.state _ c.loop-i.invariant.ready (λ e. c.if-n-eq0.false (fill.none_left e).0) in
    let stays : c.read_block.new.meter.state ≡ Open = fill.full (omega arith) ∙ open_now in
    record {
      form = c.in_ok-convert.ensures.form ∙ c.loop-i.invariant.form;
      limit = fill.limit ∙ c.loop-i.invariant.limit;
      ready = inl stays;
      fresh = λ e. absurd (let wrong : Open ≡ Ended = sym stays ∙ e in cc);
      still = λ e. absurd (let wrong : Open ≡ Ended = sym open_now ∙ c.loop-i.invariant.still e in cc);
      read = (
        read.0 ++ chunk,
        c.in_ok-convert.ensures.after read.0 read.1,
        omega (arith, length-append read.0 chunk, len, full, before),
        omega (arith, fill.taken, read.3, length-append read.0 chunk, len),
        Consumes-trans _ _ _ _ _ read.4 fill.bytes,
      );
    }
