use Rattle.std.proofs.Common.{◌≡◌, [], ◌^◌, ◌<◌, ◌≤◌, ◌++◌, length, take, arith, ap, ◌∙◌, sym, refl}
use Rattle.std.proofs.lemmas.List.{length-append, length-take-le}
use Rattle.bx_text.proofs.KnownLemmas.{Appends-trans, Consumes-trans, Appends-nil, Consumes-nil}
use Rattle.bx_dump.specs.private.Scan.{scan_text, scan_run}
use Rattle.bx_dump.proofs.DumpLemmas.{read_stop, write_stop}
use Rattle.bx_dump.proofs.ScanLemmas.{scan_goes, scan_grows, scan_text-none, kept_none, scan_run-append}
use Rattle.bx_dump.proofs.strings.dump.scan_pages.Goals as goal

pub loop-n-init : goal.loop-n-init
loop-n-init g c =
    let runs = c.args.runs.now in
    let none = scan_text-none runs.least runs.offsets 0 [] in
    record {
      open_now = c.new-meter.ensures.state;
      limit = c.new-meter.ensures.limit;
      block = refl;
      page = c.requires.page;
      few = omega arith;
      least = refl;
      offsets = refl;
      size = c.requires.size;
      within = omega (arith, c.requires.fresh);
      so_far = (
        [],
        sym c.new-meter.ensures.taken,
        Consumes-nil _,
        rw (← none) (Appends-nil _),
        rw (← none) refl,
        kept_none runs.least runs.kept runs.count c.requires.fresh c.requires.least,
      );
    }

pub returns-in-Err-clause-err : goal.returns-in-Err-clause-err
returns-in-Err-clause-err g c =
    let before = c.loop-n.invariant in
    let now = before.so_far in
    let runs = c.args.runs.now in
    let stop = rw before.limit at (c.in-Err.ensures.stops.stopped before.open_now) in
    read_stop (scan_text runs.least runs.offsets 0 []) _ _ _ _ _ now.0 c.loop-n.meter.taken _ c.in-Err.fault now.1 (omega (arith, before.limit, c.loop-n.meter.within))
    (scan_grows runs.least runs.offsets now.0) now.2 now.3 stop

pub returns-in-Err-emit_after-clause-err : goal.returns-in-Err-emit_after-clause-err
returns-in-Err-emit_after-clause-err g c =
    let before = c.loop-n.invariant in
    let now = before.so_far in
    let runs = c.args.runs.now in
    let chunk = take c.in-Ok.n c.fill.new.buf in
    let page = take c.put-used.result c.put-used.new.page in
    let put = rw (before.least, before.offsets, c.taken-at.ensures) at (c.put-used.ensures.text (scan_run [] now.0) now.5) in
    let is = scan_goes runs.least runs.offsets now.0 chunk page c.loop-n.meter.taken now.1 put in
    let fill = c.in-Ok.ensures in
    let few : length (now.0 ++ chunk) ≤ 2 ^ 40 =
    omega (arith, length-append now.0 chunk, length-take-le c.in-Ok.n c.fill.new.buf (omega (arith, fill.bound)), now.1, fill.taken, fill.limit, before.limit, c.fill.new.self.within) in
    let block : length chunk ≤ 2 ^ 14 = omega (arith, length-take-le c.in-Ok.n c.fill.new.buf (omega (arith, fill.bound)), fill.bound, c.fill.auto.buf, before.block, c.requires.block) in
    write_stop 0 (scan_text runs.least runs.offsets 0 []) _ _ _ _ _ (scan_text runs.least runs.offsets 0 [] now.0) now.0 chunk page c.loop-n.written c.in-Err-emit_after.fault
    (Consumes-trans _ _ _ _ _ now.2 fill.bytes) few block (omega (arith, now.4)) now.3 now.4 is c.in-Err-emit_after.ensures.err

pub returns-then-n-block-clause-ok : goal.returns-then-n-block-clause-ok
returns-then-n-block-clause-ok g c =
    let before = c.loop-n.invariant in
    let now = before.so_far in
    let runs = c.args.runs.now in
    let fill = c.in-Ok.ensures in
    let chunk = take c.in-Ok.n c.fill.new.buf in
    let page = take c.put-used.result c.put-used.new.page in
    let put = rw (before.least, before.offsets, c.taken-at.ensures) at (c.put-used.ensures.text (scan_run [] now.0) now.5) in
    let is = scan_goes runs.least runs.offsets now.0 chunk page c.loop-n.meter.taken now.1 put in
    let short : c.in-Ok.n < length c.fill.new.buf = omega (arith, c.fill.auto.buf, c.if-n-block.true) in
    let size : length page ≡ c.put-used.result = length-take-le c.put-used.result c.put-used.new.page (omega (arith, c.put-used.ensures.most, c.put-used.auto.page)) in
    let kept = rw (c.put-used.ensures.least, before.least) at (c.put-used.ensures.kept (scan_run [] now.0) now.5) in
    record {
      input = now.0 ++ chunk;
      long = omega (arith, length-append now.0 chunk, now.1, fill.taken, fill.bound.1);
      few = omega (arith, fill.limit, before.limit, c.fill.new.self.within);
      consumed = Consumes-trans _ _ _ _ _ now.2 fill.bytes;
      ended = fill.end (fill.ended short) before.open_now;
      appended = rw is (Appends-trans _ _ _ _ _ now.3 c.in_default.ensures.ok);
      size = omega (arith, ap length is, length-append (scan_text runs.least runs.offsets 0 [] now.0) page, now.4, size);
      run = rw (scan_run-append [] now.0 chunk) kept;
    }

pub loop-n-preserved : goal.loop-n-preserved
loop-n-preserved g c =
    let before = c.loop-n.invariant in
    let now = before.so_far in
    let runs = c.args.runs.now in
    let fill = c.in-Ok.ensures in
    let chunk = take c.in-Ok.n c.fill.new.buf in
    let page = take c.put-used.result c.put-used.new.page in
    let put = rw (before.least, before.offsets, c.taken-at.ensures) at (c.put-used.ensures.text (scan_run [] now.0) now.5) in
    let is = scan_goes runs.least runs.offsets now.0 chunk page c.loop-n.meter.taken now.1 put in
    let size : length page ≡ c.put-used.result = length-take-le c.put-used.result c.put-used.new.page (omega (arith, c.put-used.ensures.most, c.put-used.auto.page)) in
    let whole : 16384 ≤ c.in-Ok.n = omega (arith, c.if-n-block.false, c.fill.auto.buf, before.block, c.requires.block) in
    record {
      open_now = fill.full (omega (arith, c.fill.auto.buf, c.if-n-block.false)) ∙ before.open_now;
      limit = fill.limit ∙ before.limit;
      block = c.fill.auto.buf ∙ before.block;
      page = c.put-used.auto.page ∙ before.page;
      few = omega (arith, before.few, c.put-used.ensures.most, before.page, whole, fill.taken);
      least = c.put-used.ensures.least ∙ before.least;
      offsets = c.put-used.ensures.offsets ∙ before.offsets;
      size = c.put-used.ensures.size;
      within = c.put-used.ensures.within;
      so_far = (
        now.0 ++ chunk,
        omega (arith, length-append now.0 chunk, now.1, fill.taken, fill.bound.1),
        Consumes-trans _ _ _ _ _ now.2 fill.bytes,
        rw is (Appends-trans _ _ _ _ _ now.3 c.in_default.ensures.ok),
        omega (arith, ap length is, length-append (scan_text runs.least runs.offsets 0 [] now.0) page, now.4, size),
        rw (scan_run-append [] now.0 chunk) (c.put-used.ensures.kept (scan_run [] now.0) now.5),
      );
    }
