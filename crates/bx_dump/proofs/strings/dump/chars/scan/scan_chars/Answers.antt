use Rattle.std.proofs.Common.{◌≡◌, [], ◌^◌, ◌<◌, ◌≤◌, ◌++◌, length, take, arith, ap, ◌∙◌, sym, refl}
use Rattle.std.proofs.lemmas.List.{length-append, length-take-le}
use Rattle.bx_text.proofs.KnownLemmas.{Appends-trans, Consumes-trans, Appends-nil, Consumes-nil}
use Rattle.bx_dump.specs.private.Chars.{chars_left, chars_text, nothing}
use Rattle.bx_dump.proofs.DumpLemmas.{read_stop, write_stop}
use Rattle.bx_dump.proofs.CharsLemmas.{chars_go, chars_grow, chars_left-append, chars_left-none, chars_text-none}
use Rattle.bx_dump.proofs.strings.dump.chars.scan.scan_chars.Goals as goal

pub loop-n-init : goal.loop-n-init
loop-n-init g c =
    let runs = c.args.chars.now.runs in
    let e = c.args.chars.now.encoding in
    let none = chars_text-none e runs.least runs.offsets 0 nothing in
    record {
      open_now = c.new-meter.ensures.state;
      limit = c.new-meter.ensures.limit;
      block = refl;
      page = c.requires.page;
      few = omega arith;
      encoding = refl;
      least = refl;
      offsets = refl;
      so_far = (
        [],
        sym c.new-meter.ensures.taken,
        Consumes-nil _,
        rw (← none) (Appends-nil _),
        rw (← none) refl,
        rw (← chars_left-none e nothing) c.requires.fresh,
      );
    }

pub returns-in-Err-clause-err : goal.returns-in-Err-clause-err
returns-in-Err-clause-err g c =
    let before = c.loop-n.invariant in
    let now = before.so_far in
    let runs = c.args.chars.now.runs in
    let e = c.args.chars.now.encoding in
    let stop = rw before.limit at (c.in-Err.ensures.stops.stopped before.open_now) in
    read_stop (chars_text e runs.least runs.offsets 0 nothing) _ _ _ _ _ now.0 c.loop-n.meter.taken _ c.in-Err.fault now.1 (omega (arith, before.limit, c.loop-n.meter.within))
    (chars_grow e runs.least runs.offsets now.0) now.2 now.3 stop

pub returns-in-Err-emit_after-clause-err : goal.returns-in-Err-emit_after-clause-err
returns-in-Err-emit_after-clause-err g c =
    let before = c.loop-n.invariant in
    let now = before.so_far in
    let runs = c.args.chars.now.runs in
    let e = c.args.chars.now.encoding in
    let chunk = take c.in-Ok.n c.fill.new.buf in
    let page = take c.put-used.result c.put-used.new.page in
    let put = rw (before.encoding, before.least, before.offsets, c.taken-at.ensures) at (c.put-used.ensures.text (chars_left e nothing now.0) now.5) in
    let is = chars_go e runs.least runs.offsets now.0 chunk page c.loop-n.meter.taken now.1 put in
    let fill = c.in-Ok.ensures in
    let few : length (now.0 ++ chunk) ≤ 2 ^ 40 =
    omega (arith, length-append now.0 chunk, length-take-le c.in-Ok.n c.fill.new.buf (omega (arith, fill.bound)), now.1, fill.taken, fill.limit, before.limit, c.fill.new.self.within) in
    let block : length chunk ≤ 2 ^ 14 = omega (arith, length-take-le c.in-Ok.n c.fill.new.buf (omega (arith, fill.bound)), fill.bound, c.fill.auto.buf, before.block, c.requires.block) in
    write_stop 0 (chars_text e runs.least runs.offsets 0 nothing) _ _ _ _ _ (chars_text e runs.least runs.offsets 0 nothing now.0) now.0 chunk page c.loop-n.written c.in-Err-emit_after.fault
    (Consumes-trans _ _ _ _ _ now.2 fill.bytes) few block (omega (arith, now.4)) now.3 now.4 is c.in-Err-emit_after.ensures.err

pub returns-then-n-block-clause-ok : goal.returns-then-n-block-clause-ok
returns-then-n-block-clause-ok g c =
    let before = c.loop-n.invariant in
    let now = before.so_far in
    let runs = c.args.chars.now.runs in
    let e = c.args.chars.now.encoding in
    let fill = c.in-Ok.ensures in
    let chunk = take c.in-Ok.n c.fill.new.buf in
    let page = take c.put-used.result c.put-used.new.page in
    let put = rw (before.encoding, before.least, before.offsets, c.taken-at.ensures) at (c.put-used.ensures.text (chars_left e nothing now.0) now.5) in
    let is = chars_go e runs.least runs.offsets now.0 chunk page c.loop-n.meter.taken now.1 put in
    let short : c.in-Ok.n < length c.fill.new.buf = omega (arith, c.fill.auto.buf, c.if-n-block.true) in
    let size : length page ≡ c.put-used.result = length-take-le c.put-used.result c.put-used.new.page (omega (arith, c.put-used.ensures.most, c.put-used.auto.page)) in
    let kept = rw before.encoding at (c.put-used.ensures.kept (chars_left e nothing now.0) now.5) in
    record {
      input = now.0 ++ chunk;
      long = omega (arith, length-append now.0 chunk, now.1, fill.taken, fill.bound.1);
      few = omega (arith, fill.limit, before.limit, c.fill.new.self.within);
      consumed = Consumes-trans _ _ _ _ _ now.2 fill.bytes;
      ended = fill.end (fill.ended short) before.open_now;
      appended = rw is (Appends-trans _ _ _ _ _ now.3 c.in_default.ensures.ok);
      size = omega (arith, ap length is, length-append (chars_text e runs.least runs.offsets 0 nothing now.0) page, now.4, size);
      held = rw (chars_left-append e nothing now.0 chunk) kept;
    }

pub loop-n-preserved : goal.loop-n-preserved
loop-n-preserved g c =
    let before = c.loop-n.invariant in
    let now = before.so_far in
    let runs = c.args.chars.now.runs in
    let e = c.args.chars.now.encoding in
    let fill = c.in-Ok.ensures in
    let chunk = take c.in-Ok.n c.fill.new.buf in
    let page = take c.put-used.result c.put-used.new.page in
    let put = rw (before.encoding, before.least, before.offsets, c.taken-at.ensures) at (c.put-used.ensures.text (chars_left e nothing now.0) now.5) in
    let is = chars_go e runs.least runs.offsets now.0 chunk page c.loop-n.meter.taken now.1 put in
    let size : length page ≡ c.put-used.result = length-take-le c.put-used.result c.put-used.new.page (omega (arith, c.put-used.ensures.most, c.put-used.auto.page)) in
    let whole : 16384 ≤ c.in-Ok.n = omega (arith, c.if-n-block.false, c.fill.auto.buf, before.block, c.requires.block) in
    record {
      open_now = fill.full (omega (arith, c.fill.auto.buf, c.if-n-block.false)) ∙ before.open_now;
      limit = fill.limit ∙ before.limit;
      block = c.fill.auto.buf ∙ before.block;
      page = c.put-used.auto.page ∙ before.page;
      few = omega (arith, before.few, c.put-used.ensures.most, before.page, whole, fill.taken);
      encoding = c.put-used.ensures.encoding ∙ before.encoding;
      least = c.put-used.ensures.least ∙ before.least;
      offsets = c.put-used.ensures.offsets ∙ before.offsets;
      so_far = (
        now.0 ++ chunk,
        omega (arith, length-append now.0 chunk, now.1, fill.taken, fill.bound.1),
        Consumes-trans _ _ _ _ _ now.2 fill.bytes,
        rw is (Appends-trans _ _ _ _ _ now.3 c.in_default.ensures.ok),
        omega (arith, ap length is, length-append (chars_text e runs.least runs.offsets 0 nothing now.0) page, now.4, size),
        rw (chars_left-append e nothing now.0 chunk) (rw before.encoding at (c.put-used.ensures.kept (chars_left e nothing now.0) now.5)),
      );
    }
