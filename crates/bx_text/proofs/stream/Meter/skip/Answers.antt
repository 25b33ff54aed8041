use Rattle.std.proofs.Common.{◌≡◌, ◌+◌, ◌<◌, true, false, ◌++◌, length, take, drop, arith, ◌∙◌}
use Rattle.std.proofs.lemmas.List.{length-append, length-drop, length-take-le}
use Rattle.bx_text.proofs.KnownLemmas.{Consumes-trans}
use Rattle.bx_text.proofs.StreamLemmas.{cause_more}
use Rattle.bx_text.proofs.stream.Meter.skip.Goals as goal

pub returns-in-Err-clause-stopped : goal.returns-in-Err-clause-stopped
returns-in-Err-clause-stopped g c was_open =
    let before = c.loop-left.invariant in
    let now = before.so_far in
    let stop = c.in-Err.ensures.stops.stopped before.open_now in
    let size : length (take c.min-want.result c.loop-left.buf) ≡ c.min-want.result = length-take-le c.min-want.result c.loop-left.buf (omega (arith, c.min-want.ensures)) in (
      now.0 ++ stop.0,
      Consumes-trans _ _ _ _ _ now.3 stop.1,
      cause_more c.in-Err.fault _ _ _ _ _ _ (length now.0) stop.2 (length-append now.0 stop.0) (omega (arith, size, now.1, c.min-want.ensures))
          (omega (arith, now.2, before.limit, c.loop-left.self.within)),
    )

pub returns-then-n-want-clause-ok : goal.returns-then-n-want-clause-ok
returns-then-n-want-clause-ok g c =
    let before = c.loop-left.invariant in
    let now = before.so_far in
    let fill = c.in-Ok.ensures in
    let size : length c.fill.new.buf ≡ c.min-want.result = c.fill.auto.buf ∙ length-take-le c.min-want.result c.loop-left.buf (omega (arith, c.min-want.ensures)) in
    let chunk = take c.in-Ok.n c.fill.new.buf in
    let count : length chunk ≡ c.in-Ok.n = length-take-le c.in-Ok.n c.fill.new.buf (omega (arith, fill.bound)) in
    let total : length (now.0 ++ chunk) ≡ length now.0 + c.in-Ok.n = length-append now.0 chunk ∙ omega (arith, count) in
    let less : length (now.0 ++ chunk) < c.args.count = omega (arith, total, now.1, c.min-want.ensures, c.if-n-want.true) in
    record {
      input = now.0 ++ chunk;
      consumed = Consumes-trans _ _ _ _ _ now.3 fill.bytes;
      few = omega (arith, total, now.2, fill.taken, fill.limit, before.limit, c.fill.new.self.within);
      whole = λ (e : false ≡ true). absurd (cc e);
      short = λ (e : false ≡ false). (less, fill.end (fill.ended (omega (arith, size, c.if-n-want.true))) before.open_now);
    }

pub loop-left-preserved : goal.loop-left-preserved
loop-left-preserved g c =
    let before = c.loop-left.invariant in
    let now = before.so_far in
    let fill = c.in-Ok.ensures in
    let size : length c.fill.new.buf ≡ c.min-want.result = c.fill.auto.buf ∙ length-take-le c.min-want.result c.loop-left.buf (omega (arith, c.min-want.ensures)) in
    let chunk = take c.in-Ok.n c.fill.new.buf in
    let count : length chunk ≡ c.in-Ok.n = length-take-le c.in-Ok.n c.fill.new.buf (omega (arith, fill.bound)) in
    let total : length (now.0 ++ chunk) ≡ length now.0 + c.in-Ok.n = length-append now.0 chunk ∙ omega (arith, count) in
    record {
      open_now = fill.full (omega (arith, size, c.if-n-want.false)) ∙ before.open_now;
      limit = fill.limit ∙ before.limit;
      room = omega (arith, length-append c.fill.new.buf (drop c.min-want.result c.loop-left.buf), length-drop c.min-want.result c.loop-left.buf, size, before.room);
      so_far = (
        now.0 ++ chunk,
        omega (arith, total, now.1, fill.bound, size, c.min-want.ensures),
        omega (arith, total, now.2, fill.taken),
        Consumes-trans _ _ _ _ _ now.3 fill.bytes,
      );
    }

pub returns-in-Err-clause-counted : goal.returns-in-Err-clause-counted
returns-in-Err-clause-counted g c =
    let before = c.loop-left.invariant in
    let now = before.so_far in
    let more = c.in-Err.ensures.stops.counted in
    (now.0 ++ more.0, Consumes-trans _ _ _ _ _ now.3 more.1, omega (arith, more.2, now.2, before.limit, length-append now.0 more.0))

pub returns-then-n-want-clause-counted : goal.returns-then-n-want-clause-counted
returns-then-n-want-clause-counted g c =
    let before = c.loop-left.invariant in
    let now = before.so_far in
    let fill = c.in-Ok.ensures in
    let chunk = take c.in-Ok.n c.fill.new.buf in
    let count : length chunk ≡ c.in-Ok.n = length-take-le c.in-Ok.n c.fill.new.buf (omega (arith, fill.bound)) in (
      now.0 ++ chunk,
      Consumes-trans _ _ _ _ _ now.3 fill.bytes,
      omega (arith, length-append now.0 chunk, count, now.2, fill.taken, fill.limit, before.limit, c.fill.new.self.within),
    )
