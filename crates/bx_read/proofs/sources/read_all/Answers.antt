use Rattle.std.proofs.Common.{◌++◌, ◌∙◌, [], length, take, refl, sym, arith}
use Rattle.std.proofs.lemmas.List.{length-append, length-take-le}
use Rattle.bx_text.proofs.KnownLemmas.{Consumes-trans}
use Rattle.bx_read.proofs.SourceLemmas.{consumes_none, cause_more, none_read}
use Rattle.bx_read.proofs.sources.read_all.Goals as goal

pub loop-count-init : goal.loop-count-init
loop-count-init g c = record {
  text = [];
  limit = refl;
  state = refl;
  taken = omega arith;
  bytes = consumes_none _;
  few = omega (arith, c.requires.none);
  read = c.requires.new;
  none = λ _. refl;
  closed = λ _. refl;
}

pub returns-in-Err-clause-stopped : goal.returns-in-Err-clause-stopped
returns-in-Err-clause-stopped g c was_open =
    let before = c.loop-count.invariant in
    let more = c.in-Err.ensures.stops.stopped (before.state ∙ was_open) in (
      before.text ++ more.0,
      Consumes-trans _ _ _ _ _ before.bytes more.1,
      cause_more c.in-Err.fault _ _ _ _ _ (length before.text) more.2 (omega (arith, length-append before.text more.0))
          (omega (arith, before.taken, before.limit, c.loop-count.source.meter.within)),
    )

pub read_next-requires : goal.read_next-requires
read_next-requires g c =
    let before = c.loop-count.invariant in
    let read = c.in-Ok.ensures in
    record { countable = omega (arith, before.few, before.taken, read.taken, c.taken-taken.ensures, length-take-le c.in-Ok.count c.fill.new.buf read.bound.0) }

pub returns-then-count-lt-WINDOW-clause-text : goal.returns-then-count-lt-WINDOW-clause-text
returns-then-count-lt-WINDOW-clause-text g c =
    let before = c.loop-count.invariant in
    let read = c.in-Ok.ensures in
    let part = take c.in-Ok.count c.fill.new.buf in
    let long = length-take-le c.in-Ok.count c.fill.new.buf read.bound.0 in (
      before.text ++ part,
      Consumes-trans _ _ _ _ _ before.bytes c.in-Ok.ensures.bytes,
      omega (arith, before.taken, before.limit, read.taken, read.limit, c.fill.new.self.meter.within, long, length-append before.text part),
      c.read_next.ensures.read before.text before.read,
    )

pub returns-then-count-lt-WINDOW-clause-countable : goal.returns-then-count-lt-WINDOW-clause-countable
returns-then-count-lt-WINDOW-clause-countable g c =
    let before = c.loop-count.invariant in
    let read = c.in-Ok.ensures in
    omega (arith, before.few, before.taken, read.taken, c.taken-taken.ensures, c.read_next.ensures.count, length-take-le c.in-Ok.count c.fill.new.buf read.bound.0)

pub returns-then-count-lt-WINDOW-clause-end : goal.returns-then-count-lt-WINDOW-clause-end
returns-then-count-lt-WINDOW-clause-end g c was_open =
    let read = c.in-Ok.ensures in
    read.end (read.ended (omega arith)) (c.loop-count.invariant.state ∙ was_open)

pub loop-count-preserved : goal.loop-count-preserved
loop-count-preserved g c =
    let before = c.loop-count.invariant in
    let read = c.in-Ok.ensures in
    let part = take c.in-Ok.count c.fill.new.buf in
    let long = length-take-le c.in-Ok.count c.fill.new.buf read.bound.0 in record {
      text = before.text ++ part;
      limit = read.limit ∙ before.limit;
      state = read.full (omega arith) ∙ before.state;
      taken = omega (arith, before.taken, read.taken, long, length-append before.text part);
      bytes = Consumes-trans _ _ _ _ _ before.bytes read.bytes;
      few = omega (arith, before.few, c.read_next.ensures.count, long, length-append before.text part);
      read = c.read_next.ensures.read before.text before.read;
      none = λ ended. absurd (omega (arith, none_read c.in-Ok.count c.fill.result c.in-Ok.is (c.fill.ensures.none_left (before.state ∙ ended)).0));
      closed = λ shut. read.closed (λ was_open. shut (sym before.state ∙ was_open)) ∙ before.closed shut;
    }

pub returns-then-not-read_next-clause-stopped : goal.returns-then-not-read_next-clause-stopped
returns-then-not-read_next-clause-stopped g c was_open =
    let before = c.loop-count.invariant in
    let read = c.in-Ok.ensures in
    let part = take c.in-Ok.count c.fill.new.buf in
    let long = length-take-le c.in-Ok.count c.fill.new.buf read.bound.0 in (
      before.text ++ part,
      rw c.stop.ensures.reader (Consumes-trans _ _ _ _ _ before.bytes read.bytes),
      omega (arith, before.taken, before.limit, read.taken, read.limit, c.fill.new.self.meter.within, long, length-append before.text part),
    )
