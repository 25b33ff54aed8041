use Rattle.std.proofs.Common.{◌≡◌, ◌∙◌, ◌+◌, ◌++◌, [], length, take, refl, sym, arith}
use Rattle.std.proofs.lemmas.List.{length-append, length-take-le}
use Rattle.bx_text.proofs.KnownLemmas.{Consumes-nil, Consumes-trans}
use Rattle.bx_read.specs.Text.{lines_of, answers}
use Rattle.bx_read_stream.specs.declared.fault.StreamFault.TheVariants.{Io}
use Rattle.bx_read_stream.proofs.LayingLemmas.{ended_stops}
use Rattle.bx_read_stream.proofs.DumpLemmas.{read_stop}
use Rattle.bx_read_stream.proofs.dump.Windows.lay_windows.Goals as goal

pub returns-in-Err-clause-err : goal.returns-in-Err-clause-err
returns-in-Err-clause-err g c =
    let now = c.loop-count.invariant in
    let h = now.laid in
    let more = c.in-Err.ensures.stops.stopped now.is_open in
    let stop = read_stop c.loop-count.self.laying.shift h.lines (answers (c.loop-count.self.laying.lines + 1) (lines_of (c.loop-count.self.held.items ++ more.0))) c.fill.new.self.state c.in-Err.fault c.in-Err.ensures.stops.err in
    record {
      text = now.text ++ more.0;
      consumed = Consumes-trans _ _ _ now.text more.0 now.bytes more.1;
      stops = rw now.shift at (ended_stops c.loop-count.self.laying.shift _ _ h.lines _ _ (Io c.in-Err.fault) _ (h.read more.0) stop (c.stop.ensures _ _ h.holds));
    }

pub returns-in-Err-lay_window-clause-err : goal.returns-in-Err-lay_window-clause-err
returns-in-Err-lay_window-clause-err g c =
    let now = c.loop-count.invariant in
    let part = take c.in-Ok.count c.fill.new.buf in
    record {
      text = now.text ++ part;
      consumed = Consumes-trans _ _ _ now.text part now.bytes c.in-Ok.ensures.bytes;
      stops = rw now.shift at (c.in-Err-lay_window.ensures.err _ now.text now.laid);
    }

pub returns-then-count-lt-WINDOW-clause-ok : goal.returns-then-count-lt-WINDOW-clause-ok
returns-then-count-lt-WINDOW-clause-ok g c =
    let now = c.loop-count.invariant in
    let part = take c.in-Ok.count c.fill.new.buf in
    let read = c.in-Ok.ensures in (
      now.text ++ part,
      Consumes-trans _ _ _ now.text part now.bytes read.bytes,
      read.end (read.ended (omega arith)) now.is_open,
      c.in-Ok-lay_window.ensures.ok _ now.text now.laid,
    )

pub loop-count-preserved : goal.loop-count-preserved
loop-count-preserved g c =
    let now = c.loop-count.invariant in
    let part = take c.in-Ok.count c.fill.new.buf in
    let read = c.in-Ok.ensures in
    let laid = c.in-Ok-lay_window.ensures in
    let long = length-take-le c.in-Ok.count c.fill.new.buf read.bound.0 in
    record {
      text = now.text ++ part;
      bytes = Consumes-trans _ _ _ now.text part now.bytes read.bytes;
      laid = laid.ok _ now.text now.laid;
      limit = read.limit ∙ now.limit;
      is_open = read.full (omega arith) ∙ now.is_open;
      taken = omega (arith, read.taken, now.taken, long, length-append now.text part);
      countable = omega (arith, laid.countable, now.countable, long, length-append now.text part);
      near = laid.near;
      shift = laid.shift ∙ now.shift;
    }
