use Rattle.std.proofs.Common.{◌≡◌, ◌∙◌, ◌+◌, ◌++◌, ap, sym, arith}
use Rattle.bx_text.specs.declared.fault.IoFault.TheVariants.{NoMemory}
use Rattle.bx_read_stream.specs.declared.fault.StreamFault.TheVariants.{Io}
use Rattle.bx_read_stream.proofs.LayingLemmas.{ended_stops}
use Rattle.bx_read_stream.proofs.DumpLemmas.{window_on, window_whole, text_whole}
use Rattle.bx_read_stream.proofs.dump.Windows.lay_window.Goals as goal

pub returns-in-Err-clause-err : goal.returns-in-Err-clause-err
returns-in-Err-clause-err g c w0 text h =
    ended_stops c.args.self.now.laying.shift w0 _ h.lines _ _ (Io NoMemory) _ (h.read c.args.window.now) (omega arith)
    ((rw c.gather.ensures.laying at c.stop.ensures) w0 _ h.holds)

pub returns-in-Ok-extend_from_slice-clause-ok : goal.returns-in-Ok-extend_from_slice-clause-ok
returns-in-Ok-extend_from_slice-clause-ok g c w0 text h =
    let rest = c.in-Ok-lay_lines.rest.now in
    let full = c.as_slice.ensures.value ∙ c.in-Ok.ensures.text in
    let kept : c.extend_from_slice.new.self.items ≡ rest = c.in-Ok-extend_from_slice.ensures.items ∙ ap (λ front. front ++ rest) c.clear.ensures.items in
    let b = (rw c.gather.ensures.laying at c.in-Ok-lay_lines.ensures.ok) w0 h.lines h.holds in
    let shift = c.in-Ok-lay_lines.ensures.shift ∙ ap (λ l. l.shift) c.gather.ensures.laying in
    record {
      lines = h.lines ++ b.0;
      holds = rw shift b.1;
      read = λ more. rw kept (window_on (c.args.self.now.laying.lines + 1) (c.lay_lines.new.self.lines + 1) text c.args.self.now.held.items c.args.window.now c.as_slice.result.now rest h.lines b.0 full h.read b.2 more);
    }

pub returns-in-Err-extend_from_slice-clause-err : goal.returns-in-Err-extend_from_slice-clause-err
returns-in-Err-extend_from_slice-clause-err g c w0 text h =
    let rest = c.in-Ok-lay_lines.rest.now in
    let window = c.args.window.now in
    let full = c.as_slice.ensures.value ∙ c.in-Ok.ensures.text in
    let b = (rw c.gather.ensures.laying at c.in-Ok-lay_lines.ensures.ok) w0 h.lines h.holds in
    let r = c.lay_lines.new.self.lines + 1 in
    ended_stops c.args.self.now.laying.shift w0 _ (h.lines ++ b.0) _ _ (Io NoMemory) _
    (text_whole r (text ++ window) rest (h.lines ++ b.0) (window_on (c.args.self.now.laying.lines + 1) r text c.args.self.now.held.items window c.as_slice.result.now rest h.lines b.0 full h.read b.2))
    (omega arith) (c.stop-in-Err-extend_from_slice.ensures w0 _ b.1)
