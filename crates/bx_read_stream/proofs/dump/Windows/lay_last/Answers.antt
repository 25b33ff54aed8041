use Rattle.std.proofs.Common.{◌≡◌, ◌∙◌, ◌+◌, ◌<◌, ◌++◌, ◌∷◌, [], ℕ, length, ap, sym, arith}
use Rattle.std.proofs.lemmas.Bool.{eqb-true, eqb-false}
use Rattle.bx_read.specs.Text.{lines_of, answers}
use Rattle.bx_read_stream.specs.Laid.{reads_then}
use Rattle.bx_read_stream.proofs.LayingLemmas.{reads_more}
use Rattle.bx_read_stream.proofs.DumpLemmas.{text_whole, last_line, no_lines}
use Rattle.bx_read_stream.proofs.dump.Windows.lay_last.Goals as goal

pub returns-then-is_empty-clause-ok : goal.returns-then-is_empty-clause-ok
returns-then-is_empty-clause-ok g c w0 text h =
    let held = c.args.self.now.held.items in
    let q = c.args.self.now.laying.lines + 1 in
    let none : length held ≡ 0 = rw c.as_slice-line.ensures.value at (eqb-true (length c.as_slice-line.result.now) 0 (sym c.is_empty.ensures ∙ c.if-is_empty.true)) in
    (h.lines, h.holds, text_whole q text held h.lines h.read ∙ ap (λ ls. reads_then h.lines (answers q ls)) (no_lines held none))

pub returns-in-Ok-clause-ok : goal.returns-in-Ok-clause-ok
returns-in-Ok-clause-ok g c w0 text h =
    let held = c.args.self.now.held.items in
    let q = c.args.self.now.laying.lines + 1 in
    let other = rw c.as_slice-line.ensures.value at (eqb-false (length c.as_slice-line.result.now) 0 (sym c.is_empty.ensures ∙ c.if-is_empty.false)) in
    let some : 0 < length held = omega (arith, other) in
    let b = (rw c.as_slice-line.ensures.value at c.in-Ok.ensures.ok) w0 h.lines h.holds in (
      h.lines ++ b.0,
      rw c.in-Ok.ensures.shift b.1,
      text_whole q text held h.lines h.read ∙ ap (λ ls. reads_then h.lines (answers q ls)) (last_line held some c.requires.apart)
          ∙ ap (reads_then h.lines) (b.2 []) ∙ reads_more h.lines b.0 [],
    )

pub returns-in-Err-clause-err : goal.returns-in-Err-clause-err
returns-in-Err-clause-err g c w0 text h =
    let held = c.args.self.now.held.items in
    let q = c.args.self.now.laying.lines + 1 in
    let other = rw c.as_slice-line.ensures.value at (eqb-false (length c.as_slice-line.result.now) 0 (sym c.is_empty.ensures ∙ c.if-is_empty.false)) in
    let some : 0 < length held = omega (arith, other) in
    let is : answers 1 (lines_of text) ≡ reads_then h.lines (answers q (held ∷ [])) =
    text_whole q text held h.lines h.read ∙ ap (λ ls. reads_then h.lines (answers q ls)) (last_line held some c.requires.apart) in
    rw is ((rw c.as_slice-line.ensures.value at c.in-Err.ensures.err) w0 h.lines [] h.holds)
