use Rattle.std.proofs.Common.{◌≡◌, ℕ, ◌+◌, ◌^◌, ◌≤◌, Bool, true, false, List, refl, sym, ap, ◌∙◌, arith}
use Rattle.bx_dump_columns.specs.Lines.{in_lines}
use Rattle.bx_dump.specs.Pages.{bytes_dumped}
use Rattle.bx_dump.specs.Styles.{kept_by, lines_by}
use Rattle.bx_dump.specs.Zeros.{zeros_skipped}
use Rattle.bx_dump.proofs.DumpLemmas.{ok_along, err_along}
use Rattle.bx_dump.proofs.PagesLemmas.{part_along, front_along}
use Rattle.bx_dump.proofs.ZerosLemmas.{none_counted, skipped_none}
use Rattle.bx_dump.proofs.xxd.dump.dump_addressed.Goals as goal

pub dump_part-requires-clause-seen : goal.dump_part-requires-clause-seen
dump_part-requires-clause-seen g c =
    let lines = c.new-pages.result.lines in
    (0, none_counted (g.F.LineForm.line lines.form) (g.F.LineForm.cols lines.form) lines.start lines.broad c.new-pages.result.zeros c.new-pages.ensures.zeros)

pub dump_part-requires-clause-empty : goal.dump_part-requires-clause-empty
dump_part-requires-clause-empty g c =
    let lines = c.new-pages.result.lines in
    skipped_none (g.F.LineForm.line lines.form) (g.F.LineForm.cols lines.form) lines.start lines.broad

pub returns-then-o-clause-err : goal.returns-then-o-clause-err
returns-then-o-clause-err g c =
    let o = c.args.o.now in
    let lines = c.new-pages.result.lines in
    let form = c.args.form in
    let text = λ (xs : List ℕ). zeros_skipped (g.F.LineForm.line lines.form) (g.F.LineForm.cols lines.form) lines.start (bytes_dumped o.seek o.limit xs) in
    let other = λ (xs : List ℕ). lines_by o.autoskip (g.F.LineForm.line form) (g.F.LineForm.cols form) (o.seek + o.shift) (bytes_dumped o.seek o.limit xs) in
    let same : (xs : List ℕ) → text xs ≡ other xs = λ xs. rw (c.if-o.true, c.new-pages.ensures.lines, c.new.ensures.form, c.new.ensures.start) refl in
    let wide : 2 ^ 13 ≤ kept_by o.autoskip = rw c.if-o.true (omega arith) in
    err_along c.dump_part.result _ _ (λ e p. front_along (2 ^ 13) (kept_by o.autoskip) text other o.seek o.limit 0 0 _ _ _ _ e same wide p) c.dump_part.ensures.err

pub returns-clause-err : goal.returns-clause-err
returns-clause-err g c =
    let o = c.args.o.now in
    let form = c.args.form in
    let text = λ (xs : List ℕ). in_lines (g.F.LineForm.line form) (g.F.LineForm.cols form) (o.seek + o.shift) (bytes_dumped o.seek o.limit xs) in
    let other = λ (xs : List ℕ). lines_by o.autoskip (g.F.LineForm.line form) (g.F.LineForm.cols form) (o.seek + o.shift) (bytes_dumped o.seek o.limit xs) in
    let same : (xs : List ℕ) → text xs ≡ other xs = λ xs. rw c.if-o.false refl in
    let wide : 0 ≤ kept_by o.autoskip = omega arith in
    err_along c.dump_lines.result _ _ (λ e p. front_along 0 (kept_by o.autoskip) text other o.seek o.limit 0 0 _ _ _ _ e same wide p) c.dump_lines.ensures.err
