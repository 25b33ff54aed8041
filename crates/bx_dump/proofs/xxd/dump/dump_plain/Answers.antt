use Rattle.std.proofs.Common.{◌≡◌, ℕ, ◌^◌, List, refl, arith}
use Rattle.bx_dump_columns.specs.Lines.{in_lines}
use Rattle.bx_dump.specs.Pages.{bytes_dumped}
use Rattle.bx_dump.specs.private.Rows.{plain_line}
use Rattle.bx_dump.proofs.DumpLemmas.{err_along}
use Rattle.bx_dump.proofs.PagesLemmas.{front_along}
use Rattle.bx_dump.proofs.xxd.dump.dump_plain.Goals as goal

pub returns-clause-err : goal.returns-clause-err
returns-clause-err g c =
    let o = c.args.o.now in
    let form = c.new.result in
    let text = λ (xs : List ℕ). in_lines (plain_line form.upper) form.cols 0 (bytes_dumped o.seek o.limit xs) in
    let other = λ (xs : List ℕ). in_lines (plain_line o.upper) o.cols 0 (bytes_dumped o.seek o.limit xs) in
    let same : (xs : List ℕ) → text xs ≡ other xs = λ xs. rw (c.new.ensures.cols, c.new.ensures.upper) refl in
    err_along c.dump_lines.result _ _ (λ e p. front_along 0 (2 ^ 7) text other o.seek o.limit 0 0 _ _ _ _ e same (omega arith) p) c.dump_lines.ensures.err
