use Rattle.std.proofs.Common.{◌≡◌, ℕ, ◌+◌, ◌^◌, List, refl, arith}
use Rattle.bx_dump.specs.Pages.{bytes_dumped}
use Rattle.bx_dump.specs.Styles.{group_of, kept_by, lines_by}
use Rattle.bx_dump.specs.private.Xxd.{columns_line}
use Rattle.bx_dump.proofs.DumpLemmas.{ok_along, err_along}
use Rattle.bx_dump.proofs.PagesLemmas.{part_along, front_along}
use Rattle.bx_dump.proofs.WidthLemmas.{columns_short}
use Rattle.bx_dump.proofs.xxd.dump.dump_columns.Goals as goal

pub returns-clause-ok : goal.returns-clause-ok
returns-clause-ok g c =
    let o = c.args.o.now in
    let form = c.new-form.result in
    let start = o.seek + o.shift in
    let text = λ (xs : List ℕ). lines_by o.autoskip (columns_line form.digits form.cols form.group) form.cols start (bytes_dumped o.seek o.limit xs) in
    let other = λ (xs : List ℕ). lines_by o.autoskip (columns_line c.args.digits o.cols (group_of o.cols o.group)) o.cols start (bytes_dumped o.seek o.limit xs) in
    let made = c.new-form.ensures in
    let same : (xs : List ℕ) → text xs ≡ other xs = λ xs. rw (made.digits, made.cols, made.group, c.group_len-group.ensures.value) refl in
    ok_along c.dump_addressed.result _ _ (λ d p. part_along text other o.seek o.limit _ _ _ _ d.read d.written same p) c.dump_addressed.ensures.ok

pub returns-clause-err : goal.returns-clause-err
returns-clause-err g c =
    let o = c.args.o.now in
    let form = c.new-form.result in
    let start = o.seek + o.shift in
    let text = λ (xs : List ℕ). lines_by o.autoskip (columns_line form.digits form.cols form.group) form.cols start (bytes_dumped o.seek o.limit xs) in
    let other = λ (xs : List ℕ). lines_by o.autoskip (columns_line c.args.digits o.cols (group_of o.cols o.group)) o.cols start (bytes_dumped o.seek o.limit xs) in
    let made = c.new-form.ensures in
    let same : (xs : List ℕ) → text xs ≡ other xs = λ xs. rw (made.digits, made.cols, made.group, c.group_len-group.ensures.value) refl in
    err_along c.dump_addressed.result _ _ (λ e p. front_along (kept_by o.autoskip) (kept_by o.autoskip) text other o.seek o.limit 0 0 _ _ _ _ e same (omega arith) p) c.dump_addressed.ensures.err

pub dump_addressed-requires-clause-short : goal.dump_addressed-requires-clause-short
dump_addressed-requires-clause-short g c at bytes fits =
    let form = c.new-form.result in
    columns_short form.digits form.cols form.group at bytes form.some_group form.few fits
