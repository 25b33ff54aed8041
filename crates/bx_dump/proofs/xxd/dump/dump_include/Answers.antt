use Rattle.std.proofs.Common.{◌≡◌, ℕ, ◌^◌, List, refl, arith}
use Rattle.bx_dump.specs.Pages.{bytes_dumped}
use Rattle.bx_dump.specs.Styles.{include_items, styled}
use Rattle.bx_dump.specs.private.Styles.{named_text}
use Rattle.bx_dump.specs.declared.xxd.options.XxdStyle.TheVariants.{Include}
use Rattle.bx_dump.proofs.DumpLemmas.{ok_along, err_along}
use Rattle.bx_dump.proofs.PagesLemmas.{part_along, front_along}
use Rattle.bx_dump.proofs.xxd.dump.dump_include.Goals as goal

pub returns-in-Some-clause-ok : goal.returns-in-Some-clause-ok
returns-in-Some-clause-ok g c =
    let o = c.args.o.now in
    let text = λ (xs : List ℕ). named_text c.as_bytes.result.now o.cols (bytes_dumped o.seek o.limit xs) in
    let other = λ (xs : List ℕ). styled (Include c.args.name) o (bytes_dumped o.seek o.limit xs) in
    let same : (xs : List ℕ) → text xs ≡ other xs = λ xs. rw (c.in-Some.is, c.as_bytes.ensures.value) refl in
    ok_along c.dump_named.result _ _ (λ d p. part_along text other o.seek o.limit _ _ _ _ d.read d.written same p) c.dump_named.ensures.ok

pub returns-in-Some-clause-err : goal.returns-in-Some-clause-err
returns-in-Some-clause-err g c =
    let o = c.args.o.now in
    let text = λ (xs : List ℕ). named_text c.as_bytes.result.now o.cols (bytes_dumped o.seek o.limit xs) in
    let other = λ (xs : List ℕ). styled (Include c.args.name) o (bytes_dumped o.seek o.limit xs) in
    let same : (xs : List ℕ) → text xs ≡ other xs = λ xs. rw (c.in-Some.is, c.as_bytes.ensures.value) refl in
    err_along c.dump_named.result _ _ (λ e p. front_along (2 ^ 7) (2 ^ 7) text other o.seek o.limit 0 0 _ _ _ _ e same (omega arith) p) c.dump_named.ensures.err

pub returns-in-None-clause-err : goal.returns-in-None-clause-err
returns-in-None-clause-err g c =
    let o = c.args.o.now in
    let text = λ (xs : List ℕ). include_items o.cols (bytes_dumped o.seek o.limit xs) in
    let other = λ (xs : List ℕ). styled (Include c.args.name) o (bytes_dumped o.seek o.limit xs) in
    let same : (xs : List ℕ) → text xs ≡ other xs = λ xs. rw c.in-None.is refl in
    err_along c.dump_items.result _ _ (λ e p. front_along (2 ^ 6) (2 ^ 7) text other o.seek o.limit 0 0 _ _ _ _ e same (omega arith) p) c.dump_items.ensures.err
