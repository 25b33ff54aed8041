use Rattle.std.proofs.Common.{◌≡◌, ℕ, ◌+◌, ◌≤◌, ◌^◌, List, [], ◌++◌, length, arith, refl, ap, length-append}
use Rattle.std.specs.Prelude.{codes}
use Rattle.std.specs.List.{flat_map}
use Rattle.bx_text.specs.Dump.{pair_of}
use Rattle.bx_dump.specs.Pages.{bytes_dumped}
use Rattle.bx_dump.proofs.PagesLemmas.{part_then, stop_then, front_then}
use Rattle.bx_dump.proofs.xxd.dump.dump_unbroken.Goals as goal

pub returns-in-Err-clause-err : goal.returns-in-Err-clause-err
returns-in-Err-clause-err g c =
    let o = c.args.o.now in
    let text = λ (xs : List ℕ). flat_map (pair_of o.upper) (bytes_dumped o.seek o.limit xs) in
    let other = λ (xs : List ℕ). text xs ++ codes "\n" in
    front_then 0 (2 ^ 7) text other o.seek o.limit 0 0 _ _ _ _ c.in-Err.fault (λ xs. (codes "\n", refl))
    (λ xs. omega (arith, length-append (text xs) (codes "\n"), length-append (text []) (codes "\n"))) c.in-Err.ensures.err

pub returns-in-Err-emit_after-clause-err : goal.returns-in-Err-emit_after-clause-err
returns-in-Err-emit_after-clause-err g c =
    let o = c.args.o.now in
    let line = c.in-Ok.line in
    let text = λ (xs : List ℕ). flat_map (pair_of o.upper) (bytes_dumped o.seek o.limit xs) in
    let other = λ (xs : List ℕ). text xs ++ codes "\n" in
    let none : 0 + line.written ≡ line.written = omega arith in
    stop_then text other o.seek o.limit _ _ _ _ _ line.read line.written (codes "\n")
    (λ xs e. refl) c.in-Ok.ensures.ok (2 ^ 7) 0 c.in-Err-emit_after.fault (omega arith) (rw none c.in-Err-emit_after.ensures.err)
