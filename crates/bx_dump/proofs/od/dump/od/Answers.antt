use Rattle.std.proofs.Common.{◌≡◌, ℕ, ◌+◌, ◌^◌, true, Option, Result, Err, List, [], ◌++◌, length, arith, refl, sym, ap, ◌∙◌, subst, inl, inr}
use Rattle.std.proofs.lemmas.List.{length-append}
use Rattle.bx_text.proofs.KnownLemmas.{Consumes-trans}
use Rattle.bx_dump.specs.FoldBy.{folded_by}
use Rattle.bx_dump.specs.Od.{od_end, od_text}
use Rattle.std.specs.Io.KnownBytes.{Consumes}
use Rattle.bx_text.specs.declared.fault.IoFault.{IoFault}
use Rattle.bx_text.specs.declared.fault.IoFault.TheVariants.{WriteFailed, SkipPastEnd}
use Rattle.bx_text.specs.Stream.{IsReadCause, Skips}
use Rattle.bx_dump.specs.OdDump.{Reaches, StopsOd, shown_line, od_of}
use Rattle.bx_dump.specs.declared.od.options.OdOptions.{OdOptions}
use Rattle.bx_dump.specs.private.OdDump.{StopsShort}
use Rattle.bx_dump.specs.Pages.{bytes_dumped}
use Rattle.bx_dump.proofs.EndLemmas.{od_end_few}
use Rattle.bx_dump.proofs.PagesLemmas.{all_of, front_of, part_whole, part_then, stop_then, front_then, front_behind, front_skip}
use Rattle.bx_dump.proofs.od.dump.od.Goals as goal

same_fault : (a b : IoFault) → ◌≡◌ {A = Result ℕ IoFault} (Err a) (Err b) → a ≡ b
same_fault a b e = cc

-- no write fails among them
short_reads : (count n : ℕ) (r0 r1 : Option (List ℕ)) (fault : IoFault) → fault ≡ WriteFailed n → StopsShort count r0 r1 fault → ⊥
short_reads count n r0 r1 fault is (inl short) = let wrong : WriteFailed n ≡ SkipPastEnd = sym is ∙ short.0 in cc
short_reads count n r0 r1 fault is (inr stop) = subst (λ (f : IoFault). IsReadCause f count (2 ^ 40) (length stop.0)) is stop.2

-- the bytes to skip, and then more
reaches_behind : (count : ℕ) (r0 r1 r2 : Option (List ℕ)) (input : List ℕ) → Skips true count (2 ^ 40) r0 r1 → Consumes r1 r2 input → Reaches count r0 r2
reaches_behind count r0 r1 r2 input front rest = (
  front.input ++ input,
  Consumes-trans r0 r1 r2 front.input input front.consumed rest,
  omega (arith, length-append front.input input, front.whole refl),
)

-- what stopped among the bytes to skip
short_stop : (o : OdOptions) (r0 r1 w : Option (List ℕ)) (fault : IoFault) → StopsShort o.skip r0 r1 fault → StopsOd o r0 r1 w w fault
short_stop o r0 r1 w fault (inl short) = inl (short.0, short.1, refl)
short_stop o r0 r1 w fault (inr stop) =
    inr (front_of (od_of o) r0 r1 w w fault (front_skip (2 ^ 7) (λ xs. (od_of o).text (bytes_dumped o.skip o.limit xs)) o.skip o.limit 0 r0 r1 w fault stop))

pub returns-in-Err-clause-err : goal.returns-in-Err-clause-err
returns-in-Err-clause-err g c = short_stop c.args.o.now _ _ _ c.in-Err.fault c.in-Err.ensures.err

pub returns-in-Err-dump_shown-clause-err : goal.returns-in-Err-dump_shown-clause-err
returns-in-Err-dump_shown-clause-err g c =
    let o = c.args.o.now in
    let lines = folded_by o.width (shown_line o) o.all (o.first + o.skip) in
    let text = λ (xs : List ℕ). lines (bytes_dumped o.skip o.limit xs) in
    let other = λ (xs : List ℕ). od_text o.address (shown_line o) o.width o.all (o.first + o.skip) (bytes_dumped o.skip o.limit xs) in
    let rest = rw c.in_default.ensures.open.1 at c.in-Err-dump_shown.ensures.lines.err in
    inr (front_of (od_of o) _ _ _ _ c.in-Err-dump_shown.fault (front_then 0 (2 ^ 7) text other o.skip o.limit 0 0 _ _ _ _ c.in-Err-dump_shown.fault (λ xs. (od_end o.address (o.first + o.skip + length (bytes_dumped o.skip o.limit xs)), refl))
    (λ xs. omega (
      arith,
      od_end_few o.address (o.first + o.skip + length (bytes_dumped o.skip o.limit xs)),
      length-append (text xs) (od_end o.address (o.first + o.skip + length (bytes_dumped o.skip o.limit xs))),
      length-append (text []) (od_end o.address (o.first + o.skip + length (bytes_dumped o.skip o.limit []))),
    ))
    (front_behind 0 lines o.skip o.limit 0 _ _ _ _ _ c.in-Err-dump_shown.fault c.in_default.ensures.ok rest)))

pub returns-in-Err-emit_after-clause-err : goal.returns-in-Err-emit_after-clause-err
returns-in-Err-emit_after-clause-err g c =
    let o = c.args.o.now in
    let lines = folded_by o.width (shown_line o) o.all (o.first + o.skip) in
    let text = λ (xs : List ℕ). lines (bytes_dumped o.skip o.limit xs) in
    let other = λ (xs : List ℕ). od_text o.address (shown_line o) o.width o.all (o.first + o.skip) (bytes_dumped o.skip o.limit xs) in
    let done = c.in-Ok.lines in
    let whole = part_whole lines o.skip o.limit _ _ _ _ _ done.read done.written c.in_default.ensures.ok (rw c.in_default.ensures.open.1 at c.in-Ok.ensures.lines.ok) in
    let line = rw (c.as_bytes.ensures.value, c.end_line-end.ensures) at c.in-Err-emit_after.ensures.err in
    let none : 0 + done.written ≡ done.written = omega arith in
    inr (front_of (od_of o) _ _ _ _ c.in-Err-emit_after.fault (stop_then text other o.skip o.limit _ _ _ _ _ done.read done.written (od_end o.address (o.first + o.skip + done.read))
    (λ xs e. ap (λ n. text xs ++ od_end o.address (o.first + o.skip + n)) e) whole (2 ^ 7) 0 c.in-Err-emit_after.fault (omega (arith, od_end_few o.address (o.first + o.skip + done.read))) (rw none line)))

pub returns-clause-ok : goal.returns-clause-ok
returns-clause-ok g c =
    let o = c.args.o.now in
    let lines = folded_by o.width (shown_line o) o.all (o.first + o.skip) in
    let text = λ (xs : List ℕ). lines (bytes_dumped o.skip o.limit xs) in
    let other = λ (xs : List ℕ). od_text o.address (shown_line o) o.width o.all (o.first + o.skip) (bytes_dumped o.skip o.limit xs) in
    let done = c.in-Ok.lines in
    let whole = part_whole lines o.skip o.limit _ _ _ _ _ done.read done.written c.in_default.ensures.ok (rw c.in_default.ensures.open.1 at c.in-Ok.ensures.lines.ok) in
    let line = rw (c.as_bytes.ensures.value, c.end_line-end.ensures) at c.in_default-emit_after.ensures.ok in
    all_of (od_of o) _ _ _ _ done.read (done.written + length (od_end o.address (o.first + o.skip + done.read)))
    (part_then text other o.skip o.limit _ _ _ _ _ done.read done.written (od_end o.address (o.first + o.skip + done.read))
    (λ xs e. ap (λ n. text xs ++ od_end o.address (o.first + o.skip + n)) e) whole line)

pub returns-clause-reached : goal.returns-clause-reached
returns-clause-reached g c =
    let rest = c.in-Ok.ensures.lines.ok in
    reaches_behind _ _ _ _ rest.input c.in_default.ensures.ok rest.consumed

pub returns-in-Err-clause-behind : goal.returns-in-Err-clause-behind
returns-in-Err-clause-behind g c = inl refl

pub returns-in-Err-dump_shown-clause-behind : goal.returns-in-Err-dump_shown-clause-behind
returns-in-Err-dump_shown-clause-behind g c =
    let rest = c.in-Err-dump_shown.ensures.lines.err in
    inr (reaches_behind _ _ _ _ rest.input c.in_default.ensures.ok rest.consumed)

pub returns-in-Err-emit_after-clause-behind : goal.returns-in-Err-emit_after-clause-behind
returns-in-Err-emit_after-clause-behind g c =
    let rest = c.in-Ok.ensures.lines.ok in
    inr (reaches_behind _ _ _ _ rest.input c.in_default.ensures.ok rest.consumed)

pub returns-in-Err-clause-write : goal.returns-in-Err-clause-write
returns-in-Err-clause-write g c = λ n e. absurd (short_reads _ n _ _ c.in-Err.fault (same_fault _ _ e) c.in-Err.ensures.err)

pub returns-in-Err-dump_shown-clause-write : goal.returns-in-Err-dump_shown-clause-write
returns-in-Err-dump_shown-clause-write g c = λ n e.
    let rest = c.in-Err-dump_shown.ensures.lines.err in
    reaches_behind _ _ _ _ rest.input c.in_default.ensures.ok rest.consumed

pub returns-in-Err-emit_after-clause-write : goal.returns-in-Err-emit_after-clause-write
returns-in-Err-emit_after-clause-write g c = λ n e.
    let rest = c.in-Ok.ensures.lines.ok in
    reaches_behind _ _ _ _ rest.input c.in_default.ensures.ok rest.consumed
