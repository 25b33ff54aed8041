use Rattle.std.proofs.Common.{◌≡◌, ℕ, ◌+◌, ◌^◌, ◌≤◌, Option, List, [], ◌++◌, length, take, arith, refl, sym, ap, ◌∙◌, append-nil, IfSome}
use Rattle.std.specs.Io.KnownBytes.{Appends, Consumes}
use Rattle.std.proofs.lemmas.List.{length-take, length-take-le, take-append-le}
use Rattle.bx_text.specs.declared.fault.IoFault.{IoFault}
use Rattle.bx_text.specs.Writing.{WritesFront}
use Rattle.bx_text.proofs.KnownLemmas.{Appends-nil, Consumes-nil}
use Rattle.bx_dump.specs.private.Pages.{WritesFrontBut, limited_to, streams}
use Rattle.bx_dump.proofs.DumpLemmas.{err_along}
use Rattle.bx_dump.proofs.PagesLemmas.{none_put, rest_read_stop, rest_write_stop, within_along}
use Rattle.bx_dump.proofs.driver.pages.dump_pages.Goals as goal

-- the writer stopped at the text of an input that was read to the front of a buffer
start_stop : (slack : ℕ) (text : List ℕ → List ℕ) (limit : Option ℕ) (from before : ℕ) (r0 r1 w0 w1 : Option (List ℕ)) (buf rest : List ℕ) (n : ℕ) (fault : IoFault) →
    text [] ≡ [] → n ≤ length buf → Consumes r0 r1 (take n buf) → from + n ≤ 2 ^ 40 → n ≤ 2 ^ 14 → IfSome limit (λ most. n ≤ most) →
    WritesFront before w0 w1 (text (take n (buf ++ rest))) fault → WritesFrontBut slack (λ xs. text (limited_to limit xs)) 0 limit from before (streams r0 r1 w0 w1) fault
start_stop slack text limit from before r0 r1 w0 w1 buf rest n fault empty inside reads few block within stop =
    let chunk = take n buf in
    let size : length chunk ≡ n = length-take-le n buf inside in
    let zero : before + 0 ≡ before = omega arith in
    let front = rw (take-append-le n buf rest inside) at stop in
    let is : text ([] ++ chunk) ≡ [] ++ (text chunk ++ []) = sym (append-nil (text chunk)) in
    rest_write_stop slack text limit from before r0 r1 w0 w0 w1 [] chunk [] (text chunk) [] 0 fault reads (omega (arith, size)) (omega (arith, size)) (within_along limit n (length chunk) (omega (arith, size)) within)
    (Appends-nil w0) refl (omega (arith, ap length empty)) is (rw zero front)

-- a buffer for the bytes that are wanted
wanted : (limit : Option ℕ) (want : ℕ) (buf : List ℕ) → IfSome limit (λ most. 0 + want ≤ most) → IfSome limit (λ most. 0 + length (take want buf) ≤ most)
wanted limit want buf within = within_along limit (0 + want) (0 + length (take want buf)) (omega (arith, length-take want buf)) within

few_read : (n want : ℕ) (old new : List ℕ) → n ≤ length new → length new ≡ length (take want old) → n ≤ want
few_read n want old new inside same = omega (arith, length-take want old)

pub returns-in-Err-clause-err : goal.returns-in-Err-clause-err
returns-in-Err-clause-err g c =
    let text = g.P.Pages.text c.args.pages.now in
    let first = c.grows.ensures.more [] [] c.requires.seen in
    let none = none_put (text []) (g.P.Pages.written c.args.pages.now []) first.0 c.requires.empty first.1 in
    let goes : (more : List ℕ) → (rest : List ℕ) × (text ([] ++ more) ≡ [] ++ rest) = λ more.
    let later = c.grows.ensures.more [] more c.requires.seen in
    (later.0, later.1 ∙ ap (λ t. t ++ later.0) none) in
    let want = c.next_len-want.result in
    let stop = rw c.requires.limit at (c.in-Err.ensures.stops.stopped c.requires.open) in
    rest_read_stop (g.P.Pages.kept c.args.pages.now) text c.args.limit c.args.before _ _ _ _ _ [] [] [] c.args.meter.now.taken c.args.meter.now.taken _ c.in-Err.fault
    (omega arith) (omega (arith, c.requires.limit, c.args.meter.now.within)) (wanted c.args.limit want _ c.next_len-want.ensures.within) goes
    (Consumes-nil _) (Appends-nil _) stop

pub returns-then-n-few-clause-err : goal.returns-then-n-few-clause-err
returns-then-n-few-clause-err g c =
    let fill = c.in-Ok.ensures in
    let want = c.next_len-want.result in
    let few = few_read c.in-Ok.n want _ c.fill.new.buf fill.bound.0 c.fill.auto.buf in
    err_along c.dump_start.result _ _ (λ e p. start_stop (g.P.Pages.kept c.args.pages.now) (g.P.Pages.text c.args.pages.now) c.args.limit c.args.meter.now.taken c.args.before _ _ _ _ c.fill.new.buf _ c.in-Ok.n e
    c.requires.empty fill.bound.0 fill.bytes (omega (arith, fill.taken, fill.limit, c.requires.limit, c.fill.new.self.within)) (omega (arith, few, c.next_len-want.ensures.most, c.min-few.ensures, c.start_len.ensures.most)) (within_along c.args.limit (0 + want) c.in-Ok.n (omega (arith, few)) c.next_len-want.ensures.within) p) c.dump_start.ensures.err

pub dump_start-requires-clause-empty : goal.dump_start-requires-clause-empty
dump_start-requires-clause-empty g c =
    let first = c.grows.ensures.more [] [] c.requires.seen in
    none_put (g.P.Pages.text c.args.pages.now []) (g.P.Pages.written c.args.pages.now []) first.0 c.requires.empty first.1

pub dump_blocks-requires-clause-empty : goal.dump_blocks-requires-clause-empty
dump_blocks-requires-clause-empty g c =
    let first = c.grows.ensures.more [] [] c.requires.seen in
    none_put (g.P.Pages.text c.args.pages.now []) (g.P.Pages.written c.args.pages.now []) first.0 c.requires.empty first.1
