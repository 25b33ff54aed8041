use Rattle.std.proofs.Common.{◌≡◌, ℕ, ◌+◌, ◌^◌, ◌≤◌, List, [], ◌++◌, length, arith, refl, ap, length-append}
use Rattle.bx_dump.specs.declared.xxd.options.XxdOptions.{XxdOptions}
use Rattle.bx_dump.specs.Pages.{bytes_dumped}
use Rattle.bx_dump.specs.Styles.{include_items}
use Rattle.bx_dump_columns.specs.Names.{include_head, include_tail}
use Rattle.bx_dump.specs.private.Styles.{named_text}
use Rattle.bx_dump.proofs.EndLemmas.{tail_few}
use Rattle.bx_dump.proofs.PagesLemmas.{part_then, stop_then, front_then, part_after, front_after, front_head}
use Rattle.bx_dump.proofs.xxd.dump.dump_named.Goals as goal

longer : (name items none : List ℕ) (n m : ℕ) →
    length (include_head name ++ items ++ include_tail name n) + length (include_head name ++ none) + 2 ^ 6
    ≤ length (include_head name ++ items) + length (include_head name ++ none ++ include_tail name m) + 2 ^ 7
longer name items none n m =
    omega (arith, tail_few name n m, length-append (include_head name ++ items) (include_tail name n), length-append (include_head name ++ none) (include_tail name m))

whole : (name items : List ℕ) (n m : ℕ) → length (include_tail name n) ≤ length (include_head name ++ items ++ include_tail name m) + 2 ^ 7
whole name items n m = omega (arith, tail_few name n m, length-append (include_head name ++ items) (include_tail name m))

-- of what was read: the items, with the head in front, and the whole text
abbrev items_of : XxdOptions → List ℕ → List ℕ
items_of o xs = include_items o.cols (bytes_dumped o.seek o.limit xs)

abbrev front_of : XxdOptions → List ℕ → List ℕ → List ℕ
front_of o name xs = include_head name ++ items_of o xs

abbrev text_of : XxdOptions → List ℕ → List ℕ → List ℕ
text_of o name xs = named_text name o.cols (bytes_dumped o.seek o.limit xs)

pub returns-in-Err-clause-err : goal.returns-in-Err-clause-err
returns-in-Err-clause-err g c =
    let o = c.args.o.now in
    let name = c.args.name.now in
    let head = include_head name in
    front_then (2 ^ 6) (2 ^ 7) (front_of o name) (text_of o name) o.seek o.limit 0 0 _ _ _ _ c.in-Err.fault (λ xs. (include_tail name (length (bytes_dumped o.seek o.limit xs)), refl)) (λ xs. longer name (items_of o xs) (items_of o []) (length (bytes_dumped o.seek o.limit xs)) (length (bytes_dumped o.seek o.limit [])))
    (front_head (2 ^ 6) (items_of o) o.seek o.limit _ _ _ 0 head c.in-Err.fault c.in-Err.ensures.emits)

pub returns-in-Err-dump_items-clause-err : goal.returns-in-Err-dump_items-clause-err
returns-in-Err-dump_items-clause-err g c =
    let o = c.args.o.now in
    let name = c.args.name.now in
    let head = include_head name in
    let first = c.in-Ok.ensures.emits in
    front_then (2 ^ 6) (2 ^ 7) (front_of o name) (text_of o name) o.seek o.limit 0 0 _ _ _ _ c.in-Err-dump_items.fault (λ xs. (include_tail name (length (bytes_dumped o.seek o.limit xs)), refl)) (λ xs. longer name (items_of o xs) (items_of o []) (length (bytes_dumped o.seek o.limit xs)) (length (bytes_dumped o.seek o.limit [])))
    (front_after (2 ^ 6) (items_of o) o.seek o.limit _ _ _ _ _ 0 0 c.in-Ok.before head c.in-Err-dump_items.fault first.0 first.1 c.in-Err-dump_items.ensures.err)

pub returns-in-Ok-emit_tail-clause-ok : goal.returns-in-Ok-emit_tail-clause-ok
returns-in-Ok-emit_tail-clause-ok g c =
    let o = c.args.o.now in
    let name = c.args.name.now in
    let head = include_head name in
    let first = c.in-Ok.ensures.emits in
    let done = c.in-Ok-dump_items.items in
    let tail = include_tail name done.read in
    let last = c.in-Ok-emit_tail.ensures in
    let whole = part_then (front_of o name) (text_of o name) o.seek o.limit _ _ _ _ _ done.read (length head + done.written) tail (λ xs e. ap (λ n. head ++ items_of o xs ++ include_tail name n) e)
    (part_after (items_of o) o.seek o.limit _ _ _ _ _ done.read done.written head first.1 c.in-Ok-dump_items.ensures.ok) last.1 in
    let same : length head + done.written + length tail ≡ c.in-Ok-emit_tail.written = omega (arith, first.0, last.0) in
    rw same at whole

pub returns-in-Err-emit_tail-clause-err : goal.returns-in-Err-emit_tail-clause-err
returns-in-Err-emit_tail-clause-err g c =
    let o = c.args.o.now in
    let name = c.args.name.now in
    let head = include_head name in
    let first = c.in-Ok.ensures.emits in
    let done = c.in-Ok-dump_items.items in
    let tail = include_tail name done.read in
    let same : c.in-Ok.before + done.written ≡ 0 + (length head + done.written) = omega (arith, first.0) in
    stop_then (front_of o name) (text_of o name) o.seek o.limit _ _ _ _ _ done.read (length head + done.written) tail (λ xs e. ap (λ n. head ++ items_of o xs ++ include_tail name n) e)
    (part_after (items_of o) o.seek o.limit _ _ _ _ _ done.read done.written head first.1 c.in-Ok-dump_items.ensures.ok) (2 ^ 7) 0 c.in-Err-emit_tail.fault (whole name (items_of o []) done.read (length (bytes_dumped o.seek o.limit []))) (rw same at c.in-Err-emit_tail.ensures)
