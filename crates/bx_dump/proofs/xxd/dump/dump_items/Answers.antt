use Rattle.std.proofs.Common.{◌≡◌, ℕ, ◌+◌, ◌<◌, ◌≤◌, ◌^◌, List, [], ◌∷◌, ◌++◌, length, arith, refl, sym, ◌∙◌, ap, append-nil, length-append}
use Rattle.std.specs.Prelude.{codes}
use Rattle.bx_text.proofs.KnownLemmas.{Appends-nil}
use Rattle.bx_dump_columns.proofs.LinesLemmas.{in_lines-none}
use Rattle.bx_dump_columns.specs.Lines.{in_lines}
use Rattle.bx_dump.specs.Pages.{bytes_dumped}
use Rattle.bx_dump.specs.private.Rows.{include_line}
use Rattle.bx_dump.specs.Styles.{include_items}
use Rattle.bx_dump.proofs.PagesLemmas.{part_empty, part_then, stop_then, front_then}
use Rattle.bx_dump.proofs.xxd.dump.dump_items.Goals as goal

-- the lines are a front of the items
items_more : (cols wide : ℕ) (bytes : List ℕ) → wide ≡ cols → 0 < cols → (rest : List ℕ) × (include_items cols bytes ≡ in_lines include_line wide 0 bytes ++ rest)
items_more cols wide [] same some = ([], sym (append-nil (in_lines include_line wide 0 []) ∙ rw same (in_lines-none include_line cols 0 some)))
items_more cols wide (b ∷ bs) same some = (codes "\n", rw same refl)

items_few : (cols wide : ℕ) (bytes : List ℕ) → wide ≡ cols → 0 < cols →
    length (include_items cols bytes) + length (in_lines include_line wide 0 []) + 0 ≤ length (in_lines include_line wide 0 bytes) + length (include_items cols []) + 2 ^ 6
items_few cols wide [] same some = rw same (omega (arith, ap length (in_lines-none include_line cols 0 some)))
items_few cols wide (b ∷ bs) same some =
    rw same (omega (arith, ap length (in_lines-none include_line cols 0 some), length-append (in_lines include_line cols 0 (b ∷ bs)) (codes "\n")))

items_some : (cols wide : ℕ) (bytes : List ℕ) → wide ≡ cols → (length bytes ≡ 0 → ⊥) → include_items cols bytes ≡ in_lines include_line wide 0 bytes ++ codes "\n"
items_some cols wide [] same some = absurd (some refl)
items_some cols wide (b ∷ bs) same some = rw same refl

items_none : (cols wide : ℕ) (bytes : List ℕ) → wide ≡ cols → 0 < cols → length bytes ≡ 0 → include_items cols bytes ≡ in_lines include_line wide 0 bytes ++ []
items_none cols wide [] same some e = sym (append-nil (in_lines include_line wide 0 []) ∙ rw same (in_lines-none include_line cols 0 some))
items_none cols wide (b ∷ bs) same some e = absurd cc

pub returns-in-Err-clause-err : goal.returns-in-Err-clause-err
returns-in-Err-clause-err g c =
    let o = c.args.o.now in
    let text = λ (xs : List ℕ). in_lines include_line c.new.result.cols 0 (bytes_dumped o.seek o.limit xs) in
    let other = λ (xs : List ℕ). include_items o.cols (bytes_dumped o.seek o.limit xs) in
    let nothing : bytes_dumped o.seek o.limit [] ≡ [] = part_empty o.seek o.limit in
    front_then 0 (2 ^ 6) text other o.seek o.limit 0 c.args.before _ _ _ _ c.in-Err.fault (λ xs. items_more o.cols c.new.result.cols (bytes_dumped o.seek o.limit xs) c.new.ensures c.args.o.now.some)
    (λ xs. rw nothing (items_few o.cols c.new.result.cols (bytes_dumped o.seek o.limit xs) c.new.ensures c.args.o.now.some)) c.in-Err.ensures.err

pub returns-then-lines-eq0-clause-ok : goal.returns-then-lines-eq0-clause-ok
returns-then-lines-eq0-clause-ok g c =
    let o = c.args.o.now in
    let lines = c.in-Ok.lines in
    let text = λ (xs : List ℕ). in_lines include_line c.new.result.cols 0 (bytes_dumped o.seek o.limit xs) in
    let other = λ (xs : List ℕ). include_items o.cols (bytes_dumped o.seek o.limit xs) in
    let whole = part_then text other o.seek o.limit _ _ _ _ _ lines.read lines.written []
    (λ xs e. items_none o.cols c.new.result.cols (bytes_dumped o.seek o.limit xs) c.new.ensures c.args.o.now.some (e ∙ c.if-lines-eq0.true)) c.in-Ok.ensures.ok (Appends-nil _) in
    let same : lines.written + 0 ≡ lines.written = omega arith in
    rw same at whole

pub returns-in-Err-emit_after-clause-err : goal.returns-in-Err-emit_after-clause-err
returns-in-Err-emit_after-clause-err g c =
    let o = c.args.o.now in
    let lines = c.in-Ok.lines in
    let text = λ (xs : List ℕ). in_lines include_line c.new.result.cols 0 (bytes_dumped o.seek o.limit xs) in
    let other = λ (xs : List ℕ). include_items o.cols (bytes_dumped o.seek o.limit xs) in
    stop_then text other o.seek o.limit _ _ _ _ _ lines.read lines.written (codes "\n")
    (λ xs e. items_some o.cols c.new.result.cols (bytes_dumped o.seek o.limit xs) c.new.ensures (λ z. c.if-lines-eq0.false (sym e ∙ z))) c.in-Ok.ensures.ok (2 ^ 6) c.args.before c.in-Err-emit_after.fault (omega arith) c.in-Err-emit_after.ensures.err
