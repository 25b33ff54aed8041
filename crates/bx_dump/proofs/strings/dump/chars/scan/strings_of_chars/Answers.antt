use Rattle.std.proofs.Common.{◌≡◌, [], ◌∷◌, ◌<◌, ◌≤◌, ◌^◌, ℕ, List, ◌++◌, length, arith, ap, sym, ◌∙◌, refl, append-nil}
use Rattle.std.proofs.lemmas.List.{length-append}
use Rattle.bx_text.proofs.KnownLemmas.{Appends-trans}
use Rattle.bx_dump.specs.Encodings.{char_lines}
use Rattle.bx_dump.specs.private.Chars.{chars_dump, chars_left, front_text, nothing}
use Rattle.bx_dump.specs.private.Scan.{end_of_run}
use Rattle.bx_dump.proofs.DumpLemmas.{front_whole, write_stop}
use Rattle.bx_dump.proofs.PagesLemmas.{front_of}
use Rattle.bx_dump.proofs.CharsLemmas.{chars_known, end_long, end_short, runs_is, runs_same}
use Rattle.bx_dump.proofs.strings.dump.chars.scan.strings_of_chars.Goals as goal

pub scan_chars-requires-clause-page : goal.scan_chars-requires-clause-page
scan_chars-requires-clause-page g c = refl

pub returns-in-Err-clause-err : goal.returns-in-Err-clause-err
returns-in-Err-clause-err g c =
    let o = c.args.o.now in
    let first = c.new-chars.result in
    front_of (chars_dump o) _ _ _ _ c.in-Err.fault
    (rw (c.new-chars.ensures.encoding, c.new-chars.ensures.least, c.new-chars.ensures.offsets) at (chars_known first.encoding first.runs.least first.runs.offsets _ _ _ _ c.in-Err.fault first.some c.in-Err.ensures.err))

pub returns-then-is_short-clause-ok : goal.returns-then-is_short-clause-ok
returns-then-is_short-clause-ok g c =
    let o = c.args.o.now in
    let first = c.new-chars.result in
    let last = c.scan_chars.new.chars.runs in
    let d = c.in-Ok.ensures.ok in
    let run = (chars_left first.encoding nothing d.input).run in
    let end : end_of_run first.runs.least run ≡ [] =
    ap (λ n. end_of_run n run) (sym c.in-Ok.ensures.least) ∙ end_short last.least last.count last.kept run d.held.2 (sym c.is_short.ensures ∙ c.if-is_short.true) in
    let e : char_lines o.encoding o.least o.offsets 0 0 d.input ≡ front_text first d.input =
    runs_same c.new-chars.ensures.encoding c.new-chars.ensures.least c.new-chars.ensures.offsets d.input
    ∙ runs_is first.encoding first.runs.least first.runs.offsets d.input first.some ∙ ap (λ t. front_text first d.input ++ t) end ∙ append-nil (front_text first d.input) in
    record {
      input = d.input;
      consumed = d.consumed;
      ends = d.ended;
      few = omega (arith, d.long, d.few);
      dumped = d.long;
      appended = rw e d.appended;
    }

pub returns-in-Ok-emit_after-clause-ok : goal.returns-in-Ok-emit_after-clause-ok
returns-in-Ok-emit_after-clause-ok g c =
    let o = c.args.o.now in
    let first = c.new-chars.result in
    let last = c.scan_chars.new.chars.runs in
    let d = c.in-Ok.ensures.ok in
    let run = (chars_left first.encoding nothing d.input).run in
    let end : end_of_run first.runs.least run ≡ 10 ∷ [] =
    ap (λ n. end_of_run n run) (sym c.in-Ok.ensures.least) ∙ end_long last.least last.count last.kept run d.held.2 (sym c.is_short.ensures ∙ c.if-is_short.false) in
    let e : char_lines o.encoding o.least o.offsets 0 0 d.input ≡ front_text first d.input ++ 10 ∷ [] =
    runs_same c.new-chars.ensures.encoding c.new-chars.ensures.least c.new-chars.ensures.offsets d.input
    ∙ runs_is first.encoding first.runs.least first.runs.offsets d.input first.some ∙ ap (λ t. front_text first d.input ++ t) end in
    record {
      input = d.input;
      consumed = d.consumed;
      ends = d.ended;
      few = omega (arith, d.long, d.few);
      dumped = d.long;
      appended = rw e (Appends-trans _ _ _ _ _ d.appended c.in-Ok-emit_after.ensures.ok);
    }

pub returns-in-Err-emit_after-clause-err : goal.returns-in-Err-emit_after-clause-err
returns-in-Err-emit_after-clause-err g c =
    let o = c.args.o.now in
    let first = c.new-chars.result in
    let last = c.scan_chars.new.chars.runs in
    let d = c.in-Ok.ensures.ok in
    let run = (chars_left first.encoding nothing d.input).run in
    let end : end_of_run first.runs.least run ≡ 10 ∷ [] =
    ap (λ n. end_of_run n run) (sym c.in-Ok.ensures.least) ∙ end_long last.least last.count last.kept run d.held.2 (sym c.is_short.ensures ∙ c.if-is_short.false) in
    let whole = char_lines o.encoding o.least o.offsets 0 0 in
    let e : whole d.input ≡ front_text first d.input ++ 10 ∷ [] =
    runs_same c.new-chars.ensures.encoding c.new-chars.ensures.least c.new-chars.ensures.offsets d.input
    ∙ runs_is first.encoding first.runs.least first.runs.offsets d.input first.some ∙ ap (λ t. front_text first d.input ++ t) end in
    let none : d.input ++ [] ≡ d.input = append-nil d.input in
    front_of (chars_dump o) _ _ _ _ c.in-Err-emit_after.fault (front_whole (2 ^ 7) whole _ _ _ _ _ (write_stop (2 ^ 7) whole _ _ _ _ _ (front_text first d.input) d.input [] (10 ∷ []) c.in-Ok.done.written c.in-Err-emit_after.fault
    (rw none d.consumed) (rw none (omega (arith, d.long, d.few))) (omega arith)
    (omega (arith, ap length e, length-append (front_text first d.input) (10 ∷ []), d.size)) d.appended d.size (rw none e) c.in-Err-emit_after.ensures.err))
