use Rattle.std.proofs.Common.{◌≡◌, [], ◌∷◌, ◌<◌, ◌≤◌, ◌^◌, ℕ, List, ◌++◌, length, arith, ap, ◌∙◌, append-nil}
use Rattle.std.specs.Prelude.{nat_le, true, false, refl}
use Rattle.std.proofs.lemmas.Bool.Decides.{nat_tests}
use Rattle.std.proofs.lemmas.List.{length-append}
use Rattle.bx_text.proofs.KnownLemmas.{Appends-trans}
use Rattle.bx_dump.specs.private.Scan.{scan_text, scan_run, end_of_run}
use Rattle.bx_dump.specs.Strings.{strings_text}
use Rattle.bx_dump.specs.private.Chars.{bytes_dump}
use Rattle.bx_dump.proofs.DumpLemmas.{front_whole, write_stop}
use Rattle.bx_dump.proofs.PagesLemmas.{front_of}
use Rattle.bx_dump.proofs.StringsLemmas.{strings_is, front_known}
use Rattle.bx_dump.proofs.strings.dump.strings_of_bytes.Goals as goal

long_end : (least : ℕ) (run : List ℕ) → least ≤ length run → end_of_run least run ≡ 10 ∷ []
long_end least run long = let e : nat_le least (length run) ≡ true = grind (arith, nat_tests) in rw e refl

short_end : (least : ℕ) (run : List ℕ) → length run < least → end_of_run least run ≡ []
short_end least run short = let e : nat_le least (length run) ≡ false = grind (arith, nat_tests) in rw e refl

pub scan_pages-requires-clause-page : goal.scan_pages-requires-clause-page
scan_pages-requires-clause-page g c = refl

pub returns-in-Err-clause-err : goal.returns-in-Err-clause-err
returns-in-Err-clause-err g c =
    let o = c.args.o.now in
    front_of (bytes_dump o) _ _ _ _ c.in-Err.fault
    (front_known o.least o.offsets _ _ _ _ c.in-Err.fault c.args.o.now.some (rw (c.new-runs.ensures.least, c.new-runs.ensures.offsets) at c.in-Err.ensures.err))

pub returns-then-runs-clause-ok : goal.returns-then-runs-clause-ok
returns-then-runs-clause-ok g c =
    let o = c.args.o.now in
    let d = rw (c.new-runs.ensures.least, c.new-runs.ensures.offsets) at c.in-Ok.ensures.ok in
    let short : c.scan_pages.new.runs.count < o.least = omega (arith, c.if-runs.true, c.in-Ok.ensures.least, c.new-runs.ensures.least) in
    let run = d.run.short short in
    let e = strings_is o.least o.offsets d.input c.args.o.now.some ∙ ap (λ t. scan_text o.least o.offsets 0 [] d.input ++ t) (short_end o.least (scan_run [] d.input) (omega (arith, run.0, short)))
    ∙ append-nil (scan_text o.least o.offsets 0 [] d.input) in record {
      input = d.input;
      consumed = d.consumed;
      ends = d.ended;
      few = omega (arith, d.long, d.few);
      dumped = d.long;
      appended = rw e d.appended;
    }

pub returns-in-Ok-emit_after-clause-ok : goal.returns-in-Ok-emit_after-clause-ok
returns-in-Ok-emit_after-clause-ok g c =
    let o = c.args.o.now in
    let d = rw (c.new-runs.ensures.least, c.new-runs.ensures.offsets) at c.in-Ok.ensures.ok in
    let long = d.run.long (omega (arith, c.if-runs.false, c.in-Ok.ensures.least, c.new-runs.ensures.least)) in
    let e : strings_text o.least o.offsets d.input ≡ scan_text o.least o.offsets 0 [] d.input ++ 10 ∷ [] =
    strings_is o.least o.offsets d.input c.args.o.now.some ∙ ap (λ t. scan_text o.least o.offsets 0 [] d.input ++ t) (long_end o.least (scan_run [] d.input) long) in record {
      input = d.input;
      consumed = d.consumed;
      ends = d.ended;
      few = omega (arith, d.long, d.few);
      dumped = d.long;
      appended = rw e (Appends-trans _ _ _ _ _ d.appended c.in-Ok-emit_after.ensures.ok);
    }

pub returns-in-Err-emit_after-clause-err : goal.returns-in-Err-emit_after-clause-err
returns-in-Err-emit_after-clause-err g c =
    let o = c.args.o.now in
    let d = rw (c.new-runs.ensures.least, c.new-runs.ensures.offsets) at c.in-Ok.ensures.ok in
    let long = d.run.long (omega (arith, c.if-runs.false, c.in-Ok.ensures.least, c.new-runs.ensures.least)) in
    let e : strings_text o.least o.offsets d.input ≡ scan_text o.least o.offsets 0 [] d.input ++ 10 ∷ [] =
    strings_is o.least o.offsets d.input c.args.o.now.some ∙ ap (λ t. scan_text o.least o.offsets 0 [] d.input ++ t) (long_end o.least (scan_run [] d.input) long) in
    let none : d.input ++ [] ≡ d.input = append-nil d.input in
    front_of (bytes_dump o) _ _ _ _ c.in-Err-emit_after.fault (front_whole (2 ^ 7) (strings_text o.least o.offsets) _ _ _ _ _ (write_stop (2 ^ 7) (strings_text o.least o.offsets) _ _ _ _ _ (scan_text o.least o.offsets 0 [] d.input) d.input [] (10 ∷ []) c.in-Ok.done.written c.in-Err-emit_after.fault
    (rw none d.consumed) (rw none (omega (arith, d.long, d.few))) (omega arith)
    (omega (arith, ap length e, length-append (scan_text o.least o.offsets 0 [] d.input) (10 ∷ []), d.size)) d.appended d.size (rw none e) c.in-Err-emit_after.ensures.err))
