use Rattle.std.proofs.Common.{◌≡◌, ◌+◌, ◌<◌, ◌++◌, [], ◌∷◌, ◌-◌, length, take, drop, sym, ap, ◌∙◌, arith, eq-eqb}
use Rattle.std.proofs.lemmas.List.{length-drop, length-take-le, get_or-take}
use Rattle.bx_dd.specs.declared.form.Shape.TheVariants.{Block}
use Rattle.bx_dd.proofs.RecordsLemmas.{rest_taken, line_taken, IsText}
use Rattle.bx_dd.proofs.FlowLemmas.{front_rest, held_on, stops_more}
use Rattle.bx_dd.proofs.convert.records.push_text.Goals as goal

pub returns-in-None-clause-ok : goal.returns-in-None-clause-ok
returns-in-None-clause-ok g c z start flows =
    let d = c.loop-done.done in
    let rest = c.split_at.result.1.now in
    let text : IsText rest = λ k inside e. c.in-None.ensures k (omega arith) inside (eq-eqb _ 10 e) in
    let so_far = c.loop-done.invariant.so_far z start flows in
    rw (rest_taken z c.args.bytes.now rest d c.split_at.ensures.back)
    at (held_on so_far rest _ _ (c.hold-over.ensures.next (z ++ take d c.args.bytes.now) so_far.text c.loop-done.now.cut text so_far.stands))

pub loop-done-preserved : goal.loop-done-preserved
loop-done-preserved g c =
    let rest = c.split_at.result.1.now in
    let d = c.loop-done.done in
    let n = c.in-Some.n in
    let found = c.in-Some.ensures in
    let len : length rest ≡ length c.args.bytes.now - d = ap length c.split_at.ensures.back ∙ length-drop d c.args.bytes.now in
    let ended = c.in-Ok.ensures in
    let text : IsText (take n rest) = λ k inside e.
    let front : length (take n rest) ≡ n = length-take-le n rest (omega (arith, found.0.high)) in
    let before : k < n = omega arith in
    found.0.before k (omega arith) before (eq-eqb _ 10 (sym (get_or-take n rest k 0 before) ∙ e)) in
    record {
      inside = omega (arith, found.0.high);
      room = omega (arith, ap length ended.within.0);
      space = omega (arith, ended.space, c.hold-over-in-Some.ensures.space, c.loop-done.invariant.space);
      few = omega (arith, ended.within.1, c.loop-done.invariant.few);
      grows = omega (arith, ended.grows, c.loop-done.invariant.grows);
      so_far = λ z start flows.
          let so_far = c.loop-done.invariant.so_far z start flows in
          rw (line_taken z c.args.bytes.now rest d n c.split_at.ensures.back found.0.high found.1)
          at (ended.ok ((z ++ take d c.args.bytes.now) ++ take n rest) start
          (held_on so_far (take n rest) _ _ (c.hold-over-in-Some.ensures.next (z ++ take d c.args.bytes.now) so_far.text c.loop-done.now.cut text so_far.stands)));
    }

pub returns-in-Err-clause-err : goal.returns-in-Err-clause-err
returns-in-Err-clause-err g c z start flows =
    let rest = c.split_at.result.1.now in
    let bytes = c.args.bytes.now in
    let d = c.loop-done.done in
    let n = c.in-Some.n in
    let found = c.in-Some.ensures in
    let len : length rest ≡ length bytes - d = ap length c.split_at.ensures.back ∙ length-drop d bytes in
    let text : IsText (take n rest) = λ k inside e.
    let front : length (take n rest) ≡ n = length-take-le n rest (omega (arith, found.0.high)) in
    let before : k < n = omega arith in
    found.0.before k (omega arith) before (eq-eqb _ 10 (sym (get_or-take n rest k 0 before) ∙ e)) in
    let so_far = c.loop-done.invariant.so_far z start flows in
    let x = ((z ++ take d bytes) ++ take n rest) ++ 10 ∷ [] in
    let line : x ≡ z ++ take (d + (n + 1)) bytes = line_taken z bytes rest d n c.split_at.ensures.back found.0.high found.1 in
    stops_more Block c.args.size start _ x (drop (d + (n + 1)) bytes) (z ++ bytes) c.in-Err.fault (front_rest z bytes x (d + (n + 1)) line)
    (c.in-Err.ensures.err ((z ++ take d bytes) ++ take n rest) start
    (held_on so_far (take n rest) _ _ (c.hold-over-in-Some.ensures.next (z ++ take d bytes) so_far.text c.loop-done.now.cut text so_far.stands)))
