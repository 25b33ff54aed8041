use Rattle.std.proofs.Common.{◌≡◌, ◌∙◌, ℕ, suc, ◌+◌, ◌-◌, ◌++◌, ◌∷◌, [], List, length, take, drop, sym, append_assoc, append-nil, refl, arith}
use Rattle.std.proofs.lemmas.List.{length-drop, length-take-le}
use Rattle.bx_read.specs.Text.{lines_of, answers}
use Rattle.bx_read_stream.proofs.LayingLemmas.{line_rest, lines_on, lines_stop}
use Rattle.bx_read_stream.proofs.laying.Laying.lay_lines.Goals as goal

pub loop-end-init : goal.loop-end-init
loop-end-init g c = record {
  laid = λ w0 before h. ([], rw (append-nil before) h, λ more. refl);
  counted = omega arith;
  near = c.requires.near;
  shift = refl;
}

pub loop-end-preserved : goal.loop-end-preserved
loop-end-preserved g c =
    let now = c.loop-end.invariant in
    let rest = c.loop-end.rest.now in
    let end = c.in-Some.end in
    let found = c.in-Some.ensures in
    let cut : (more : List ℕ) → lines_of (rest ++ more) ≡ take end rest ∷ lines_of (take (length rest - (end + 1)) (drop (end + 1) rest) ++ more) =
    λ more. line_rest rest end more found.0.high found.1 (λ j lt. found.0.before j (omega arith) lt) in
    let next = rw now.shift at c.in-Ok.ensures.ok in
    record {
      laid = λ w0 before h. let a = now.laid w0 before h in
          let b = next w0 (before ++ a.0) a.1 in
          (a.0 ++ b.0, rw (append_assoc before a.0 b.0) at b.1, lines_on _ _ _ c.args.text.now rest (take end rest) (take (length rest - (end + 1)) (drop (end + 1) rest)) a.0 b.0 a.2 cut b.2);
      counted = omega (arith, now.counted, c.in-Ok.ensures.counted, found.0.high, length-take-le (length rest - (end + 1)) (drop (end + 1) rest) (omega (arith, length-drop (end + 1) rest)));
      near = c.in-Ok.ensures.near;
      shift = c.in-Ok.ensures.shift ∙ now.shift;
    }

pub returns-in-Err-clause-err : goal.returns-in-Err-clause-err
returns-in-Err-clause-err g c w0 before h =
    let now = c.loop-end.invariant in
    let rest = c.loop-end.rest.now in
    let end = c.in-Some.end in
    let found = c.in-Some.ensures in
    let behind = take (length rest - (end + 1)) (drop (end + 1) rest) in
    let cut : (more : List ℕ) → lines_of (rest ++ more) ≡ take end rest ∷ lines_of (behind ++ more) =
    λ more. line_rest rest end more found.0.high found.1 (λ j lt. found.0.before j (omega arith) lt) in
    let a = now.laid w0 before h in
    let stops = rw now.shift at c.in-Err.ensures.err in
    lines_stop c.args.self.now.shift w0 _ before a.0 _ _ c.args.text.now rest (take end rest) behind c.in-Err.fault a.2 cut (stops w0 (before ++ a.0) (lines_of (behind ++ [])) a.1)
