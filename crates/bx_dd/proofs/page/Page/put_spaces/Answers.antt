use Rattle.std.proofs.Common.{◌≡◌, ℕ, ◌+◌, ◌-◌, ◌++◌, replicate, ap, ◌∙◌, sym, arith, append_assoc}
use Rattle.std.proofs.lemmas.List.{take-replicate, replicate-append-replicate}
use Rattle.bx_dd.proofs.StreamLemmas.{front_more}
use Rattle.bx_dd.proofs.page.Page.put_spaces.Goals as goal

pub loop-done-preserved : goal.loop-done-preserved
loop-done-preserved g c =
    let d = c.loop-done.done in
    let n = c.min-n.result in
    record {
      inside = omega (arith, c.min-n.ensures);
      grows = omega (arith, c.in-Ok.ensures.grows, c.loop-done.invariant.grows);
      so_far = λ start text goes.
          let all = append_assoc text (replicate {A = ℕ} d 32) (replicate {A = ℕ} n 32) ∙ ap (λ l. text ++ l) (replicate-append-replicate {A = ℕ} d n 32) in
          rw (take-replicate {X = ℕ} n 1024 32 (omega (arith, c.min-n.ensures)), all) at (c.in-Ok.ensures.ok start (text ++ replicate {A = ℕ} d 32) (c.loop-done.invariant.so_far start text goes));
    }

pub returns-in-Err-clause-err : goal.returns-in-Err-clause-err
returns-in-Err-clause-err g c start text goes =
    let d = c.loop-done.done in
    let n = c.min-n.result in
    let left = c.args.count - d - n in
    let whole : c.args.count ≡ d + n + left = omega (arith, c.min-n.ensures, c.loop-done.invariant.inside) in
    let all : text ++ replicate {A = ℕ} c.args.count 32 ≡ ((text ++ replicate {A = ℕ} d 32) ++ replicate {A = ℕ} n 32) ++ replicate {A = ℕ} left 32 =
    ap (λ k. text ++ replicate {A = ℕ} k 32) whole ∙ ap (λ l. text ++ l) (sym (replicate-append-replicate {A = ℕ} (d + n) left 32) ∙ ap (λ l. l ++ replicate {A = ℕ} left 32) (sym (replicate-append-replicate {A = ℕ} d n 32)))
    ∙ sym (append_assoc text (replicate {A = ℕ} d 32 ++ replicate {A = ℕ} n 32) (replicate {A = ℕ} left 32)) ∙ ap (λ l. l ++ replicate {A = ℕ} left 32) (sym (append_assoc text (replicate {A = ℕ} d 32) (replicate {A = ℕ} n 32))) in
    let stop = rw (take-replicate {X = ℕ} n 1024 32 (omega (arith, c.min-n.ensures))) at (c.in-Err.ensures.err start (text ++ replicate {A = ℕ} d 32) (c.loop-done.invariant.so_far start text goes)) in
    rw all (front_more 0 start _ ((text ++ replicate {A = ℕ} d 32) ++ replicate {A = ℕ} n 32) (replicate {A = ℕ} left 32) c.in-Err.fault stop)
