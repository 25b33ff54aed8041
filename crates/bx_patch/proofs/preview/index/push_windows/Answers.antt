use Rattle.std.proofs.Common.{◌≡◌, inl, inr, arith}
use Rattle.std.proofs.lemmas.Bool.{cases_lt}
use Rattle.std.proofs.lemmas.List.Elements.{Contains-append_left, Contains-push}
use Rattle.bx_patch.proofs.preview.index.push_windows.Goals as goal

pub loop-window-init : goal.loop-window-init
loop-window-init g c = record { keeps = λ k has. has; named = λ window low high. absurd (omega (arith, low, high)) }

pub loop-window-preserved : goal.loop-window-preserved
loop-window-preserved g c =
    let pushed = c.push_name.ensures c.if-not-push_name.false in
    record {
      keeps = λ k has. rw pushed (Contains-append_left _ _ k (c.loop-window.invariant.keeps k has));
      named = λ window low high. elim (cases_lt window c.loop-window.window) [
        | inl before ↦ rw pushed (Contains-append_left _ _ _ (c.loop-window.invariant.named window low before))
        | inr last ↦
            let same : window ≡ c.loop-window.window = omega (arith, last, high) in
            rw (pushed, same) (Contains-push _ _)
      ];
    }
