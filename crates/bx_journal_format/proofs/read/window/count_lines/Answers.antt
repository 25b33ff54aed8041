use Rattle.std.proofs.Common.{◌≡◌, ◌+◌, ◌*◌, ◌++◌, List, ℕ, length, take, drop, refl, ap, ◌∙◌, subst, arith, length-drop}
use Rattle.bx_journal_format.specs.count.Tally.{IsTallied}
use Rattle.bx_journal_format.proofs.FullLemmas.{tallied_full}
use Rattle.bx_journal_format.proofs.ReadLoop.{drop_twice}
use Rattle.bx_journal_format.proofs.TallyLemmas.{IsFirstLine, tallied_more, tallied_same}
use Rattle.bx_journal_format.proofs.read.window.count_lines.Goals as goal

pub loop-i-init : goal.loop-i-init
loop-i-init c = record {
  tallied = λ front n h. tallied_same c.args.only_second front c.args.window.now c.args.tally n h;
  left = refl;
  within = omega arith;
  lines = omega arith;
  few = λ h. h;
}

pub loop-i-preserved : goal.loop-i-preserved
loop-i-preserved c =
    let f = c.in-Some.ensures in
    let inv = c.loop-i.invariant in
    let window : List ℕ = c.args.window.now in
    let i = c.in-Some.i in
    let taken = c.loop-i.taken in
    let lines = c.loop-i.lines in
    let now = c.in_ok-now.now in
    let count = c.full_behind-full.result in
    let full = c.full_behind-full.ensures in
    let line : IsFirstLine c.loop-i.rest.now i = record { below = f.0; plain = f.1; is = f.2 } in
    let long = length-drop taken window in
    let behind : c.split_at.result.1.now ≡ drop (taken + (i + 1)) window = c.split_at.ensures.back ∙ ap (drop (i + 1)) inv.left ∙ drop_twice taken (i + 1) window in
    let size : taken + (i + 1) + 68 * count ≡ taken + (i + 1 + 68 * count) = omega arith in
    record {
      tallied = λ front n h.
          let before = tallied_more c.args.only_second front window c.loop-i.rest.now taken i n lines c.loop-i.now now (inv.tallied front n h) inv.left line c.in_ok-now.ensures.leads in
          let after = tallied_full c.args.only_second front window c.split_at.result.1.now now (taken + (i + 1)) n (lines + 1) count behind full.full before in
          let number : n + (lines + 1 + count) ≡ n + (lines + (1 + count)) = omega arith in
          subst (λ m. IsTallied c.args.only_second (front ++ take (taken + (i + 1 + 68 * count)) window) now m) number
          (subst (λ m. IsTallied c.args.only_second (front ++ take m window) now (n + (lines + 1 + count))) size after);
      left = c.split_at-in-Some.ensures.back ∙ ap (drop (68 * count)) behind ∙ drop_twice (taken + (i + 1)) (68 * count) window ∙ ap (λ m. drop m window) size;
      within = omega (arith, f.0, inv.within, ap length inv.left, long, full.within, ap length behind, length-drop (taken + (i + 1)) window);
      lines = omega (arith, inv.lines);
      few = λ h. c.in_ok-now.ensures.few (inv.few h);
    }
