use Rattle.std.proofs.Common.{◌≡◌, ◌+◌, ◌*◌, ◌++◌, List, ℕ, length, take, drop, refl, ap, ◌∙◌, subst, arith, length-drop}
use Rattle.bx_journal_format.proofs.ReadLoop.{drop_twice}
use Rattle.bx_journal_format.proofs.TallyLemmas.{IsFirstLine}
use Rattle.bx_journal.specs.private.Rows.{IsListed}
use Rattle.bx_journal.proofs.ListLemmas.{listed_full, listed_more, listed_same}
use Rattle.bx_journal.proofs.session.log.windows.list_lines.Goals as goal

pub loop-i-init : goal.loop-i-init
loop-i-init g c = record {
  listed = λ front h. listed_same front c.args.window.now c.args.from c.args.rows.now.items h;
  left = refl;
  within = omega arith;
}

pub loop-i-preserved : goal.loop-i-preserved
loop-i-preserved g c =
    let f = c.in-Some.ensures.found in
    let inv = c.loop-i.invariant in
    let window : List ℕ = c.args.window.now in
    let i = c.in-Some.i in
    let taken = c.loop-i.taken in
    let next = c.in-Some-sum_one.next in
    let count = c.full_behind-full.result in
    let full = c.full_behind-full.ensures in
    let line : IsFirstLine c.loop-i.rest.now i = record { below = f.0; plain = f.1; is = f.2 } in
    let long = length-drop taken window in
    let behind : c.split_at.result.1.now ≡ drop (taken + (i + 1)) window = c.split_at.ensures.back ∙ ap (drop (i + 1)) inv.left ∙ drop_twice taken (i + 1) window in
    let size : taken + (i + 1) + 68 * count ≡ taken + (i + 1 + 68 * count) = omega arith in
    record {
      listed = λ front h.
          let before = listed_more front window c.loop-i.rest.now taken i c.loop-i.sums next c.loop-i.rows.items c.push_ended.new.rows.items (inv.listed front h) inv.left line c.in-Some-sum_one.ensures c.in_ok-push_ended.ensures in
          let after = listed_full front window c.split_at.result.1.now next c.in-Some-sum_full.all c.push_ended.new.rows.items (taken + (i + 1)) count behind full.full c.in-Some-sum_full.ensures before in
          subst (λ m. IsListed (front ++ take m window) c.in-Some-sum_full.all c.push_ended.new.rows.items) size after;
      left = c.split_at-in-Some.ensures.back ∙ ap (drop (68 * count)) behind ∙ drop_twice (taken + (i + 1)) (68 * count) window ∙ ap (λ m. drop m window) size;
      within = omega (arith, f.0, inv.within, ap length inv.left, long, full.within, ap length behind, length-drop (taken + (i + 1)) window);
    }
