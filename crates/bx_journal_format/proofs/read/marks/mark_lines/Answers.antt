use Rattle.std.proofs.Common.{◌≡◌, ◌+◌, ◌*◌, ◌++◌, List, ℕ, length, take, drop, refl, ap, ◌∙◌, subst, arith, length-append, length-drop, length-take}
use Rattle.bx_journal_format.specs.count.Marks.{IsMarked}
use Rattle.bx_journal_format.proofs.MarkLemmas.{marked_full, marked_more, marked_same}
use Rattle.bx_journal_format.proofs.ReadLoop.{drop_twice}
use Rattle.bx_journal_format.proofs.TallyLemmas.{IsFirstLine}
use Rattle.bx_journal_format.proofs.read.marks.mark_lines.Goals as goal

pub loop-i-init : goal.loop-i-init
loop-i-init g c = record {
  leads = λ front long h. marked_same front c.args.window.now c.args.from c.args.marks.now.items h;
  left = refl;
  within = omega arith;
}

pub loop-i-preserved : goal.loop-i-preserved
loop-i-preserved g c =
    let f = c.in-Some.ensures.found in
    let inv = c.loop-i.invariant in
    let window : List ℕ = c.args.window.now in
    let i = c.in-Some.i in
    let taken = c.loop-i.taken in
    let next = c.in-Some-mark_one.next in
    let count = c.full_behind-full.result in
    let full = c.full_behind-full.ensures in
    let line : IsFirstLine c.loop-i.rest.now i = record { below = f.0; plain = f.1; is = f.2 } in
    let long = length-drop taken window in
    let behind : c.split_at.result.1.now ≡ drop (taken + (i + 1)) window = c.split_at.ensures.back ∙ ap (drop (i + 1)) inv.left ∙ drop_twice taken (i + 1) window in
    let size : taken + (i + 1) + 68 * count ≡ taken + (i + 1 + 68 * count) = omega arith in
    record {
      leads = λ front at h.
          let before = marked_more front window c.loop-i.rest.now taken i c.loop-i.marking next c.loop-i.marks.items c.push_ended.new.marks.items (inv.leads front at h) inv.left line
          (λ m. c.in-Some-mark_one.ensures (front ++ take taken window) c.loop-i.marks.items m f.1
          (omega (arith, at, length-take i c.loop-i.rest.now, f.0, inv.within, length-append front (take taken window), length-take taken window)))
          c.in_ok-push_ended.ensures in
          let after = marked_full front window c.split_at.result.1.now next c.in-Some-mark_full.all c.push_ended.new.marks.items (taken + (i + 1)) count behind full.full c.in-Some-mark_full.ensures before in
          subst (λ m. IsMarked (front ++ take m window) c.in-Some-mark_full.all c.push_ended.new.marks.items) size after;
      left = c.split_at-in-Some.ensures.back ∙ ap (drop (68 * count)) behind ∙ drop_twice (taken + (i + 1)) (68 * count) window ∙ ap (λ m. drop m window) size;
      within = omega (arith, f.0, inv.within, ap length inv.left, long, full.within, ap length behind, length-drop (taken + (i + 1)) window);
    }
