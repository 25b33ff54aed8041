use Rattle.std.proofs.Common.{◌≡◌, ◌∙◌, ◌+◌, ◌<◌, ℕ, suc, List, length, take, drop, map, slice_index_or, refl, ap, sym, subst, arith}
use Rattle.bx_image.specs.Image.{place}
use Rattle.bx_image.specs.Change.{placed, KeepsUnmapped}
use Rattle.bx_image.proofs.Devices.{GoesOn_refl, GoesOn_then}
use Rattle.bx_image.proofs.Survivors.{Follows_same, Follows_then}
use Rattle.bx_journal_format.specs.declared.read.parts.Part.{Part}
use Rattle.bx_journal_format.specs.count.Parts.{part_run}
use Rattle.bx_journal_model.specs.Phase.{IsPartOf}
use Rattle.bx_journal_protocol.proofs.PartLemmas.{keeps_on, keeps_same}
use Rattle.bx_journal_model.proofs.RestoreLemmas.{named_at, part_placed, placed_end}
use Rattle.bx_journal_protocol.proofs.protocol.restore.restore_parts.Goals as goal

abbrev no_part : Part
no_part = record { at = 0; from = 0; count = 0 }

-- the bytes of a part
part_bytes : (count from : ℕ) (window behind bytes : List ℕ) → bytes ≡ take count behind → behind ≡ drop from window → bytes ≡ take count (drop from window)
part_bytes count from window behind bytes is rest = is ∙ ap (take count) rest

pub loop-part-init : goal.loop-part-init
loop-part-init g c = record {
  ok = λ faithful. refl;
  keeps = λ faithful r named. keeps_same r _;
  survives = λ faithful r named. Follows_same (KeepsUnmapped r) _ (keeps_same r);
  goes_on = GoesOn_refl _ _ _ _;
}

pub returns-in_err-restore_part-clause-keeps : goal.returns-in_err-restore_part-clause-keeps
returns-in_err-restore_part-clause-keeps g c faithful r named =
    let inv = c.loop-part.invariant in
    let k : ℕ = c.loop-part.part-index in
    let part : Part = slice_index_or c.args.parts.now k no_part in
    let bytes = part_bytes part.count part.from c.args.window.now _ _ c.split_at-in-loop-part.ensures.front c.split_at.ensures.back in
    let here = subst (λ b. IsPartOf r part.at (length b)) (sym bytes) (named_at r c.args.window.now c.args.parts.now k no_part named (omega (arith, c.loop-part-test.true))) in
    keeps_on r _ _ _ (inv.keeps faithful r named) (c.in_err-restore_part.ensures.keeps (inv.goes_on.faith.1 faithful) r here)

pub returns-in_err-restore_part-clause-survives : goal.returns-in_err-restore_part-clause-survives
returns-in_err-restore_part-clause-survives g c faithful r named =
    let inv = c.loop-part.invariant in
    let k : ℕ = c.loop-part.part-index in
    let part : Part = slice_index_or c.args.parts.now k no_part in
    let bytes = part_bytes part.count part.from c.args.window.now _ _ c.split_at-in-loop-part.ensures.front c.split_at.ensures.back in
    let here = subst (λ b. IsPartOf r part.at (length b)) (sym bytes) (named_at r c.args.window.now c.args.parts.now k no_part named (omega (arith, c.loop-part-test.true))) in
    Follows_then (KeepsUnmapped r) _ _ _ (keeps_on r) (inv.survives faithful r named) (c.in_err-restore_part.ensures.survives (inv.goes_on.faith.1 faithful) r here)

pub loop-part-preserved : goal.loop-part-preserved
loop-part-preserved g c =
    let inv = c.loop-part.invariant in
    let now = c.in_ok-restore_part.ensures in
    let k : ℕ = c.loop-part.part-index in
    let window : List ℕ = c.args.window.now in
    let parts : List Part = c.args.parts.now in
    let part : Part = slice_index_or parts k no_part in
    let less : k < length parts = omega (arith, c.loop-part-test.true) in
    let bytes = part_bytes part.count part.from window _ _ c.split_at-in-loop-part.ensures.front c.split_at.ensures.back in
    let mid : List ℕ = g.D.Device.image c.loop-part.image in
    let next : k + 1 ≡ suc k = omega arith in
    record {
      ok = λ faithful.
          ap (λ n. placed (drop n (map (part_run window) parts)) (g.D.Device.image c.restore_part.new.image)) next
          ∙ ap (placed (drop (suc k) (map (part_run window) parts))) (now.ok (inv.goes_on.faith.1 faithful) ∙ ap (place mid part.at) bytes)
          ∙ sym (part_placed window parts k no_part mid less) ∙ inv.ok faithful;
      keeps = λ faithful r named.
          keeps_on r _ _ _ (inv.keeps faithful r named) (now.keeps (inv.goes_on.faith.1 faithful) r (subst (λ b. IsPartOf r part.at (length b)) (sym bytes) (named_at r window parts k no_part named less)));
      survives = λ faithful r named.
          Follows_then (KeepsUnmapped r) _ _ _ (keeps_on r) (inv.survives faithful r named) (now.survives (inv.goes_on.faith.1 faithful) r (subst (λ b. IsPartOf r part.at (length b)) (sym bytes) (named_at r window parts k no_part named less)));
      goes_on = GoesOn_then _ _ _ _ _ _ _ inv.goes_on now.goes_on;
    }

pub returns-clause-ok : goal.returns-clause-ok
returns-clause-ok g c faithful =
    sym (placed_end c.args.window.now c.args.parts.now c.loop-part.part-index _ (omega (arith, c.loop-part-test.false))) ∙ c.loop-part.invariant.ok faithful
