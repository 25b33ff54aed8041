use Rattle.std.proofs.Common.{◌≡◌, ◌+◌, ◌∙◌, ◌++◌, ◌∷◌, [], length, take, ap, subst, sym, arith, length-append}
use Rattle.std.proofs.lemmas.Grind.{common_steps}
use Rattle.std.proofs.lemmas.List.{take_all, take_more}
use Rattle.bx_image.specs.Image.{zeros}
use Rattle.bx_image.specs.Over.{saved_over, LieWithin}
use Rattle.bx_image.specs.declared.record.Saved.{Saved}
use Rattle.bx_journal_protocol.specs.declared.before.overwritten.Overwritten.{Overwritten}
use Rattle.bx_journal_protocol.specs.before.Overwritten.{HaveRoom}
use Rattle.bx_journal_protocol.specs.protocol.Takens.{AllShaped}
use Rattle.bx_journal_protocol.proofs.LeftOut.{room_next}
use Rattle.bx_journal_protocol.proofs.PlanLemmas.{within_at}
use Rattle.bx_journal_protocol.proofs.TakingLemmas.{shaped_push}
use Rattle.bx_journal_protocol.proofs.before.overwritten.all_zeros.Goals as goal

pub zeros_over-requires : goal.zeros_over-requires
zeros_over-requires g c =
    record {
      within = subst (LieWithin c.one-item.result.len) (sym c.as_slice.ensures.value)
          (subst (λ (o : Overwritten g.row.A.Denot). LieWithin o.len o.ranges.items) (sym c.one-item.is)
          (within_at c.args.overwritten.now c.loop-one.one-index c.one-item.result c.loop-one-test.true c.requires.within));
    }

pub loop-one-preserved : goal.loop-one-preserved
loop-one-preserved g c =
    let inv = c.loop-one.invariant in
    let os = c.args.overwritten.now in
    let ts = c.loop-one.takens.items in
    let i = c.loop-one.one-index in
    let o : Overwritten g.row.A.Denot = c.one-item.result in
    let t : Saved g.row.A.Denot = c.in_ok-taken.taken in
    let items : c.push.new.self.items ≡ ts ++ t ∷ [] = grind (arith, common_steps) in
    let long : length c.push.new.self.items ≡ length ts + 1 = ap length items ∙ length-append ts (t ∷ []) in
    let more : take (i + 1) os ≡ take i os ++ o ∷ [] = take_more os i o c.loop-one-test.true ∙ ap (λ u. take i os ++ u ∷ []) (sym c.one-item.is) in
    let is : t ≡ saved_over (zeros o.len) o.ranges.items = c.in_ok-taken.ensures.zeros ∙ ap (saved_over (zeros o.len)) c.as_slice.ensures.value in
    record {
      room = subst (λ us. HaveRoom us c.push.new.self.items) (sym more) (subst (HaveRoom (take i os ++ o ∷ [])) (sym items) (room_next (take i os) ts o t inv.room is c.in_ok-taken.ensures.below));
      shaped = subst AllShaped (sym items) (shaped_push ts t inv.shaped c.in_ok-taken.ensures.within);
      count = long ∙ ap (λ n. n + 1) inv.count;
    }

pub returns-clause-room : goal.returns-clause-room
returns-clause-room g c = subst (λ us. HaveRoom us c.loop-one.takens.items) (take_all c.loop-one.one-index c.args.overwritten.now (omega arith)) c.loop-one.invariant.room
