use Rattle.std.proofs.Common.{◌≡◌, ◌∙◌, ◌+◌, ℕ, List, [], length, take, refl, subst, arith}
use Rattle.std.specs.Prelude.{vec_capacity}
use Rattle.bx_image.specs.Change.{KeepsUnmapped}
use Rattle.bx_image.proofs.Survivors.{Follows_same, Follows_then, NoMore_then}
use Rattle.bx_journal_format.specs.Kept.{with_runs}
use Rattle.bx_journal_format.specs.count.Parts.{IsIn}
use Rattle.bx_journal_protocol.proofs.PartLemmas.{keeps_on, keeps_same}
use Rattle.bx_journal_model.proofs.RestoreLemmas.{all_given, not_ended, placed_restores, restored_none, restored_on, takes_room}
use Rattle.bx_journal_protocol.proofs.protocol.restore.restore_lines.Goals as goal

pub loop-at-init : goal.loop-at-init
loop-at-init g c = record {
  below = c.requires.order;
  ok = λ dh th s st. restored_none (g.T.TextStore.text c.args.from.now) c.args.mark s st (g.D.Device.image c.args.image.now);
  keeps = λ dh th s r st names. (keeps_same r _, Follows_same (KeepsUnmapped r) _ (keeps_same r));
  long = λ dh is. is;
  text = λ th. refl;
  text_survives = λ th y there. there;
  window = refl;
  parts = omega arith;
  image_faith = ((λ h. h), λ h. h);
  journal_faith = ((λ h. h), λ h. h);
  room = omega arith;
  image_failures = refl;
  journal_failures = refl;
}

pub returns-in_err-taken-clause-keeps : goal.returns-in_err-taken-clause-keeps
returns-in_err-taken-clause-keeps g c dh th s r st names =
    let inv = c.loop-at.invariant in
    let before = inv.keeps dh th s r st names in
    let now = c.in_err-taken.ensures.keeps (inv.image_faith.1 dh) (inv.journal_faith.1 th) (g.T.TextStore.text c.args.from.now) (inv.text th) s r st names _ (inv.ok dh th s st) in
    (keeps_on r _ _ _ before.0 now.0, Follows_then (KeepsUnmapped r) _ _ _ (keeps_on r) before.1 now.1)

pub returns-then-taken-eq0-clause-keeps : goal.returns-then-taken-eq0-clause-keeps
returns-then-taken-eq0-clause-keeps g c dh th s r st names =
    let inv = c.loop-at.invariant in
    let before = inv.keeps dh th s r st names in
    let now = c.in_ok-taken.ensures.keeps (inv.image_faith.1 dh) (inv.journal_faith.1 th) (g.T.TextStore.text c.args.from.now) (inv.text th) s r st names _ (inv.ok dh th s st) in
    (keeps_on r _ _ _ before.0 now.0, Follows_then (KeepsUnmapped r) _ _ _ (keeps_on r) before.1 now.1)

pub returns-then-taken-eq0-clause-ok : goal.returns-then-taken-eq0-clause-ok
returns-then-taken-eq0-clause-ok g c dh th s st x is =
    let inv = c.loop-at.invariant in
    let text : List ℕ = g.T.TextStore.text c.args.from.now in
    let here : ℕ = c.loop-at.at in
    let window = c.in_ok-taken.ensures.restored (inv.image_faith.1 dh) (inv.journal_faith.1 th) text (inv.text th) in
    let to = restored_on text st.entries st.version c.args.mark.len _ _ here c.in_ok-taken.taken _ _ _ (inv.ok dh th s st) window in
    let none : c.in_ok-taken.taken ≡ 0 = omega (arith, c.if-taken-eq0.true) in
    let stays : here + c.in_ok-taken.taken ≡ here = omega (arith, none) in
    let inside = subst (λ a. IsIn (take a text) st.entries st.version (record { len = c.args.mark.len; runs = with_runs [] to.runs })) stays to.inside in
    let given = all_given text c.args.mark s st (with_runs [] to.runs) here (vec_capacity c.loop-at.parts) inside inv.below
    (omega (arith, inv.parts, c.requires.parts)) (takes_room c.args.mark.len _ _ _ none window.some) in
    placed_restores s to.runs c.args.mark.len x (g.D.Device.image c.args.image.now) _ st.len to.within given to.image is

pub loop-at-preserved : goal.loop-at-preserved
loop-at-preserved g c =
    let inv = c.loop-at.invariant in
    let now = c.in_ok-taken.ensures in
    let text : List ℕ = g.T.TextStore.text c.args.from.now in
    record {
      below = now.below;
      ok = λ dh th s st.
          restored_on text st.entries st.version c.args.mark.len _ _ c.loop-at.at c.in_ok-taken.taken _ _ _ (inv.ok dh th s st) (now.restored (inv.image_faith.1 dh) (inv.journal_faith.1 th) text (inv.text th));
      keeps = λ dh th s r st names.
          let before = inv.keeps dh th s r st names in
          let next = now.keeps (inv.image_faith.1 dh) (inv.journal_faith.1 th) text (inv.text th) s r st names _ (inv.ok dh th s st) in
          (keeps_on r _ _ _ before.0 next.0, Follows_then (KeepsUnmapped r) _ _ _ (keeps_on r) before.1 next.1);
      long = λ dh is. now.long (inv.image_faith.1 dh) (inv.long dh is);
      text = λ th. now.text (inv.journal_faith.1 th) ∙ inv.text th;
      text_survives = λ th. NoMore_then _ _ _ (inv.text_survives th) (now.text_survives (inv.journal_faith.1 th));
      window = now.window ∙ inv.window;
      parts = omega (arith, inv.parts, now.parts);
      image_faith = ((λ h. inv.image_faith.0 (now.image_faith.0 h)), λ h. now.image_faith.1 (inv.image_faith.1 h));
      journal_faith = ((λ h. inv.journal_faith.0 (now.journal_faith.0 h)), λ h. now.journal_faith.1 (inv.journal_faith.1 h));
      room = omega (arith, inv.room, now.no_less_room);
      image_failures = now.no_failure.0 ∙ inv.image_failures;
      journal_failures = now.no_failure.1 ∙ inv.journal_failures;
    }

pub returns-clause-ok : goal.returns-clause-ok
returns-clause-ok g c dh th s st x is =
    let inv = c.loop-at.invariant in
    let text : List ℕ = g.T.TextStore.text c.args.from.now in
    let to = inv.ok dh th s st in
    let end : c.loop-at.at ≡ c.args.mark.saved = omega (arith, inv.below, c.loop-at-test.false) in
    absurd (not_ended text c.args.mark s st (with_runs [] to.runs) (subst (λ a. IsIn (take a text) st.entries st.version (record { len = c.args.mark.len; runs = with_runs [] to.runs })) end to.inside))
