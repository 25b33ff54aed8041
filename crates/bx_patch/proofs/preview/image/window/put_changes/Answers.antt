use Rattle.std.proofs.Common.{◌≡◌, ◌<◌, length, get_or, refl, sym, subst, ◌∙◌, arith}
use Rattle.std.specs.Prelude.{List, ℕ}
use Rattle.std.proofs.lemmas.Grind.{common_steps}
use Rattle.bx_image.specs.Change.{effect}
use Rattle.bx_patch.specs.private.preview.Window.{IsWindow}
use Rattle.bx_patch.proofs.ChangesLemmas.{effects_more, effects_all}
use Rattle.bx_patch.proofs.preview.image.window.put_changes.Goals as goal

pub loop-change-init : goal.loop-change-init
loop-change-init g c = record { long = refl; put = λ y win. (y, win, refl) }

pub put_change-requires : goal.put_change-requires
put_change-requires g c = record {
  ordered = λ is. rw c.change-item.is (c.args.known.now.order is c.loop-change.change-index c.change-item.result c.loop-change-test.true);
  index = λ is. rw c.change-item.is (c.args.known.now.found is c.loop-change.change-index c.change-item.result c.loop-change-test.true);
}

pub loop-change-preserved : goal.loop-change-preserved
loop-change-preserved g c =
    let read : c.change-item.result ≡ get_or c.args.known.now.changes.now c.loop-change.change-index c.change-item.result = c.change-item.is in
    let within : c.loop-change.change-index < length c.args.known.now.changes.now = grind (arith, common_steps) in
    record {
      long = c.put_change.ensures.length ∙ c.loop-change.invariant.long;
      put = λ y win.
          let (z, now, leads) = c.loop-change.invariant.put y win in
          (effect c.change-item.result z, c.put_change.ensures.put z now, sym (effects_more _ _ _ _ within read) ∙ leads);
    }

pub returns-clause-put : goal.returns-clause-put
returns-clause-put g c y win =
    let (z, now, leads) = c.loop-change.invariant.put y win in
    let P : List ℕ → Type 0 = λ w. IsWindow c.loop-change.buf c.args.at w in
    subst P (sym (effects_all c.args.known.now.changes.now c.loop-change.change-index z (grind (arith, common_steps))) ∙ leads) now
