use Rattle.std.proofs.Common.{◌∙◌, ◌&&◌, ap, ℕ, length, Some, Result, Ok, Err, refl, sym, subst}
use Rattle.std.specs.Prelude.{IfOk, nat_lt}
use Rattle.bx_image.specs.Change.{touches}
use Rattle.bx_image.specs.Over.{saved_over, LieWithin}
use Rattle.bx_image.proofs.OverLemmas.{stand_over, runs_over}
use Rattle.bx_image.proofs.Runs.{saved-runs}
use Rattle.bx_image.proofs.SpanLemmas.{over_change}
use Rattle.bx_image.proofs.record.spans.touched_to_restore.Goals as goal

all_ok : {X E : Type 0} {P Q R S : X → Type 0} (r : Result X E) → IfOk r P → IfOk r Q → IfOk r R → ((v : X) → P v → Q v → R v → S v) → IfOk r S
all_ok (Ok v) p q r f = f v p q r
all_ok (Err e) p q r f = tt

pub returns-clause-saved : goal.returns-clause-saved
returns-clause-saved g c =
    all_ok c.touched.result c.touched.ensures.over c.touched.ensures.within c.touched.ensures.apart
    (λ spans over within apart change restores x long.
    let inside : LieWithin (length x) spans.items = subst (λ n. LieWithin n spans.items) (sym long) within in
    let now = over_change change (Some c.args.kept.now.len) c.as_slice.result.now spans.items c.args.len restores.base (restores.writes ∙ sym c.as_slice.ensures) over in
    let all = λ (i : ℕ). now i ∙ ap (λ (n : ℕ). nat_lt i n && touches change i) (sym long) in
    saved-runs change x spans.items (saved_over x spans.items) refl all inside apart (stand_over _ x spans.items inside) (runs_over _ x spans.items inside))
