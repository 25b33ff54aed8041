use Rattle.std.proofs.Common.{arith, sym, length}
use Rattle.std.proofs.lemmas.Grind.{common_steps}
use Rattle.bx_image.proofs.Files.{placed_on, IsFrontPlaced_on}
use Rattle.bx_image.proofs.Changes.{OnErr-known}
use Rattle.bx_image.proofs.Edits.{place_none}
use Rattle.bx_image.proofs.Survivors.{FadesBehind_same, Follows_same, KeepsOutside_refl, Follows_rest, FadesBehind_written}
use Rattle.bx_image.proofs.device.file.write_full.Goals as goal

pub loop-done-init : goal.loop-done-init
loop-done-init g c = record { within = omega arith; content = λ faithful. sym (place_none _ _); survives = λ faithful. Follows_same _ _ (KeepsOutside_refl c.args.at (length c.args.bytes.now)); fades = λ faithful is. FadesBehind_same _ _ _; faith = (λ h. h, λ h. h) }

pub returns-in_err-done-clause-failed : goal.returns-in_err-done-clause-failed
returns-in_err-done-clause-failed g c faithful =
    let before = c.loop-done.invariant in
    OnErr-known c.from_residual.result
    (IsFrontPlaced_on (g.F.RandomAccess.content c.args.file.now) c.args.bytes.now c.args.at c.loop-done.done _ _ before.within (before.content faithful) (c.in_err-done.ensures.failed (before.faith.1 faithful)))

pub loop-done-preserved : goal.loop-done-preserved
loop-done-preserved g c =
    let before = c.loop-done.invariant in
    let step = c.in_ok-done.ensures in
    record {
      within = grind (arith, common_steps);
      content = λ faithful. placed_on (g.F.RandomAccess.content c.args.file.now) c.args.bytes.now c.args.at c.loop-done.done c.in_ok-done.field-0 _ _ before.within (before.content faithful) (step.ok (before.faith.1 faithful));
      survives = λ faithful. Follows_rest c.args.bytes.now c.args.at c.loop-done.done _ _ _ before.within (before.survives faithful) (step.survives (before.faith.1 faithful));
      fades = λ faithful is. FadesBehind_written _ _ c.args.bytes.now c.args.at c.loop-done.done _ _ _ before.within (before.content faithful) (before.fades faithful) (step.fades (before.faith.1 faithful)) is;
      faith = (λ h. before.faith.0 (step.faith.0 h), λ h. step.faith.1 (before.faith.1 h));
    }

pub returns-in_err-done-clause-survives : goal.returns-in_err-done-clause-survives
returns-in_err-done-clause-survives g c faithful =
    let before = c.loop-done.invariant in
    Follows_rest c.args.bytes.now c.args.at c.loop-done.done _ _ _ before.within (before.survives faithful) (c.in_err-done.ensures.survives (before.faith.1 faithful))

pub returns-in_err-done-clause-fades : goal.returns-in_err-done-clause-fades
returns-in_err-done-clause-fades g c faithful is =
    let before = c.loop-done.invariant in
    FadesBehind_written _ _ c.args.bytes.now c.args.at c.loop-done.done _ _ _ before.within (before.content faithful) (before.fades faithful) (c.in_err-done.ensures.fades (before.faith.1 faithful)) is
