use Rattle.std.proofs.lemmas.Grind.{common_steps}
use Rattle.std.proofs.Common.{◌≡◌, ◌+◌, take, drop, arith, ap, ◌∙◌}
use Rattle.bx_text.proofs.KnownLemmas.{put_mid-room}
use Rattle.bx_image.proofs.Files.{read_on}
use Rattle.bx_image.proofs.Survivors.{NoMore_then}
use Rattle.bx_image.proofs.device.file.read_full.Goals as goal

pub loop-done-preserved : goal.loop-done-preserved
loop-done-preserved g c =
    let before = c.loop-done.invariant in
    let step = c.in_ok-done.ensures in
    record {
      within = put_mid-room c.loop-done.buf c.read_step.new.buf c.loop-done.done _ c.in_ok-done.field-0 before.within step.bound.0;
      bytes = λ faithful.
          let place : c.saturating_add.result ≡ c.args.at + c.loop-done.done = omega (arith, c.requires faithful, g.met.F.RandomAccess.within c.args.file.now faithful, before.within, c.loop-done.auto.buf, c.saturating_add.ensures) in
          read_on (g.F.RandomAccess.content c.args.file.now) c.loop-done.buf c.read_step.new.buf c.args.at c.loop-done.done _ c.in_ok-done.field-0 before.within step.bound.0 (before.bytes faithful)
          (step.bytes (before.faith.1 faithful) ∙ ap (λ x. take c.in_ok-done.field-0 (drop c.saturating_add.result x)) (before.content faithful) ∙ ap (λ n. take c.in_ok-done.field-0 (drop n (g.F.RandomAccess.content c.args.file.now))) place);
      content = λ faithful. step.content (before.faith.1 faithful) ∙ before.content faithful;
      survives = λ faithful. NoMore_then _ _ _ (before.survives faithful) (step.survives (before.faith.1 faithful));
      faith = (λ h. before.faith.0 (step.faith.0 h), λ h. step.faith.1 (before.faith.1 h));
    }

pub returns-clause-bytes : goal.returns-clause-bytes
returns-clause-bytes g c = grind (arith, common_steps)
