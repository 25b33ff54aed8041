use Rattle.std.proofs.Common.{rules}
use Rattle.bx_image.proofs.Files.{IsCutOnTheWay_none}
use Rattle.bx_image.proofs.Survivors.{FadesFrom_then, Follows_below}
use Rattle.bx_image.proofs.device.file.resize_to.Goals as goal

pub returns-clause-failed : goal.returns-clause-failed
returns-clause-failed g c faithful = IsCutOnTheWay_none _ _ _ (c.loop.invariant.content faithful)

pub returns-in-Ok-clause-ok : goal.returns-in-Ok-clause-ok
returns-in-Ok-clause-ok g c = search rules

pub returns-in-Err-Failed-clause-failed : goal.returns-in-Err-Failed-clause-failed
returns-in-Err-Failed-clause-failed g c = search rules

pub loop-preserved : goal.loop-preserved
loop-preserved g c =
    let before = c.loop.invariant in
    let step = c.resize.ensures in
    record {
      content = search rules;
      survives = λ faithful. Follows_below c.args.n _ _ _ _ _ (before.content faithful) (before.survives faithful) (step.survives (before.faith.1 faithful));
      fades = λ faithful fits. FadesFrom_then c.args.n _ _ _ _ _ (before.content faithful) (before.fades faithful) (step.fades (before.faith.1 faithful)) fits;
      faith = (λ h. before.faith.0 (step.faith.0 h), λ h. step.faith.1 (before.faith.1 h));
    }

pub returns-in-Ok-clause-survives : goal.returns-in-Ok-clause-survives
returns-in-Ok-clause-survives g c faithful =
    let before = c.loop.invariant in
    Follows_below c.args.n _ _ _ _ _ (before.content faithful) (before.survives faithful) (c.resize.ensures.survives (before.faith.1 faithful))

pub returns-in-Ok-clause-fades : goal.returns-in-Ok-clause-fades
returns-in-Ok-clause-fades g c faithful fits =
    let before = c.loop.invariant in
    FadesFrom_then c.args.n _ _ _ _ _ (before.content faithful) (before.fades faithful) (c.resize.ensures.fades (before.faith.1 faithful)) fits

pub returns-in-Err-Failed-clause-survives : goal.returns-in-Err-Failed-clause-survives
returns-in-Err-Failed-clause-survives g c faithful =
    let before = c.loop.invariant in
    Follows_below c.args.n _ _ _ _ _ (before.content faithful) (before.survives faithful) (c.resize.ensures.survives (before.faith.1 faithful))

pub returns-in-Err-Failed-clause-fades : goal.returns-in-Err-Failed-clause-fades
returns-in-Err-Failed-clause-fades g c faithful fits =
    let before = c.loop.invariant in
    FadesFrom_then c.args.n _ _ _ _ _ (before.content faithful) (before.fades faithful) (c.resize.ensures.fades (before.faith.1 faithful)) fits
