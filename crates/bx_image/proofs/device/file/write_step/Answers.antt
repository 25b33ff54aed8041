use Rattle.std.proofs.Common.{rules, length, refl}
use Rattle.bx_image.proofs.Files.{IsFrontPlaced_none}
use Rattle.bx_image.specs.Power.{KeepsOutside}
use Rattle.bx_image.proofs.Survivors.{FadesBehind_same, Follows_then, Follows_same, KeepsOutside_refl, KeepsOutside_then, FadesBehind_of, FadesBehind_then}
use Rattle.bx_image.proofs.device.file.write_step.Goals as goal

pub loop-init : goal.loop-init
loop-init g c = record {
  content = λ faithful. refl;
  survives = λ faithful. Follows_same _ _ (KeepsOutside_refl c.args.at (length c.args.bytes.now));
  fades = λ faithful is. FadesBehind_same _ _ _;
  faith = (λ h. h, λ h. h);
}

pub loop-preserved : goal.loop-preserved
loop-preserved g c =
    let before = c.loop.invariant in
    let step = c.write_some.ensures in
    record {
      content = search rules;
      survives = λ faithful. Follows_then (KeepsOutside c.args.at (length c.args.bytes.now)) _ _ _ (KeepsOutside_then _ _) (before.survives faithful) (step.survives (before.faith.1 faithful));
      fades = λ faithful is. FadesBehind_then (g.F.RandomAccess.content c.args.file.now) c.args.bytes.now _ _ _ (before.fades faithful is) (FadesBehind_of (g.F.RandomAccess.content c.args.file.now) _ c.args.bytes.now c.args.at _ _ (before.content faithful) (step.fades (before.faith.1 faithful)) is);
      faith = (λ h. before.faith.0 (step.faith.0 h), λ h. step.faith.1 (before.faith.1 h));
    }

pub returns-in-Ok-eq0-clause-survives : goal.returns-in-Ok-eq0-clause-survives
returns-in-Ok-eq0-clause-survives g c faithful =
    let before = c.loop.invariant in
    Follows_then (KeepsOutside c.args.at (length c.args.bytes.now)) _ _ _ (KeepsOutside_then _ _) (before.survives faithful) (c.write_some.ensures.survives (before.faith.1 faithful))

pub returns-in-Ok-eq0-clause-fades : goal.returns-in-Ok-eq0-clause-fades
returns-in-Ok-eq0-clause-fades g c faithful is =
    let before = c.loop.invariant in
    FadesBehind_then (g.F.RandomAccess.content c.args.file.now) c.args.bytes.now _ _ _ (before.fades faithful is) (FadesBehind_of (g.F.RandomAccess.content c.args.file.now) _ c.args.bytes.now c.args.at _ _ (before.content faithful) (c.write_some.ensures.fades (before.faith.1 faithful)) is)

pub returns-in-Ok-clause-survives : goal.returns-in-Ok-clause-survives
returns-in-Ok-clause-survives g c faithful =
    let before = c.loop.invariant in
    Follows_then (KeepsOutside c.args.at (length c.args.bytes.now)) _ _ _ (KeepsOutside_then _ _) (before.survives faithful) (c.write_some.ensures.survives (before.faith.1 faithful))

pub returns-in-Ok-clause-fades : goal.returns-in-Ok-clause-fades
returns-in-Ok-clause-fades g c faithful is =
    let before = c.loop.invariant in
    FadesBehind_then (g.F.RandomAccess.content c.args.file.now) c.args.bytes.now _ _ _ (before.fades faithful is) (FadesBehind_of (g.F.RandomAccess.content c.args.file.now) _ c.args.bytes.now c.args.at _ _ (before.content faithful) (c.write_some.ensures.fades (before.faith.1 faithful)) is)

pub returns-in-Err-Failed-clause-survives : goal.returns-in-Err-Failed-clause-survives
returns-in-Err-Failed-clause-survives g c faithful =
    let before = c.loop.invariant in
    Follows_then (KeepsOutside c.args.at (length c.args.bytes.now)) _ _ _ (KeepsOutside_then _ _) (before.survives faithful) (c.write_some.ensures.survives (before.faith.1 faithful))

pub returns-in-Err-Failed-clause-fades : goal.returns-in-Err-Failed-clause-fades
returns-in-Err-Failed-clause-fades g c faithful is =
    let before = c.loop.invariant in
    FadesBehind_then (g.F.RandomAccess.content c.args.file.now) c.args.bytes.now _ _ _ (before.fades faithful is) (FadesBehind_of (g.F.RandomAccess.content c.args.file.now) _ c.args.bytes.now c.args.at _ _ (before.content faithful) (c.write_some.ensures.fades (before.faith.1 faithful)) is)

pub returns-clause-failed : goal.returns-clause-failed
returns-clause-failed g c faithful = IsFrontPlaced_none _ c.args.bytes.now _ _ (c.loop.invariant.content faithful)
