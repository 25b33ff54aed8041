use Rattle.std.proofs.Common.{◌∙◌, ap, inl, inr}
use Rattle.bx_world.specs.World.{SystemState}
use Rattle.test_world.proofs.Made.{state_passes}
use Rattle.test_world.proofs.memory.MemoryWorldWorld.make_image.Goals as goal

pub returns-in-Err-clause-same : goal.returns-in-Err-clause-same
returns-in-Err-clause-same c _ =
    state_passes _ _ _ c.refuse.ensures.kept ∙ c.in-Err.ensures.err ∙ state_passes _ _ _ c.refuses.ensures

pub returns-in-Err-clause-survives : goal.returns-in-Err-clause-survives
returns-in-Err-clause-survives c _ n below bytes found =
    let same = returns-in-Err-clause-same c tt in
    let refused = c.refuse.ensures.kept.files in
    let passed = c.refuses.ensures.files in
    elim found [
      | inl is ↦ inl (is ∙ ap (λ (s : SystemState). s.bytes n) same)
      | inr is ↦ inr (is ∙ rw (refused, ← passed) (c.add_image.ensures.synced n (rw passed below)))
    ]
