use Rattle.std.proofs.Common.{◌≡◌, ◌-◌, ◌∙◌, refl, arith}
use Rattle.std.specs.Prelude.{vec_len}
use Rattle.std.proofs.lemmas.Grind.{common_steps}
use Rattle.bx_image.proofs.Runs.{IsRunOf-read}
use Rattle.bx_image.proofs.record.save.read_run.Goals as goal

pub returns-clause-run : goal.returns-clause-run
returns-clause-run g c faithful =
    let kept = c.loop-bytes.invariant in
    let whole : vec_len c.loop-bytes.bytes ≡ c.args.end - c.args.at = grind (arith, common_steps) in
    IsRunOf-read _ _ c.args.at c.args.end refl c.requires.order (c.requires.range faithful) (c.from_vec.ensures ∙ rw whole at kept.bytes faithful)
