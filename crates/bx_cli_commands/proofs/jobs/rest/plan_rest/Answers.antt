use Rattle.std.proofs.Common.{refl}
use Rattle.bx_cli_commands.proofs.PassedLemmas.{blocks_left}
use Rattle.bx_cli_commands.proofs.jobs.rest.plan_rest.Goals as goal

pub returns : goal.returns
returns c = record {
  skip = blocks_left c.args.passed c.args.plan.now.skip c.args.plan.now.ibs c.requires.whole c.requires.skip;
  form = refl;
  count = refl;
  seek = refl;
  notrunc = refl;
}
