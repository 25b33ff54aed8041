use Rattle.std.proofs.Common.{subst, List, ℕ, Option}
use Rattle.bx_cli_commands.specs.jobs.Dump.{IsStyleOf}
use Rattle.bx_cli_commands.proofs.PassedLemmas.{look_ok, look_err}
use Rattle.bx_cli_commands.proofs.jobs.dump.run_xxd.Goals as goal

pub returns-clause-ok : goal.returns-clause-ok
returns-clause-ok g c =
    let style = subst (λ (array : Option (List ℕ)). IsStyleOf c.args.job.now.look array c.xxd_style-style.result) c.array_name.ensures c.xxd_style-style.ensures.style in
    look_ok c.args.passed c.args.job.now c.xxd_style-style.result c.xxd_rest.result _ _ _ _ c.xxd.result c.xxd_rest.ensures style c.xxd.ensures.ok

pub returns-clause-err : goal.returns-clause-err
returns-clause-err g c =
    let style = subst (λ (array : Option (List ℕ)). IsStyleOf c.args.job.now.look array c.xxd_style-style.result) c.array_name.ensures c.xxd_style-style.ensures.style in
    look_err c.args.passed c.args.job.now c.xxd_style-style.result c.xxd_rest.result _ _ _ _ c.xxd.result c.xxd_rest.ensures style c.xxd.ensures.err
