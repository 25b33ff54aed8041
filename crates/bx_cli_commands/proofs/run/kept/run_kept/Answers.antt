use Rattle.bx_cli_commands.proofs.run.kept.run_kept.Goals as goal

pub returns-in-Change : goal.returns-in-Change
returns-in-Change g c = record { obeys = rw c.in-Change.is c.change_within.ensures.obeys }

pub returns-in-Patch : goal.returns-in-Patch
returns-in-Patch g c = record { obeys = rw c.in-Patch.is c.patch_within.ensures.obeys }
