use Rattle.std.proofs.Common.{refl}
use Rattle.bx_cli_commands.proofs.Copying.{makes_by}
use Rattle.bx_cli_commands.proofs.run.run_one.Goals as goal

pub returns-in-Revert : goal.returns-in-Revert
returns-in-Revert g c = record { runs = rw (c.in-Revert.is, c.revert_dump.ensures.left) (refl, c.revert_dump.ensures.tells, c.revert_dump.ensures.obeys) }

pub returns-in-RevertPlain : goal.returns-in-RevertPlain
returns-in-RevertPlain g c = record { runs = rw (c.in-RevertPlain.is, c.revert_plain.ensures.left) (refl, c.revert_plain.ensures.tells, c.revert_plain.ensures.obeys) }

pub returns-in-Dd : goal.returns-in-Dd
returns-in-Dd g c =
    let made = c.change_of_dd-made in
    record { runs = rw c.in-Dd.is (refl, c.run_dd.ensures.tells, (made.result, made.ensures, c.run_dd.ensures.obeys)) }

pub returns-in-Copy : goal.returns-in-Copy
returns-in-Copy g c =
    let made = c.change_of_plan-made in
    let makes = makes_by _ (g.R.Read.remaining _) (g.R.Read.remaining _) made.result made.ensures.ok made.ensures.err made.ensures.within in
    record { runs = rw c.in-Copy.is (refl, c.run_dd-in-Copy.ensures.tells, (made.result, makes, c.run_dd-in-Copy.ensures.obeys)) }

pub returns-in-Patch : goal.returns-in-Patch
returns-in-Patch g c = record { runs = rw c.in-Patch.is (c.run_patch.ensures.left, c.run_patch.ensures.tells, c.run_patch.ensures.obeys) }

pub returns-in-Undo : goal.returns-in-Undo
returns-in-Undo g c = record { runs = rw c.in-Undo.is (refl, c.run_undo.ensures.tells, c.run_undo.ensures.obeys) }

pub returns-in-Redo : goal.returns-in-Redo
returns-in-Redo g c = record { runs = rw c.in-Redo.is (refl, c.run_redo.ensures.tells, c.run_redo.ensures.obeys) }
