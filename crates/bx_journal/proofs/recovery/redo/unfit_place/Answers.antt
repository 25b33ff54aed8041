use Rattle.std.proofs.Common.{◌≡◌, ◌⊎◌, length, subst, arith}
use Rattle.bx_journal_read.specs.scan.Judging.{IsUntoldAt, IsBeyondAt, IsUnfitFrom, AllTold}
use Rattle.bx_journal.proofs.JudgeLemmas.{rest_unfit, saving_unfit, ending_unfit, entry_unfit, fit_read, some_weaker, none_weaker}
use Rattle.bx_journal.proofs.recovery.redo.unfit_place.Goals as goal

pub returns-then-journal-len-clause-some : goal.returns-then-journal-len-clause-some
returns-then-journal-len-clause-some g c text read long = rest_unfit text c.args.changes c.args.journal.now read c.in-Between.is (λ e. omega (arith, long))

pub returns-else-journal-len-clause-some : goal.returns-else-journal-len-clause-some
returns-else-journal-len-clause-some g c text read long =
    let all : c.args.journal.now.whole ≡ length text = omega (arith, long) in
    some_weaker _ (IsUnfitFrom text c.args.changes) c.unfit_entry.result
    (λ at h. entry_unfit text c.args.changes c.args.journal.now read at c.in-Between.is all (subst (λ es. IsUntoldAt es at ⊎ IsBeyondAt es c.args.changes at) c.deref.ensures.value h))
    c.unfit_entry.ensures.some

pub returns-else-journal-len-clause-none : goal.returns-else-journal-len-clause-none
returns-else-journal-len-clause-none g c text read long =
    let all : c.args.journal.now.whole ≡ length text = omega (arith, long) in
    none_weaker c.unfit_entry.result
    (λ h. fit_read text c.args.changes c.args.journal.now read c.in-Between.is all (subst AllTold c.deref.ensures.value h.0) (omega (arith, h.1, c.deref.ensures.len)))
    c.unfit_entry.ensures.none

pub returns-in-Saving-clause-some : goal.returns-in-Saving-clause-some
returns-in-Saving-clause-some g c text read long = saving_unfit text c.args.changes c.args.journal.now read _ _ _ _ c.in-Saving.is

pub returns-in-Ending-clause-some : goal.returns-in-Ending-clause-some
returns-in-Ending-clause-some g c text read long = ending_unfit text c.args.changes c.args.journal.now read _ _ _ _ c.in-Ending.is
