use Rattle.std.proofs.Common.{◌≡◌, ℕ, drop, subst, arith}
use Rattle.bx_patch.specs.preview.Changed.{effects}
use Rattle.bx_journal_format.specs.Parsed.{entries_onto}
use Rattle.bx_journal.specs.Machine.{top}
use Rattle.bx_journal.specs.Stack.{stack_of}
use Rattle.bx_run_report.proofs.StepLemmas.{restoring_all, restoring_more, restoring_none}
use Rattle.bx_run_report.proofs.report.stepped.changes.restoring.Goals as goal

pub loop-i-init : goal.loop-i-init
loop-i-init c = rw c.new-changes.ensures.items (restoring_none c.args.entries.items c.requires.kept)

pub loop-i-preserved : goal.loop-i-preserved
loop-i-preserved c =
    rw c.in_ok-push.ensures.items (restoring_more c.args.entries.items c.loop-i.entries.items c.take_last-entry.new.entries.items
    c.take_last-entry.result c.loop-i.i c.loop-i.changes.items c.into_change.result c.take_last-entry.ensures c.into_change.ensures.restores
    c.loop-i.invariant)

pub returns : goal.returns
returns c older x =
    let all : c.loop-i.i ≡ c.args.k = omega (arith, c.loop-i-test.false, c.loop-i.auto.i-end) in
    let P : ℕ → Type 0 = λ n. effects c.loop-i.changes.items x ≡ top (drop n (stack_of (entries_onto older c.args.entries.items) x)) in
    subst P all (restoring_all c.args.entries.items c.loop-i.entries.items c.loop-i.i c.loop-i.changes.items older x c.loop-i.invariant)
