use Rattle.std.proofs.Common.{false, ◌≤◌, drop, length, subst, arith}
use Rattle.std.specs.Prelude.{IfSome}
use Rattle.bx_journal_format.specs.count.Tally.{IsPassed}
use Rattle.bx_journal_read.proofs.WalkLemmas.{len_of}
use Rattle.bx_journal_model.proofs.WindowBytes.{front_of}
use Rattle.bx_journal_read.proofs.scan.torn.find_len.Goals as goal

pub returns-in-Saving-clause-len : goal.returns-in-Saving-clause-len
returns-in-Saving-clause-len g c th r v s first last is stage =
    let text = g.T.TextStore.text c.args.store.now in
    let line = c.read_at.new.buf in
    let p = c.in-Some.passed in
    let within = subst (λ o. IfSome o (λ p. p.taken ≤ length line)) c.in-Some.is c.count_lines.ensures.within in
    len_of text line c.args.begins c.args.walk.at r v _ s c.in-Saving.len c.args.walk.tally p first last is stage (front_of p.taken _ line (drop c.args.begins text) within (c.in_ok-read_at.ensures.bytes th))
    (omega (arith, within, c.read_at.auto.buf, c.split_at_mut-line.ensures.front_len, c.min-first.ensures, c.requires.below))
    (λ front n t. subst (λ o. IfSome o (IsPassed false front n line)) c.in-Some.is (c.count_lines.ensures.tallied front n t)) c.in-Saving.is
