use Rattle.std.proofs.Common.{subst}
use Rattle.std.specs.Prelude.{IfSome}
use Rattle.bx_journal_read.specs.scan.Recovery.{IsFoundIn, IsUnfinishedIn}
use Rattle.bx_journal_read.proofs.TextWalks.{read_unfinished}
use Rattle.bx_journal_read.proofs.scan.journal.find_in.Goals as goal

pub returns-in-Some-clause-found : goal.returns-in-Some-clause-found
returns-in-Some-clause-found g c =
    let T = g.T.TextStore in
    subst (λ o. IfSome o (IsFoundIn (T.faithful c.args.store.now) (T.text c.args.store.now))) c.in-Some.is c.in_ok-plain.ensures.found

pub returns-clause-found : goal.returns-clause-found
returns-clause-found g c =
    let T = g.T.TextStore in
    let u = subst (λ o. IfSome o (IsUnfinishedIn (T.faithful c.find_plain.new.store) (T.text c.find_plain.new.store))) c.in-Some-faded.is c.in_ok-faded.ensures.found in
    read_unfinished T c.in_ok-plain.ensures.reads c.in-Some-faded.torn u
