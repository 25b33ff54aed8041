use Rattle.std.proofs.Common.{◌∙◌, List, ℕ, false, length, sym, subst, arith}
use Rattle.std.specs.Prelude.{IfSome}
use Rattle.std.proofs.lemmas.List.{take_all}
use Rattle.bx_journal_read.specs.scan.Recovery.{IsUnfinishedIn}
use Rattle.bx_journal_read.specs.scan.Windows.{IsWalkedTo}
use Rattle.bx_journal_read.proofs.TextWalks.{read_unfinished, read_walked}
use Rattle.bx_journal_read.proofs.scan.journal.find_plain.Goals as goal

pub returns-in-Some-counted_by-clause-found : goal.returns-in-Some-counted_by-clause-found
returns-in-Some-counted_by-clause-found g c =
    let T = g.T.TextStore in
    let text : List ℕ = T.text c.args.store.now in
    let walk = c.in-Some.walk in
    let walked = subst (λ o. IfSome o (IsWalkedTo (T.faithful c.args.store.now) text false c.args.len)) c.in-Some.is c.in_ok-walked.ensures.walked in
    record {
      text = walked.led.text;
      is = λ h. sym (walked.led.is h ∙ take_all walk.at text (omega (arith, c.requires.long h, c.if-walk-len.true)));
      counted = (c.in-Some-counted_by.ensures.counted false walked.led.text walk.lines walked.led.leads).counted;
      few = c.in-Some-counted_by.ensures.few walked.few;
    }

pub find_torn-requires-clause-walked : goal.find_torn-requires-clause-walked
find_torn-requires-clause-walked g c =
    let T = g.T.TextStore in
    let now = c.in_ok-walked.ensures in
    let walked = subst (λ o. IfSome o (IsWalkedTo (T.faithful c.args.store.now) (T.text c.args.store.now) false c.args.len)) c.in-Some.is now.walked in
    read_walked T now.reads c.args.len c.in-Some.walk walked

pub returns-clause-found : goal.returns-clause-found
returns-clause-found g c =
    let T = g.T.TextStore in
    let u = subst (λ o. IfSome o (IsUnfinishedIn (T.faithful c.walk_windows.new.store) (T.text c.walk_windows.new.store))) c.in-Some-found.is c.in_ok-found.ensures.found in
    read_unfinished T c.in_ok-walked.ensures.reads c.in-Some-found.torn u
