use Rattle.std.proofs.Common.{◌≤◌, length, subst}
use Rattle.std.specs.Prelude.{IfSome}
use Rattle.bx_image.proofs.Survivors.{NoMore_then}
use Rattle.bx_journal_model.specs.declared.entries.FinishedRead.{FinishedRead}
use Rattle.bx_journal_model.specs.Undoing.{IsLastFrom}
use Rattle.bx_journal_read.proofs.LastLemmas.{again_last, again_fault, few_of_all}
use Rattle.bx_journal_read.proofs.WindowLemmas.{again_behind, looks_before}
use Rattle.bx_journal_read.proofs.scan.entries.read_last_of.Goals as goal

pub returns-in-Err-clause-fault : goal.returns-in-Err-clause-fault
returns-in-Err-clause-fault g c = again_fault (g.T.TextStore.faithful c.args.store.now) (g.T.TextStore.text c.args.store.now) c.args.count c.in-Err.fault c.in-Err.ensures.fault

pub returns-in-Some-clause-read : goal.returns-in-Some-clause-read
returns-in-Some-clause-read g c =
    subst (λ o. IfSome o (λ (f : FinishedRead g.row.A.Denot). IsLastFrom (g.T.TextStore.faithful c.args.store.now) (g.T.TextStore.text c.args.store.now) f.len f.entries.items c.args.count)) c.in-Some.is c.in-Ok.ensures.read

pub returns-in-Some-clause-few : goal.returns-in-Some-clause-few
returns-in-Some-clause-few g c = subst (λ o. IfSome o (λ (f : FinishedRead g.row.A.Denot). c.args.k ≤ length f.entries.items)) c.in-Some.is c.in-Ok.ensures.few

pub returns-in-None-clause-read : goal.returns-in-None-clause-read
returns-in-None-clause-read g c =
    again_last (g.T.TextStore.faithful c.args.store.now) (g.T.TextStore.faithful c.find_last.new.store) (g.T.TextStore.text c.args.store.now) (g.T.TextStore.text c.find_last.new.store)
    c.find_last.ensures.looks.faith.1 c.find_last.ensures.looks.same c.args.count c.read_again.result c.read_again.ensures.read

pub returns-in-None-clause-few : goal.returns-in-None-clause-few
returns-in-None-clause-few g c =
    few_of_all (g.T.TextStore.faithful c.find_last.new.store) (g.T.TextStore.text c.find_last.new.store) c.args.count c.args.k c.read_again.result c.requires.few c.read_again.ensures.read

pub returns-in-None-clause-fault : goal.returns-in-None-clause-fault
returns-in-None-clause-fault g c = again_behind c.in-Ok.ensures.looks c.args.count c.read_again.result c.read_again.ensures.fault

pub returns-in-None-clause-looks : goal.returns-in-None-clause-looks
returns-in-None-clause-looks g c = looks_before c.in-Ok.ensures.looks c.read_again.ensures.looks

pub returns-in-None-clause-survives : goal.returns-in-None-clause-survives
returns-in-None-clause-survives g c h = NoMore_then _ _ _ (c.in-Ok.ensures.found_before h) (c.read_again.ensures.survives (c.in-Ok.ensures.looks.faith.1 h))
