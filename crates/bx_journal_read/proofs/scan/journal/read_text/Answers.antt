use Rattle.std.proofs.Common.{subst, rules}
use Rattle.std.specs.Prelude.{IfSome}
use Rattle.bx_journal_read.specs.scan.Recovery.{IsFoundIn}
use Rattle.bx_image.proofs.Survivors.{NoMore_then}
use Rattle.bx_journal_read.proofs.WindowLemmas.{text_behind}
use Rattle.bx_journal_read.proofs.scan.journal.read_text.Goals as goal

pub returns-in-Some : goal.returns-in-Some
returns-in-Some g c =
    record { found = subst (λ o. IfSome o (IsFoundIn (g.T.TextStore.faithful c.args.store.now) (g.T.TextStore.text c.args.store.now))) c.in-Some.is c.in-Ok.ensures.found; fault = tt; looks = search rules; found_before = c.in-Ok.ensures.reads.survives }

pub returns-in-None : goal.returns-in-None
returns-in-None g c = text_behind g.T.TextStore c.in-Ok.ensures.reads.looks c.in-Ok.ensures.reads.survives c.read_unfound.result c.read_unfound.ensures
