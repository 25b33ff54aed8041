use Rattle.std.proofs.Common.{refl, sym, subst}
use Rattle.std.specs.Prelude.{IfSome}
use Rattle.bx_journal_format.specs.Shown.{shown}
use Rattle.bx_journal_format.specs.Text.{IsDamagedAt}
use Rattle.bx_journal_read.specs.scan.Damage.{IsDamagedIn}
use Rattle.bx_journal_read.proofs.WindowLemmas.{text_behind}
use Rattle.bx_journal_read.proofs.scan.journal.read_unfound.Goals as goal

pub returns-in-Some : goal.returns-in-Some
returns-in-Some g c =
    let T = g.T.TextStore in
    let line = c.in-Some.line in
    let now = c.in-Ok.ensures in
    let d = subst (λ o. IfSome o (IsDamagedIn (T.faithful c.args.store.now) (shown (T.text c.args.store.now)))) c.in-Some.is now.line in
    record {
      found = tt;
      fault = λ h. subst (λ t. IsDamagedAt t line) (sym (d.is h)) d.damaged;
      looks = record { same = now.reads.looks.same; faith = now.reads.looks.faith; no_failure = tt; counts = (now.reads.looks.no_failure, refl) };
      found_before = now.reads.survives;
    }

pub returns-in-None : goal.returns-in-None
returns-in-None g c = text_behind g.T.TextStore c.in-Ok.ensures.reads.looks c.in-Ok.ensures.reads.survives c.read_whole.result c.read_whole.ensures
