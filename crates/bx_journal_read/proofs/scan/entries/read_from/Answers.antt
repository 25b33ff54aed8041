use Rattle.std.proofs.Common.{◌≡◌, ◌∙◌, List, ℕ, sym, refl, subst, rules}
use Rattle.std.specs.Prelude.{IfSome}
use Rattle.bx_journal_format.specs.declared.read.lines.LinesRead.{LinesRead}
use Rattle.bx_journal_read.specs.scan.Entries.{IsReadBehind}
use Rattle.bx_journal_read.proofs.LastLemmas.{behind_all, last_from}
use Rattle.bx_journal_read.proofs.scan.entries.read_from.Goals as goal

pub returns : goal.returns
returns g c =
    let faithful = g.T.TextStore.faithful c.args.store.now in
    let stored : List ℕ = g.T.TextStore.text c.args.store.now in
    let found = c.in_ok-found.ensures in
    let b = subst (λ o. IfSome o (IsReadBehind faithful stored c.args.front)) c.in-Some.is found.read in
    let all = subst (λ o. IfSome o (λ (r : LinesRead g.row.A.Denot). r.at ≡ c.args.len)) c.in-Some.is found.all in
    record {
      read = last_from faithful stored b.text c.args.len c.args.count c.last_of.result (behind_all faithful stored c.args.front c.args.len c.in-Some.read b all c.requires.long) (sym (b.read.long ∙ all))
          (c.last_of.ensures.some b.text b.older c.args.front b.read refl all) c.last_of.ensures.len;
      few = c.last_of.ensures.few;
      fault = tt;
      looks = search rules;
      found_before = c.read_windows.ensures.reads.survives;
    }
