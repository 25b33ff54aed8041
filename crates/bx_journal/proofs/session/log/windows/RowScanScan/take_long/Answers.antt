use Rattle.std.proofs.Common.{◌++◌, List, ℕ, inr, sym, subst, arith}
use Rattle.bx_journal_format.specs.Text.{ended}
use Rattle.bx_journal_format.proofs.LongLemmas.{sums_more}
use Rattle.bx_journal.specs.private.Rows.{IsListed}
use Rattle.bx_journal.proofs.ListLemmas.{listed_on}
use Rattle.bx_journal.proofs.session.log.windows.RowScanScan.take_long.Goals as goal

pub returns : goal.returns
returns g c = record {
  leads = λ first text more long h plain size.
      let line : List ℕ = c.args.line.now in
      let next = c.in-Some.next in
      let listed = listed_on text (line ++ more) c.args.self.sums next c.args.self.rows.items h plain (λ r is. sums_more r line more next c.requires.enough (c.in-Some.ensures r is)) in
      inr (omega (arith, c.requires.enough), subst (IsListed (text ++ ended (line ++ more)) next) (sym c.in_ok-push_ended.ensures) listed);
}
