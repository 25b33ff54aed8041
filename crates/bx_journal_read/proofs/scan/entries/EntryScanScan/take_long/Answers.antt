use Rattle.std.proofs.Common.{◌++◌, List, ℕ, inr, sym, subst, arith}
use Rattle.std.specs.Prelude.{IfSome}
use Rattle.bx_journal_format.specs.Text.{ended}
use Rattle.bx_journal_format.specs.read.Lines.{IsReadUpTo}
use Rattle.bx_journal_read.proofs.scan.entries.EntryScanScan.take_long.Goals as goal

pub returns : goal.returns
returns g c = record {
  leads = λ first text more long h plain size.
      let now = c.args.self in
      let l : List ℕ = c.args.line.now ++ more in
      let found = c.in_ok-next.ensures text h.0 more (subst (λ f. IsReadUpTo text h.0 f now.read) (sym h.2) h.1) plain size in
      let read = subst (λ o. IfSome o (IsReadUpTo (text ++ ended l) h.0 now.front)) c.in-Some.is found in
      inr (omega (arith, c.requires.enough), (h.0, subst (λ f. IsReadUpTo (text ++ ended l) h.0 f c.in-Some.next) h.2 read, h.2));
}
