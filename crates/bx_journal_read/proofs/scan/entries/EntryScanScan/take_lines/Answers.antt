use Rattle.std.proofs.Common.{◌∙◌, ◌-◌, ◌++◌, take, sym, subst}
use Rattle.std.specs.Prelude.{IfSome}
use Rattle.bx_journal_format.specs.declared.read.lines.LinesRead.{LinesRead}
use Rattle.bx_journal_format.specs.read.Lines.{IsReadUpTo}
use Rattle.bx_journal_read.proofs.scan.entries.EntryScanScan.take_lines.Goals as goal

pub returns-clause-leads : goal.returns-clause-leads
returns-clause-leads g c first text long h =
    let now = c.args.self in
    let next = c.in-Some.next in
    let window = c.args.window.now in
    let found = c.in_ok-next.ensures.read text h.0 (subst (λ f. IsReadUpTo text h.0 f now.read) (sym h.2) h.1) in
    let read = subst (λ o. IfSome o (λ (r : LinesRead g.row.A.Denot). IsReadUpTo (text ++ take (r.at - now.read.at) window) h.0 now.front r)) c.in-Some.is found in
    (h.0, subst (λ n. IsReadUpTo (text ++ take (next.at - n) window) h.0 first.front next) (sym h.1.long ∙ long) (subst (λ f. IsReadUpTo (text ++ take (next.at - now.read.at) window) h.0 f next) h.2 read), h.2)
