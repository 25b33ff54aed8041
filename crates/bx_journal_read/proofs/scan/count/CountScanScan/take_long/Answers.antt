use Rattle.std.proofs.Common.{◌++◌, ◌∙◌, ◌+◌, List, ℕ, [], ◌∷◌, length, length-append, inr, subst, sym, arith}
use Rattle.std.specs.Prelude.{IfSome}
use Rattle.bx_journal_format.specs.Text.{ended}
use Rattle.bx_journal_format.specs.count.Tally.{LeadsTo}
use Rattle.bx_journal_format.proofs.LongLemmas.{tally_more}
use Rattle.bx_journal_format.proofs.TallyLemmas.{tallied_on}
use Rattle.bx_journal_read.proofs.scan.count.CountScanScan.take_long.Goals as goal

pub returns : goal.returns
returns c = record {
  leads = λ first text more long h plain size.
      let now = c.args.self in
      let line : List ℕ = c.args.line.now in
      let l : List ℕ = line ++ more in
      let one = c.in-Some.ensures in
      inr (
        omega (arith, c.requires.enough),
        record {
          tallied = tallied_on first.only_second text l now.tally c.in-Some.tally now.lines h.tallied plain
              (λ r is. tally_more first.only_second r line more c.in-Some.tally c.requires.enough (subst (λ b. LeadsTo b r line c.in-Some.tally) h.same (one.leads r is)));
          same = h.same;
          lines = omega (arith, h.lines, length-append text (ended l), length-append l (10 ∷ []));
          few = one.few h.few;
        },
      );
}
