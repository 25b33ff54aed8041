use Rattle.std.proofs.Common.{◌++◌, ◌+◌, List, ℕ, [], ◌∷◌, length, length-append, inl, inr, false, refl, arith}
use Rattle.bx_journal_format.specs.Text.{ended}
use Rattle.bx_journal_format.proofs.LongLemmas.{tally_more}
use Rattle.bx_journal_format.proofs.TallyLemmas.{tallied_on}
use Rattle.bx_journal_read.proofs.scan.damage.PlaceScanScan.take_long.Goals as goal

pub returns : goal.returns
returns c = record {
  leads = λ first text more long h plain size.
      let now = c.args.self in
      let line : List ℕ = c.args.line.now in
      let l : List ℕ = line ++ more in
      let one = c.in-Some.ensures in
      inr (
        omega (arith, c.requires.enough),
        record {
          tallied = tallied_on false text l now.tally c.in-Some.tally now.lines h.tallied plain (λ r is. tally_more false r line more c.in-Some.tally c.requires.enough (one.leads r is));
          lines = omega (arith, h.lines, length-append text (ended l), length-append l (10 ∷ []));
          few = one.few h.few;
        },
      );
}

pub returns-in_default : goal.returns-in_default
returns-in_default c = record {
  leads = λ first text more long h plain size.
      inl (refl, h);
}
