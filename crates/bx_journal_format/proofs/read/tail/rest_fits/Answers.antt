use Rattle.std.proofs.Common.{map, sym, subst, ◌↔◌}
use Rattle.std.specs.Prelude.{IsTrue}
use Rattle.bx_journal_format.specs.Kept.{run_of, kept_of}
use Rattle.bx_journal_format.specs.Text.{IsRest}
use Rattle.bx_journal_format.specs.Parsed.{stage_of}
use Rattle.bx_journal_format.proofs.read.tail.rest_fits.Goals as goal

pub returns-in-Between : goal.returns-in-Between
returns-in-Between g c es counted told =
    subst (λ s. IsTrue c.rest_between.result ↔ IsRest es (stage_of s) c.args.rest.now) (sym c.in-Between.is) (c.rest_between.ensures es counted told)

pub returns-in-Saving : goal.returns-in-Saving
returns-in-Saving g c es counted told =
    subst (λ s. IsTrue c.rest_saving.result ↔ IsRest es (stage_of s) c.args.rest.now) (sym c.in-Saving.is)
    (c.rest_saving.ensures es c.in-Saving.version (record { len = c.in-Saving.len; runs = map run_of c.in-Saving.runs.items }) counted)

pub returns-in-Ending : goal.returns-in-Ending
returns-in-Ending g c es counted told =
    subst (λ s. IsTrue c.rest_ending.result ↔ IsRest es (stage_of s) c.args.rest.now) (sym c.in-Ending.is)
    (c.rest_ending.ensures es (kept_of c.in-Ending.kept) counted)
