use Rattle.std.proofs.Common.{◌≤◌, length, ap, ◌∙◌, arith, rules}
use Rattle.bx_journal_model.specs.Calls.{rows_of}
use Rattle.bx_journal_format.specs.Parsed.{entries_of}
use Rattle.bx_journal_format.proofs.ReadLemmas.{length-entries_of}
use Rattle.bx_journal.proofs.SavedBound.{saved_countable}
use Rattle.bx_journal.proofs.session.log.rows_of_whole.Goals as goal

pub rows-requires-clause-few : goal.rows-requires-clause-few
rows-requires-clause-few g c =
    let few : length c.in-Ok.read.entries.items ≤ 65535 = c.in-Ok.ensures.read.read.few in
    omega (arith, few, ap length c.deref.ensures.value)

pub rows-requires-clause-countable : goal.rows-requires-clause-countable
rows-requires-clause-countable g c =
    saved_countable c.in-Ok.ensures.read.text c.in-Ok.read.entries.items c.deref.result.now c.in-Ok.ensures.read.read.finished.reads (omega (arith, c.in-Ok.ensures.read.countable)) c.deref.ensures.value

pub returns : goal.returns
returns g c =
    let read = c.in-Ok.ensures.read in
    record {
      rows = record {
        text = read.text;
        is = read.is;
        entries = entries_of c.in-Ok.read.entries.items;
        finished = read.read.finished;
        counted = length-entries_of c.in-Ok.read.entries.items ∙ read.read.counted;
        rows_are = c.in_ok-rows.ensures ∙ ap (λ es. rows_of (entries_of es)) c.deref.ensures.value;
      };
      fault = tt;
      looks = search rules;
      found_before = c.read_again.ensures.survives;
    }
