use Rattle.bx_journal_format.specs.Parsed.{entries_onto, stage_of}
use Rattle.bx_journal_format.proofs.ReadLemmas.{tally_read}
use Rattle.bx_journal_format.proofs.read.take_line.event_at.Goals as goal

pub returns : goal.returns
returns g c older count told =
    c.classify.ensures (record { entries = entries_onto older c.args.entries.now; stage = stage_of c.args.stage.now })
    (tally_read older c.args.entries.now c.args.stage.now c.args.front.count c.told_behind.result c.place_at.result count (c.told_behind.ensures older told) c.place_at.ensures)
