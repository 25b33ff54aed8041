use Rattle.bx_journal_format.specs.DumpLine.{saved_run_line}
use Rattle.bx_journal_format.specs.Text.{ended}
use Rattle.bx_journal_protocol.proofs.PageLemmas.{part_front, at_err}
use Rattle.bx_journal_protocol.proofs.FadeLemmas.{fades_front}
use Rattle.bx_journal_protocol.proofs.write.entry.put_full_row.Goals as goal

pub returns-in_err-make_room-clause-fault : goal.returns-in_err-make_room-clause-fault
returns-in_err-make_room-clause-fault g c faithful =
    at_err _ (part_front c.args.page.now.items (ended (saved_run_line c.args.at c.args.bytes.now)) _ _ (c.in_err-make_room.ensures.fault faithful))

pub returns-in_err-make_room-clause-fades : goal.returns-in_err-make_room-clause-fades
returns-in_err-make_room-clause-fades g c faithful =
    fades_front _ c.args.page.now.items (ended (saved_run_line c.args.at c.args.bytes.now)) _ _ (c.in_err-make_room.ensures.fades faithful)

pub returns-clause-fades : goal.returns-clause-fades
returns-clause-fades g c faithful =
    fades_front _ c.args.page.now.items (ended (saved_run_line c.args.at c.args.bytes.now)) _ _ (c.in_ok-make_room.ensures.fades faithful)
