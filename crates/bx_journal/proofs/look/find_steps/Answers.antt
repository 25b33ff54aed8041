use Rattle.bx_journal_read.proofs.StepsShown.{front_checked, front_few, front_refused, left_refused, left_unread}
use Rattle.bx_journal.proofs.look.find_steps.Goals as goal

pub returns-in-Err : goal.returns-in-Err
returns-in-Err g c = front_refused c.args.steps c.in-Err.fault c.fault_on.result c.in-Err.ensures c.fault_on.ensures

pub check_steps-requires-clause-few : goal.check_steps-requires-clause-few
check_steps-requires-clause-few g c =
    front_few (g.T.TextStore.faithful c.args.journal.now) (g.T.TextStore.text c.args.journal.now) c.in-Ok.found.marks.items c.in-Ok.found.torn c.in-Ok.ensures.marks

pub returns-in_default : goal.returns-in_default
returns-in_default g c = front_checked c.args.steps c.in-Ok.found c.check_steps.result c.in-Ok.ensures c.check_steps.ensures.ok c.check_steps.ensures.fault

pub returns-in-Ok-line_from : goal.returns-in-Ok-line_from
returns-in-Ok-line_from g c =
    left_refused c.args.steps c.in-Ok.found c.in-Some.left c.in-Ok-line_from.line c.in-Ok.ensures c.in-Some.ensures.some c.in-Ok-line_from.ensures.reads.looks c.in-Ok-line_from.ensures.reads.survives c.in-Ok-line_from.ensures.line

pub returns : goal.returns
returns g c = left_unread c.args.steps c.in-Ok.found c.in-Err-line_from.fault c.in-Ok.ensures c.in-Err-line_from.ensures.reads.looks c.in-Err-line_from.ensures.reads.survives c.in-Err-line_from.ensures.reads.fault
