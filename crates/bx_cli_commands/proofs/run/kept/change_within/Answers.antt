use Rattle.std.proofs.Common.{sym}
use Rattle.bx_cli_commands.proofs.Within.{growth_not_own, length_unknown, longer, within}
use Rattle.bx_cli_commands.proofs.run.kept.change_within.Goals as goal

pub returns-in-Ok-refuse_growth-clause-obeys : goal.returns-in-Ok-refuse_growth-clause-obeys
returns-in-Ok-refuse_growth-clause-obeys g c =
    let e = c.in-Ok.ensures in
    within g.D.Device g.T.TextStore c.in-Ok.has c.args.session.now c.image_len.new.self c.run_change.new.session c.args.change.now c.run_change.result
    e.safe e.looks e.found_before
    (λ faithful. c.in-Ok-refuse_growth.ensures.exact (g.D.Device.image c.args.session.now.image) (sym (e.len faithful)))
    c.run_change.ensures.obeys c.run_change.ensures.asked

pub returns-in-Err-refuse_growth-clause-obeys : goal.returns-in-Err-refuse_growth-clause-obeys
returns-in-Err-refuse_growth-clause-obeys g c =
    let e = c.in-Ok.ensures in
    let told = c.in-Err-refuse_growth.ensures in
    longer g.D.Device g.T.TextStore c.in-Ok.has c.args.session.now c.image_len.new.self c.args.change.now c.in-Ok.has told.fault.0
    c.in-Err-refuse_growth.growth told.fault.1 e.safe e.looks e.found_before
    (λ faithful. told.exact (g.D.Device.image c.args.session.now.image) (sym (e.len faithful)))

pub returns-in-Err-refuse_growth-clause-asked : goal.returns-in-Err-refuse_growth-clause-asked
returns-in-Err-refuse_growth-clause-asked g c =
    let told = c.in-Err-refuse_growth.ensures in
    growth_not_own c.in-Ok.has told.fault.0 c.in-Err-refuse_growth.growth told.fault.1

pub returns-in-Err-clause-obeys : goal.returns-in-Err-clause-obeys
returns-in-Err-clause-obeys g c =
    let e = c.in-Err.ensures in
    length_unknown g.D.Device g.T.TextStore c.args.session.now c.image_len.new.self c.args.change.now c.in-Err.fault e.safe e.looks e.found_before e.fault
