use Rattle.bx_journal_format.proofs.FormLanes.{byte_small, lane_fits}
use Rattle.bx_journal_format.proofs.format.lanes.off_form.Goals as goal

pub returns : goal.returns
returns c k inside small =
    lane_fits c.args.text c.args.form k c.fits-text.0 c.fits-form.0 inside (byte_small c.args.text k c.fits-text.1) (byte_small c.args.form k c.fits-form.1) small
