use Rattle.std.proofs.Common.{◌++◌, ◌∙◌}
use lib.Lanes.{pick_l}
use Rattle.bx_dump_columns.proofs.OdOctal.{both_places, both_are}
use Rattle.bx_dump_columns.proofs.od.octal_lanes.digits_of_both.Goals as goal

pub returns : goal.returns
returns c = (λ i. pick_l 0 (c.digits_at.ensures i ++ c.digits_at-2.ensures i) both_places) ∙ both_are c.args.low c.args.high c.args.bytes c.fits-bytes.0
