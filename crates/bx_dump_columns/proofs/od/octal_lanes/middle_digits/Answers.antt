use Rattle.std.proofs.Common.{◌++◌, ◌∙◌, replicate}
use lib.Lanes.{zip2, pick_l}
use Rattle.bx_dump_columns.proofs.OdOctal.{sum, part_places, middle_are}
use Rattle.bx_dump_columns.proofs.od.octal_lanes.middle_digits.Goals as goal

pub returns : goal.returns
returns c = (λ i. zip2 sum (c.digits_of_both.ensures i) (pick_l 0 (c.last_bits.ensures i ++ replicate 16 0) part_places)) ∙ middle_are c.args.bytes c.fits-bytes.0
