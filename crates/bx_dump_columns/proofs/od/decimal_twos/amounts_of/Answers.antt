use Rattle.std.proofs.Common.{◌∙◌}
use Rattle.bx_dump_columns.proofs.OdTwos.{amounts_are, amounts_same}
use Rattle.bx_dump_columns.proofs.od.decimal_twos.amounts_of.Goals.{then-signed, else-signed}
use Rattle.bx_dump_columns.proofs.od.decimal_twos.amounts_of.Goals as goal

pub returns : goal.returns
returns c = elim c.if-signed.branch [
  | then-signed w ↦ w.result-is ∙ rw w.if-signed.true (amounts_are 8 c.args.values c.fits-values.0 c.fits-values.1)
  | else-signed w ↦ w.result-is ∙ rw w.if-signed.false (amounts_same c.args.values)
]
