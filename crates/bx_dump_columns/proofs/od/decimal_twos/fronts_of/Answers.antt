use Rattle.std.proofs.Common.{◌∙◌}
use Rattle.bx_dump_columns.proofs.OdTwos.{fronts_are, fronts_same}
use Rattle.bx_dump_columns.proofs.od.decimal_twos.fronts_of.Goals.{then-signed, else-signed}
use Rattle.bx_dump_columns.proofs.od.decimal_twos.fronts_of.Goals as goal

pub returns : goal.returns
returns c = elim c.if-signed.branch [
  | then-signed w ↦ w.result-is ∙ rw w.if-signed.true (fronts_are 8 c.args.values c.fits-values.0)
  | else-signed w ↦ w.result-is ∙ rw w.if-signed.false (fronts_same 8 c.args.values c.fits-values.0)
]
