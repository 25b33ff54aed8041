use Rattle.std.proofs.Common.{◌%◌, arith}
use Rattle.bx_dump_columns.proofs.OdFours.{first_half, second_half}
use Rattle.bx_dump_columns.proofs.od.decimal_fours.last_eights_of.Goals as goal

pub returns-clause-first : goal.returns-clause-first
returns-clause-first c =
    let both = c.eights_of-both in
    first_half both.result (c.args.a % 100000000) (c.args.b % 100000000) (omega arith) (omega arith) both.ensures.size both.ensures.text

pub returns-clause-second : goal.returns-clause-second
returns-clause-second c =
    let both = c.eights_of-both in
    second_half both.result (c.args.a % 100000000) (c.args.b % 100000000) (omega arith) (omega arith) both.ensures.size both.ensures.text
