use Rattle.std.proofs.Common.{arith}
use Rattle.bx_dump_columns.proofs.PlaceLemmas.{count_is, one_is}
use Rattle.bx_dump_columns.proofs.strings.places.decimal_len.Goals as goal

pub returns-in_default : goal.returns-in_default
returns-in_default c = one_is 10 (omega arith) c.args.v (omega (arith, c.in_default))

pub returns-in-10-to-4294967295 : goal.returns-in-10-to-4294967295
returns-in-10-to-4294967295 c =
    count_is 10 (omega arith) 1 63 c.args.v (omega arith) (omega arith) (omega arith) (omega (arith, c.ranges.v.fits)) (omega arith) (omega (arith, c.requires, c.ranges.v.fits, c.in-10-to-4294967295)) (omega (arith, c.in-10-to-4294967295))

pub returns-in-100-to-4294967295 : goal.returns-in-100-to-4294967295
returns-in-100-to-4294967295 c =
    count_is 10 (omega arith) 2 62 c.args.v (omega arith) (omega arith) (omega arith) (omega (arith, c.ranges.v.fits)) (omega arith) (omega (arith, c.requires, c.ranges.v.fits, c.in-100-to-4294967295)) (omega (arith, c.in-100-to-4294967295))

pub returns-in-1000-to-4294967295 : goal.returns-in-1000-to-4294967295
returns-in-1000-to-4294967295 c =
    count_is 10 (omega arith) 3 61 c.args.v (omega arith) (omega arith) (omega arith) (omega (arith, c.ranges.v.fits)) (omega arith) (omega (arith, c.requires, c.ranges.v.fits, c.in-1000-to-4294967295)) (omega (arith, c.in-1000-to-4294967295))

pub returns-in-10000-to-4294967295 : goal.returns-in-10000-to-4294967295
returns-in-10000-to-4294967295 c =
    count_is 10 (omega arith) 4 60 c.args.v (omega arith) (omega arith) (omega arith) (omega (arith, c.ranges.v.fits)) (omega arith) (omega (arith, c.requires, c.ranges.v.fits, c.in-10000-to-4294967295)) (omega (arith, c.in-10000-to-4294967295))

pub returns-in-100000-to-4294967295 : goal.returns-in-100000-to-4294967295
returns-in-100000-to-4294967295 c =
    count_is 10 (omega arith) 5 59 c.args.v (omega arith) (omega arith) (omega arith) (omega (arith, c.ranges.v.fits)) (omega arith) (omega (arith, c.requires, c.ranges.v.fits, c.in-100000-to-4294967295)) (omega (arith, c.in-100000-to-4294967295))

pub returns-in-1000000-to-4294967295 : goal.returns-in-1000000-to-4294967295
returns-in-1000000-to-4294967295 c =
    count_is 10 (omega arith) 6 58 c.args.v (omega arith) (omega arith) (omega arith) (omega (arith, c.ranges.v.fits)) (omega arith) (omega (arith, c.requires, c.ranges.v.fits, c.in-1000000-to-4294967295)) (omega (arith, c.in-1000000-to-4294967295))

pub returns-in-10000000-to-4294967295 : goal.returns-in-10000000-to-4294967295
returns-in-10000000-to-4294967295 c =
    count_is 10 (omega arith) 7 57 c.args.v (omega arith) (omega arith) (omega arith) (omega (arith, c.ranges.v.fits)) (omega arith) (omega (arith, c.requires, c.ranges.v.fits, c.in-10000000-to-4294967295)) (omega (arith, c.in-10000000-to-4294967295))
