use Rattle.bx_patch.proofs.LengthLemmas.{no_parts, no_second, no_old, no_new}
use Rattle.bx_patch.proofs.read.lengths.lengths_in.Goals as goal

pub returns-in_default-parted : goal.returns-in_default-parted
returns-in_default-parted c = no_parts c.args.line.now c.in-Some.body.now c.in-Some.ensures c.in_default-parted.ensures

pub returns-in_default-after : goal.returns-in_default-after
returns-in_default-after c =
    let parts = c.in-Some-parted.ensures in
    no_second c.args.line.now c.in-Some.body.now c.in-Some-parted.first.now c.in-Some-parted.tail.now c.in-Some.ensures parts.0 parts.1 parts.2 c.in_default-after.ensures

pub returns-in_default-decimal : goal.returns-in_default-decimal
returns-in_default-decimal c =
    let parts = c.in-Some-parted.ensures in
    no_old c.args.line.now c.in-Some.body.now c.in-Some-parted.first.now c.in-Some-parted.tail.now c.in-Some.ensures parts.0 parts.1 parts.2 c.in_default-decimal.ensures

pub returns-in_default-decimal-2 : goal.returns-in_default-decimal-2
returns-in_default-decimal-2 c =
    let parts = c.in-Some-parted.ensures in
    no_new c.args.line.now c.in-Some.body.now c.in-Some-parted.first.now c.in-Some-parted.tail.now c.in-Some.ensures parts.0 parts.1 parts.2
    c.in-Some-after.second.now c.in-Some-after.ensures c.in_default-decimal-2.ensures
