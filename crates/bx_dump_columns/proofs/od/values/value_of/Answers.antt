use Rattle.std.proofs.Common.{rules, ◌-◌, ◌^◌, ◌<◌, length, drop, arith, ap, ◌∙◌, w32, w64}
use Rattle.std.specs.Int.{from_le_bytes}
use Rattle.std.proofs.lemmas.List.{take_all}
use Rattle.bx_dump_columns.specs.Values.{value_of}
use Rattle.bx_dump_columns.proofs.OdLemmas.{value_from, value_four, value_eight}
use Rattle.bx_dump_columns.proofs.od.values.value_of.Goals as goal

pub overflow_mul-value : goal.overflow_mul-value
overflow_mul-value c =
    let before = c.loop-at.invariant in
    let small : value_of (drop c.loop-at.at c.args.bytes.now) < 256 ^ 7 = value_from 7 c.loop-at.at c.args.bytes.now c.type_inv.bytes (omega (arith, c.requires, c.loop-at-test.true)) in
    omega (arith, before.value)

pub overflow_add-value : goal.overflow_add-value
overflow_add-value c =
    let before = c.loop-at.invariant in
    let small : value_of (drop c.loop-at.at c.args.bytes.now) < 256 ^ 7 = value_from 7 c.loop-at.at c.args.bytes.now c.type_inv.bytes (omega (arith, c.requires, c.loop-at-test.true)) in
    omega (arith, before.value, c.type_inv.bytes (c.loop-at.at - 1))

pub returns-2-clause-below : goal.returns-2-clause-below
returns-2-clause-below c =
    let n = length c.args.bytes.now in
    let small : value_of (drop c.loop-at.at c.args.bytes.now) < 256 ^ n = value_from n c.loop-at.at c.args.bytes.now c.type_inv.bytes (omega arith) in
    omega (arith, c.loop-at.invariant.value)

pub returns-in-Some-clause-value : goal.returns-in-Some-clause-value
returns-in-Some-clause-value c =
    let first = c.in-Some.ensures.cases in
    let bytes = c.args.bytes.now in
    c.from_le_bytes.ensures ∙ ap (from_le_bytes w64) (first.same ∙ take_all 8 bytes c.requires) ∙ value_eight bytes (omega (arith, first.enough, c.requires))

pub returns-clause-value : goal.returns-clause-value
returns-clause-value c =
    let first = c.in-Some-first_chunk.ensures.cases in
    let bytes = c.args.bytes.now in
    let four = c.if-bytes-eq4.true in
    c.from_le_bytes-2.ensures ∙ ap (from_le_bytes w32) (first.same ∙ take_all 4 bytes (omega (arith, four))) ∙ value_four bytes (omega (arith, four))

pub loop-at-preserved : goal.loop-at-preserved
loop-at-preserved c = search rules
