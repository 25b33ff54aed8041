use Rattle.std.proofs.Common.{◌≡◌, ℕ, ◌*◌, ◌/◌, ◌<◌, ◌≤◌, arith}
use Rattle.std.proofs.Math.Nat.{mul-div-le, mul-le-mul_left, le-div_iff_mul-le}
use Rattle.bx_dump.proofs.FoldByLemmas.{none_taken_by}
use Rattle.bx_dump.proofs.driver.wide.WidePages.new.Goals as goal

-- as many as fit
fit : (a n total : ℕ) → n ≤ total / a → a * n ≤ total
fit a n total le = omega (arith, mul-div-le total a, mul-le-mul_left {m = n} {n = total / a} a le)

some_fit : (a total : ℕ) → 0 < a → a ≤ total → 1 ≤ total / a
some_fit a total pos le = (le-div_iff_mul-le {k = a} {x = 1} {y = total} pos).1 (omega arith)

pub invariant_of-result : goal.invariant_of-result
invariant_of-result g c =
    let cols = c.line_len.ensures in
    let room = c.room_len.ensures in
    let lines = c.min-lines.result in
    let a : 1 ≤ 131072 / c.room_len.result = some_fit c.room_len.result 131072 (omega (arith, room.some)) (omega (arith, room.most)) in
    let b : 1 ≤ 16384 / c.line_len.result = some_fit c.line_len.result 16384 cols.some (omega (arith, cols.most)) in
    let few : c.line_len.result * lines ≤ 16384 = fit c.line_len.result lines 16384 (omega (arith, c.min-lines.ensures)) in
    let short : c.room_len.result * lines ≤ 131072 = fit c.room_len.result lines 131072 (omega (arith, c.min-lines.ensures)) in
    record {
      low = c.requires;
      broad = rw cols.value at cols.some;
      star = rw room.value at room.some;
      some = omega (arith, c.min-lines.ensures);
      few = rw cols.value at few;
      short = rw room.value at short;
    }

pub returns-clause-fresh : goal.returns-clause-fresh
returns-clause-fresh g c = none_taken_by _ c.args.all c.new.result c.new.ensures
