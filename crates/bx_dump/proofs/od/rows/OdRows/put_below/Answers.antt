use Rattle.std.proofs.Common.{◌≡◌, ◌+◌, ◌*◌, ◌<◌, ◌≤◌, ◌++◌, length, take, drop, refl, ap, ◌∙◌, arith}
use Rattle.std.proofs.Math.Nat.{mul-le-mul_left}
use Rattle.std.proofs.lemmas.List.{length-take-le}
use Rattle.bx_dump.specs.Od.{columns_below, rows_below}
use Rattle.bx_dump.proofs.RowLemmas.{below_next, parts_of}
use Rattle.bx_dump.proofs.od.rows.OdRows.put_below.Goals as goal

pub loop-k-preserved : goal.loop-k-preserved
loop-k-preserved c =
    let l = c.args.self.now in
    let before = c.loop-k.invariant in
    let put = c.put_other-used in
    let columns = columns_below l.below in
    let k = c.loop-k.k in
    let room = 11 * l.width + 48 in
    let below : k < length columns = omega (arith, c.loop-k-test.true, ap length c.as_slice-columns.ensures) in
    let few : length columns ≤ l.below.count = omega (arith, length-take-le l.below.count l.below.columns (omega (arith, l.below.few))) in
    let more : room * (k + 1) ≡ room * k + room = omega arith in
    let all : room * (k + 1) ≤ room * l.below.count = mul-le-mul_left {m = k + 1} {n = l.below.count} room (omega arith) in
    let text = rw c.as_slice-columns.ensures at (parts_of c.loop-k.page put.new.page c.loop-k.used put.result _ _ (omega (arith, before.within, more, all, c.requires.room, c.loop-k.auto.page))
    (omega (arith, before.within, put.ensures.most, more, all, c.requires.room, c.loop-k.auto.page)) put.auto.page refl put.ensures.text) in
    record {
      within = omega (arith, before.within, put.ensures.most, more);
      text = ap (λ t. t ++ rows_below l.address l.endian l.width c.args.wide c.args.bytes.now (drop (k + 1) columns)) text
          ∙ below_next l.address l.endian l.width c.args.wide c.args.bytes.now columns k (take c.loop-k.used c.loop-k.page) _ below before.text;
    }
