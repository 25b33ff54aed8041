use Rattle.std.proofs.Common.{◌/◌, ◌%◌, [], ◌∷◌, arith}
use Rattle.bx_dump_columns.proofs.OdDecimal.{rest_of}
use Rattle.bx_dump_columns.proofs.od.decimal_lanes.twos.Goals as goal

pub returns : goal.returns
returns c =
    let a = c.args.a in
    let b = c.args.b in
    let first = c.requires.first in
    let second = c.requires.second in
    let p = rest_of (a / 10000) (omega arith) in
    let q = rest_of (a % 10000) (omega arith) in
    let r = rest_of (b / 10000) (omega arith) in
    let s = rest_of (b % 10000) (omega arith) in
    rw c.fours-fours.ensures (λ i. a / 10000 / 100 ∷ p i ∷ a % 10000 / 100 ∷ q i ∷ b / 10000 / 100 ∷ r i ∷ b % 10000 / 100 ∷ s i ∷ [])
