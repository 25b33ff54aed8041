-- How long a page has to be.
use Rattle.std.proofs.Common.{◌≡◌, ℕ, ◌+◌, ◌-◌, ◌*◌, ◌/◌, ◌<◌, ◌≤◌, arith}
use Rattle.std.proofs.Math.Nat.{mul-le-mul_left}
use Rattle.bx_dump_columns.proofs.LinesLemmas.{count_most}

-- the lines of n bytes and the digits of each fit where as many whole lines do
pub lines_fit : (n cols room width lines page : ℕ) → 0 < cols → n ≤ cols * lines → (room + width * cols) * lines ≤ page → room * ((n + cols - 1) / cols) + width * n ≤ page
lines_fit n cols room width lines page pos inside fits =
    let text : room * ((n + cols - 1) / cols) ≤ room * lines = mul-le-mul_left {m = (n + cols - 1) / cols} {n = lines} room (count_most n cols lines pos inside) in
    let cells : width * n ≤ width * (cols * lines) = mul-le-mul_left {m = n} {n = cols * lines} width inside in
    let both : (room + width * cols) * lines ≡ room * lines + width * (cols * lines) = omega arith in
    omega (arith, text, cells, both, fits)
