use Rattle.std.proofs.Common.{◌≡◌, ℕ, zero, suc, ◌+◌, ◌-◌, ◌*◌, ◌/◌, ◌<◌, ◌≤◌, arith, refl, ap, ◌∙◌}
use Rattle.std.proofs.Math.Nat.{mul-div-le, mul-le-mul_left}
use Rattle.bx_dump.proofs.RoomLemmas.{lines_fit}
use Rattle.bx_dump.proofs.xxd.zeros.SkippingPagesPages.start_len.Goals as goal

-- two lines fewer than fit
two_fewer : (n cols room width lines : ℕ) → 0 < cols → n < cols * (lines - 2) → (room + width * cols) * lines ≤ 4096 → room * ((n + cols - 1) / cols + 2) + width * n ≤ 4096
two_fewer n cols room width lines pos inside fits =
    let some : 0 < lines - 2 = positive (lines - 2) inside in
    let two : lines ≡ lines - 2 + 2 = omega arith in
    let whole : (room + width * cols) * lines ≡ (room + width * cols) * (lines - 2) + (room + width * cols) * 2 = ap (λ k. (room + width * cols) * k) two ∙ omega arith in
    let base = lines_fit n cols room width (lines - 2) ((room + width * cols) * (lines - 2)) pos (omega (arith, inside)) (omega arith) in
    omega (arith, whole, base, fits)
  where
    positive : (k : ℕ) → n < cols * k → 0 < k
    positive zero less = let e : cols * 0 ≡ 0 = omega arith in absurd (omega arith)
    positive (suc k) less = omega arith

pub returns-clause-fits : goal.returns-clause-fits
returns-clause-fits g c n inside =
    let p = c.args.self.now.lines in
    let C = g.F.LineForm.cols p.form in
    let R = g.F.LineForm.room p.form in
    let W = g.F.LineForm.width p.form in
    let room = c.room_len.result + c.cell_len.result * c.line_len-cols.result in
    let lines = 4096 / room in
    let line : room ≡ R + W * C = rw (c.room_len.ensures.value, c.cell_len.ensures.value, c.line_len-cols.ensures.value) refl in
    let sub : c.saturating_sub.result ≡ lines - 2 = omega (arith, c.saturating_sub.ensures) in
    let place : c.line_len-cols.result * c.saturating_sub.result ≡ C * (lines - 2) = ap (λ n. n * c.saturating_sub.result) c.line_len-cols.ensures.value ∙ ap (λ k. C * k) sub in
    let few : (R + W * C) * lines ≤ 4096 = omega (arith, mul-div-le 4096 room, ap (λ n. n * lines) line) in
    let less : n < C * (lines - 2) = omega (arith, inside, c.min.ensures, place) in
    two_fewer n C R W lines p.broad less few
