use Rattle.std.proofs.Common.{◌≡◌, ◌+◌, ◌-◌, ◌<◌, ◌^◌, ℕ, length, arith}
use Rattle.bx_image.specs.Image.{zeros}
use Rattle.bx_image.proofs.FillLemmas.{length-zeros}
use Rattle.bx_journal_format.specs.Kept.{Run}
use Rattle.bx_journal_format.proofs.NearRows.{near_run_long}
use Rattle.bx_journal_protocol.proofs.before.lengths.lines_len.Goals as goal

pub returns-then-end-lt-NINE_DIGITS : goal.returns-then-end-lt-NINE_DIGITS
returns-then-end-lt-NINE_DIGITS c =
    let n : ℕ = c.args.end - c.args.at in
    let run : Run = record { at = c.args.at; bytes = zeros n } in
    let long : length (zeros n) ≡ n = length-zeros n in
    let near : run.at + length run.bytes < 2 ^ 32 = omega (arith, long, c.requires.order) in
    omega (arith, near_run_long run near, long)
