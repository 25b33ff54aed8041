use Rattle.std.proofs.Common.{◌≡◌, ◌+◌, ◌-◌, ℕ, ◌++◌, length, take, drop, ap, sym, ◌∙◌, arith, length-append}
use Rattle.bx_journal_format.specs.Entry.{rows, rows_text}
use Rattle.bx_journal_protocol.proofs.RangeLemmas.{long_of}
use Rattle.bx_journal_protocol.proofs.write.ranges.fill_part.Goals as goal

pub returns-clause-put : goal.returns-clause-put
returns-clause-put g c faithful =
    let n : ℕ = length c.args.part.now in
    let count : (c.args.at + n) - c.args.at ≡ n = omega arith in
    c.push_run.ensures.rows
    ∙ ap (λ bytes. c.args.page.now.items ++ rows_text (rows (record { at = c.args.at; bytes = bytes })))
    (c.in_ok-read_at.ensures.bytes faithful ∙ ap (λ m. take m (drop c.args.at (g.D.Device.image c.args.image.now))) (sym count))

pub returns-clause-long : goal.returns-clause-long
returns-clause-long g c =
    ap length c.push_run.ensures.rows ∙ length-append c.args.page.now.items _
    ∙ ap (λ n. length c.args.page.now.items + n) (long_of c.args.at (length c.args.part.now) _ c.read_at.auto.buf)
