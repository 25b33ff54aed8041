use Rattle.std.proofs.Common.{◌≡◌, ◌+◌, List, ℕ, ◌++◌, length, ap, ◌∙◌, arith}
use Rattle.bx_journal_protocol.specs.write.Ranges.{saved_lines_text, range_len}
use Rattle.bx_journal_protocol.proofs.RangeLemmas.{least_of, filled, filled_len, len_some}
use Rattle.bx_journal_protocol.proofs.write.ranges.fill_range.Goals as goal

pub returns-clause-put : goal.returns-clause-put
returns-clause-put g c faithful =
    let n : ℕ = c.min-count.result in
    let x : List ℕ = g.D.Device.image c.args.image.now in
    let old : List ℕ = c.args.page.now.items in
    let is : length c.split_at_mut-part.result.0.now ≡ n = omega (arith, c.split_at_mut-part.ensures.front_len) in
    filled x old _ c.args.at n c.args.end c.fits_in-lines.result (omega arith) (omega (arith, c.requires.some, c.min-count.ensures)) (c.requires.range faithful)
    (least_of c.args.at c.args.end c.fits_in-lines.result n (omega (arith, c.requires.some)) c.min-count.ensures)
    (c.in_ok-fill_part.ensures.put faithful ∙ ap (λ m. old ++ saved_lines_text x c.args.at (c.args.at + m)) is)

pub returns-clause-long : goal.returns-clause-long
returns-clause-long g c =
    let n : ℕ = c.min-count.result in
    let is : length c.split_at_mut-part.result.0.now ≡ n = omega (arith, c.split_at_mut-part.ensures.front_len) in
    filled_len (length c.args.page.now.items) _ c.args.at n c.args.end c.fits_in-lines.result (omega arith) (omega (arith, c.requires.some, c.min-count.ensures))
    (least_of c.args.at c.args.end c.fits_in-lines.result n (omega (arith, c.requires.some)) c.min-count.ensures)
    (c.in_ok-fill_part.ensures.long ∙ ap (λ m. length c.args.page.now.items + range_len c.args.at (c.args.at + m)) is)

pub returns-clause-more : goal.returns-clause-more
returns-clause-more g c =
    let n : ℕ = length c.split_at_mut-part.result.0.now in
    omega (arith, c.in_ok-fill_part.ensures.long, len_some c.args.at n (omega (arith, c.requires.some, c.split_at_mut-part.ensures.front_len, c.min-count.ensures, c.fits_in-lines.ensures.some)))
