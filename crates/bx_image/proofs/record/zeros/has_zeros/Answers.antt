use Rattle.std.proofs.Common.{◌≡◌, ◌∙◌, length, take, drop, ap, sym, arith}
use Rattle.bx_image.proofs.ZeroLemmas.{zeros_read}
use Rattle.bx_image.proofs.record.zeros.has_zeros.Goals as goal

pub returns-clause-zeros : goal.returns-clause-zeros
returns-clause-zeros g c faithful zeros i low high =
    let x = g.D.Device.image c.args.device.now in
    zeros_read x c.read_at.new.buf c.args.at c.args.count i (c.in_ok-read_at.ensures.bytes faithful ∙ ap (λ n. take n (drop c.args.at x)) c.split_at_mut-part.ensures.front_len) (c.requires.range faithful) (sym c.are_zeros.ensures ∙ zeros) low high
