use Rattle.std.proofs.Common.{◌≡◌, ◌∙◌, ℕ, ap, arith, drop, length, sym, take}
use Rattle.std.proofs.lemmas.List.{take_at}
use Rattle.bx_journal_image.specs.Written.{appended_bytes}
use Rattle.bx_journal_image.proofs.WrittenLemmas.{appended_is}
use Rattle.bx_journal_image.proofs.finding.rest.read_appended.Goals as goal

pub returns-clause-bytes : goal.returns-clause-bytes
returns-clause-bytes g c = λ h.
    let x = g.D.Device.image c.args.image.now in
    let n : ℕ = c.min-count.result in
    let is : length c.split_at_mut-now.result.0.now ≡ n = omega (arith, c.split_at_mut-now.ensures.front_len) in
    take_at c.read_at.new.buf c.split_at_mut-now.result.1.now n (omega (arith, c.read_at.auto.buf, is))
    ∙ c.in_ok-read_at.ensures.bytes h ∙ ap (λ k. take k (drop c.in-Some.at x)) is
    ∙ appended_is x c.in-Some.at n (omega (arith, c.min-count.ensures, c.requires.long h)) ∙ ap (appended_bytes x) (sym c.in-Some.is)
