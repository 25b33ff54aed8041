use Rattle.std.proofs.Common.{◌≡◌, ◌-◌, ℕ, ap, drop, length, length-drop, arith, take, ◌∙◌}
use Rattle.bx_journal_image.proofs.EntryLemmas.{before_of}
use Rattle.bx_journal_image.proofs.finding.entry.length_before.Goals as goal

pub returns-clause-before : goal.returns-clause-before
returns-clause-before g c = λ h.
    let text = g.T.TextStore.text c.args.store.now in
    let n : ℕ = c.min-size.result in
    let is : length c.split_at_mut-first.result.0.now ≡ n = omega (arith, c.split_at_mut-first.ensures.front_len) in
    before_of (drop c.args.at text) c.read_at.new.buf n (c.args.len - c.args.at) c.length_in.result
    (c.in_ok-read_at.ensures.bytes h ∙ ap (λ k. take k (drop c.args.at text)) is) c.min-size.ensures (omega (arith, length-drop c.args.at text, c.requires.long h)) c.length_in.ensures
