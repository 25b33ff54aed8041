use Rattle.std.proofs.Common.{ℕ, List, ap, ◌∙◌}
use Rattle.bx_journal_image.specs.Digest.{eight_at, image_digest}
use Rattle.bx_journal_image.specs.declared.line.digest.Digest.{Digest}
use Rattle.bx_journal_image.proofs.line.digest.digest_of.Goals as goal

pub returns : goal.returns
unfolding image_digest
returns c =
    let numbers : List ℕ → Digest = λ s. record { high = eight_at 0 s; low = eight_at 8 s } in
    c.numbers_of.ensures ∙ ap numbers c.digest.ensures
