use Rattle.std.proofs.Common.{◌≡◌, ℕ, true, arith}
use Rattle.std.specs.Prelude.{◌==◌}
use Rattle.std.proofs.lemmas.Grind.{common_steps}
use Rattle.bx_journal_format.proofs.ReadLoop.{plain_all}
use Rattle.bx_journal_format.proofs.format.newline.has_newline.Goals as goal

ten_of : (b : ℕ) → b == 10 ≡ true → b ≡ 10
ten_of b e = grind (arith, common_steps)

pub returns : goal.returns
returns c none = plain_all c.args.bytes.now (λ i within is. c.loop-byte.invariant none i (omega arith) (ten_of _ is))
