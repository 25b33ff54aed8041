use Rattle.std.proofs.Common.{ℕ, suc, ◌<◌, List, [], ◌∷◌, get_or, arith}
use Rattle.bx_image.specs.Change.{AreBytes}
use Rattle.bx_journal_protocol.proofs.write.look.are_bytes.Goals as goal

are_bytes_each : (bytes : List ℕ) → ((i : ℕ) → get_or bytes i 0 < 256) → AreBytes bytes
are_bytes_each [] each = tt
are_bytes_each (b ∷ bytes) each = (each 0, are_bytes_each bytes (λ i. each (suc i)))

pub returns : goal.returns
returns c = are_bytes_each c.args.bytes.now (λ i. omega (arith, c.type_inv.bytes i))
