use Rattle.std.proofs.Common.{arith}
use Rattle.bx_patch.proofs.UntouchedLemmas.{touches_none}
use Rattle.bx_patch.proofs.preview.untouched.until_change.Goals as goal

pub until_next-requires : goal.until_next-requires
until_next-requires g c = record { ordered = rw c.as_slice-pieces.ensures (c.requires.ordered c.if-known.true) }

pub until_any-requires : goal.until_any-requires
until_any-requires g c = record { index = λ is. rw c.as_slice-pieces.ensures (c.requires.index is) }

pub returns-then-known-clause-untouched : goal.returns-then-known-clause-untouched
returns-then-known-clause-untouched g c j above below =
    touches_none c.args.change.now j (c.until_base-until.ensures.untouched j (omega (arith, c.until_next.ensures.most, below)))
    (rw c.as_slice-pieces.ensures at (c.until_next.ensures.untouched j above below))

pub returns-else-known-clause-untouched : goal.returns-else-known-clause-untouched
returns-else-known-clause-untouched g c j above below =
    touches_none c.args.change.now j (c.until_base-until.ensures.untouched j (omega (arith, c.until_any.ensures.most, below)))
    (rw c.as_slice-pieces.ensures at (c.until_any.ensures.untouched j above below))
