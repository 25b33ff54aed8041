use Rattle.test_world.proofs.Beside.{known, spares_texts}
use Rattle.test_world.proofs.memory.MemoryWorldWorld.let_change.Goals as goal

pub returns-clause-only : goal.returns-clause-only
returns-clause-only c _ f is =
    let lent = known _ _ f c.lent_beside-lent.ensures is in
    rw lent.1 (spares_texts _ c.lent_beside-lent.result _ _ _ c.lend_contents-of_journal.ensures.rest (λ n p. p.rest)
    c.lend_if-of_redo.ensures.some (λ none. (c.lend_if-of_redo.ensures.none none).0))
