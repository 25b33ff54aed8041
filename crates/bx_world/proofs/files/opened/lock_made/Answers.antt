use Rattle.bx_world.proofs.FileReasons.{counted_least, counted_refusal}
use Rattle.bx_world.proofs.Taken.{made_left}
use Rattle.bx_world.proofs.files.opened.lock_made.Goals as goal

pub returns-in-Err-clause-left : goal.returns-in-Err-clause-left
returns-in-Err-clause-left g c old first within has =
    let locked = c.lock.ensures.faith.1 old in
    c.unmake.ensures.left locked first within (rw (c.lock.ensures.same old, c.lock.ensures.number old) (made_left _ _ _ has))

pub returns-in-Err-clause-why : goal.returns-in-Err-clause-why
returns-in-Err-clause-why g c old least below =
    let locked = c.lock.ensures.faith.1 old in
    rw (c.unmake.ensures.counted locked)
    (counted_refusal c.lock.result _ _ _ least c.in-Err.is (c.lock.ensures.counted old) (c.lock.ensures.missing old) below)

pub returns-in-Err-clause-counted : goal.returns-in-Err-clause-counted
returns-in-Err-clause-counted g c old =
    let locked = c.lock.ensures.faith.1 old in
    rw (c.unmake.ensures.counted locked) (counted_least c.lock.result _ _ (c.lock.ensures.counted old))
