use Rattle.std.proofs.Common.{◌∙◌, sym, ap, refl, inl, inr}
use Rattle.bx_world.specs.declared.files.made.Made.{Made}
use Rattle.bx_world.proofs.Taken.{all_left, all_taken, named_kept}
use Rattle.bx_world.proofs.files.made.unmake_all.Goals as goal

pub take_made-requires-clause-made : goal.take_made-requires-clause-made
take_made-requires-clause-made g c old is = c.requires.made old _ (inr (inr (is, refl)))

pub take_made-requires-2-clause-made : goal.take_made-requires-2-clause-made
take_made-requires-2-clause-made g c one is =
    let old = c.take_made.ensures.faith.0 one in
    rw (c.take_made.ensures.most old).streams.before (c.requires.made old _ (inr (inl (is, refl))))

pub take_made-requires-2-clause-named : goal.take_made-requires-2-clause-named
take_made-requires-2-clause-named g c one =
    let old = c.take_made.ensures.faith.0 one in
    rw c.as_str-2.ensures
    (named_kept _ _ _ _ _ (c.take_made.ensures.most old) (λ is. (c.requires.apart old).redo_of_journal (sym is)) (c.requires.journal old))

pub take_made-requires-3-clause-made : goal.take_made-requires-3-clause-made
take_made-requires-3-clause-made g c two is =
    let one = c.take_made-2.ensures.faith.0 two in
    let old = c.take_made.ensures.faith.0 one in
    rw ((c.take_made-2.ensures.most one).streams.before, (c.take_made.ensures.most old).streams.before) (c.requires.made old _ (inl (is, refl)))

pub take_made-requires-3-clause-named : goal.take_made-requires-3-clause-named
take_made-requires-3-clause-named g c two =
    let one = c.take_made-2.ensures.faith.0 two in
    let old = c.take_made.ensures.faith.0 one in
    let apart = c.requires.apart old in
    rw c.as_str-3.ensures
    (named_kept _ _ _ _ _ (c.take_made-2.ensures.most one) (λ is. apart.journal_apart (sym is))
    (named_kept _ _ _ _ _ (c.take_made.ensures.most old) (λ is. apart.redo_of_image (sym is)) (c.requires.image old)))

pub returns-clause-left : goal.returns-clause-left
returns-clause-left g c old first within has =
    let one = c.take_made.ensures.faith.1 old in
    let two = c.take_made-2.ensures.faith.1 one in
    all_left _ _ first _ _ _ _ within has (c.take_made.ensures.taken old) (c.take_made.ensures.stays old) (c.take_made-2.ensures.taken one)
    (c.take_made-2.ensures.stays one) (c.take_made-3.ensures.taken two) (c.take_made-3.ensures.stays two)

pub returns-clause-most : goal.returns-clause-most
returns-clause-most g c old =
    let one = c.take_made.ensures.faith.1 old in
    let two = c.take_made-2.ensures.faith.1 one in
    all_taken _ _ _ _ _ _ (c.take_made.ensures.most old) (c.take_made.ensures.stays old) (c.take_made-2.ensures.most one)
    (c.take_made-2.ensures.stays one) (c.take_made-3.ensures.most two) (c.take_made-3.ensures.stays two)

pub returns-clause-stays : goal.returns-clause-stays
returns-clause-stays g c old none =
    let one = c.take_made.ensures.faith.1 old in
    let two = c.take_made-2.ensures.faith.1 one in
    c.take_made-3.ensures.stays two (ap (λ (made : Made). made.image) none)
    ∙ c.take_made-2.ensures.stays one (ap (λ (made : Made). made.journal) none)
    ∙ c.take_made.ensures.stays old (ap (λ (made : Made). made.redo) none)
