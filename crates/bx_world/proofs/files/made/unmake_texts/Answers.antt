use Rattle.std.proofs.Common.{sym, inl, inr, refl}
use Rattle.bx_world.specs.files.Numbers.{numbers_of}
use Rattle.bx_world.proofs.Taken.{mades_one, named_kept, texts_taken}
use Rattle.bx_world.proofs.files.made.unmake_texts.Goals as goal

pub take_made-requires-clause-made : goal.take_made-requires-clause-made
take_made-requires-clause-made g c old is = c.requires.made old _ (inr (is, refl))

pub take_made-requires-2-clause-made : goal.take_made-requires-2-clause-made
take_made-requires-2-clause-made g c one is =
    let old = c.take_made.ensures.faith.0 one in
    rw (c.take_made.ensures.most old).streams.before (c.requires.made old _ (inl (is, refl)))

pub take_made-requires-2-clause-named : goal.take_made-requires-2-clause-named
take_made-requires-2-clause-named g c one =
    let old = c.take_made.ensures.faith.0 one in
    rw c.as_str-2.ensures
    (named_kept _ _ _ _ _ (c.take_made.ensures.most old) (λ is. (c.requires.apart old).redo_of_journal (sym is)) (c.requires.journal old))

pub returns-clause-takes : goal.returns-clause-takes
returns-clause-takes g c old =
    let one = c.take_made.ensures.faith.1 old in
    texts_taken c.args.files.now.made (numbers_of g.W.World.number c.args.files.now) _ _ _
    (mades_one _ _ _ _ (c.take_made.ensures.most old) (c.take_made.ensures.taken old) (c.take_made.ensures.stays old))
    (mades_one _ _ _ _ (c.take_made-2.ensures.most one) (c.take_made-2.ensures.taken one) (c.take_made-2.ensures.stays one))
