use Rattle.bx_patch.proofs.preview.image.window.put_any.Goals as goal

pub put_found-requires-clause-index : goal.put_found-requires-clause-index
put_found-requires-clause-index g c = c.requires.index (c.may_search.ensures.indexed c.if-may_search.true)
