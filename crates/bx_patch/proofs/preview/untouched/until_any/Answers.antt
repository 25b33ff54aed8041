use Rattle.bx_patch.proofs.preview.untouched.until_any.Goals as goal

pub until_found-requires-clause-index : goal.until_found-requires-clause-index
until_found-requires-clause-index g c = c.requires.index (c.may_search.ensures.indexed c.if-may_search.true)
