use Rattle.std.proofs.Common.{inr}
use Rattle.bx_run_session.proofs.session.named.clear.Goals as goal

pub unmake_texts-requires-clause-made : goal.unmake_texts-requires-clause-made
unmake_texts-requires-clause-made g c old n is = c.requires.made old n (inr is)
