use Rattle.std.proofs.Common.{sym, ◌∙◌}
use Rattle.bx_patch.proofs.preview.untouched.Untouched.searched.Goals as goal

pub invariant_of-result : goal.invariant_of-result
invariant_of-result g c = record { order = c.args.self.order; found = λ is. rw c.keys.ensures (c.requires (sym c.is_made.ensures ∙ is)) }
