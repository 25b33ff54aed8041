use Rattle.std.proofs.Common.{arith}
use Rattle.bx_journal_protocol.proofs.before.places.place_of.Goals as goal

pub overflow_add-result : goal.overflow_add-result
overflow_add-result g c = omega (arith, c.requires, c.start_size.ensures, c.is_countable.ensures)

pub overflow_add-result-2 : goal.overflow_add-result-2
overflow_add-result-2 g c = omega (arith, c.requires, c.start_size.ensures, c.is_countable.ensures)
