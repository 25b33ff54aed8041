use Rattle.std.proofs.Common.{rules}
use Rattle.bx_dump.proofs.driver.pages.next_len.Goals as goal

pub returns-in-Some-clause-within : goal.returns-in-Some-clause-within
returns-in-Some-clause-within c = search rules
