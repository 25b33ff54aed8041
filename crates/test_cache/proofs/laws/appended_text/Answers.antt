use Rattle.std.proofs.Common.{rules}
use Rattle.bx_image.proofs.Survivors.{place_end}
use Rattle.test_cache.proofs.laws.appended_text.Goals as goal

pub returns-clause-text : goal.returns-clause-text
returns-clause-text c = search (rules, place_end)

pub returns-clause-kept : goal.returns-clause-kept
returns-clause-kept c = search (rules, place_end)
