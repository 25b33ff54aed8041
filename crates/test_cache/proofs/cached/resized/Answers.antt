use Rattle.std.proofs.Common.{rules}
use Rattle.bx_image.proofs.Edits.{resized_cut}
use Rattle.test_cache.proofs.cached.resized.Goals as goal

pub returns : goal.returns
returns c = search (rules, resized_cut)
