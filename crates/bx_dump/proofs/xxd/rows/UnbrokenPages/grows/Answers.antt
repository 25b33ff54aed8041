use Rattle.std.specs.List.{flat_map}
use Rattle.std.proofs.lemmas.Grind.{flat_map-append}
use Rattle.bx_text.specs.Dump.{pair_of}
use Rattle.bx_dump.proofs.xxd.rows.UnbrokenPages.grows.Goals as goal

pub returns-clause-more : goal.returns-clause-more
returns-clause-more c input more seen = (flat_map (pair_of c.args.self.now.upper) more, flat_map-append (pair_of c.args.self.now.upper) input more)
