use Rattle.std.proofs.Common.{◌≡◌, rules}
use Rattle.std.specs.Option.{unwrap_or}
use Rattle.bx_world.specs.World.{no_stat}
use Rattle.test_world.specs.MemoryFiles.{stat_of}
use Rattle.test_world.proofs.Made.{made_text, own_made}
use Rattle.test_world.proofs.memory.MemoryWorld.add_text.Goals as goal

pub returns-in-Ok-clause-ok : goal.returns-in-Ok-clause-ok
returns-in-Ok-clause-ok c =
    made_text c.args.self.now c.add_file.new.self c.args.name.now _ c.in-Ok.file.number c.in-Ok.ensures.number c.in-Ok.ensures.ok c.requires.free

pub returns-in-Ok-clause-own : goal.returns-in-Ok-clause-own
returns-in-Ok-clause-own c =
    let told : unwrap_or (stat_of c.args.self.now.files.items c.args.image) no_stat ≡ c.unwrap-beside.result = search rules in
    own_made c.args.self.now c.add_file.new.self c.args.name.now c.args.image c.in-Ok.file.number c.unwrap-beside.result c.in-Ok.ensures.number c.requires.there
    told c.in-Ok.ensures.ok
