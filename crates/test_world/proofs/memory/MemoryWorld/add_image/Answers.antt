use Rattle.std.proofs.Common.{◌≡◌, Some, length, refl, rules}
use Rattle.test_world.specs.MemoryFiles.{free_end}
use Rattle.test_world.proofs.Entries.{end_free}
use Rattle.test_world.proofs.Made.{made_image, told_added}
use Rattle.test_world.proofs.memory.MemoryWorld.add_image.Goals as goal

pub add_file-requires : goal.add_file-requires
add_file-requires c =
    let end : free_end c.args.self.now.files.items c.args.self.now.entries.items 40 c.args.name.now ≡ Some c.as_str.result.now = search rules in
    record { free = end_free c.args.self.now.files.items c.args.self.now.entries.items c.as_str.result.now (length c.args.self.now.files.items) 40 c.args.name.now end }

pub returns-in-Ok-clause-ok : goal.returns-in-Ok-clause-ok
returns-in-Ok-clause-ok c =
    let end : free_end c.args.self.now.files.items c.args.self.now.entries.items 40 c.args.name.now ≡ Some c.as_str.result.now = search rules in
    made_image c.args.self.now c.add_file.new.self c.as_str.result.now c.args.name.now _ c.in-Ok.file.number c.in-Ok.ensures.number c.in-Ok.ensures.ok end

pub returns-in-Ok-clause-fit : goal.returns-in-Ok-clause-fit
returns-in-Ok-clause-fit c mounted =
    let told = told_added c.args.self.now c.add_file.new.self c.as_str.result.now c.stat_of_image-stat.result c.in-Ok.file.number c.in-Ok.ensures.number c.in-Ok.ensures.ok in
    rw (told, c.stat_of_image-stat.ensures) refl
