use Rattle.std.proofs.Common.{map}
use Rattle.bx_dump_columns.specs.Names.{name_front, name_byte}
use Rattle.bx_dump_columns.proofs.NamesLemmas.{emits_both}
use Rattle.bx_dump_columns.proofs.xxd.names.emit_name.Goals as goal

pub returns-in-Ok-clause-emits : goal.returns-in-Ok-clause-emits
returns-in-Ok-clause-emits g c =
    let name = c.args.name.now in
    let front = rw c.front_of.ensures at c.in-Ok.ensures in
    emits_both c.args.before c.in-Ok.n _ _ _ (name_front name) (map name_byte name) c.emit_mapped.result front c.emit_mapped.ensures
