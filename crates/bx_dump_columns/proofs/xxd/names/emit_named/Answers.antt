use Rattle.std.proofs.Common.{◌++◌, Ok, Err}
use Rattle.bx_dump_columns.specs.Names.{c_name}
use Rattle.bx_dump_columns.proofs.NamesLemmas.{emits_both, emits_first}
use Rattle.bx_dump_columns.proofs.xxd.names.emit_named.Goals as goal

pub returns-in-Err-clause-emits : goal.returns-in-Err-clause-emits
returns-in-Err-clause-emits g c =
    let front = c.args.front.now in
    let name = c_name c.args.name.now in
    emits_first c.args.before _ _ (front ++ name) c.args.back.now c.in-Err.fault (emits_first c.args.before _ _ front name c.in-Err.fault c.in-Err.ensures)

pub returns-in-Err-emit_name-clause-emits : goal.returns-in-Err-emit_name-clause-emits
returns-in-Err-emit_name-clause-emits g c =
    let front = c.args.front.now in
    let name = c_name c.args.name.now in
    let both = emits_both c.args.before c.in-Ok.n _ _ _ front name (Err c.in-Err-emit_name.fault) c.in-Ok.ensures c.in-Err-emit_name.ensures.emits in
    emits_first c.args.before _ _ (front ++ name) c.args.back.now c.in-Err-emit_name.fault both

pub returns-clause-emits : goal.returns-clause-emits
returns-clause-emits g c =
    let front = c.args.front.now in
    let name = c_name c.args.name.now in
    let both = emits_both c.args.before c.in-Ok.n _ _ _ front name (Ok c.in-Ok-emit_name.n) c.in-Ok.ensures c.in-Ok-emit_name.ensures.emits in
    emits_both c.args.before c.in-Ok-emit_name.n _ _ _ (front ++ name) c.args.back.now c.emit_next-2.result both c.emit_next-2.ensures
