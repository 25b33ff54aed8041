use Rattle.bx_patch.specs.declared.diff.fault.DiffFault.TheVariants.{NoMemory}
use Rattle.bx_patch.specs.Text.{row_count}
use Rattle.bx_patch.specs.private.Row.{window_lines}
use Rattle.bx_patch.proofs.WritingLemmas.{lines_part}
use Rattle.bx_patch.proofs.diff.compare.put_window.Goals as goal

pub returns-in-Err-clause-part : goal.returns-in-Err-clause-part
returns-in-Err-clause-part g c = λ lines first put.
    let old = c.args.old.now in
    let new = c.args.new.now in
    let place = c.args.place in
    lines_part NoMemory place.head.now lines (window_lines place.extent place.at old new (row_count old new)) c.args.writing.now.number c.args.writing.now.written first _ (λ n. tt) put
