use Rattle.std.proofs.Common.{◌++◌, ◌∙◌, List, ℕ, subst}
use Rattle.std.specs.Prelude.{IfErr, OnOk}
use Rattle.bx_patch.specs.declared.diff.fault.DiffFault.TheVariants.{OldFailed, NewFailed}
use Rattle.bx_patch.specs.Text.{headed, row_count}
use Rattle.bx_patch.specs.private.Row.{window_lines}
use Rattle.bx_patch.specs.private.Diff.{HasPut, WritesUpTo, lines_of_window, part_at}
use Rattle.bx_patch.proofs.WritingLemmas.{lines_part}
use Rattle.bx_patch.proofs.diff.compare.put_next.Goals as goal

pub returns-in_default-clause-part : goal.returns-in_default-clause-part
returns-in_default-clause-part g c = λ faithful new_is lines first put.
    let place = c.args.place in
    lines_part OldFailed place.head.now lines (lines_of_window place.extent (g.D.Device.image c.args.old.now) (g.E.Device.image c.args.new.now) place.at)
    c.args.writing.now.number c.args.writing.now.written first _ (λ n. tt) put

pub returns-in_default-fill_window-clause-part : goal.returns-in_default-fill_window-clause-part
returns-in_default-fill_window-clause-part g c = λ faithful new_is lines first put.
    let place = c.args.place in
    lines_part NewFailed place.head.now lines (lines_of_window place.extent (g.D.Device.image c.args.old.now) (g.E.Device.image c.args.new.now) place.at)
    c.args.writing.now.number c.args.writing.now.written first _ (λ n. tt) put

pub returns-clause-put : goal.returns-clause-put
returns-clause-put g c = λ faithful new_is lines first put.
    let place = c.args.place in
    let old = c.front-old_bytes.ensures.bytes ∙ c.in-Ok.ensures.bytes faithful in
    let new = c.front-new_bytes.ensures.bytes ∙ c.in-Ok-fill_window.ensures.bytes new_is in
    let P = λ (a b : List ℕ). OnOk c.put_window.result (HasPut place.head.now (lines ++ window_lines place.extent place.at a b (row_count a b))
    c.put_window.new.writing.number c.put_window.new.writing.written first (g.W.Write.contents c.put_window.new.out)) in
    subst (λ (b : List ℕ). P (part_at (g.D.Device.image c.args.old.now) place.at) b) new
    (subst (λ (a : List ℕ). P a c.front-new_bytes.result.now) old (c.put_window.ensures.put lines first put))

pub returns-clause-part : goal.returns-clause-part
returns-clause-part g c = λ faithful new_is lines first put.
    let place = c.args.place in
    let old = c.front-old_bytes.ensures.bytes ∙ c.in-Ok.ensures.bytes faithful in
    let new = c.front-new_bytes.ensures.bytes ∙ c.in-Ok-fill_window.ensures.bytes new_is in
    let P = λ (a b : List ℕ). IfErr c.put_window.result (WritesUpTo first (g.W.Write.contents c.put_window.new.out)
    (headed place.head.now (lines ++ window_lines place.extent place.at a b (row_count a b)))) in
    subst (λ (b : List ℕ). P (part_at (g.D.Device.image c.args.old.now) place.at) b) new
    (subst (λ (a : List ℕ). P a c.front-new_bytes.result.now) old (c.put_window.ensures.part lines first put))
