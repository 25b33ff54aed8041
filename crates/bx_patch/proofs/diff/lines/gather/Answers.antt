use Rattle.std.proofs.Common.{◌∙◌, sym}
use Rattle.std.proofs.lemmas.Slice.Eq.{bytes_eq-Decides}
use Rattle.bx_patch.specs.Text.{row_count}
use Rattle.bx_patch.proofs.DiffLemmas.{equal_windows}
use Rattle.bx_patch.proofs.diff.lines.gather.Goals as goal

pub returns-then-eq : goal.returns-then-eq
returns-then-eq g c =
    let old = c.args.old.now in
    let new = c.args.new.now in
    let same = (bytes_eq-Decides old new).0 (sym c.if-eq.ensures) in
    c.clear.ensures.items ∙ sym (equal_windows c.args.extent c.args.at old new (row_count old new) same)
