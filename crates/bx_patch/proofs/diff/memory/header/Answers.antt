use Rattle.std.proofs.Common.{◌++◌, ◌∙◌, ap}
use Rattle.bx_patch.specs.private.Diff.{lengths_line}
use Rattle.bx_patch.proofs.DiffLemmas.{lengths_are}
use Rattle.bx_patch.proofs.diff.memory.header.Goals as goal

pub returns-in-Ok : goal.returns-in-Ok
returns-in-Ok g c =
    let lengths = c.args.lengths in
    c.in-Ok.ensures ∙ ap (λ t. t ++ lengths_line lengths.old lengths.new) c.new-line.ensures.bytes ∙ lengths_are lengths.old lengths.new
