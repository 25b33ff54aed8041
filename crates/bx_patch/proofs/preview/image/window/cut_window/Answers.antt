use Rattle.std.proofs.Common.{◌-◌, arith}
use Rattle.bx_patch.proofs.ChangedWindow.{cut_behind, cut_within}
use Rattle.bx_patch.proofs.preview.image.window.cut_window.Goals as goal

pub returns-then-base-at-clause-put : goal.returns-then-base-at-clause-put
returns-then-base-at-clause-put c y win =
    rw c.in-Some.is (cut_within c.args.buf.now c.clear_from.new.buf y c.args.at c.in-Some.base 0 (λ j below. absurd (omega (arith, below)))
    (omega arith) c.clear_from.ensures.length c.clear_from.ensures.front c.clear_from.ensures.zeros win)

pub returns-then-base-at-2-clause-put : goal.returns-then-base-at-2-clause-put
returns-then-base-at-2-clause-put c y win =
    let new = c.clear_from-then-base-at-2.new.buf in
    let cleared = c.clear_from-then-base-at-2.ensures in
    rw c.in-Some.is (cut_within c.args.buf.now new y c.args.at c.in-Some.base (c.in-Some.base - c.args.at) (λ j below. omega (arith, below))
    (omega arith) cleared.length cleared.front cleared.zeros win)

pub returns-else-base-at-2-clause-put : goal.returns-else-base-at-2-clause-put
returns-else-base-at-2-clause-put c y win = rw c.in-Some.is (cut_behind c.args.buf.now y c.args.at c.in-Some.base (omega arith) win)
