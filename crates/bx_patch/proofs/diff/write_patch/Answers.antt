use Rattle.std.proofs.Common.{◌∙◌, arith, ◌++◌, List, ℕ, length, sym, subst}
use Rattle.std.specs.Prelude.{IfErr, codes}
use Rattle.bx_patch.specs.Diff.{WritesPrefix}
use Rattle.bx_patch.specs.Text.{with_end, headed, length_text, patch_lines, patch_text}
use Rattle.bx_patch.proofs.CountLemmas.{head_is}
use Rattle.bx_patch.proofs.DiffLemmas.{ended_is}
use Rattle.bx_patch.proofs.WritingLemmas.{ended_some, memory_untold, nothing_written}
use Rattle.bx_patch.proofs.diff.write_patch.Goals as goal

pub returns-in-Err-clause-part : goal.returns-in-Err-clause-part
returns-in-Err-clause-part g c = λ faithful new_is known.
    let x = g.D.Device.image c.args.old.now in
    let y = g.E.Device.image c.args.new.now in
    nothing_written c.in-Err.fault (g.W.Write.contents c.args.out.now)
    (patch_text c.args.extent x y) (ended_some (headed (length_text (length x) (length y) ++ codes "\n") (patch_lines c.args.extent x y))) c.in-Err.ensures.untold

pub returns-in-Err-memory_for-clause-part : goal.returns-in-Err-memory_for-clause-part
returns-in-Err-memory_for-clause-part g c = λ faithful new_is known.
    let x = g.D.Device.image c.args.old.now in
    let y = g.E.Device.image c.args.new.now in
    nothing_written c.in-Err-memory_for.fault (g.W.Write.contents c.args.out.now)
    (patch_text c.args.extent x y) (ended_some (headed (length_text (length x) (length y) ++ codes "\n") (patch_lines c.args.extent x y))) (memory_untold c.in-Err-memory_for.fault c.in-Err-memory_for.ensures.kind)

pub returns-clause-part : goal.returns-clause-part
returns-clause-part g c = λ faithful new_is known.
    let x = g.D.Device.image c.args.old.now in
    let y = g.E.Device.image c.args.new.now in
    let on = c.in-Ok.ensures in
    let head = c.as_bytes.result.now in
    let extent = c.args.extent in
    let P = λ (text : List ℕ). IfErr c.compare_devices.result (WritesPrefix (g.W.Write.contents c.args.out.now) (g.W.Write.contents c.compare_devices.new.out) text) in
    let here = subst (λ (b : List ℕ). g.S.Alike.AreAlike c.args.alike.now (g.D.Device.image c.lengths_of.new.old) b) (sym (on.new.stays new_is))
    (subst (λ (a : List ℕ). g.S.Alike.AreAlike c.args.alike.now a y) (sym (on.old.stays faithful)) known) in
    let part = c.compare_devices.ensures.part (on.old.goes_on.faith.1 faithful) (on.new.goes_on.faith.1 new_is) here in
    let first = subst (λ (a : List ℕ). P (with_end (headed head (patch_lines extent a (g.E.Device.image c.lengths_of.new.new))))) (on.old.stays faithful) part in
    let both = subst (λ (b : List ℕ). P (with_end (headed head (patch_lines extent x b)))) (on.new.stays new_is) first in
    subst P (ended_is extent head x y c.in-Ok.lengths.old c.in-Ok.lengths.new (on.old_len faithful) (on.new_len new_is) (c.as_bytes.ensures.value ∙ c.in-Ok-memory_for.ensures.head)) both

pub compare_devices-requires-clause-head : goal.compare_devices-requires-clause-head
compare_devices-requires-clause-head g c =
    head_is c.in-Ok.lengths.old c.in-Ok.lengths.new c.as_bytes.result.now (omega (arith, c.in-Ok.ensures.most)) (omega (arith, c.in-Ok.ensures.most))
    (c.as_bytes.ensures.value ∙ c.in-Ok-memory_for.ensures.head)
