use Rattle.std.proofs.Common.{◌≡◌, ◌∙◌, ◌&&◌, ℕ, Some, min, length, ap, refl, sym, subst}
use Rattle.std.specs.Prelude.{nat_lt}
use Rattle.bx_image.specs.Change.{saved, touches}
use Rattle.bx_image.specs.Over.{saved_over, LeavesZerosOut, LieWithin}
use Rattle.bx_image.specs.private.Spans.{are_over, AddAllButZeros}
use Rattle.bx_image.proofs.SpanLemmas.{over_change}
use Rattle.bx_image.proofs.ZeroLemmas.{zeros_left}
use Rattle.bx_image.proofs.record.zeros.touched_but_zeros.Goals as goal

pub returns-in-Ok-clause-zeros : goal.returns-in-Ok-clause-zeros
returns-in-Ok-clause-zeros g c faithful change back =
    let x = g.D.Device.image c.args.device.now in
    let base = c.args.kept.now.len in
    let long : c.args.len ≡ length x = c.requires.long faithful in
    let old = c.in_ok-spans.spans.items in
    let front = over_change change (Some base) c.as_slice.result.now old c.min.result back.base (back.writes ∙ sym c.as_slice.ensures) c.in_ok-spans.ensures.over in
    zeros_left change base x old c.push_blocks.new.spans.items back.base (subst (λ n. LieWithin n c.push_blocks.new.spans.items) long c.in-Ok.ensures.within)
    (λ i. front i ∙ ap (λ n. nat_lt i n && touches change i) (c.min.ensures ∙ ap (λ n. min n base) long))
    (subst (λ n. AddAllButZeros x base n old c.push_blocks.new.spans.items) long (c.in-Ok.ensures.over faithful))
