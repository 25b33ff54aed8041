use Rattle.std.proofs.Common.{◌≡◌, length, map, ap, sym, ◌∙◌, subst}
use Rattle.bx_image.specs.Image.{zeros}
use Rattle.bx_image.specs.Over.{run_over, LieWithin}
use Rattle.bx_image.specs.private.Spans.{StandOver}
use Rattle.bx_image.proofs.FillLemmas.{length-zeros, LieBelow-StandOver}
use Rattle.bx_image.proofs.OverLemmas.{runs_are}
use Rattle.bx_image.proofs.SpanLemmas.{AllWithin-StandOver}
use Rattle.bx_image.proofs.record.fill.zeros_over.Goals as goal

pub returns-in-Ok-clause-zeros : goal.returns-in-Ok-clause-zeros
returns-in-Ok-clause-zeros g c =
    let x = zeros c.args.len in
    let long = length-zeros c.args.len in
    let are : c.in-Ok.runs.items ≡ map (run_over x) c.args.spans.now =
    runs_are x c.args.spans.now c.in-Ok.runs.items (subst (λ n. LieWithin n c.args.spans.now) (sym long) c.requires.within) c.in-Ok.ensures.over (c.in-Ok.ensures.runs c.args.len c.requires.within) in
    ap (λ n. record { len = n; runs = c.from_vec.result }) (sym long) ∙ ap (λ rs. record { len = length x; runs = rs }) (c.from_vec.ensures ∙ are)

pub returns-in-Ok-clause-within : goal.returns-in-Ok-clause-within
returns-in-Ok-clause-within g c = AllWithin-StandOver _ _ _ (subst (StandOver c.args.spans.now) (sym c.from_vec.ensures) c.in-Ok.ensures.over) c.requires.within

pub returns-in-Ok-clause-below : goal.returns-in-Ok-clause-below
returns-in-Ok-clause-below g c = LieBelow-StandOver _ _ _ (subst (StandOver c.args.spans.now) (sym c.from_vec.ensures) c.in-Ok.ensures.over) c.requires.within
