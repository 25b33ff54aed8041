use Rattle.std.proofs.Common.{◌≡◌, ◌-◌, ◌^◌, ◌∙◌, min, ap, subst, sym, arith}
use Rattle.std.specs.Prelude.{slice_index_or, Vec}
use Rattle.std.proofs.lemmas.List.{take_all}
use Rattle.bx_image.specs.Over.{LieWithin}
use Rattle.bx_image.specs.declared.record.spans.Span.{Span}
use Rattle.bx_journal_protocol.specs.write.Ranges.{left_len}
use Rattle.bx_journal_protocol.specs.write.Touched.{entries_over}
use Rattle.bx_journal_protocol.proofs.TouchedLemmas.{over_more, told_at, told_ranges}
use Rattle.bx_journal_protocol.proofs.before.ranges.entries_len.Goals as goal

pub ranges_len-requires : goal.ranges_len-requires
ranges_len-requires g c =
    told_ranges _ (subst (LieWithin 281474976710655) (sym c.as_slice.ensures.value)
    (subst (λ (v : Vec Span g.row.A.Denot). LieWithin 281474976710655 v.items) (sym c.ranges-item.is) (told_at c.args.takens.now c.loop-ranges.ranges-index c.ranges-item.result c.loop-ranges-test.true c.requires.told)))

pub loop-ranges-preserved : goal.loop-ranges-preserved
loop-ranges-preserved g c =
    let here : left_len c.as_slice.result.now 0 ≡ left_len (slice_index_or c.args.takens.now c.loop-ranges.ranges-index c.ranges-item.result).items 0 =
    ap (λ rs. left_len rs 0) c.as_slice.ensures.value ∙ ap (λ (v : Vec Span g.row.A.Denot). left_len v.items 0) c.ranges-item.is in
    omega (arith, over_more c.args.takens.now c.loop-ranges.ranges-index c.ranges-item.result c.loop-ranges-test.true, here, c.ranges_len.ensures, c.saturating_add.ensures, c.saturating_add-total.ensures, c.loop-ranges.invariant)

pub returns : goal.returns
returns g c = c.loop-ranges.invariant ∙ ap (λ ts. min (entries_over ts) (2 ^ 64 - 1)) (take_all c.loop-ranges.ranges-index c.args.takens.now (omega arith))
