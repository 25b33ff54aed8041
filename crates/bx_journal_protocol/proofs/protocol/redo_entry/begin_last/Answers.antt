use Rattle.std.proofs.Common.{◌≡◌, ◌-◌, ◌^◌, ℕ, suc, List, length, ap, ◌∙◌, subst, sym, arith}
use Rattle.std.specs.Prelude.{slice_index_or, IfOk, Vec}
use Rattle.bx_image.specs.Over.{LieWithin}
use Rattle.bx_image.specs.declared.record.spans.Span.{Span}
use Rattle.bx_journal_protocol.specs.write.Touched.{IsHeadBegun}
use Rattle.bx_journal_protocol.proofs.TouchedLemmas.{begun_of, last_begun, last_within, none_begun, ranges_in}
use Rattle.bx_journal_protocol.proofs.protocol.redo_entry.begin_last.Goals as goal
use Rattle.bx_journal_protocol.proofs.protocol.redo_entry.begin_last.Goals.{After-as_slice-ranges}

-- the last of the ranges
spans : (g : _) (c : After-as_slice-ranges g) → c.as_slice-ranges.result.now ≡ (slice_index_or c.args.takens.now (length c.args.takens.now - 1) c.index-takens-count.result).items
spans g c = c.as_slice-ranges.ensures.value ∙ ap (λ (v : Vec Span g.row.A.Denot). v.items) c.index-takens-count.is

some : (g : _) (c : After-as_slice-ranges g) → length c.args.takens.now ≡ suc (length c.args.takens.now - 1)
some g c = omega (arith, c.if-count-eq0.false)

within : (g : _) (c : After-as_slice-ranges g) → LieWithin c.args.len c.as_slice-ranges.result.now
within g c =
    let ts = c.args.takens.now in
    subst (LieWithin c.args.len) (sym (spans g c)) (last_within c.args.len ts (length ts - 1) c.index-takens-count.result (some g c) c.requires.within)

pub look_and_begin-requires-clause-ordered : goal.look_and_begin-requires-clause-ordered
look_and_begin-requires-clause-ordered g c = ranges_in c.args.len (2 ^ 64) _ (omega arith) (within g (goal.at.look_and_begin-requires-clause-ordered g c).After-as_slice-ranges)

pub look_and_begin-requires-clause-ranges : goal.look_and_begin-requires-clause-ranges
look_and_begin-requires-clause-ranges g c faithful =
    ranges_in c.args.len (length (g.D.Device.image c.args.image.now)) _ (omega (arith, c.requires.long faithful)) (within g (goal.at.look_and_begin-requires-clause-ranges g c).After-as_slice-ranges)

pub returns-then-count-eq0-clause-begun : goal.returns-then-count-eq0-clause-begun
returns-then-count-eq0-clause-begun g c = none_begun (g.D.Device.faithful c.args.image.now) (g.D.Device.image c.args.image.now) c.args.number c.args.takens.now c.args.page.now.items _ (omega (arith, c.if-count-eq0.true))

pub returns-clause-begun : goal.returns-clause-begun
returns-clause-begun g c =
    let at = goal.at.returns-clause-begun g c in
    let x : List ℕ = g.D.Device.image c.args.image.now in
    let ts = c.args.takens.now in
    let page : List ℕ = c.look_and_begin.new.page.items in
    let faithful : Type 0 = g.D.Device.faithful c.args.image.now in
    let did = c.look_and_begin.ensures in
    let begun = begun_of {faithful = faithful} x c.args.number c.as_slice-ranges.result.now page c.look_and_begin.result did.begun did.bytes did.long did.some did.place in
    last_begun faithful x c.args.number ts (length ts - 1) c.index-takens-count.result page c.look_and_begin.result (some g at.After-as_slice-ranges)
    (subst (λ rs. IfOk c.look_and_begin.result (IsHeadBegun faithful x c.args.number rs page)) (spans g at.After-as_slice-ranges) begun)
