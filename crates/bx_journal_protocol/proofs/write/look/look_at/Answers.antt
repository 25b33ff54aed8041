use Rattle.std.proofs.Common.{◌-◌, ℕ, List, slice_index_or, length, take, drop, ap, refl, ◌∙◌, subst, arith}
use Rattle.bx_image.specs.declared.record.spans.Span.{Span}
use Rattle.bx_image.specs.Change.{AreBytes, HaveBytes}
use Rattle.bx_image.proofs.Devices.{GoesOn_refl, GoesOn_then}
use Rattle.bx_journal_protocol.specs.write.Ranges.{kept_over}
use Rattle.bx_journal_protocol.proofs.LookLemmas.{have_more}
use Rattle.bx_journal_protocol.proofs.RangeLemmas.{range_ends, range_some, next_range}
use Rattle.bx_journal_format.proofs.WriterLemmas.{take_whole}
use Rattle.bx_journal_protocol.proofs.write.look.look_at.Goals as goal

pub loop-range-init : goal.loop-range-init
loop-range-init g c = record { bytes = λ faithful. tt; window = refl; image = λ faithful. refl; survives = λ faithful y there. there; goes_on = GoesOn_refl _ _ _ _ }

pub look_range-requires-clause-order : goal.look_range-requires-clause-order
look_range-requires-clause-order g c =
    let k : ℕ = c.loop-range.range-index in
    let here = next_range c.args.ranges.now k (record { at = 0; end = 0 }) (omega (arith, c.loop-range-test.true)) in
    omega (arith, range_some _ c.args.ranges.now _ k _ c.requires.ordered here)

pub look_range-requires-clause-range : goal.look_range-requires-clause-range
look_range-requires-clause-range g c now =
    let before = c.loop-range.invariant in
    let first = before.goes_on.faith.0 now in
    let k : ℕ = c.loop-range.range-index in
    let here = next_range c.args.ranges.now k (record { at = 0; end = 0 }) (omega (arith, c.loop-range-test.true)) in
    omega (arith, range_ends _ c.args.ranges.now _ k _ (c.requires.ranges first) here, ap length (before.image first))

pub loop-range-preserved : goal.loop-range-preserved
loop-range-preserved g c =
    let before = c.loop-range.invariant in
    let x : List ℕ = g.D.Device.image c.args.image.now in
    let k : ℕ = c.loop-range.range-index in
    let r : Span = slice_index_or c.args.ranges.now k (record { at = 0; end = 0 }) in
    record {
      bytes = λ first. have_more x c.args.ranges.now k (record { at = 0; end = 0 }) (omega (arith, c.loop-range-test.true)) (before.bytes first)
          (subst (λ y. AreBytes (take (r.end - r.at) (drop r.at y))) (before.image first) (c.in_ok-look_range.ensures.bytes (before.goes_on.faith.1 first)));
      window = c.in_ok-look_range.ensures.window ∙ before.window;
      image = λ first. c.in_ok-look_range.ensures.image (before.goes_on.faith.1 first) ∙ before.image first;
      survives = λ first y there. before.survives first y (c.in_ok-look_range.ensures.survives (before.goes_on.faith.1 first) y there);
      goes_on = GoesOn_then _ _ _ _ _ _ _ before.goes_on c.in_ok-look_range.ensures.goes_on;
    }

pub returns-clause-bytes : goal.returns-clause-bytes
returns-clause-bytes g c faithful =
    let all = take_whole c.args.ranges.now c.loop-range.range-index (omega (arith, c.loop-range-test.false)) in
    subst (λ rs. HaveBytes (kept_over (g.D.Device.image c.args.image.now) rs).runs) all (c.loop-range.invariant.bytes faithful)

pub returns-in_err-look_range-clause-survives : goal.returns-in_err-look_range-clause-survives
returns-in_err-look_range-clause-survives g c first y there =
    let before = c.loop-range.invariant in
    before.survives first y (c.in_err-look_range.ensures.survives (before.goes_on.faith.1 first) y there)
