use Rattle.std.proofs.Common.{◌-◌, ap, arith, drop, take}
use Rattle.bx_journal_format.specs.Kept.{Run}
use Rattle.bx_journal_image.proofs.WrittenLemmas.{line_behind, line_near, line_none}
use Rattle.bx_journal_image.proofs.finding.written.sum_line.Goals as goal

pub returns-in_default-clause-sums : goal.returns-in_default-clause-sums
returns-in_default-clause-sums g c = λ h. line_none (g.D.Device.image c.args.image.now) c.args.line.now c.args.sum.now c.in_default.ensures

pub returns-then-cached-saved-clause-sums : goal.returns-then-cached-saved-clause-sums
returns-then-cached-saved-clause-sums g c = λ h.
    let run : Run = record { at = c.in-Some.saved.at; bytes = take c.in-Some.saved.count c.in-Some.saved.bytes } in
    line_behind (g.D.Device.image c.args.image.now) c.args.line.now c.args.sum.now run c.in-Some.ensures (omega (arith, c.if-cached-saved.true, c.requires.cache.long h))

pub returns-clause-sums : goal.returns-clause-sums
returns-clause-sums g c = λ h.
    let run : Run = record { at = c.in-Some.saved.at; bytes = take c.in-Some.saved.count c.in-Some.saved.bytes } in
    let x = g.D.Device.image c.args.image.now in
    let now = c.in_ok-kept.ensures in
    let from = run.at - c.in_ok-kept.kept.at in
    line_near x c.keep_cached.new.page c.args.line.now c.in_ok-kept.kept c.args.sum.now c.sum_bytes.new.sum run c.min-count.result _ c.in-Some.ensures (now.cache.are h) now.has
    (omega (arith, c.min-count.ensures, c.requires.cache.long h)) (ap (λ n. take n (drop from c.keep_cached.new.page)) (omega arith)) c.sum_bytes.ensures
