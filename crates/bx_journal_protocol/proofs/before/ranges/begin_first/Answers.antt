use Rattle.std.proofs.Common.{◌≤◌, subst, sym, arith}
use Rattle.std.specs.List.{length_refill}
use Rattle.std.specs.Prelude.{reverse}
use Rattle.bx_journal_protocol.specs.write.Touched.{IsFirstBegun, IsFirstWithin}
use Rattle.bx_journal_protocol.proofs.before.ranges.begin_first.Goals as goal

pub begin_last-requires-clause-within : goal.begin_last-requires-clause-within
begin_last-requires-clause-within g c = subst (λ us. IsFirstWithin c.args.len (reverse us)) (sym c.as_slice.ensures.value) c.requires.within

pub returns-clause-begun : goal.returns-clause-begun
returns-clause-begun g c =
    subst (λ us. IsFirstBegun (g.D.Device.faithful c.args.image.now) (g.D.Device.image c.args.image.now) c.args.number (reverse us) c.begin_last.new.page.items c.in_ok-place.place) c.as_slice.ensures.value
    c.in_ok-place.ensures.begun

pub returns-clause-window : goal.returns-clause-window
returns-clause-window g c =
    subst (λ n. 16 ≤ n) (length_refill c.args.again.head.window.len c.args.again.head.window.items c.begin_last.new.window c.args.again.head.window.ok.0) (omega (arith, c.args.again.head.window.ok.0, c.requires.window))
