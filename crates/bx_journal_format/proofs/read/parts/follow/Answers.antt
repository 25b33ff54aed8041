use Rattle.std.proofs.Common.{◌≡◌, ◌+◌, ◌-◌, ◌≤◌, length, drop, subst, arith, length-drop}
use Rattle.std.proofs.lemmas.List.{take_all}
use Rattle.bx_journal_format.specs.read.Followed.{IsFullSaved}
use Rattle.bx_journal_format.proofs.OverLemmas.{IsPutOver, over_length}
use Rattle.bx_journal_format.proofs.StretchLemmas.{stretch_on}
use Rattle.bx_journal_format.proofs.read.parts.follow.Goals as goal

pub loop-more-preserved : goal.loop-more-preserved
loop-more-preserved c =
    let inv = c.loop-more.invariant in
    let now = c.loop-more.now in
    let window = c.loop-more.window in
    let from = c.args.from + now.taken in
    let more = c.in-Some.more in
    let full : IsFullSaved c.args.len (now.at + now.count) (drop from window) more =
    subst (λ rest. IsFullSaved c.args.len (now.at + now.count) rest more) (take_all (length window - from) (drop from window) (omega (arith, length-drop from window))) c.in-Some.ensures in
    let long : length more ≡ 16 = omega arith in
    let inside : from + 68 ≤ length window = omega (arith, full.long, length-drop from window, inv.within) in
    let put : IsPutOver window (c.args.used + now.count) more c.put_over.new.text = record { within = omega (arith, inside, inv.order, long); is = c.put_over.ensures } in
    let same = over_length window (c.args.used + now.count) more c.put_over.new.text put in
    record {
      gives = λ old so. stretch_on c.args.len c.args.used c.args.from old window c.put_over.new.text more now c.requires.order (inv.gives old so) long full put;
      order = omega (arith, inv.order);
      within = omega (arith, inside, same);
      same = omega (arith, same, inv.same);
    }
