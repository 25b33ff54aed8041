use Rattle.std.proofs.Common.{◌≡◌, ◌+◌, ◌-◌, ◌≤◌, length, take, drop, refl, arith}
use Rattle.std.proofs.lemmas.List.{take-take, length-take-le, length-drop}
use Rattle.bx_dump.specs.private.Scan.{EndsQuiet}
use Rattle.bx_dump.proofs.ScanLemmas.{none_quiet, quiet_step}
use Rattle.bx_dump.proofs.strings.dump.skippable_windows.Goals as goal

pub loop-done-init : goal.loop-done-init
loop-done-init c = record { inside = omega arith; quiet = none_quiet c.args.least }

pub loop-done-preserved : goal.loop-done-preserved
loop-done-preserved c =
    let before = c.loop-done.invariant in
    let bytes = c.args.bytes.now in
    let done = c.loop-done.done in
    let least = c.args.least in
    let more = c.last_other-more.result in
    let inside = c.last_other-more.ensures.within in
    let window = length-take-le least (drop done bytes) (omega (arith, length-drop done bytes, c.loop-done-test.true, before.inside)) in
    let size : done + least - done ≡ least = omega arith in
    let within : more ≤ length (take least (drop done bytes)) = rw size at inside in
    let few : more ≤ least = omega (arith, window, within) in
    let long : more ≤ length (drop done bytes) = omega (arith, few, length-drop done bytes, c.loop-done-test.true) in
    let other : EndsQuiet (take more (take least (drop done bytes))) = rw size at c.last_other-more.ensures.other in
    let part : EndsQuiet (take more (drop done bytes)) = rw (take-take more least (drop done bytes) few) at other in
    record {
      inside = omega (arith, long, length-drop done bytes, before.inside, c.loop-done-test.true);
      quiet = quiet_step least bytes (take more (drop done bytes)) done more before.quiet part (omega (arith, few, length-take-le more (drop done bytes) long)) refl;
    }
