use Rattle.std.proofs.Common.{◌≡◌, subst, ◌+◌, ◌++◌, length, take, drop, refl, ap, sym, ◌∙◌, arith, length-drop}
use Rattle.bx_image.proofs.CacheLemmas.{cache_again}
use Rattle.bx_journal_format.proofs.ReadLoop.{drop_twice}
use Rattle.bx_journal_format.proofs.TallyLemmas.{IsFirstLine}
use Rattle.bx_journal_read.specs.show.Differences.{diff_line}
use Rattle.bx_journal_read.proofs.AddedLemmas.{added_next, added_none}
use Rattle.bx_journal_read.proofs.BesideLemmas.{stayed_none, stayed_on}
use Rattle.bx_journal_read.proofs.show.differences.push_lines.Goals as goal

pub loop-rest-init : goal.loop-rest-init
loop-rest-init g c = record {
  added = λ h. added_none (diff_line (g.D.Device.image c.args.device.now) c.args.before) c.args.window.now c.args.text.now.items;
  cache = c.requires.cache;
  room = refl;
  left = refl;
  within = omega arith;
  image = stayed_none g.D.Device.faithful g.D.Device.image g.D.Device.survives g.D.Device.failures c.args.device.now;
}

pub push_beside-requires-clause-cache : goal.push_beside-requires-clause-cache
push_beside-requires-clause-cache g c =
    let inv = c.loop-rest.invariant in
    cache_again (g.D.Device.faithful c.args.device.now) (g.D.Device.faithful c.loop-rest.device) (g.D.Device.image c.args.device.now) (g.D.Device.image c.loop-rest.device) c.loop-rest.page c.loop-rest.now
    inv.image.faith.0 (λ h. inv.image.same (inv.image.faith.0 h)) inv.cache

pub loop-rest-preserved : goal.loop-rest-preserved
loop-rest-preserved g c =
    let f = c.in-Some.ensures.found in
    let inv = c.loop-rest.invariant in
    let now = c.in_ok-now.ensures in
    let line : IsFirstLine c.loop-rest.rest.now c.in-Some.i = record { below = f.0; plain = f.1; is = f.2 } in
    let long = length-drop c.loop-rest.taken c.args.window.now in
    record {
      added = λ h. added_next (diff_line (g.D.Device.image c.args.device.now) c.args.before) c.args.window.now c.loop-rest.rest.now c.loop-rest.taken c.in-Some.i
          c.args.text.now.items c.loop-rest.text.items c.push_beside.new.text.items (inv.added h) inv.left line
          (subst (λ im. c.push_beside.new.text.items ≡ c.loop-rest.text.items ++ diff_line im c.args.before (take c.in-Some.i c.loop-rest.rest.now)) (inv.image.same h) (now.added (inv.image.faith.1 h)));
      cache = cache_again (g.D.Device.faithful c.loop-rest.device) (g.D.Device.faithful c.args.device.now) (g.D.Device.image c.loop-rest.device) (g.D.Device.image c.args.device.now) c.push_beside.new.page
          c.in_ok-now.now inv.image.faith.1 (λ h. sym (inv.image.same h)) now.cache;
      room = now.room ∙ inv.room;
      left = c.split_at.ensures.back ∙ ap (drop (c.in-Some.i + 1)) inv.left ∙ drop_twice c.loop-rest.taken (c.in-Some.i + 1) c.args.window.now;
      within = omega (arith, f.0, inv.within, ap length inv.left, long);
      image = stayed_on inv.image now.puts.stays.same now.puts.survives now.puts.stays.faith now.puts.stays.no_failure;
    }
