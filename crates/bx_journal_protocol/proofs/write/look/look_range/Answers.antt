use Rattle.std.proofs.Common.{◌≡◌, ◌-◌, ℕ, length, take, drop, ap, ◌∙◌, subst, arith, refl}
use Rattle.bx_image.specs.Change.{AreBytes}
use Rattle.bx_image.proofs.Devices.{GoesOn_refl, GoesOn_then}
use Rattle.bx_journal_protocol.proofs.LookLemmas.{bytes_none, bytes_more}
use Rattle.bx_journal_protocol.proofs.write.look.look_range.Goals as goal

pub loop-from-init : goal.loop-from-init
loop-from-init g c = record {
  order = omega arith;
  within = c.requires.order;
  bytes = λ faithful. bytes_none c.args.at (g.D.Device.image c.args.image.now);
  window = refl;
  image = λ faithful. refl;
  survives = λ faithful y there. there;
  goes_on = GoesOn_refl _ _ _ _;
}

pub look_part-requires-clause-range : goal.look_part-requires-clause-range
look_part-requires-clause-range g c now =
    let before = c.loop-from.invariant in
    let first = before.goes_on.faith.0 now in
    omega (arith, c.split_at_mut-part.ensures.front_len, c.min-count.ensures, before.within, c.requires.range first, ap length (before.image first))

pub loop-from-preserved : goal.loop-from-preserved
loop-from-preserved g c =
    let before = c.loop-from.invariant in
    let n : ℕ = c.min-count.result in
    let is : length c.split_at_mut-part.result.0.now ≡ n = omega (arith, c.split_at_mut-part.ensures.front_len) in
    record {
      order = omega (arith, before.order);
      within = omega (arith, before.within, c.min-count.ensures);
      bytes = λ first. bytes_more (g.D.Device.image c.args.image.now) c.args.at c.loop-from.from n before.order (before.bytes first)
          (subst (λ m. AreBytes (take m (drop c.loop-from.from (g.D.Device.image c.args.image.now)))) is
          (subst (λ y. AreBytes (take (length c.split_at_mut-part.result.0.now) (drop c.loop-from.from y))) (before.image first) (c.in_ok-look_part.ensures.bytes (before.goes_on.faith.1 first))));
      window = omega (arith, before.window, c.look_part.auto.part);
      image = λ first. c.in_ok-look_part.ensures.image (before.goes_on.faith.1 first) ∙ before.image first;
      survives = λ first y there. before.survives first y (c.in_ok-look_part.ensures.survives (before.goes_on.faith.1 first) y there);
      goes_on = GoesOn_then _ _ _ _ _ _ _ before.goes_on c.in_ok-look_part.ensures.goes_on;
    }

pub returns-clause-bytes : goal.returns-clause-bytes
returns-clause-bytes g c faithful =
    let before = c.loop-from.invariant in
    let all : c.loop-from.from ≡ c.args.end = omega (arith, before.within, c.loop-from-test.false) in
    subst (λ e. AreBytes (take (e - c.args.at) (drop c.args.at (g.D.Device.image c.args.image.now)))) all (before.bytes faithful)

pub returns-in_err-look_part-clause-survives : goal.returns-in_err-look_part-clause-survives
returns-in_err-look_part-clause-survives g c first y there =
    let before = c.loop-from.invariant in
    before.survives first y (c.in_err-look_part.ensures.survives (before.goes_on.faith.1 first) y there)
