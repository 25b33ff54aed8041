use Rattle.std.proofs.Common.{◌≡◌, ◌+◌, ◌≤◌, ◌<◌, List, ℕ, inl, inr, length, length-take, take, drop, refl, subst, arith}
use Rattle.std.specs.Prelude.{IfSome, IfNone}
use Rattle.bx_journal_model.specs.Long.{HasShortLine, IsLongLine}
use Rattle.bx_journal_model.proofs.LongLines.{cut_is}
use Rattle.bx_journal_model.proofs.long.cut_line.Goals as goal

pub returns-clause-long : goal.returns-clause-long
returns-clause-long g c some =
    let T = g.T.TextStore in
    let front : List ℕ = take 1024 c.long_line.new.window in
    let few : length front ≡ 1024 = omega (arith, length-take 1024 c.long_line.new.window, c.in_ok-found.ensures.window, c.requires.room) in
    let l = subst (λ o. IfSome o (IsLongLine (T.faithful c.args.store.now) (T.text c.args.store.now) c.args.at c.args.len front)) c.in-Some.is c.in_ok-found.ensures.long in
    cut_is (T.faithful c.args.store.now) (T.text c.args.store.now) c.args.at c.args.len front c.put_newline.new.window c.in-Some.size _ l few c.put_newline.ensures.text refl

pub returns-clause-cut : goal.returns-clause-cut
returns-clause-cut g c =
    let T = g.T.TextStore in
    let front : List ℕ = take 1024 c.long_line.new.window in
    let few : length front ≡ 1024 = omega (arith, length-take 1024 c.long_line.new.window, c.in_ok-found.ensures.window, c.requires.room) in
    let l = subst (λ o. IfSome o (IsLongLine (T.faithful c.args.store.now) (T.text c.args.store.now) c.args.at c.args.len front)) c.in-Some.is c.in_ok-found.ensures.long in
    record {
      within = omega (arith, c.put_newline.ensures.window, c.in_ok-found.ensures.window, c.requires.room);
      below = omega (arith, l.within, l.long, few);
      stands = inr (cut_is (T.faithful c.args.store.now) (T.text c.args.store.now) c.args.at c.args.len front c.put_newline.new.window c.in-Some.size _ l few c.put_newline.ensures.text refl);
    }

pub returns-in_default-clause-cut : goal.returns-in_default-clause-cut
returns-in_default-clause-cut g c = record { within = omega arith; below = omega (arith, c.requires.below); stands = inl (refl, λ h. refl) }

pub returns-in_default-clause-none : goal.returns-in_default-clause-none
returns-in_default-clause-none g c zero_ =
    let T = g.T.TextStore in
    subst (λ o. IfNone o (HasShortLine (T.faithful c.args.store.now) (T.text c.args.store.now) c.args.at c.args.len)) c.in_default.is c.in_ok-found.ensures.none
