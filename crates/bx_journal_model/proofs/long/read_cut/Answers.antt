use Rattle.std.proofs.Common.{◌≡◌, ◌∙◌, ◌+◌, ◌-◌, ◌≤◌, ◌<◌, List, ℕ, inl, inr, length, take, drop, refl, ap, sym, subst, arith}
use Rattle.bx_journal_model.specs.Long.{BeginsAlike, HasShortLine, IsCutLine}
use Rattle.bx_journal_model.proofs.LongLines.{begins_cut, begins_none, begins_whole, cut_before, front_read, least_of, zero_or}
use Rattle.bx_journal_model.proofs.long.read_cut.Goals as goal

pub returns-in-Some-clause-cut : goal.returns-in-Some-clause-cut
returns-in-Some-clause-cut g c =
    let T = g.T.TextStore in
    let buf : List ℕ = c.read_at.new.buf in
    let size : ℕ = c.min-size.result in
    let is : length c.split_at_mut-now.result.0.now ≡ size = omega (arith, c.split_at_mut-now.ensures.front_len) in
    let few : length buf ≡ size = omega (arith, c.read_at.auto.buf, is) in
    record {
      within = omega (arith, c.split_at_mut-now.ensures.front_len, c.min-size.ensures, c.read_at.auto.buf);
      below = omega (arith, c.min-size.ensures, c.requires.below);
      stands = inl (refl, λ h. front_read buf _ size few ∙ c.in_ok-read_at.ensures.bytes h ∙ ap (λ n. take n (drop c.args.at (T.text c.args.store.now))) is);
    }

pub returns-in-Some-clause-begins : goal.returns-in-Some-clause-begins
returns-in-Some-clause-begins g c wide h =
    let T = g.T.TextStore in
    let stored : List ℕ = T.text c.args.store.now in
    let buf : List ℕ = c.read_at.new.buf in
    let size : ℕ = c.min-size.result in
    let is : length c.split_at_mut-now.result.0.now ≡ size = omega (arith, c.split_at_mut-now.ensures.front_len) in
    let few : length buf ≡ size = omega (arith, c.read_at.auto.buf, is) in
    let f = c.in-Some.ensures.found in
    subst (BeginsAlike (take (c.args.len - c.args.at) (drop c.args.at stored))) (sym (front_read buf _ size few))
    (begins_whole stored buf c.args.at size (c.args.len - c.args.at) _ (c.in_ok-read_at.ensures.bytes h ∙ ap (λ n. take n (drop c.args.at stored)) is) (omega (arith, c.min-size.ensures)) f.0 f.1 f.2)

pub returns-clause-cut : goal.returns-clause-cut
returns-clause-cut g c =
    let T = g.T.TextStore in
    let now = c.in_ok-read_at.ensures in
    cut_before (T.faithful c.args.store.now) (T.faithful c.read_at.new.self) (T.text c.args.store.now) (T.text c.read_at.new.self) c.args.at c.args.len c.cut_line.new.window c.in_ok-cut.cut now.goes_on.faith.1 now.text c.in_ok-cut.ensures.cut

pub returns-clause-begins : goal.returns-clause-begins
returns-clause-begins g c wide h =
    let T = g.T.TextStore in
    let now = c.in_ok-read_at.ensures in
    let stored : List ℕ = T.text c.args.store.now in
    let buf : List ℕ = c.read_at.new.buf in
    let size : ℕ = c.min-size.result in
    let m : ℕ = c.args.len - c.args.at in
    let is : length c.split_at_mut-now.result.0.now ≡ size = omega (arith, c.split_at_mut-now.ensures.front_len) in
    let few : length buf ≡ size = omega (arith, c.read_at.auto.buf, is) in
    let cut = c.in_ok-cut.cut in
    let h1 = now.goes_on.faith.1 h in
    let same = now.text h in
    elim (zero_or cut.count) [
      | inl none ↦
          begins_none (T.faithful c.args.store.now) stored buf (take cut.count c.cut_line.new.window) c.args.at size m c.args.len 0 h refl (now.bytes h ∙ ap (λ n. take n (drop c.args.at stored)) is) few c.in_default.ensures.none
          (least_of size (length c.args.window.now) m c.min-size.ensures wide) (omega (arith, c.min-size.ensures)) (λ u. subst (λ t. HasShortLine (T.faithful c.args.store.now) t c.args.at c.args.len) same (λ v. c.in_ok-cut.ensures.none none h1) u)
      | inr some ↦
          let l = subst (λ t. IsCutLine (T.faithful c.read_at.new.self) (take cut.count c.cut_line.new.window) t c.args.at (cut.count + cut.left)) same (c.in_ok-cut.ensures.long some) in
          begins_cut (T.faithful c.read_at.new.self) (take cut.count c.cut_line.new.window) stored c.args.at (cut.count + cut.left) m h1 (omega (arith, c.in_ok-cut.ensures.cut.below)) l
    ]
