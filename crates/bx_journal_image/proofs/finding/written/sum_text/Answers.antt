use Rattle.std.proofs.Common.{◌≡◌, ◌-◌, ◌+◌, ◌<◌, ◌≤◌, ◌∙◌, ◌++◌, [], ℕ, length, length-append, take, drop, min, ap, refl, subst, sym, arith}
use Rattle.std.proofs.lemmas.Bool.{ltb-true}
use Rattle.bx_image.proofs.CacheLemmas.{cache_again}
use Rattle.bx_journal_format.specs.Text.{split}
use Rattle.bx_journal_read.specs.scan.Windows.{rest_to}
use Rattle.bx_journal_image.specs.Written.{Sums, at_lines}
use Rattle.bx_journal_image.proofs.BlockLemmas.{none_taken, nothing_to, window_ends}
use Rattle.bx_journal_image.proofs.LookLemmas.{both_none, then_image, then_text}
use Rattle.bx_journal_image.proofs.WrittenLemmas.{last_lines, nothing_lines, sums_same, sums_then, window_lines}
use Rattle.bx_journal_image.proofs.finding.written.sum_text.Goals as goal

pub loop-at-init : goal.loop-at-init
unfolding split
loop-at-init g c = record {
  low = omega arith;
  below = c.requires.order;
  sums = λ hi hs. nothing_lines (g.D.Device.image c.args.image.now) (g.T.TextStore.text c.args.store.now) c.args.part.from c.args.sum.now;
  whole = λ h. ap (λ t. (split t).rest) (nothing_to c.args.part.from (g.T.TextStore.text c.args.store.now));
  cache = record { long = c.requires.long; are = λ h. refl; inside = omega arith };
  page = c.requires.page;
  window = c.requires.window;
  looks = both_none g.D.Device g.T.TextStore c.args.image.now c.args.store.now;
}

pub loop-at-preserved : goal.loop-at-preserved
loop-at-preserved g c =
    let inv = c.loop-at.invariant in
    let now = c.in_ok-read_at.ensures in
    let lines = c.in_ok-lines.ensures in
    let x = g.D.Device.image c.args.image.now in
    let text = g.T.TextStore.text c.args.store.now in
    let n : ℕ = c.min-size.result in
    let is : length c.split_at_mut-now.result.0.now ≡ n = omega (arith, c.split_at_mut-now.ensures.front_len) in
    let few : c.in_ok-lines.lines.taken ≤ n = omega (arith, lines.within, c.read_at.auto.buf, is) in
    let read : g.T.TextStore.faithful c.args.store.now → c.read_at.new.buf ≡ take n (drop c.loop-at.at text) =
    λ h. now.bytes (inv.looks.text.faith.1 h) ∙ ap (λ k. take k (drop c.loop-at.at (g.T.TextStore.text c.loop-at.store))) is ∙ ap (λ y. take n (drop c.loop-at.at y)) (inv.looks.text.same h) in
    record {
      low = omega (arith, inv.low);
      below = omega (arith, inv.below, few, c.min-size.ensures, c.loop-at-test.true);
      sums = λ hi hs. sums_same c.args.sum.now c.sum_lines.new.sum _ _
          (window_lines x text c.read_at.new.buf c.args.part.from c.loop-at.at n inv.low (read hs) (inv.whole hs) c.in_ok-lines.lines.taken few lines.lines)
          (sums_then c.args.sum.now c.loop-at.sum c.sum_lines.new.sum _ _ (inv.sums hi hs)
          (subst (λ y. Sums c.loop-at.sum c.sum_lines.new.sum (at_lines y c.read_at.new.buf)) (inv.looks.image.same hi) (lines.sums (inv.looks.image.faith.1 hi))));
      whole = λ h. window_ends 0 c.args.part.from c.loop-at.at n c.in_ok-lines.lines.taken text c.read_at.new.buf [] [] [] inv.low (read h) few (inv.whole h) lines.whole;
      cache = cache_again (g.D.Device.faithful c.loop-at.image) (g.D.Device.faithful c.args.image.now) (g.D.Device.image c.loop-at.image) x c.sum_lines.new.page c.in_ok-lines.lines.cached
          inv.looks.image.faith.1 (λ h. sym (inv.looks.image.same h)) lines.cache;
      page = lines.room ∙ inv.page;
      window = omega (arith, inv.window, c.read_at.auto.buf);
      looks = then_image g.D.Device g.T.TextStore (then_text g.D.Device g.T.TextStore inv.looks (record { text = now.text; survives = now.survives; goes_on = now.goes_on })) lines.reads;
    }

pub returns-clause-sums : goal.returns-clause-sums
returns-clause-sums g c = λ hi hs all.
    let inv = c.loop-at.invariant in
    let end : c.loop-at.at ≡ c.args.part.to = omega (arith, inv.below, c.loop-at-test.false) in
    sums_same c.args.sum.now c.loop-at.sum _ _ (ap (λ n. at_lines (g.D.Device.image c.args.image.now) (rest_to n c.args.part.from (g.T.TextStore.text c.args.store.now))) end) (inv.sums hi hs)

pub returns-then-lines-eq0-clause-sums : goal.returns-then-lines-eq0-clause-sums
returns-then-lines-eq0-clause-sums g c = λ hi hs less.
    let inv = c.loop-at.invariant in
    let now = c.in_ok-read_at.ensures in
    let lines = c.in_ok-lines.ensures in
    let x = g.D.Device.image c.args.image.now in
    let text = g.T.TextStore.text c.args.store.now in
    let buf = c.read_at.new.buf in
    let rest = c.split_at_mut-now.result.1.now in
    let n : ℕ = c.min-size.result in
    let is : length c.split_at_mut-now.result.0.now ≡ n = omega (arith, c.split_at_mut-now.ensures.front_len) in
    let read : buf ≡ take n (drop c.loop-at.at text) =
    now.bytes (inv.looks.text.faith.1 hs) ∙ ap (λ k. take k (drop c.loop-at.at (g.T.TextStore.text c.loop-at.store))) is ∙ ap (λ y. take n (drop c.loop-at.at y)) (inv.looks.text.same hs) in
    let short : n < length (buf ++ rest) = ltb-true n (length (buf ++ rest)) less in
    let ends : c.loop-at.at + n ≡ c.args.part.to =
    omega (arith, short, length-append buf rest, c.read_at.auto.buf, is, c.split_at_mut-now.ensures.back_len, c.min-size.ensures, c.loop-at-test.true) in
    let none : (split buf).lines ≡ [] = none_taken buf c.in_ok-lines.lines.taken c.if-lines-eq0.true lines.lines in
    sums_same c.args.sum.now c.sum_lines.new.sum _ _ (last_lines x text buf c.args.part.from c.loop-at.at n inv.low read (inv.whole hs) c.args.part.to ends none)
    (sums_then c.args.sum.now c.loop-at.sum c.sum_lines.new.sum _ _ (inv.sums hi hs)
    (subst (λ y. Sums c.loop-at.sum c.sum_lines.new.sum (at_lines y buf)) (inv.looks.image.same hi) (lines.sums (inv.looks.image.faith.1 hi))))

pub returns-then-lines-eq0-clause-long : goal.returns-then-lines-eq0-clause-long
returns-then-lines-eq0-clause-long g c = λ hs less.
    let inv = c.loop-at.invariant in
    let now = c.in_ok-read_at.ensures in
    let text = g.T.TextStore.text c.args.store.now in
    let n : ℕ = c.min-size.result in
    let is : length c.split_at_mut-now.result.0.now ≡ n = omega (arith, c.split_at_mut-now.ensures.front_len) in
    let read : c.read_at.new.buf ≡ take n (drop c.loop-at.at text) =
    now.bytes (inv.looks.text.faith.1 hs) ∙ ap (λ k. take k (drop c.loop-at.at (g.T.TextStore.text c.loop-at.store))) is ∙ ap (λ y. take n (drop c.loop-at.at y)) (inv.looks.text.same hs) in
    let size : n ≡ min 65536 (c.args.part.to - c.loop-at.at) = c.min-size.ensures ∙ ap (λ k. min k (c.args.part.to - c.loop-at.at)) inv.window in
    record {
      at = c.loop-at.at;
      low = inv.low;
      below = c.loop-at-test.true;
      long = ap (λ k. (split (take k (drop c.loop-at.at text))).lines) (sym size) ∙ sym (ap (λ t. (split t).lines) read)
          ∙ none_taken c.read_at.new.buf c.in_ok-lines.lines.taken c.if-lines-eq0.true c.in_ok-lines.ensures.lines;
    }
