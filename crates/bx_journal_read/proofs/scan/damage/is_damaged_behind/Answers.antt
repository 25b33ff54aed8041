use Rattle.std.proofs.Common.{◌≡◌, ◌∙◌, ◌-◌, ◌==◌, ℕ, List, true, length, take, drop, ap, arith}
use Rattle.std.proofs.lemmas.Grind.{common_steps}
use Rattle.bx_journal_read.proofs.DamageLemmas.{damaged_behind}
use Rattle.bx_journal_read.proofs.scan.damage.is_damaged_behind.Goals as goal

pub returns-clause-damaged : goal.returns-clause-damaged
returns-clause-damaged g c yes_ =
    let T = g.T.TextStore in
    let w = c.args.walk in
    let n : ℕ = c.min-size.result in
    let now = c.in_ok-read_at.ensures in
    let is : length c.split_at_mut-bytes.result.0.now ≡ n = omega (arith, c.split_at_mut-bytes.ensures.front_len) in
    damaged_behind (T.faithful c.args.store.now) (T.text c.args.store.now) c.read_at.new.buf c.args.len n _ w c.requires.walked
    (λ h. now.bytes h ∙ ap (λ m. take m (drop w.at (T.text c.args.store.now))) is)
    (omega (arith, c.read_at.auto.buf, is)) (omega (arith, c.min-size.ensures, c.requires.walked.below))
    (λ e. grind (arith, common_steps)) (λ r same more none. c.is_damaged.ensures r same yes_ more none)
