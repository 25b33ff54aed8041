use Rattle.std.proofs.Common.{◌≡◌, ◌∙◌, sym, refl, min, length, take, arith}
use Rattle.std.proofs.lemmas.Slice.Eq.{bytes_eq-Decides}
use Rattle.bx_dump.proofs.FoldByLemmas.{taken_again}
use Rattle.bx_dump.proofs.driver.wide.fold.WideFold.step.Goals as goal

pub returns-then-self-clause-taken : goal.returns-then-self-clause-taken
returns-then-self-clause-taken c n bytes k is taken =
    let last = c.args.self.now.last in
    let long : length last ≡ 256 = omega arith in
    let same = (bytes_eq-Decides c.args.line.now (take (min c.args.self.now.len 256) last)).0 (sym c.repeats.ensures ∙ c.if-repeats.true) in
    let again = taken_again n c.args.self.now (min c.args.self.now.len 256) c.args.line.now bytes k long refl same c.requires.some is taken in
    (again.0, c.if-self.true ∙ again.1)

pub returns-then-repeats-clause-taken : goal.returns-then-repeats-clause-taken
returns-then-repeats-clause-taken c n bytes k is taken =
    let last = c.args.self.now.last in
    let long : length last ≡ 256 = omega arith in
    let same = (bytes_eq-Decides c.args.line.now (take (min c.args.self.now.len 256) last)).0 (sym c.repeats.ensures ∙ c.if-repeats.true) in
    taken_again n c.args.self.now (min c.args.self.now.len 256) c.args.line.now bytes k long refl same c.requires.some is taken
