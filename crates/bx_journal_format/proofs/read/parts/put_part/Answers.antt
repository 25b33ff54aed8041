use Rattle.std.proofs.Common.{◌≡◌, ◌+◌, [], ◌∷◌, ◌++◌, length, append-nil, ap, sym, ◌∙◌, subst, arith, Some}
use Rattle.std.specs.Prelude.{All}
use Rattle.std.proofs.lemmas.Grind.{common_steps}
use Rattle.std.proofs.lemmas.List.Elements.{All-pop, All-push}
use Rattle.bx_journal_format.specs.Kept.{with_run}
use Rattle.bx_journal_format.specs.count.Parts.{LiesIn, part_run, with_parts}
use Rattle.bx_journal_format.proofs.StretchLemmas.{parts_longer, parts_push}
use Rattle.bx_journal_format.proofs.read.parts.put_part.Goals as goal

pub returns-in_default-clause-runs : goal.returns-in_default-clause-runs
returns-in_default-clause-runs g c window len runs lie =
    let pushed : c.push.new.self.items ≡ c.pop.new.self.items ++ c.args.more ∷ [] = grind (arith, common_steps) in
    ap (with_parts runs window) pushed ∙ parts_push window runs c.pop.new.self.items c.args.more
    ∙ ap (λ ps. with_run (with_parts runs window ps) (part_run window c.args.more)) (sym (c.in_default.ensures.items ∙ append-nil c.pop.new.self.items))

pub returns-then-goes_on-clause-runs : goal.returns-then-goes_on-clause-runs
returns-then-goes_on-clause-runs g c window len runs lie =
    let last = c.in-Some.last in
    let ends = c.goes_on.ensures c.if-goes_on.true in
    let both = All-pop (LiesIn (length window) len) c.args.parts.now.items c.pop.new.self.items (Some last) c.in-Some.ensures.items lie in
    let pushed : c.push-then-goes_on.new.self.items ≡ c.pop.new.self.items ++ record { at = last.at; from = last.from; count = last.count + c.args.more.count } ∷ [] = grind (arith, common_steps) in
    ap (with_parts runs window) pushed ∙ parts_longer window runs c.pop.new.self.items last c.args.more both.1.0 ends.0 ends.1
    ∙ ap (λ ps. with_run (with_parts runs window ps) (part_run window c.args.more)) (sym c.in-Some.ensures.items)

pub returns-then-goes_on-clause-lie : goal.returns-then-goes_on-clause-lie
returns-then-goes_on-clause-lie g c size len lie here =
    let last = c.in-Some.last in
    let ends = c.goes_on.ensures c.if-goes_on.true in
    let both = All-pop (LiesIn size len) c.args.parts.now.items c.pop.new.self.items (Some last) c.in-Some.ensures.items lie in
    let pushed : c.push-then-goes_on.new.self.items ≡ c.pop.new.self.items ++ record { at = last.at; from = last.from; count = last.count + c.args.more.count } ∷ [] = grind (arith, common_steps) in
    subst (λ ps. All (LiesIn size len) ps) (sym pushed)
    (All-push (LiesIn size len) c.pop.new.self.items (record { at = last.at; from = last.from; count = last.count + c.args.more.count }) both.0
    (omega (arith, here.0, ends.1), omega (arith, here.1, ends.0)))

pub returns-clause-runs : goal.returns-clause-runs
returns-clause-runs g c window len runs lie =
    let old : c.push-2.new.self.items ≡ c.args.parts.now.items = grind (arith, common_steps, c.in-Some.ensures.items) in
    let pushed : c.push-3.new.self.items ≡ c.push-2.new.self.items ++ c.args.more ∷ [] = grind (arith, common_steps) in
    ap (with_parts runs window) (pushed ∙ ap (λ ps. ps ++ c.args.more ∷ []) old) ∙ parts_push window runs c.args.parts.now.items c.args.more
