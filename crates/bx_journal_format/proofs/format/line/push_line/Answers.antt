use Rattle.std.proofs.Common.{◌≡◌, length, sym, ◌∙◌, ap, [], ◌∷◌, ◌++◌, map, arith}
use Rattle.std.proofs.lemmas.Grind.{common_steps}
use Rattle.std.proofs.lemmas.Result.{on_ok_weaker}
use Rattle.bx_journal_format.specs.Kept.{run_of}
use Rattle.bx_journal_format.proofs.Gathered.{push_first, push_on, push_apart}
use Rattle.bx_journal_format.proofs.format.line.push_line.Goals as goal

pub returns-in_default : goal.returns-in_default
returns-in_default g c =
    let same : c.reserve_exact.new.self.items ≡ c.pop.new.self.items = grind (arith, common_steps) in
    let none : length c.pop.new.self.items ≡ 0 = omega (arith, c.in_default.ensures.cases.1) in
    on_ok_weaker c.push.result (λ e. push_first c.args.runs.now.items c.reserve_exact.new.self.items c.push.new.runs.items (record { at = c.args.at; bytes = c.args.bytes.now })
    (ap length same ∙ none) (c.in_default.ensures.items ∙ ap (λ xs. xs ++ []) (sym same))
    (e ∙ ap (λ r. map run_of c.reserve_exact.new.self.items ++ r ∷ []) c.in_ok-piece_at.ensures)) c.push.ensures

pub returns-then-ends_at : goal.returns-then-ends_at
returns-then-ends_at g c =
    on_ok_weaker c.push-then-ends_at.result (push_on c.args.runs.now.items c.pop.new.self.items c.push-then-ends_at.new.runs.items c.in-Some.last (run_of c.in_ok-longer.field-0) (record { at = c.args.at; bytes = c.args.bytes.now })
    c.in-Some.ensures.items c.in_ok-longer.ensures (sym c.ends_at.ensures ∙ c.if-ends_at.true)) c.push-then-ends_at.ensures

pub returns : goal.returns
returns g c =
    on_ok_weaker c.push-3.result (push_apart c.args.runs.now.items c.pop.new.self.items c.push-2.new.runs.items c.push-3.new.runs.items c.in-Some.last (run_of c.in_ok-piece_at-2.field-0) (record { at = c.args.at; bytes = c.args.bytes.now })
    c.in-Some.ensures.items c.in_ok-piece_at-2.ensures (sym c.ends_at.ensures ∙ c.if-ends_at.false) c.in_ok-push.ensures) c.push-3.ensures
