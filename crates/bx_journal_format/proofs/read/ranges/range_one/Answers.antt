use Rattle.std.proofs.Common.{◌≡◌, ◌+◌, ◌++◌, length, take, sym, subst, refl, ◌∙◌, arith, string_bytes, true, false}
use Rattle.std.specs.Prelude.{◌==◌}
use Rattle.bx_journal_format.specs.Kept.{Run}
use Rattle.bx_journal_format.specs.Ranges.{AreRanged}
use Rattle.bx_journal_format.proofs.RangeSteps.{behind_none, behind_some, ranged_anew, ranged_on, same_place, saved_fits}
use Rattle.bx_journal_format.proofs.read.ranges.range_one.Goals as goal

pub returns-in_default-clause-added : goal.returns-in_default-clause-added
returns-in_default-clause-added g c runs before a =
    subst (λ rs. AreRanged rs c.args.now (before ++ string_bytes c.args.text.now)) (sym (behind_none c.args.len runs c.args.line.now c.in_default.ensures)) a

pub overflow_add-result : goal.overflow_add-result
overflow_add-result g c =
    let p : Run = record { at = c.in-Some.read.at; bytes = take c.in-Some.read.count c.in-Some.read.bytes } in
    let touches : (p.at == c.args.now.at + c.args.now.count) ≡ true = sym c.goes_on.ensures ∙ c.if-goes_on.true in
    omega (arith, saved_fits c.args.len c.args.line.now p c.in-Some.ensures, same_place p.at (c.args.now.at + c.args.now.count) touches, c.ranges.len.fits)

pub returns-then-goes_on-clause-within : goal.returns-then-goes_on-clause-within
returns-then-goes_on-clause-within g c =
    let p : Run = record { at = c.in-Some.read.at; bytes = take c.in-Some.read.count c.in-Some.read.bytes } in
    let touches : (p.at == c.args.now.at + c.args.now.count) ≡ true = sym c.goes_on.ensures ∙ c.if-goes_on.true in
    omega (arith, saved_fits c.args.len c.args.line.now p c.in-Some.ensures, same_place p.at (c.args.now.at + c.args.now.count) touches)

pub returns-then-goes_on-clause-added : goal.returns-then-goes_on-clause-added
returns-then-goes_on-clause-added g c runs before a =
    let p : Run = record { at = c.in-Some.read.at; bytes = take c.in-Some.read.count c.in-Some.read.bytes } in
    let touches : (p.at == c.args.now.at + c.args.now.count) ≡ true = sym c.goes_on.ensures ∙ c.if-goes_on.true in
    subst (λ rs. AreRanged rs (record { at = c.args.now.at; count = c.args.now.count + length p.bytes; is_behind = c.args.now.is_behind }) (before ++ string_bytes c.args.text.now)) (sym (behind_some c.args.len runs c.args.line.now p c.in-Some.ensures))
    (ranged_on runs c.args.now (before ++ string_bytes c.args.text.now) p (length p.bytes) a touches refl)

pub returns-clause-within : goal.returns-clause-within
returns-clause-within g c = saved_fits c.args.len c.args.line.now (record { at = c.in-Some.read.at; bytes = take c.in-Some.read.count c.in-Some.read.bytes }) c.in-Some.ensures

pub returns-clause-added : goal.returns-clause-added
returns-clause-added g c runs before a =
    let p : Run = record { at = c.in-Some.read.at; bytes = take c.in-Some.read.count c.in-Some.read.bytes } in
    let apart : (p.at == c.args.now.at + c.args.now.count) ≡ false = sym c.goes_on.ensures ∙ c.if-goes_on.false in
    subst (λ rs. AreRanged rs (record { at = p.at; count = length p.bytes; is_behind = c.in_ok-is_behind.is_behind }) (before ++ string_bytes c.push_range.new.text)) (sym (behind_some c.args.len runs c.args.line.now p c.in-Some.ensures))
    (ranged_anew runs c.args.now (string_bytes c.args.text.now) (string_bytes c.push_range.new.text) before p (length p.bytes) c.in_ok-is_behind.is_behind a apart refl c.in_ok-is_behind.ensures)
