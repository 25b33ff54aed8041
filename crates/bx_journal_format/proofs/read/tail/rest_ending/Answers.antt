use Rattle.std.proofs.Common.{◌≡◌, ℕ, suc, length, sym, ◌∙◌, ap, arith, subst, true, refl}
use Rattle.bx_journal_format.specs.declared.format.version.Version.TheVariants.{First, Second}
use Rattle.bx_journal_format.specs.declared.format.version.Version.{Version}
use Rattle.bx_journal_format.specs.Text.{IsPrefix}
use Rattle.bx_journal_format.specs.Line.{end_head, end_line}
use Rattle.bx_journal_format.specs.count.Front.{IsNumberFront}
use Rattle.bx_journal_format.proofs.read.tail.rest_ending.Goals as goal

pub returns-in-First : goal.returns-in-First
unfolding end_line
returns-in-First c es s counted =
    let head : c.as_bytes.result.now ≡ end_head c.args.version (suc (length es)) = c.as_bytes.ensures.value ∙ c.end_head-head.ensures.text ∙ ap (end_head c.args.version) (sym counted) in
    let line : (x : ℕ) → c.as_bytes.result.now ≡ end_line c.args.version (suc (length es)) x = λ x. head ∙ first_line c.args.version (suc (length es)) x c.in-First.is in
    ((λ h. (0, omega arith, subst (IsPrefix c.args.rest.now) (line 0) (c.is_front.ensures.0 h))), λ f. c.is_front.ensures.1 (subst (IsPrefix c.args.rest.now) (sym (line f.0)) f.2))
  where
    first_line : (v : Version) (n x : ℕ) → v ≡ First → end_head v n ≡ end_line v n x
    first_line v n x is = subst (λ w. end_head w n ≡ end_line w n x) (sym is) refl

pub returns-in-Second : goal.returns-in-Second
unfolding end_line
returns-in-Second c es s counted =
    let n : ℕ = suc (length es) in
    let head : c.as_bytes-in-Second.result.now ≡ end_head Second n = c.as_bytes-in-Second.ensures.value ∙ c.end_head-head.ensures.text ∙ ap (λ v. end_head v c.args.number) c.in-Second.is ∙ ap (end_head Second) (sym counted) in
    let same : (x : ℕ) → end_line Second n x ≡ end_line c.args.version n x = λ x. ap (λ v. end_line v n x) (sym c.in-Second.is) in
    let is = subst (λ h. (c.is_number_front.result ≡ true → IsNumberFront h 16 c.args.rest.now) × (IsNumberFront h 16 c.args.rest.now → c.is_number_front.result ≡ true)) head c.is_number_front.ensures in (
      (λ h. let f = is.0 h in (f.0, f.1, subst (IsPrefix c.args.rest.now) (same f.0) f.3)),
      λ f. is.1 (f.0, f.1, omega (arith, f.1), subst (IsPrefix c.args.rest.now) (sym (same f.0)) f.2),
    )
