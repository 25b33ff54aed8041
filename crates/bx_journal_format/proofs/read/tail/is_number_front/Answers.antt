use Rattle.std.proofs.Common.{◌≡◌, ℕ, List, ◌++◌, length, sym, ◌∙◌, take, arith, Some, None, subst, true, false, ◌≤◌}
use Rattle.std.specs.Prelude.{◌/◌, ◌^◌, ◌*◌, ◌-◌}
use Rattle.std.specs.Str.{bytes_eq}
use Rattle.bx_journal_format.specs.Hex.{number_after}
use Rattle.bx_journal_format.specs.Text.{IsPrefix}
use Rattle.bx_journal_format.specs.count.Front.{IsNumberFront}
use Rattle.bx_journal_format.proofs.FrontLemmas.{head_front, front_head, front_begins, front_of, digits_fit, digits_test, joined_at, not_true, not_false, one_number, le_test}
use Rattle.bx_journal_format.proofs.read.tail.is_number_front.Goals as goal
use Rattle.bx_journal_format.proofs.read.tail.is_number_front.Goals.{then-ne-via-then-ne, then-ne-via-else-ne+then-digits-width}

pub returns-then-rest-head : goal.returns-then-rest-head
returns-then-rest-head c =
    ((λ h. head_front c.args.head.now c.args.rest.now c.args.width (c.is_front.ensures.0 h)), λ f. c.is_front.ensures.1 (front_head c.args.head.now c.args.rest.now c.args.width f (omega arith)))

pub returns-then-ne : goal.returns-then-ne
returns-then-ne c =
    let H : List ℕ = c.args.head.now in
    let R : List ℕ = c.args.rest.now in
    let back : (IsNumberFront c.args.head.now c.args.width c.args.rest.now) → false ≡ true = λ f.
    let begins : IsPrefix c.args.head.now c.args.rest.now = front_begins c.args.head.now c.args.rest.now c.args.width f (omega arith) in
    let front : take (length c.args.head.now) c.args.rest.now ≡ c.split_at.result.0.now = sym c.split_at.ensures.front in
    elim c.then-ne.branch [
      | then-ne-via-then-ne w ↦ not_true _ _ w.if-ne.true c.ne.ensures (subst (λ s. bytes_eq s c.args.head.now ≡ true) front (front_of c.args.head.now c.args.rest.now begins))
      | then-ne-via-else-ne+then-digits-width w ↦
          let same : c.args.rest.now ≡ c.args.head.now ++ c.split_at.result.1.now = joined_at c.args.head.now c.args.rest.now c.split_at.result.0.now c.split_at.result.1.now (front_of c.args.head.now c.args.rest.now begins) c.split_at.ensures.back in
          let t = digits_test c.args.head.now c.split_at.result.1.now c.args.width (subst (IsNumberFront c.args.head.now c.args.width) same f) in
          absurd (omega (arith, t.3, w.if-digits-width.true))
    ] in
    ((λ h. absurd (cc)), back)

pub returns-in-Some : goal.returns-in-Some
returns-in-Some c =
    let begins : bytes_eq (take (length c.args.head.now) c.args.rest.now) c.args.head.now ≡ true = subst (λ s. bytes_eq s c.args.head.now ≡ true) c.split_at.ensures.front (not_false _ c.if-ne.ensures) in
    let same : c.args.rest.now ≡ c.args.head.now ++ c.split_at.result.1.now = joined_at c.args.head.now c.args.rest.now c.split_at.result.0.now c.split_at.result.1.now begins c.split_at.ensures.back in
    let digits : number_after 0 c.split_at.result.1.now ≡ Some c.in-Some.n = sym c.in-Some.ensures in (
      (λ h. subst (IsNumberFront c.args.head.now c.args.width) (sym same) (digits_fit c.args.head.now c.split_at.result.1.now c.args.width c.in-Some.n digits c.if-digits-width.false (le_test.0 h))),
      λ f.
          let t = digits_test c.args.head.now c.split_at.result.1.now c.args.width (subst (IsNumberFront c.args.head.now c.args.width) same f) in
          let is : t.0 ≡ c.in-Some.n = one_number (sym t.1 ∙ digits) in
          le_test.1 (subst (λ n. n ≤ 281474976710655 / 2 ^ (4 * (c.args.width - length c.split_at.result.1.now))) is t.2),
    )

pub returns-in-None : goal.returns-in-None
returns-in-None c =
    let begins : bytes_eq (take (length c.args.head.now) c.args.rest.now) c.args.head.now ≡ true = subst (λ s. bytes_eq s c.args.head.now ≡ true) c.split_at.ensures.front (not_false _ c.if-ne.ensures) in
    let same : c.args.rest.now ≡ c.args.head.now ++ c.split_at.result.1.now = joined_at c.args.head.now c.args.rest.now c.split_at.result.0.now c.split_at.result.1.now begins c.split_at.ensures.back in
    let back : (IsNumberFront c.args.head.now c.args.width c.args.rest.now) → false ≡ true = λ f.
    let t = digits_test c.args.head.now c.split_at.result.1.now c.args.width (subst (IsNumberFront c.args.head.now c.args.width) same f) in
    let clash : None ≡ Some t.0 = c.in-None.ensures ∙ t.1 in
    absurd (cc) in
    ((λ h. absurd (cc)), back)
