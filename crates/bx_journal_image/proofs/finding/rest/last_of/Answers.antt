use Rattle.std.proofs.Common.{◌≡◌, ◌≢◌, ◌∙◌, inl, inr, [], ℕ, Option, Some, ap, drop, length, subst}
use Rattle.std.specs.Prelude.{IfNone, IfSome}
use Rattle.bx_journal_image.specs.Entry.{IsBefore, IsLastEntryAt}
use Rattle.bx_journal_image.specs.Ranges.{EndsIn}
use Rattle.bx_journal_image.specs.Stand.{IsDigested}
use Rattle.bx_journal_image.proofs.LookLemmas.{both_none, both_then, then_text}
use Rattle.bx_journal_image.proofs.finding.rest.last_of.Goals as goal

pub returns-in_default-clause-last : goal.returns-in_default-clause-last
returns-in_default-clause-last g c = λ hi ht.
    let text = g.T.TextStore.text c.args.text.now in
    let read = c.in_ok-to.ensures in
    let some : text ≢ [] = λ empty. c.if-to-eq0.false (read.len ht ∙ ap length empty) in
    let none = subst (λ (o : Option ℕ). IfNone o ((n : ℕ) → EndsIn (g.T.TextStore.text c.len.new.self) n → ⊥)) c.in_default.is (c.in_ok-number.ensures.none (read.goes_on.faith.1 ht)) in
    (some, inl (subst (λ t. (n : ℕ) → EndsIn t n → ⊥) (read.text ht) none))

pub returns-clause-last : goal.returns-clause-last
returns-clause-last g c = λ hi ht.
    let T = g.T.TextStore in
    let x = g.D.Device.image c.args.image.now in
    let text = T.text c.args.text.now in
    let read = c.in_ok-to.ensures in
    let numbered = c.in_ok-number.ensures in
    let found = c.in_ok-from.ensures in
    let told = c.in_ok-before.ensures in
    let h1 = read.goes_on.faith.1 ht in
    let h2 = numbered.reads.goes_on.faith.1 h1 in
    let h3 = found.reads.goes_on.faith.1 h2 in
    let h4 = told.reads.goes_on.faith.1 h3 in
    let same2 : T.text c.number_at_end.new.store ≡ text = numbered.reads.text h1 ∙ read.text ht in
    let same3 : T.text c.last_entry.new.store ≡ text = found.reads.text h2 ∙ same2 in
    let same4 : T.text c.length_before.new.store ≡ text = told.reads.text h3 ∙ same3 in
    inr (record {
      at = c.in_ok-from.from;
      number = subst (λ t. EndsIn t c.in-Some.number) (read.text ht)
          (subst (λ (o : Option ℕ). IfSome o (EndsIn (T.text c.len.new.self))) c.in-Some.is (numbered.some h1));
      entry = subst (λ t. IsLastEntryAt t c.in_ok-from.from) same2 (found.entry h2);
      before = subst (λ t. IsBefore (drop c.in_ok-from.from t) c.in_ok-before.before) same3 (told.before h3);
      digest = subst (λ t. IsDigested x t c.in_ok-from.from c.in_ok-before.before (Some c.in-Some-2.digest)) same4 (subst (IsDigested x (T.text c.length_before.new.store) c.in_ok-from.from c.in_ok-before.before) c.in-Some-2.is (c.in_ok-digest.ensures.digest hi h4));
    })

pub returns-clause-looks : goal.returns-clause-looks
returns-clause-looks g c =
    let D = g.D.Device in
    let T = g.T.TextStore in
    let read = c.in_ok-to.ensures in
    both_then D T
    (then_text D T (then_text D T (then_text D T (then_text D T (both_none D T c.args.image.now c.args.text.now) (record { text = read.text; survives = read.survives; goes_on = read.goes_on }))
    c.in_ok-number.ensures.reads) c.in_ok-from.ensures.reads) c.in_ok-before.ensures.reads)
    c.in_ok-digest.ensures.looks
