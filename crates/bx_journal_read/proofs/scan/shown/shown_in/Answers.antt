use Rattle.std.proofs.Common.{◌≡◌, ◌∙◌, ℕ, List, length, drop, ap, sym, arith}
use Rattle.std.proofs.lemmas.List.{take_all}
use Rattle.bx_journal_format.specs.Shown.{before_zero}
use Rattle.bx_journal_format.specs.declared.read.shown.LastLine.TheVariants.{Other}
use Rattle.bx_journal_format.specs.read.Left.{is_torn}
use Rattle.bx_journal_format.proofs.ShownLemmas.{shown_unbegun, unbegun}
use Rattle.bx_journal_format.proofs.ZeroLemmas.{torn_shown, whole_shown}
use Rattle.bx_journal_read.proofs.scan.shown.shown_in.Goals as goal
use Rattle.bx_journal_read.proofs.scan.shown.shown_in.Goals.{then-zero-eq0+else-len-gt1, else-zero-eq0}

pub returns-then-torn-clause-shown : goal.returns-then-torn-clause-shown
returns-then-torn-clause-shown g c h =
    let text : List ℕ = g.T.TextStore.text c.args.store.now in
    let n : ℕ = c.in_ok-zero.zero in
    let first : n ≡ length (before_zero text) = omega (arith, c.in_ok-zero.ensures.zero h) in
    torn_shown text n first
    (λ none. elim c.if-zero-eq0.branch [
      | then-zero-eq0+else-len-gt1 w ↦ omega (arith, w.if-len-gt1.false, c.requires.long h)
      | else-zero-eq0 w ↦ absurd (w.if-zero-eq0.false none)
    ])
    (ap (λ t. is_torn Other (drop n t)) (sym (c.in_ok-zero.ensures.reads.text h)) ∙ sym (c.in_ok-torn.ensures.torn (c.in_ok-zero.ensures.reads.goes_on.faith.1 h)) ∙ c.if-torn.true)

pub returns-clause-shown : goal.returns-clause-shown
returns-clause-shown g c h =
    let text : List ℕ = g.T.TextStore.text c.args.store.now in
    let n : ℕ = c.in_ok-zero.zero in
    let first : n ≡ length (before_zero text) = omega (arith, c.in_ok-zero.ensures.zero h) in
    take_all c.args.len text (omega (arith, c.requires.long h))
    ∙ sym (whole_shown text n first
    (ap (λ t. is_torn Other (drop n t)) (sym (c.in_ok-zero.ensures.reads.text h)) ∙ sym (c.in_ok-torn.ensures.torn (c.in_ok-zero.ensures.reads.goes_on.faith.1 h)) ∙ c.if-torn.false))

pub returns-then-len-gt1-clause-shown : goal.returns-then-len-gt1-clause-shown
returns-then-len-gt1-clause-shown g c h =
    let text : List ℕ = g.T.TextStore.text c.args.store.now in
    let zero_is = c.in_ok-zero.ensures.zero h in
    take_all c.args.len text (omega (arith, c.requires.long h))
    ∙ sym (shown_unbegun text (unbegun text (omega (arith, zero_is, c.if-zero-eq0.true)) (omega (arith, c.if-len-gt1.true, c.requires.long h))))
