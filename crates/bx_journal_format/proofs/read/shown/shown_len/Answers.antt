use Rattle.std.proofs.Common.{ap, sym, ◌∙◌, arith, [], append-nil}
use Rattle.std.proofs.lemmas.List.{take_rest, take_all}
use Rattle.bx_journal_format.specs.read.Left.{is_torn}
use Rattle.bx_journal_format.specs.declared.read.shown.LastLine.TheVariants.{Other}
use Rattle.bx_journal_format.proofs.ShownLemmas.{before_short, shown_unbegun, unbegun}
use Rattle.bx_journal_format.proofs.ZeroLemmas.{end_torn, torn_shown, whole_shown}
use Rattle.bx_journal_format.proofs.read.shown.shown_len.Goals as goal
use Rattle.bx_journal_format.proofs.read.shown.shown_len.Goals.{then-n-eq0+else-text-gt1, else-n-eq0}

pub slice_bounds-rest-count : goal.slice_bounds-rest-count
slice_bounds-rest-count c = omega (arith, c.zero_at-n.ensures, before_short c.args.text.now)

pub slice_bounds-rest-start : goal.slice_bounds-rest-start
slice_bounds-rest-start c = omega (arith, c.zero_at-n.ensures, before_short c.args.text.now)

pub returns-in-Some : goal.returns-in-Some
returns-in-Some c =
    let text = c.args.text.now in
    let n = c.zero_at-n.result in
    let rest = take_rest text n in
    torn_shown text n c.zero_at-n.ensures (λ none. elim c.if-n-eq0.branch [
      | then-n-eq0+else-text-gt1 w ↦ omega (arith, w.if-text-gt1.false)
      | else-n-eq0 w ↦ absurd (w.if-n-eq0.false none)
    ])
    (ap (is_torn Other) (sym rest ∙ sym (append-nil _)) ∙ c.in-Some.ensures [] ∙ end_torn c.in-Some.field-0)

pub returns-in-None : goal.returns-in-None
returns-in-None c =
    let text = c.args.text.now in
    let n = c.zero_at-n.result in
    let rest = take_rest text n in
    take_all _ text (omega arith) ∙ sym (whole_shown text n c.zero_at-n.ensures (ap (is_torn Other) (sym rest ∙ sym (append-nil _)) ∙ c.in-None.ensures []))

pub returns-then-text-gt1 : goal.returns-then-text-gt1
returns-then-text-gt1 c =
    let text = c.args.text.now in
    take_all _ text (omega arith) ∙ sym (shown_unbegun text (unbegun text (omega (arith, c.zero_at-n.ensures, c.if-n-eq0.true)) (omega (arith, c.if-text-gt1.true))))
