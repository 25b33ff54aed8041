use Rattle.std.proofs.Common.{◌≡◌, true, false, length, ap, sym, ◌∙◌}
use Rattle.std.specs.Prelude.{◌==◌}
use Rattle.std.proofs.lemmas.Bool.{eqb-true}
use Rattle.bx_journal_format.proofs.ReadLemmas.{told-none, told-some}
use Rattle.bx_journal_format.proofs.read.take_line.told_behind.Goals as goal

pub returns-then-is_empty : goal.returns-then-is_empty
returns-then-is_empty g c older told = told-none older c.args.entries.now c.args.told (eqb-true (length c.args.entries.now) 0 (sym c.is_empty.ensures ∙ c.if-is_empty.true)) told

pub returns : goal.returns
returns g c older told =
    c.told_length.ensures ∙ told-some older c.args.entries.now
    (λ none.
    let clash : false ≡ true = sym c.if-is_empty.false ∙ c.is_empty.ensures ∙ ap (λ n. n == 0) none in
    absurd (cc))
