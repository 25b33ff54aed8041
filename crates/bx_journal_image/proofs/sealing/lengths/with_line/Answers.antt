use Rattle.std.proofs.Common.{◌≡◌, ◌∷◌, [], sym, subst, arith}
use Rattle.bx_journal_image.specs.Entry.{IsOlderBeginning}
use Rattle.bx_journal_image.specs.Seal.{Widens}
use Rattle.bx_journal_image.proofs.SpanLemmas.{widens_older}
use Rattle.bx_journal_image.proofs.sealing.lengths.with_line.Goals as goal

pub returns-then-is_older : goal.returns-then-is_older
returns-then-is_older c bare is =
    let fits = c.well_formed in
    subst (Widens (bare ∷ []) c.args.span) (sym c.any.ensures) (widens_older bare c.args.span (omega arith) (subst IsOlderBeginning is (c.is_older.ensures.yes c.if-is_older.true)))
