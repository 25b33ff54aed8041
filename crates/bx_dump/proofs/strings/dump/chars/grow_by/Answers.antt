use Rattle.std.proofs.Common.{◌≡◌, ℕ, ◌<◌, ◌≤◌, List, [], ◌∷◌, length, take, false, slice_set, refl, ◌∙◌, sym, arith}
use Rattle.bx_dump.proofs.CharsLemmas.{grown_long}
use Rattle.bx_dump.proofs.strings.dump.chars.grow_by.Goals as goal

one : (page : List ℕ) (b : ℕ) → 0 < length page → take 1 (slice_set page 0 b) ≡ b ∷ []
one [] b some = absurd (omega arith)
one (x ∷ xs) b some = refl

pub returns-then-runs-clause-text : goal.returns-then-runs-clause-text
returns-then-runs-clause-text c run kept =
    let runs = c.args.runs.now in
    one c.args.page.now c.args.byte (omega (arith, c.requires.room)) ∙ sym (grown_long runs.least runs.offsets c.args.start run c.args.byte (kept.long (omega (arith, c.if-runs.true))))
