use Rattle.std.proofs.Common.{◌≡◌, ℕ, ◌<◌, ◌≤◌, List, [], ◌∷◌, length, take, true, slice_set, refl, ◌∙◌, sym, arith}
use Rattle.std.specs.Prelude.{nat_le}
use Rattle.std.proofs.lemmas.Bool.Decides.{nat_tests}
use Rattle.bx_dump.specs.private.Scan.{end_of_run}
use Rattle.bx_dump.proofs.strings.dump.Runs.end.Goals as goal

newline : (page : List ℕ) → 0 < length page → take 1 (slice_set page 0 10) ≡ 10 ∷ []
newline [] some = absurd (omega arith)
newline (b ∷ bs) some = refl

ended : (least : ℕ) (run : List ℕ) → least ≤ length run → end_of_run least run ≡ 10 ∷ []
ended least run long = let yes : nat_le least (length run) ≡ true = grind (arith, nat_tests) in rw yes refl

pub returns-then-is_long-clause-text : goal.returns-then-is_long-clause-text
returns-then-is_long-clause-text c run kept =
    newline c.args.page.now c.requires.room ∙ sym (ended c.args.self.now.least run (kept.long (omega (arith, c.if-is_long.true))))
