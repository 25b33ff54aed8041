-- Runs of commands, one behind the other.
use Rattle.std.proofs.Common.{◌<◌, ◌≤◌, ◌+◌, ℕ, List, [], ◌∷◌, ◌++◌, length, set, get_or, sym, subst, arith, Option, Result, Ok, Err, ◌≡◌}
use Rattle.std.specs.Prelude.{IfOk, MatchResult, is_ok}
use Rattle.std.proofs.lemmas.Result.{IfOk-at_ok}
use mathlib.Core.Bool.{true, false, true≢false}
use Rattle.std.proofs.lemmas.List.{length-set, get_or-set_other}
use Rattle.bx_journal.specs.Images.{Images}
use Rattle.bx_cli_commands.specs.declared.command.Command.{Command}
use Rattle.bx_cli_commands.specs.declared.command.Reply.{Reply}
use Rattle.bx_cli_commands.specs.Standing.{Standing}
use Rattle.bx_cli_commands.specs.Run.{CommandRun, StackRun}

-- what map_err leaves of a value
pub mapped_ok : {T E F : Type 0} (r : Result T E) (q : Result T F) (v : T) (P : E → Type 0) (Q : T → Type 0)
    → MatchResult r (λ x. q ≡ Ok x) P → is_ok q ≡ is_ok r → q ≡ Ok v → IfOk r Q → Q v
mapped_ok (Ok x) q v P Q same variant is held = IfOk-at_ok Q is (subst (λ t. IfOk t Q) (sym same) held)
mapped_ok (Err e) q v P Q same variant is held = absurd (true≢false (subst (λ t. is_ok t ≡ false) is variant))

pub runs_join : {R A : Type 0} (remaining : R → Option (List ℕ)) (start middle after : Standing) (xs ys : List (Command R A)) (ps qs : List Reply)
    → CommandRun remaining start xs ps middle → CommandRun remaining middle ys qs after → CommandRun remaining start (xs ++ ys) (ps ++ qs) after
runs_join remaining start middle after [] ys [] qs first second =
    let From : Standing → Type 0 = λ s. CommandRun remaining s ys qs after in
    subst From first second
runs_join remaining start middle after [] ys (p ∷ ps) qs first second = absurd first
runs_join remaining start middle after (x ∷ xs) ys [] qs first second = absurd first
runs_join remaining start middle after (x ∷ xs) ys (p ∷ ps) qs (now, step, rest) second =
    (now, step, runs_join remaining now middle after xs ys ps qs rest second)

pub stack_runs_join : {R A : Type 0} (remaining : R → Option (List ℕ)) (start middle after : Images) (xs ys : List (Command R A)) (ps qs : List Reply)
    → StackRun remaining start xs ps middle → StackRun remaining middle ys qs after → StackRun remaining start (xs ++ ys) (ps ++ qs) after
stack_runs_join remaining start middle after [] ys [] qs first second =
    let From : Images → Type 0 = λ s. StackRun remaining s ys qs after in
    subst From first second
stack_runs_join remaining start middle after [] ys (p ∷ ps) qs first second = absurd first
stack_runs_join remaining start middle after (x ∷ xs) ys [] qs first second = absurd first
stack_runs_join remaining start middle after (x ∷ xs) ys (p ∷ ps) qs (now, step, rest) second =
    (now, step, stack_runs_join remaining now middle after xs ys ps qs rest second)

-- the elements from i on have P
abbrev pub AllAhead : {X : Type 0} → (X → Type 0) → ℕ → List X → Type 0
AllAhead {X = X} P i xs = (k : ℕ) (d : X) → i ≤ k → k < length xs → P (get_or xs k d)

pub ahead_more : {X : Type 0} (P : X → Type 0) (xs : List X) (i : ℕ) (y : X) → AllAhead P i xs → AllAhead P (i + 1) (set xs i y)
ahead_more P xs i y ahead k d above within =
    let same = get_or-set_other xs i k y d (omega arith) in
    let short : k < length xs = omega (arith, length-set xs i y) in
    subst P (sym same) (ahead k d (omega arith) short)
