-- The undone images and the stack, step by step.
use Rattle.std.proofs.Common.{◌≡◌, ℕ, zero, suc, ◌+◌, ◌≤◌, Bool, true, false, List, [], ◌∷◌, length, drop, refl, ap, ◌∙◌, arith}
use Rattle.std.specs.Prelude.{nat_le, if◌then◌else◌}
use Rattle.bx_image.specs.declared.change.TheConstants.{MAX_LEN}
use Rattle.bx_journal_model.specs.Images.{Images, with_undone, undone_by, redone_by, undo_of, redo_of}

-- one more, behind some others
pub undone_by_more : (k : ℕ) (stack u : List (List ℕ)) → undone_by (suc k) stack u ≡ undone_by 1 (drop k stack) (undone_by k stack u)
undone_by_more zero stack u = refl
undone_by_more (suc k) [] u = refl
undone_by_more (suc k) (x ∷ stack) u = undone_by_more k stack (with_undone x u)

pub redone_by_more : (j : ℕ) (u stack : List (List ℕ)) → redone_by (suc j) u stack ≡ redone_by 1 (drop j u) (redone_by j u stack)
redone_by_more zero u stack = refl
redone_by_more (suc j) [] stack = refl
redone_by_more (suc j) (x ∷ u) stack = redone_by_more j u (x ∷ stack)

-- an undo and a redo of some and one more
pub undo_of_more : (k : ℕ) (s : Images) → undo_of (suc k) s ≡ undo_of 1 (undo_of k s)
undo_of_more k s = ap (λ (t : List (List ℕ)). record { stack = t; undone = undone_by (suc k) s.stack s.undone }) (drop_more k s.stack) ∙ ap (λ (u : List (List ℕ)). record { stack = drop 1 (drop k s.stack); undone = u }) (undone_by_more k s.stack s.undone)
  where
    drop_more : (n : ℕ) (xs : List (List ℕ)) → drop (suc n) xs ≡ drop 1 (drop n xs)
    drop_more zero xs = refl
    drop_more (suc n) [] = refl
    drop_more (suc n) (x ∷ xs) = drop_more n xs

pub redo_of_more : (j : ℕ) (s : Images) → redo_of (suc j) s ≡ redo_of 1 (redo_of j s)
redo_of_more j s = ap (λ (u : List (List ℕ)). record { stack = redone_by (suc j) s.undone s.stack; undone = u }) (drop_more j s.undone) ∙ ap (λ (t : List (List ℕ)). record { stack = t; undone = drop 1 (drop j s.undone) }) (redone_by_more j s.undone s.stack)
  where
    drop_more : (n : ℕ) (xs : List (List ℕ)) → drop (suc n) xs ≡ drop 1 (drop n xs)
    drop_more zero xs = refl
    drop_more (suc n) [] = refl
    drop_more (suc n) (x ∷ xs) = drop_more n xs

-- how many they are
pub length-with_undone : (x : List ℕ) (u : List (List ℕ)) → length (with_undone x u) ≤ suc (length u)
length-with_undone x u = by_test (nat_le (length x) MAX_LEN)
  where
    by_test : (b : Bool) → length (if b then x ∷ u else []) ≤ suc (length u)
    by_test true = omega arith
    by_test false = omega arith

pub length-undone_by : (k : ℕ) (stack u : List (List ℕ)) → length (undone_by k stack u) ≤ k + length u
length-undone_by zero stack u = omega arith
length-undone_by (suc k) [] u = omega arith
length-undone_by (suc k) (x ∷ stack) u = omega (arith, length-undone_by k stack (with_undone x u), length-with_undone x u)

pub length-redone_by : (j : ℕ) (u stack : List (List ℕ)) → j ≤ length u → length (redone_by j u stack) ≡ j + length stack
length-redone_by zero u stack le = omega arith
length-redone_by (suc j) [] stack le = absurd (omega arith)
length-redone_by (suc j) (x ∷ u) stack le = length-redone_by j u (x ∷ stack) (omega arith) ∙ omega arith
