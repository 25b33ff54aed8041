-- The bytes of an image in some ranges.
use Rattle.std.proofs.Common.{◌≡◌, ℕ, suc, ◌+◌, ◌-◌, ◌<◌, ◌≤◌, List, [], ◌∷◌, slice_index, length, map, take, drop, refl, ap, sym, ◌∙◌, subst, arith, length-take, length-drop}
use Rattle.bx_image.specs.declared.record.spans.Span.{Span}
use Rattle.bx_text.specs.declared.owned.pieces.Piece.{Piece}
use Rattle.bx_image.specs.Runs.{IsRunOf, AreRunsOf}
use Rattle.bx_image.proofs.Images.{same_image}
use Rattle.bx_image.specs.Over.{run_over, LieWithin}
use Rattle.bx_image.specs.private.Spans.{StandOver}
use Rattle.bx_image.proofs.Runs.{IsRunOf-read}

run_long : (x : List ℕ) (s : Span) → s.at < s.end → s.end ≤ length x → s.at + length (take (s.end - s.at) (drop s.at x)) ≡ s.end
run_long x s some within = omega (arith, some, within, length-take (s.end - s.at) (drop s.at x), length-drop s.at x)

pub stand_over : (A : Type 0) (x : List ℕ) (spans : List Span) → LieWithin (length x) spans → StandOver spans (map (run_over {A = A} x) spans)
stand_over A x [] within = tt
stand_over A x (s ∷ spans) within =
    let first = within 0 s (omega arith) in
    (refl, run_long x s first.some first.within, stand_over A x spans (λ k d h. within (suc k) d (omega (arith, h))))

pub runs_over : (A : Type 0) (x : List ℕ) (spans : List Span) → LieWithin (length x) spans → AreRunsOf x (map (run_over {A = A} x) spans)
runs_over A x [] within = tt
runs_over A x (s ∷ spans) within =
    let first = within 0 s (omega arith) in
    (IsRunOf-read x (run_over {A = A} x s) s.at s.end refl (omega (arith, first.some)) first.within refl, runs_over A x spans (λ k d h. within (suc k) d (omega (arith, h))))

-- the run over a range that has the bytes of x
run_is : {A : Type 0} (x : List ℕ) (s : Span) (run : Piece A) → s.at < s.end → s.end ≤ length x → run.at ≡ s.at → run.at + length run.bytes ≡ s.end → IsRunOf x run → run ≡ run_over x s
run_is {A = A} x s run some within at end of_x =
    let long = run_long x s some within in
    let read : IsRunOf x (run_over {A = A} x s) = IsRunOf-read x (run_over {A = A} x s) s.at s.end refl (omega (arith, some)) within refl in
    let bytes : run.bytes ≡ take (s.end - s.at) (drop s.at x) =
    same_image run.bytes (take (s.end - s.at) (drop s.at x)) (omega (arith, at, end, long))
    (λ j h. of_x.same j h ∙ ap (λ n. slice_index x (n + j)) at ∙ sym (read.same j (omega (arith, h, at, end, long)))) in
    ap (λ n. record { at = n; bytes = run.bytes }) at ∙ ap (λ b. record { at = s.at; bytes = b }) bytes

-- what is saved of x in some ranges is the runs over them
pub runs_are : {A : Type 0} (x : List ℕ) (spans : List Span) (runs : List (Piece A)) → LieWithin (length x) spans → StandOver spans runs → AreRunsOf x runs → runs ≡ map (run_over x) spans
runs_are x [] [] within stand all = refl
runs_are x [] (run ∷ runs) within stand all = absurd stand
runs_are x (s ∷ spans) [] within stand all = absurd stand
runs_are x (s ∷ spans) (run ∷ runs) within stand all =
    let first = within 0 s (omega arith) in
    ap (λ r. r ∷ runs) (run_is x s run first.some first.within stand.0 stand.1 all.0)
    ∙ ap (λ rs. run_over x s ∷ rs) (runs_are x spans runs (λ k d h. within (suc k) d (omega (arith, h))) stand.2 all.1)
