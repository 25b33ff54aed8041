-- The rows of a log, and how many bytes saved lines have.
use Rattle.std.proofs.Common.{◌≡◌, ℕ, suc, ◌+◌, ◌<◌, ◌≤◌, List, [], ◌∷◌, ◌++◌, length, take, get_or, refl, ap, sym, ◌∙◌, arith, map}
use Rattle.std.specs.Prelude.{sum}
use Rattle.std.specs.List.{sum_by}
use Rattle.std.proofs.lemmas.List.{take_more, length-take-le}
use Rattle.std.proofs.lemmas.List.Sums.{sum-map, sum_by_more_le}
use Rattle.bx_text.specs.declared.owned.pieces.Piece.{Piece}
use Rattle.bx_journal_format.specs.Kept.{Run, run_of, kept_of}
use Rattle.bx_journal_format.specs.declared.read.types.EntryRead.{EntryRead}
use Rattle.bx_journal_model.specs.declared.answers.LogRow.{LogRow}
use Rattle.bx_journal_model.specs.Calls.{rows_of}
use Rattle.bx_journal_format.specs.count.Rows.{saved_length}
use Rattle.bx_journal_format.specs.Parsed.{entry_of, entries_of}
use Rattle.bx_journal_format.proofs.ReadLemmas.{onto-push, length-entries_of}

abbrev pub run_length : {A : Type 0} → Piece A → ℕ
run_length run = length run.bytes

pub runs_more : {A : Type 0} → (runs : List (Piece A)) (i : ℕ) (run : Piece A) → i < length runs → run ≡ get_or runs i run → sum (map run_length (take i runs)) + length run.bytes ≤ sum (map run_length runs)
runs_more runs i run within is =
    let more : sum_by run_length (take i runs) + length (get_or runs i run).bytes ≤ sum_by run_length runs = sum_by_more_le run_length runs i run within in
    omega (arith, more, sum-map run_length (take i runs), sum-map run_length runs, ap run_length is)

-- one row more
pub rows_more : {A : Type 0} → (es : List (EntryRead A)) (i : ℕ) (e : EntryRead A) (rows : List LogRow) → i < length es → e ≡ get_or es i e → rows ≡ rows_of (entries_of (take i es))
    → rows ++ record { number = i + 1; old_len = e.kept.len; saved = saved_length (kept_of e.kept) } ∷ [] ≡ rows_of (entries_of (take (i + 1) es))
rows_more es i e rows within is so_far =
    let more : take (i + 1) es ≡ take i es ++ e ∷ [] = take_more es i e within ∙ ap (λ f. take i es ++ f ∷ []) (sym is) in
    let pushed : entries_of (take (i + 1) es) ≡ entry_of e ∷ entries_of (take i es) = ap entries_of more ∙ onto-push [] (take i es) e in
    let number : suc (length (entries_of (take i es))) ≡ i + 1 = omega (arith, length-entries_of (take i es), length-take-le i es (omega arith)) in
    ap (λ rs. rs ++ record { number = i + 1; old_len = e.kept.len; saved = saved_length (kept_of e.kept) } ∷ []) so_far
    ∙ ap (λ n. rows_of (entries_of (take i es)) ++ record { number = n; old_len = e.kept.len; saved = saved_length (kept_of e.kept) } ∷ []) (sym number)
    ∙ ap rows_of (sym pushed)

pub lengths_same : {A : Type 0} → (runs : List (Piece A)) → sum (map (λ (run : Run). length run.bytes) (map run_of runs)) ≡ sum (map run_length runs)
lengths_same runs = ap sum (each runs)
  where
    each : {A : Type 0} → (runs : List (Piece A)) → map (λ (run : Run). length run.bytes) (map run_of runs) ≡ map run_length runs
    each [] = refl
    each (run ∷ runs) = ap (λ ns. length run.bytes ∷ ns) (each runs)
