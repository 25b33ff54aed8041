-- The runs of a dump.
use Rattle.std.proofs.Common.{◌≡◌, ◌⊎◌, inl, inr, ℕ, suc, ◌+◌, ◌<◌, ◌≤◌, Bool, true, false, cond, eqb, Some, None, Option, Result, Ok, Err, List, [], ◌∷◌, ◌++◌, length, refl, arith, sym, ap, subst, ◌∙◌, append_assoc}
use Rattle.std.specs.Prelude.{◌^◌}
use Rattle.std.specs.List.{All}
use Rattle.std.proofs.lemmas.Bool.{eqb-true, eq-eqb}
use Rattle.std.proofs.lemmas.List.{length-append, length-map, map-append, get_or-map}
use Rattle.std.proofs.lemmas.List.Elements.{All-cons}
use Rattle.bx_text.specs.declared.owned.pieces.Piece.{Piece}
use Rattle.bx_read.specs.Text.{ReadLine, gathered, piece_then, contents, answers, lines_of, dump_pieces}
use Rattle.bx_read.specs.Runs.{with_piece, joined}
use Rattle.bx_read.specs.private.NextLine.{piece_of, IsNextLine, taken_then, lines_left, joined_of}
use Rattle.bx_read.specs.declared.fault.ReadFault.{ReadFault}
use Rattle.bx_read.specs.declared.fault.ReadFault.TheVariants.{NoMemory}
use Rattle.bx_read.specs.declared.runs.DumpLine.{DumpLine}
use Rattle.bx_read.proofs.DumpLemmas.{Pieces, after, found, small}

-- A piece that goes on with the one before it is a part of that one.
pub same_front : (at : ℕ) (x y : List ℕ) (runs : Pieces) → with_piece (at, x) (with_piece (at + length x, y) runs) ≡ with_piece (at, x ++ y) runs
same_front at x y [] = rw (eq-eqb (at + length x) (at + length x) refl) refl
same_front at x y (run ∷ runs) = go (eqb run.0 (at + length x + length y)) refl
  where
    long : at + length (x ++ y) ≡ at + length x + length y
    long = let e = length-append x y in omega arith

    go : (b : Bool) → eqb run.0 (at + length x + length y) ≡ b → with_piece (at, x) (with_piece (at + length x, y) (run ∷ runs)) ≡ with_piece (at, x ++ y) (run ∷ runs)
    go true e = rw (long, e, eq-eqb (at + length x) (at + length x) refl) (ap (λ b. (at, b) ∷ runs) (sym (append_assoc x y run.1)))
    go false e = rw (long, e, eq-eqb (at + length x) (at + length x) refl) refl

pub joins : (at next : ℕ) (x y : List ℕ) (r : Result Pieces ReadFault) → next ≡ at + length x →
    joined_of (piece_then (at, x) (piece_then (next, y) r)) ≡ joined_of (piece_then (at, x ++ y) r)
joins at next x y (Ok pieces) e = rw e (ap Ok (same_front at x y (joined pieces)))
joins at next x y (Err fault) e = refl

-- One that doesn't stays apart.
apart : (at next : ℕ) (x y : List ℕ) (runs : Pieces) → eqb next (at + length x) ≡ false → with_piece (at, x) (with_piece (next, y) runs) ≡ (at, x) ∷ with_piece (next, y) runs
apart at next x y [] e = rw e refl
apart at next x y (run ∷ runs) e = go (eqb run.0 (next + length y)) refl
  where
    go : (b : Bool) → eqb run.0 (next + length y) ≡ b → with_piece (at, x) (with_piece (next, y) (run ∷ runs)) ≡ (at, x) ∷ with_piece (next, y) (run ∷ runs)
    go true k = rw (k, e) refl
    go false k = rw (k, e) refl

pub parts : (at next : ℕ) (x y : List ℕ) (r : Result Pieces ReadFault) → eqb next (at + length x) ≡ false →
    joined_of (piece_then (at, x) (piece_then (next, y) r)) ≡ piece_then (at, x) (joined_of (piece_then (next, y) r))
parts at next x y (Ok pieces) e = ap Ok (apart at next x y (joined pieces) e)
parts at next x y (Err fault) e = refl

pub next_gives : (old new : List (Result ReadLine ReadFault)) (o : Option DumpLine) → IsNextLine old new o → gathered old ≡ taken_then o new
next_gives old new None is = ap gathered is
next_gives old new (Some line) (at, hex, number, same, step) = ap gathered step ∙ ap (λ p. piece_then p (gathered new)) same

pub next_left : (old new : List (Result ReadLine ReadFault)) (o : Option DumpLine) → IsNextLine old new o → lines_left o new ≤ length old
next_left old new None is = omega arith
next_left old new (Some line) (at, hex, number, same, step) = let e = ap length step in omega (arith, e)

-- one run more, behind those before it
pub run_more : {A : Type 0} (old new : List (Piece A)) (run : Piece A) (r : Result Pieces ReadFault) → new ≡ old ++ run ∷ [] →
    after (contents old) (piece_then (run.at, run.bytes) r) ≡ after (contents new) r
run_more old new run (Ok runs) pushed =
    rw pushed (ap Ok (sym (append_assoc (contents old) ((run.at, run.bytes) ∷ []) runs) ∙ ap (λ f. f ++ runs) (sym (map-append (λ p. (p.at, p.bytes)) old (run ∷ [])))))
run_more old new run (Err e) pushed = refl

-- each run begins where a piece does
module _ (P : ℕ → Type 0) where
  abbrev At : ℕ × List ℕ → Type 0
  At piece = P piece.0

  rest_of : (p : ℕ × List ℕ) (ps : Pieces) → All At (p ∷ ps) → All At ps
  rest_of p ps all = λ k d inside. all (suc k) d (omega (arith, inside))

  front_at : (piece : ℕ × List ℕ) (runs : Pieces) → P piece.0 → All At runs → All At (with_piece piece runs)
  front_at piece [] here all = All-cons At piece [] here all
  front_at piece (run ∷ runs) here all = go (eqb run.0 (piece.0 + length piece.1))
    where
      go : (b : Bool) → All At (cond b ((piece.0, piece.1 ++ run.1) ∷ runs) (piece ∷ run ∷ runs))
      go true = All-cons At (piece.0, piece.1 ++ run.1) runs here (rest_of run runs all)
      go false = All-cons At piece (run ∷ runs) here all

  pub joined_at : (pieces : Pieces) → All At pieces → All At (joined pieces)
  joined_at [] all = all
  joined_at (piece ∷ pieces) all = front_at piece (joined pieces) (all 0 piece (omega arith)) (joined_at pieces (rest_of piece pieces all))

-- what follows of the runs
module _ {A : Type 0} (text : List ℕ) (runs : List (Piece A)) where
  pub pieces_are : joined_of (dump_pieces text) ≡ Ok (contents runs) → (pieces : Pieces) × (dump_pieces text ≡ Ok pieces) × (contents runs ≡ joined pieces)
  pieces_are = go (dump_pieces text)
    where
      go : (r : Result Pieces ReadFault) → joined_of r ≡ Ok (contents runs) → (pieces : Pieces) × (r ≡ Ok pieces) × (contents runs ≡ joined pieces)
      go (Ok pieces) e = (pieces, refl, cc)
      go (Err f) e = cc

  pub all_near : joined_of (dump_pieces text) ≡ Ok (contents runs) → All (λ run. run.at < 2 ^ 62) runs
  all_near e k d inside =
      let is = pieces_are e in
      let each : All (λ p. p.0 < 2 ^ 62) is.0 = λ k d inside. (small (lines_of text) is.0 (found (lines_of text) 1 is.0 is.1) k d inside).2 in
      let near : All (λ p. p.0 < 2 ^ 62) (contents runs) = subst (All (λ p. p.0 < 2 ^ 62)) (sym is.2) (joined_at (λ at. at < 2 ^ 62) is.0 each) in
      let here = near k (d.at, d.bytes) (omega (arith, inside, length-map {B = ℕ × List ℕ} runs (λ p. (p.at, p.bytes)))) in
      let P : (ℕ × List ℕ) → Type 0 = λ p. p.0 < 2 ^ 62 in
      let f : Piece A → (ℕ × List ℕ) = λ p. (p.at, p.bytes) in
      subst P (get_or-map f runs k d (d.at, d.bytes) inside) here

-- one line more in a run
pub grow_step : (at : ℕ) (x longer : List ℕ) (old new : List (Result ReadLine ReadFault)) (line : DumpLine) → IsNextLine old new (Some line) →
    eqb (piece_of line).0 (at + length x) ≡ true → longer ≡ x ++ (piece_of line).1 → joined_of (piece_then (at, x) (gathered old)) ≡ joined_of (piece_then (at, longer) (gathered new))
grow_step at x longer old new line is goes pushed =
    ap (λ r. joined_of (piece_then (at, x) r)) (next_gives old new (Some line) is)
    ∙ joins at (piece_of line).0 x (piece_of line).1 (gathered new) (eqb-true (piece_of line).0 (at + length x) goes)
    ∙ ap (λ b. joined_of (piece_then (at, b) (gathered new))) (sym pushed)

-- a line that doesn't go on ends it
pub grow_stops : (at : ℕ) (x : List ℕ) (old new : List (Result ReadLine ReadFault)) (line : DumpLine) → IsNextLine old new (Some line) →
    eqb (piece_of line).0 (at + length x) ≡ false → joined_of (piece_then (at, x) (gathered old)) ≡ piece_then (at, x) (joined_of (taken_then (Some line) new))
grow_stops at x old new line is goes =
    ap (λ r. joined_of (piece_then (at, x) r)) (next_gives old new (Some line) is)
    ∙ parts at (piece_of line).0 x (piece_of line).1 (gathered new) goes

after_none : (r : Result Pieces ReadFault) → r ≡ after [] r
after_none (Ok pieces) = refl
after_none (Err e) = refl

-- the runs of a text, from its first line to its end
pub first_line : (p : ℕ) (text : List ℕ) (old new : List (Result ReadLine ReadFault)) (o : Option DumpLine) → old ≡ answers p (lines_of text) → IsNextLine old new o →
    joined_of (gathered (answers p (lines_of text))) ≡ after [] (joined_of (taken_then o new))
first_line p text old new o all is = ap (λ a. joined_of (gathered a)) (sym all) ∙ ap joined_of (next_gives old new o is) ∙ after_none (joined_of (taken_then o new))

pub first_fault : (p : ℕ) (text : List ℕ) (old : List (Result ReadLine ReadFault)) (e : ReadFault) → old ≡ answers p (lines_of text) → gathered old ≡ Err e →
    gathered (answers p (lines_of text)) ≡ Err e
first_fault p text old e all is = ap gathered (sym all) ∙ is

pub one_run : {A : Type 0} (whole : Result Pieces ReadFault) (olds news : List (Piece A)) (run : Piece A) (old new : List (Result ReadLine ReadFault)) (first : DumpLine) (o : Option DumpLine) →
    whole ≡ after (contents olds) (joined_of (taken_then (Some first) old)) →
    joined_of (piece_then (piece_of first) (gathered old)) ≡ piece_then (run.at, run.bytes) (joined_of (taken_then o new)) → news ≡ olds ++ run ∷ [] →
    whole ≡ after (contents news) (joined_of (taken_then o new))
one_run whole olds news run old new first o inv step pushed =
    inv ∙ ap (after (contents olds)) step ∙ run_more olds news run (joined_of (taken_then o new)) pushed

-- what a test said of places that are known
pub test_is : (told answer : Bool) (next at count place len : ℕ) → told ≡ eqb next (at + count) → told ≡ answer → next ≡ place → count ≡ len → eqb place (at + len) ≡ answer
test_is told answer next at count place len is was n c = rw (← n, ← c) (sym is ∙ was)

-- a fault behind runs is the text's
pub run_fault : {A : Type 0} (whole : Result Pieces ReadFault) (olds : List (Piece A)) (first : DumpLine) (old : List (Result ReadLine ReadFault)) (e : ReadFault) →
    joined_of whole ≡ after (contents olds) (joined_of (taken_then (Some first) old)) → (e ≡ NoMemory) ⊎ (gathered old ≡ Err e) → (e ≡ NoMemory) ⊎ (whole ≡ Err e)
run_fault whole olds first old e inv (inl none) = inl none
run_fault whole olds first old e inv (inr fault) = inr (go whole (inv ∙ ap (λ r. after (contents olds) (joined_of (piece_then (piece_of first) r))) fault))
  where
    go : (r : Result Pieces ReadFault) → joined_of r ≡ Err e → r ≡ Err e
    go (Ok pieces) h = cc
    go (Err f) h = cc
