-- Runs that go on with one another.
use Rattle.std.proofs.Common.{◌≡◌, ℕ, ◌+◌, ◌-◌, ◌≤◌, Bool, true, false, List, [], ◌∷◌, ◌++◌, length, length-append, get_or, refl, ap, sym, ◌∙◌, arith, append_assoc, append-nil, Some, None, map}
use Rattle.std.specs.Prelude.{◌&&◌, ◌==◌, nat_le, nat_lt, if◌then◌else◌, slice_index, flat_map, sum}
use Rattle.std.specs.Option.{option_or}
use Rattle.std.proofs.lemmas.Grind.{common_steps}
use Rattle.std.proofs.lemmas.List.Sums.{sum-map, sum_by-cons}
use Rattle.std.proofs.lemmas.List.{get_or_append_left, get_or-append_right}
use Rattle.bx_image.specs.Image.{end_of}
use Rattle.bx_image.specs.Change.{byte_in, AllWithin}
use Rattle.bx_image.specs.private.Change.{byte_of}
use Rattle.bx_text.specs.declared.owned.pieces.Piece.{Piece}
use Rattle.bx_journal_format.specs.Kept.{Run, run_of, with_run, with_runs}
use Rattle.bx_journal_format.proofs.KeptLemmas.{runs_push}
use Rattle.bx_journal_format.specs.Entry.{rows}
use Rattle.bx_journal_format.proofs.RowLemmas.{or_none, or_assoc, either, test_at, all_rows_byte}

pub with_run-last : (rest : List Run) (last p : Run) → with_run (rest ++ last ∷ []) p ≡ rest ++ with_run (last ∷ []) p
unfolding with_run
with_run-last [] last p = refl
with_run-last (x ∷ []) last p = refl
with_run-last (x ∷ y ∷ rest) last p = ap (λ rs. x ∷ rs) (with_run-last (y ∷ rest) last p)

abbrev pub together : Run → Run → Run
together a p = record { at = a.at; bytes = a.bytes ++ p.bytes }

pub goes_on : (a p : Run) → p.at == a.at + length a.bytes ≡ true → with_run (a ∷ []) p ≡ together a p ∷ []
unfolding with_run
goes_on a p is = rw is refl

pub stands_apart : (a p : Run) → p.at == a.at + length a.bytes ≡ false → with_run (a ∷ []) p ≡ a ∷ p ∷ []
unfolding with_run
stands_apart a p is = rw is refl

together_byte : (a p : Run) (i : ℕ) → p.at ≡ a.at + length a.bytes → byte_of (together a p) i ≡ option_or (byte_of p i) (byte_of a i)
together_byte a p i is =
    let here : byte_of p i ≡ (if nat_le p.at i && nat_lt i (p.at + length p.bytes) then Some (slice_index (a.bytes ++ p.bytes) (i - a.at)) else None) =
    test_at ℕ p.at (p.at + length p.bytes) p.at (p.at + length p.bytes) i (slice_index p.bytes (i - p.at)) (slice_index (a.bytes ++ p.bytes) (i - a.at)) refl
    (λ below above. above) (λ below above. above)
    (λ below above. ap (λ k. get_or p.bytes k 0) (omega arith) ∙ sym (get_or-append_right a.bytes p.bytes (length a.bytes) (i - a.at) 0 refl (omega arith))) in
    let size : length (a.bytes ++ p.bytes) ≡ length a.bytes + length p.bytes = length-append a.bytes p.bytes in
    sym (ap (λ o. option_or o (byte_of a i)) here
    ∙ either ℕ a.at (a.at + length a.bytes) p.at (p.at + length p.bytes) a.at (a.at + length (a.bytes ++ p.bytes)) i
    (slice_index (a.bytes ++ p.bytes) (i - a.at)) (slice_index a.bytes (i - a.at)) is refl (omega arith) (omega arith) (omega arith)
    (λ below above. sym (get_or_append_left a.bytes p.bytes 0 (i - a.at) (omega arith))))

same_place : (m n : ℕ) → m == n ≡ true → m ≡ n
same_place m n e = grind (arith, common_steps)

pub with_run-byte : (runs : List Run) (p : Run) (i : ℕ) → byte_in (with_run runs p) i ≡ option_or (byte_of p i) (byte_in runs i)
unfolding with_run byte_in
with_run-byte [] p i = sym (or_none (byte_of p i))
with_run-byte (run ∷ []) p i = by (p.at == run.at + length run.bytes) refl
  where
    by : (b : Bool) → p.at == run.at + length run.bytes ≡ b → byte_in (if b then together run p ∷ [] else run ∷ p ∷ []) i ≡ option_or (byte_of p i) (byte_of run i)
    by true is = together_byte run p i (same_place p.at (run.at + length run.bytes) is)
    by false is = refl
with_run-byte (run ∷ next ∷ runs) p i =
    ap (λ o. option_or o (byte_of run i)) (with_run-byte (next ∷ runs) p i) ∙ or_assoc (byte_of p i) (byte_in (next ∷ runs) i) (byte_of run i)

with_runs-byte : (ps runs : List Run) (i : ℕ) → byte_in (with_runs runs ps) i ≡ option_or (byte_in ps i) (byte_in runs i)
unfolding with_runs byte_in
with_runs-byte [] runs i = refl
with_runs-byte (p ∷ ps) runs i =
    with_runs-byte ps (with_run runs p) i ∙ ap (option_or (byte_in ps i)) (with_run-byte runs p i) ∙ sym (or_assoc (byte_in ps i) (byte_of p i) (byte_in runs i))

-- the lines of a record give its bytes
pub as_read_byte : (runs : List Run) (i : ℕ) → byte_in (with_runs [] (flat_map rows runs)) i ≡ byte_in runs i
unfolding byte_in
as_read_byte runs i = with_runs-byte (flat_map rows runs) [] i ∙ or_none (byte_in (flat_map rows runs) i) ∙ all_rows_byte runs i

together_within : (len at : ℕ) (a b : List ℕ) (end : ℕ) → end ≡ at + length a → end_of at a ≤ len → end_of end b ≤ len → end_of at (a ++ b) ≤ len
together_within len at [] b end is left right = subst_end len at b end (omega arith) right
  where
    subst_end : (len at : ℕ) (b : List ℕ) (end : ℕ) → end ≡ at → end_of end b ≤ len → end_of at b ≤ len
    subst_end len at [] end is h = omega arith
    subst_end len at (x ∷ b) end is h = omega arith
together_within len at (x ∷ a) [] end is left right = rw (append-nil a) left
together_within len at (x ∷ a) (y ∷ b) end is left right = omega (arith, length-append a (y ∷ b))

pub with_run-within : (len : ℕ) (runs : List Run) (p : Run) → AllWithin len runs → end_of p.at p.bytes ≤ len → AllWithin len (with_run runs p)
unfolding with_run
with_run-within len [] p h k = (k, tt)
with_run-within len (run ∷ []) p h k = by (p.at == run.at + length run.bytes) refl
  where
    by : (b : Bool) → p.at == run.at + length run.bytes ≡ b → AllWithin len (if b then together run p ∷ [] else run ∷ p ∷ [])
    by true is = (together_within len run.at run.bytes p.bytes p.at (same_place p.at (run.at + length run.bytes) is) h.0 k, tt)
    by false is = (h.0, (k, tt))
with_run-within len (run ∷ next ∷ runs) p h k = (h.0, with_run-within len (next ∷ runs) p h.1 k)

-- how many bytes there are
pub with_run-sum : (size : Run → ℕ) → ((run : Run) → size run ≡ length run.bytes) → (runs : List Run) (p : Run) → sum (map size (with_run runs p)) ≡ sum (map size runs) + length p.bytes
unfolding with_run
with_run-sum size is [] p = omega (arith, is p)
with_run-sum size is (run ∷ []) p = by (p.at == run.at + length run.bytes)
  where
    by : (b : Bool) → sum (map size (if b then together run p ∷ [] else run ∷ p ∷ [])) ≡ sum (map size (run ∷ [])) + length p.bytes
    by true = omega (arith, is run, is (together run p), length-append run.bytes p.bytes)
    by false = omega (arith, is p)
with_run-sum size is (run ∷ next ∷ runs) p =
    omega (
      arith,
      with_run-sum size is (next ∷ runs) p,
      sum-map size (run ∷ with_run (next ∷ runs) p),
      sum_by-cons size run (with_run (next ∷ runs) p),
      sum-map size (with_run (next ∷ runs) p),
      sum-map size (run ∷ next ∷ runs),
      sum_by-cons size run (next ∷ runs),
      sum-map size (next ∷ runs),
    )

-- What a list of pieces is as runs, after one more line. It is the first one
pub push_first : {A : Type 0} → (old rest new : List (Piece A)) (p : Run) → length rest ≡ 0 → old ≡ rest ++ [] → map run_of new ≡ map run_of rest ++ p ∷ [] → map run_of new ≡ with_run (map run_of old) p
unfolding with_run
push_first {A = A} old [] new p none is e = e ∙ ap (λ (o : List (Piece A)). with_run (map run_of o) p) (sym is)
push_first old (x ∷ rest) new p none is e = absurd (omega arith)

behind_last : {A : Type 0} → (old rest : List (Piece A)) (last : Piece A) (p : Run) → old ≡ rest ++ last ∷ [] → with_run (map run_of old) p ≡ map run_of rest ++ with_run (run_of last ∷ []) p
behind_last {A = A} old rest last p is =
    ap (λ (o : List (Piece A)). with_run (map run_of o) p) is ∙ ap (λ rs. with_run rs p) (runs_push rest last) ∙ with_run-last (map run_of rest) (run_of last) p

-- it goes on with the last one
pub push_on : {A : Type 0} → (old rest new : List (Piece A)) (last : Piece A) (q p : Run) → old ≡ rest ++ last ∷ [] → q ≡ together (run_of last) p → p.at == last.at + length last.bytes ≡ true
    → map run_of new ≡ map run_of rest ++ q ∷ [] → map run_of new ≡ with_run (map run_of old) p
push_on old rest new last q p is same on e =
    e ∙ ap (λ r. map run_of rest ++ r ∷ []) same ∙ ap (λ rs. map run_of rest ++ rs) (sym (goes_on (run_of last) p on)) ∙ sym (behind_last old rest last p is)

-- it stands apart from the last one
pub push_apart : {A : Type 0} → (old rest mid new : List (Piece A)) (last : Piece A) (q p : Run) → old ≡ rest ++ last ∷ [] → q ≡ p → p.at == last.at + length last.bytes ≡ false
    → map run_of mid ≡ map run_of rest ++ run_of last ∷ [] → map run_of new ≡ map run_of mid ++ q ∷ [] → map run_of new ≡ with_run (map run_of old) p
push_apart old rest mid new last q p is same apart e f =
    f ∙ ap (λ rs. rs ++ q ∷ []) e ∙ append_assoc (map run_of rest) (run_of last ∷ []) (q ∷ []) ∙ ap (λ r. map run_of rest ++ run_of last ∷ r ∷ []) same
    ∙ ap (λ rs. map run_of rest ++ rs) (sym (stands_apart (run_of last) p apart)) ∙ sym (behind_last old rest last p is)
