-- Ranges of runs: a line more.
use Rattle.std.proofs.Common.{◌≡◌, ℕ, ◌+◌, ◌≤◌, ◌<◌, Bool, true, false, List, [], ◌∷◌, ◌++◌, length, length-append, length-take, take, drop, refl, ap, sym, ◌∙◌, subst, arith, append_assoc, append-nil, inl, inr, Some, None}
use Rattle.std.specs.Prelude.{◌&&◌, ◌==◌, nat_le, if◌then◌else◌, flat_map}
use Rattle.std.proofs.lemmas.Grind.{common_steps, flat_map-append}
use Rattle.bx_journal_format.specs.DumpLine.{run_of_line}
use Rattle.bx_journal_format.specs.Kept.{Run, with_run}
use Rattle.bx_journal_format.specs.Line.{saved_in}
use Rattle.bx_journal_format.specs.Ranges.{range_text, ranges_text, AreRanged, ArePut, EndIn, PutsRange, RangesOn}
use Rattle.bx_journal_format.specs.Spelled.{runs_behind, with_found, with_line}
use Rattle.bx_journal_format.specs.Text.{ended, split}
use Rattle.bx_journal_format.specs.declared.read.ranges.Ranging.{Ranging}
use Rattle.bx_journal_format.proofs.Gathered.{goes_on, stands_apart, with_run-last}
use Rattle.bx_journal_format.proofs.Inverse.{bind_some, test_some}
use Rattle.bx_journal_format.proofs.Splits.{split-append, split-ended}
use Rattle.bx_journal_format.proofs.TallyLemmas.{IsFirstLine, line_taken, take_sum}

both : (a b : Bool) → a && b ≡ true → b ≡ true
both true b e = e
both false b e = absurd (cc)

-- what a saved line gives ends within the length
pub saved_fits : (len : ℕ) (line : List ℕ) (p : Run) → saved_in len line ≡ Some p → p.at + length p.bytes ≤ len
unfolding saved_in
saved_fits len line p e =
    let found = bind_some (λ piece. if nat_le (length piece.bytes) 16 && nat_le (piece.at + length piece.bytes) len then Some piece else None) (run_of_line line) p e in
    let test = test_some (nat_le (length found.0.bytes) 16 && nat_le (found.0.at + length found.0.bytes) len) found.0 p found.2 in
    let fits : nat_le (found.0.at + length found.0.bytes) len ≡ true = both (nat_le (length found.0.bytes) 16) (nat_le (found.0.at + length found.0.bytes) len) test.0 in
    let below : found.0.at + length found.0.bytes ≤ len = grind (arith, common_steps, fits) in
    subst (λ (q : Run). q.at + length q.bytes ≤ len) test.1 below

pub behind_none : (len : ℕ) (runs : List Run) (line : List ℕ) → saved_in len line ≡ None → runs_behind len runs (line ∷ []) ≡ runs
unfolding runs_behind
behind_none len runs line e = ap (with_found runs) e

pub behind_some : (len : ℕ) (runs : List Run) (line : List ℕ) (p : Run) → saved_in len line ≡ Some p → runs_behind len runs (line ∷ []) ≡ with_run runs p
unfolding runs_behind
behind_some len runs line p e = ap (with_found runs) e

pub runs_behind-append : (len : ℕ) (runs : List Run) (a b : List (List ℕ)) → runs_behind len runs (a ++ b) ≡ runs_behind len (runs_behind len runs a) b
unfolding runs_behind
runs_behind-append len runs [] b = refl
runs_behind-append len runs (line ∷ a) b = runs_behind-append len (with_line len runs line) a b

-- no run yet
pub none_ranged : AreRanged [] (record { at = 0; count = 0; is_behind = false }) []
none_ranged = record { front = []; bytes = []; count = refl; are = inr (refl, refl, refl, refl); put = (refl, refl) }

single : (p : Run) → with_run [] p ≡ p ∷ []
unfolding with_run
single p = refl

pub same_place : (m n : ℕ) → (m == n) ≡ true → m ≡ n
same_place m n e = grind (arith, common_steps)

-- a line that goes on with the last run
pub ranged_on : (runs : List Run) (r : Ranging) (text : List ℕ) (p : Run) (count : ℕ) → AreRanged runs r text → (p.at == r.at + r.count) ≡ true → length p.bytes ≡ count
    → AreRanged (with_run runs p) (record { at = r.at; count = r.count + count; is_behind = r.is_behind }) text
ranged_on runs r text p count a touches many = record {
  front = a.front;
  bytes = a.bytes ++ p.bytes;
  count = omega (arith, length-append a.bytes p.bytes, a.count, many);
  are = elim a.are [ inl is ↦ inl (by_run is) | inr none ↦ inl (by_none none) ];
  put = a.put;
}
  where
    by_run : runs ≡ a.front ++ record { at = r.at; bytes = a.bytes } ∷ [] → with_run runs p ≡ a.front ++ record { at = r.at; bytes = a.bytes ++ p.bytes } ∷ []
    by_run is =
        let here : p.at == r.at + length a.bytes ≡ true = ap (λ n. p.at == r.at + n) a.count ∙ touches in
        ap (λ rs. with_run rs p) is ∙ with_run-last a.front (record { at = r.at; bytes = a.bytes }) p ∙ ap (λ rs. a.front ++ rs) (goes_on (record { at = r.at; bytes = a.bytes }) p here)

    by_none : (runs ≡ []) × (a.front ≡ []) × (r.at ≡ 0) × (a.bytes ≡ []) → with_run runs p ≡ a.front ++ record { at = r.at; bytes = a.bytes ++ p.bytes } ∷ []
    by_none none =
        let at : p.at ≡ r.at = omega (arith, same_place p.at (r.at + r.count) touches, a.count, ap length none.3) in
        ap (λ rs. with_run rs p) none.0 ∙ single p ∙ ap (λ n. record { at = n; bytes = p.bytes } ∷ []) at ∙ ap (λ bs. record { at = r.at; bytes = bs ++ p.bytes } ∷ []) (sym none.3)
        ∙ ap (λ rs. rs ++ record { at = r.at; bytes = a.bytes ++ p.bytes } ∷ []) (sym none.1)

-- a line that begins another run
pub ranged_anew : (runs : List Run) (r : Ranging) (old new before : List ℕ) (p : Run) (count : ℕ) (is_behind : Bool) → AreRanged runs r (before ++ old) → (p.at == r.at + r.count) ≡ false → length p.bytes ≡ count
    → PutsRange r old new is_behind → AreRanged (with_run runs p) (record { at = p.at; count = count; is_behind = is_behind }) (before ++ new)
ranged_anew runs r old new before p count is_behind a apart many puts = elim a.are [ inl is ↦ by_run is | inr none ↦ by_none none ]
  where
    put : ArePut is_behind (flat_map range_text a.front ++ range_text (record { at = r.at; bytes = a.bytes })) (before ++ new)
    put = puts before (flat_map range_text a.front) a.bytes a.count a.put

    by_run : runs ≡ a.front ++ record { at = r.at; bytes = a.bytes } ∷ [] → AreRanged (with_run runs p) (record { at = p.at; count = count; is_behind = is_behind }) (before ++ new)
    by_run is =
        let last : Run = record { at = r.at; bytes = a.bytes } in
        let here : p.at == r.at + length a.bytes ≡ false = ap (λ n. p.at == r.at + n) a.count ∙ apart in
        let more : flat_map range_text (a.front ++ last ∷ []) ≡ flat_map range_text a.front ++ range_text last =
        flat_map-append range_text a.front (last ∷ []) ∙ ap (λ t. flat_map range_text a.front ++ t) (append-nil (range_text last)) in
        record {
          front = a.front ++ last ∷ [];
          bytes = p.bytes;
          count = many;
          are = inl (ap (λ rs. with_run rs p) is ∙ with_run-last a.front last p ∙ ap (λ rs. a.front ++ rs) (stands_apart last p here) ∙ sym (append_assoc a.front (last ∷ []) (p ∷ [])));
          put = subst (λ t. ArePut is_behind t (before ++ new)) (sym more) put;
        }

    by_none : (runs ≡ []) × (a.front ≡ []) × (r.at ≡ 0) × (a.bytes ≡ []) → AreRanged (with_run runs p) (record { at = p.at; count = count; is_behind = is_behind }) (before ++ new)
    by_none none =
        let no_bytes : range_text (record { at = r.at; bytes = a.bytes }) ≡ [] = ap (λ bs. range_text (record { at = r.at; bytes = bs })) none.3 in
        let nothing : flat_map range_text a.front ++ range_text (record { at = r.at; bytes = a.bytes }) ≡ [] =
        ap (λ fs. flat_map range_text fs ++ range_text (record { at = r.at; bytes = a.bytes })) none.1 ∙ no_bytes in
        record {
          front = [];
          bytes = p.bytes;
          count = many;
          are = inl (ap (λ rs. with_run rs p) none.0 ∙ single p);
          put = subst (λ t. ArePut is_behind t (before ++ new)) nothing put;
        }

-- the last range
put_all : (b : Bool) (ranges text : List ℕ) → ArePut b ranges text → text ≡ drop 1 ranges
put_all true ranges text put = sym (ap (drop 1) put)
put_all false ranges text put = put.1 ∙ sym (ap (drop 1) put.0)

pub ranged_all : (runs : List Run) (r : Ranging) (old new before : List ℕ) (is_behind : Bool) → AreRanged runs r (before ++ old) → PutsRange r old new is_behind → before ++ new ≡ ranges_text runs
ranged_all runs r old new before is_behind a puts = put_all is_behind (flat_map range_text runs) (before ++ new) (elim a.are [ inl is ↦ by_run is | inr none ↦ by_none none ])
  where
    put : ArePut is_behind (flat_map range_text a.front ++ range_text (record { at = r.at; bytes = a.bytes })) (before ++ new)
    put = puts before (flat_map range_text a.front) a.bytes a.count a.put

    by_run : runs ≡ a.front ++ record { at = r.at; bytes = a.bytes } ∷ [] → ArePut is_behind (flat_map range_text runs) (before ++ new)
    by_run is =
        let last : Run = record { at = r.at; bytes = a.bytes } in
        let more : flat_map range_text runs ≡ flat_map range_text a.front ++ range_text last =
        ap (flat_map range_text) is ∙ flat_map-append range_text a.front (last ∷ []) ∙ ap (λ t. flat_map range_text a.front ++ t) (append-nil (range_text last)) in
        subst (λ t. ArePut is_behind t (before ++ new)) (sym more) put

    by_none : (runs ≡ []) × (a.front ≡ []) × (r.at ≡ 0) × (a.bytes ≡ []) → ArePut is_behind (flat_map range_text runs) (before ++ new)
    by_none none =
        let no_bytes : range_text (record { at = r.at; bytes = a.bytes }) ≡ [] = ap (λ bs. range_text (record { at = r.at; bytes = bs })) none.3 in
        let nothing : flat_map range_text a.front ++ range_text (record { at = r.at; bytes = a.bytes }) ≡ [] =
        ap (λ fs. flat_map range_text fs ++ range_text (record { at = r.at; bytes = a.bytes })) none.1 ∙ no_bytes in
        subst (λ t. ArePut is_behind t (before ++ new)) (nothing ∙ sym (ap (flat_map range_text) none.0)) put

-- the lines of a window, one more
pub ranges_next : (len : ℕ) (window rest : List ℕ) (taken i : ℕ) (from now next : Ranging) (old mid new : List ℕ)
    → RangesOn len (split (take taken window)).lines from old mid now → (split (take taken window)).rest ≡ [] → rest ≡ drop taken window → IsFirstLine rest i
    → RangesOn len (take i rest ∷ []) now mid new next
    → RangesOn len (split (take (taken + (i + 1)) window)).lines from old new next × ((split (take (taken + (i + 1)) window)).rest ≡ [])
unfolding split
ranges_next len window rest taken i from now next old mid new first whole left f more =
    let taken_is : take (taken + (i + 1)) window ≡ take taken window ++ ended (take i rest) =
    take_sum taken (i + 1) window ∙ ap (λ l. take taken window ++ take (i + 1) l) (sym left) ∙ ap (λ l. take taken window ++ l) (line_taken rest i f) in
    let one : split (ended (take i rest)) ≡ record { lines = take i rest ∷ []; rest = [] } = split-ended (take i rest) [] f.plain in
    let parts : split (take (taken + (i + 1)) window) ≡ record { lines = (split (take taken window)).lines ++ take i rest ∷ []; rest = [] } =
    ap split taken_is ∙ split-append (take taken window) (ended (take i rest)) whole ∙ ap (λ s. record { lines = (split (take taken window)).lines ++ s.lines; rest = s.rest }) one in (
      λ runs before a.
          let all : runs_behind len runs (split (take (taken + (i + 1)) window)).lines ≡ runs_behind len (runs_behind len runs (split (take taken window)).lines) (take i rest ∷ []) =
          ap (λ s. runs_behind len runs s.lines) parts ∙ runs_behind-append len runs (split (take taken window)).lines (take i rest ∷ []) in
          subst (λ rs. AreRanged rs next (before ++ new)) (sym all) (more (runs_behind len runs (split (take taken window)).lines) before (first runs before a)),
      ap (λ s. s.rest) parts,
    )

pub ranges_none : (len : ℕ) (window : List ℕ) (from : Ranging) (old : List ℕ) → RangesOn len (split (take 0 window)).lines from old old from × ((split (take 0 window)).rest ≡ [])
unfolding split runs_behind
ranges_none len window from old = (λ runs before a. a, refl)
