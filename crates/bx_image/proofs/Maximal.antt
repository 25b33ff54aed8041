-- The maximal runs of a partial map are determined.
use Rattle.std.proofs.Common.{◌≡◌, ◌≢◌, ℕ, zero, suc, ◌+◌, ◌-◌, ◌<◌, ◌≤◌, inl, inr, true, false, Option, None, Some, List, [], ◌∷◌, length, slice_index, refl, ap, ◌∙◌, sym, subst, arith}
use Rattle.std.specs.Prelude.{◌==◌}
use Rattle.std.specs.Option.{option_or}
use Rattle.std.proofs.lemmas.Bool.{cases_lt, cases_eq, eq-eqb}
use Rattle.std.proofs.lemmas.Bool.Decides.{nat_tests}
use Rattle.bx_text.specs.declared.owned.pieces.Piece.{Piece}
use Rattle.bx_image.specs.Image.{is_within}
use Rattle.bx_image.specs.Change.{byte_in, with_byte, runs_from, AreNonEmpty, BeginAbove, HaveGaps, AreMaximalRuns}
use Rattle.bx_image.specs.private.Change.{byte_of, with_byte_if}
use Rattle.bx_image.proofs.Images.{same_image}

pub option_or-none : (o : Option ℕ) → option_or o None ≡ o
option_or-none None = refl
option_or-none (Some v) = refl

byte_of_within : {A : Type 0} (run : Piece A) (j : ℕ) → j < length run.bytes → byte_of run (run.at + j) ≡ Some (slice_index run.bytes j)
byte_of_within run j h =
    let within : is_within run.at run.bytes (run.at + j) ≡ true = grind (arith, nat_tests) in
    let e : (run.at + j) - run.at ≡ j = omega arith in
    rw within (ap (λ k. Some (slice_index run.bytes k)) e)

byte_of_below : {A : Type 0} (run : Piece A) (i : ℕ) → i < run.at → byte_of run i ≡ None
byte_of_below run i h = let out : is_within run.at run.bytes i ≡ false = grind (arith, nat_tests) in rw out refl

byte_of_above : {A : Type 0} (run : Piece A) (i : ℕ) → run.at + length run.bytes ≤ i → byte_of run i ≡ None
byte_of_above run i h = let out : is_within run.at run.bytes i ≡ false = grind (arith, nat_tests) in rw out refl

-- nothing before the first run
pub byte_in_before : {A : Type 0} (runs : List (Piece A)) (end i : ℕ) → HaveGaps runs → BeginAbove end runs → i ≤ end → byte_in runs i ≡ None
unfolding byte_in
byte_in_before [] end i gaps above h = refl
byte_in_before (run ∷ runs) end i gaps above h =
    rw (byte_in_before runs (run.at + length run.bytes) i gaps.1 gaps.0 (omega arith), byte_of_below run i (omega arith)) refl

-- the bytes of the first run
pub byte_in_first : {A : Type 0} (run : Piece A) (runs : List (Piece A)) (j : ℕ) → HaveGaps (run ∷ runs) → j < length run.bytes → byte_in (run ∷ runs) (run.at + j) ≡ Some (slice_index run.bytes j)
unfolding byte_in
byte_in_first run runs j gaps h =
    rw (byte_in_before runs (run.at + length run.bytes) (run.at + j) gaps.1 gaps.0 (omega arith), byte_of_within run j h) refl

-- nothing right behind it
pub byte_in_behind : {A : Type 0} (run : Piece A) (runs : List (Piece A)) → HaveGaps (run ∷ runs) → byte_in (run ∷ runs) (run.at + length run.bytes) ≡ None
unfolding byte_in
byte_in_behind run runs gaps =
    rw (byte_in_before runs (run.at + length run.bytes) (run.at + length run.bytes) gaps.1 gaps.0 (omega arith), byte_of_above run (run.at + length run.bytes) (omega arith)) refl

-- above it the bytes of the others
pub byte_in_rest : {A : Type 0} (run : Piece A) (runs : List (Piece A)) (i : ℕ) → run.at + length run.bytes ≤ i → byte_in (run ∷ runs) i ≡ byte_in runs i
unfolding byte_in
byte_in_rest run runs i h = rw (byte_of_above run i h) (option_or-none (byte_in runs i))

no_earlier : {A : Type 0} (r s : Piece A) (rs ss : List (Piece A)) → HaveGaps (r ∷ rs) → HaveGaps (s ∷ ss) → 0 < length r.bytes → ((i : ℕ) → byte_in (r ∷ rs) i ≡ byte_in (s ∷ ss) i) → s.at ≤ r.at
no_earlier r s rs ss gr gs some same = elim (cases_lt r.at s.at) [
  | inl earlier ↦
      let one = byte_in_first r rs 0 gr some in
      let none = byte_in_before (s ∷ ss) (r.at + 0) (r.at + 0) gs (omega arith) (omega arith) in
      let both = same (r.at + 0) in
      cc
  | inr late ↦ late
]

no_shorter : {A : Type 0} (r s : Piece A) (rs ss : List (Piece A)) → HaveGaps (r ∷ rs) → HaveGaps (s ∷ ss) → r.at ≡ s.at → ((i : ℕ) → byte_in (r ∷ rs) i ≡ byte_in (s ∷ ss) i) → length s.bytes ≤ length r.bytes
no_shorter r s rs ss gr gs at same = elim (cases_lt (length r.bytes) (length s.bytes)) [
  | inl shorter ↦
      let none = byte_in_behind r rs gr in
      let one = byte_in_first s ss (length r.bytes) gs shorter in
      let both = same (r.at + length r.bytes) in
      let place : r.at + length r.bytes ≡ s.at + length r.bytes = omega arith in
      let moved = ap (byte_in (s ∷ ss)) place in
      cc
  | inr long ↦ long
]

piece_same : {A : Type 0} (r s : Piece A) → r.at ≡ s.at → r.bytes ≡ s.bytes → r ≡ s
piece_same {A = A} r s at bytes =
    let move_at : ℕ → Piece A = λ n. record { at = n; bytes = r.bytes } in
    let move_bytes : List ℕ → Piece A = λ b. record { at = s.at; bytes = b } in
    ap move_at at ∙ ap move_bytes bytes

Some_same : (u v : ℕ) → Some u ≡ Some v → u ≡ v
Some_same u v e = cc

-- two lists of maximal runs with the same bytes are equal
pub same_runs : {A : Type 0} (rs ss : List (Piece A)) → AreNonEmpty rs → AreNonEmpty ss → HaveGaps rs → HaveGaps ss → ((i : ℕ) → byte_in rs i ≡ byte_in ss i) → rs ≡ ss
unfolding byte_in
same_runs [] [] fr fs gr gs same = refl
same_runs [] (s ∷ ss) fr fs gr gs same =
    let one = byte_in_first s ss 0 gs fs.0 in
    let both = same (s.at + 0) in
    cc
same_runs (r ∷ rs) [] fr fs gr gs same =
    let one = byte_in_first r rs 0 gr fr.0 in
    let both = same (r.at + 0) in
    cc
same_runs {A = A} (r ∷ rs) (s ∷ ss) fr fs gr gs same =
    let back : (i : ℕ) → byte_in (s ∷ ss) i ≡ byte_in (r ∷ rs) i = λ i. sym (same i) in
    let lo : s.at ≤ r.at = no_earlier r s rs ss gr gs fr.0 same in
    let hi : r.at ≤ s.at = no_earlier s r ss rs gs gr fs.0 back in
    let at : r.at ≡ s.at = omega arith in
    let at_back : s.at ≡ r.at = omega arith in
    let longer : length s.bytes ≤ length r.bytes = no_shorter r s rs ss gr gs at same in
    let shorter : length r.bytes ≤ length s.bytes = no_shorter s r ss rs gs gr at_back back in
    let long : length r.bytes ≡ length s.bytes = omega arith in
    let bytes : r.bytes ≡ s.bytes = same_image r.bytes s.bytes long (λ j h.
    let h2 : j < length s.bytes = omega arith in
    let place : s.at + j ≡ r.at + j = omega arith in
    Some_same _ _ (sym (byte_in_first r rs j gr h) ∙ same (r.at + j) ∙ ap (byte_in (s ∷ ss)) (sym place) ∙ byte_in_first s ss j gs h2)) in
    let rest : rs ≡ ss = same_runs rs ss fr.1 fs.1 gr.1 gs.1 (λ i. elim (cases_lt i (r.at + length r.bytes)) [
      | inl here ↦
          byte_in_before rs (r.at + length r.bytes) i gr.1 gr.0 (omega arith)
          ∙ sym (byte_in_before ss (s.at + length s.bytes) i gs.1 gs.0 (omega arith))
      | inr above ↦
          sym (byte_in_rest r rs i above) ∙ same i ∙ byte_in_rest s ss i (omega arith)
    ]) in
    let head = piece_same r s at bytes in
    cc

pub maximal_runs_same : {A : Type 0} (byte : ℕ → Option ℕ) (rs ss : List (Piece A)) → AreMaximalRuns byte rs → AreMaximalRuns byte ss → rs ≡ ss
maximal_runs_same byte rs ss r s = same_runs rs ss r.some s.some r.gaps s.gaps (λ i. r.same i ∙ sym (s.same i))

-- a byte in front of runs that begin above it
record Fronted {A : Type 0} (at b : ℕ) (runs fronted : List (Piece A)) : Type 0 where
  some : AreNonEmpty fronted
  gaps : HaveGaps fronted
  above : (end : ℕ) → end < at → BeginAbove end fronted
  here : byte_in fronted at ≡ Some b
  other : (i : ℕ) → i ≢ at → byte_in fronted i ≡ byte_in runs i

-- a run with a byte in front
abbrev longer : {A : Type 0} → ℕ → ℕ → Piece A → Piece A
longer at b run = record { at = at; bytes = b ∷ run.bytes }

byte_of_longer : {A : Type 0} (at b i : ℕ) (run : Piece A) → run.at ≡ suc at → i ≢ at → byte_of (longer at b run) i ≡ byte_of run i
byte_of_longer {A = A} at b i run next other = elim (cases_lt i run.at) [
  | inl below ↦ byte_of_below (longer at b run) i (omega arith) ∙ sym (byte_of_below run i below)
  | inr hi ↦ elim (cases_lt i (run.at + length run.bytes)) [
    | inl within ↦
        let j : ℕ = i - run.at in
        let mine : i ≡ run.at + j = omega arith in
        let front : i ≡ at + suc j = omega arith in
        ap (byte_of (longer at b run)) front ∙ byte_of_within (longer at b run) (suc j) (omega arith) ∙ sym (byte_of_within run j (omega arith)) ∙ ap (byte_of run) (sym mine)
    | inr above ↦ byte_of_above (longer at b run) i (omega arith) ∙ sym (byte_of_above run i above)
  ]
]

byte_of_at : {A : Type 0} (p : Piece A) (b : ℕ) (bytes : List ℕ) → p.bytes ≡ b ∷ bytes → byte_of p p.at ≡ Some b
byte_of_at p b bytes is =
    let some : 0 < length p.bytes = rw is (omega arith) in
    let e : p.at + 0 ≡ p.at = omega arith in
    let first : slice_index p.bytes 0 ≡ b = rw is refl in
    ap (byte_of p) (sym e) ∙ byte_of_within p 0 some ∙ ap Some first

byte_of_one : {A : Type 0} (p : Piece A) (i : ℕ) → length p.bytes ≡ 1 → i ≢ p.at → byte_of p i ≡ None
byte_of_one p i one ne = elim (cases_lt i p.at) [
  | inl below ↦ byte_of_below p i below
  | inr hi ↦ byte_of_above p i (omega arith)
]

byte_in_none : (A : Type 0) (i : ℕ) → byte_in {A = A} [] i ≡ None
unfolding byte_in
byte_in_none A i = refl

fronted_alone : {A : Type 0} (at b : ℕ) → Fronted {A = A} at b [] (with_byte at b [])
unfolding with_byte byte_in
fronted_alone {A = A} at b =
    let p : Piece A = record { at = at; bytes = b ∷ [] } in
    record {
      some = (omega arith, tt);
      gaps = (tt, tt);
      above = λ end h. h;
      here = byte_of_at p b [] refl;
      other = λ i ne. byte_of_one p i refl ne;
    }

fronted_apart : {A : Type 0} (at b : ℕ) (run : Piece A) (runs : List (Piece A)) → AreNonEmpty (run ∷ runs) → HaveGaps (run ∷ runs) → at + 1 < run.at
    → Fronted at b (run ∷ runs) (record { at = at; bytes = b ∷ [] } ∷ run ∷ runs)
unfolding byte_in
fronted_apart {A = A} at b run runs some gaps apart =
    let p : Piece A = record { at = at; bytes = b ∷ [] } in
    let own : HaveGaps (p ∷ run ∷ runs) = (apart, gaps) in
    record {
      some = (omega arith, some);
      gaps = own;
      above = λ end h. h;
      here = ap (byte_in (p ∷ run ∷ runs)) (let e : at ≡ at + 0 = omega arith in e) ∙ byte_in_first p (run ∷ runs) 0 own (omega arith);
      other = λ i ne. rw (byte_of_one p i refl ne) (option_or-none (byte_in (run ∷ runs) i));
    }

fronted_longer : {A : Type 0} (at b : ℕ) (run : Piece A) (runs : List (Piece A)) → AreNonEmpty (run ∷ runs) → HaveGaps (run ∷ runs) → run.at ≡ suc at
    → Fronted at b (run ∷ runs) (record { at = at; bytes = b ∷ run.bytes } ∷ runs)
unfolding byte_in
fronted_longer {A = A} at b run runs some gaps next =
    let p : Piece A = record { at = at; bytes = b ∷ run.bytes } in
    let same_end : run.at + length run.bytes ≡ at + length p.bytes = omega arith in
    let own : HaveGaps (p ∷ runs) = (subst (λ (end : ℕ). BeginAbove end runs) same_end gaps.0, gaps.1) in
    record {
      some = (omega arith, some.1);
      gaps = own;
      above = λ end h. h;
      here = ap (byte_in (p ∷ runs)) (let e : at ≡ at + 0 = omega arith in e) ∙ byte_in_first p runs 0 own (omega arith);
      other = λ i ne. ap (option_or (byte_in runs i)) (byte_of_longer at b i run next ne);
    }

with_byte_fronted : {A : Type 0} (at b : ℕ) (runs : List (Piece A)) → AreNonEmpty runs → HaveGaps runs → BeginAbove at runs → Fronted at b runs (with_byte at b runs)
unfolding with_byte
with_byte_fronted at b [] some gaps above = fronted_alone at b
with_byte_fronted at b (run ∷ runs) some gaps above = elim (cases_eq run.at (suc at)) [
  | inl next ↦
      let test : (run.at == suc at) ≡ true = eq-eqb _ _ next in
      rw test (fronted_longer at b run runs some gaps next)
  | inr apart ↦
      let test : (run.at == suc at) ≡ false = grind (arith, nat_tests) in
      rw test (fronted_apart at b run runs some gaps (omega arith))
]

-- what the runs of n addresses are
record AreRunsFrom {A : Type 0} (byte : ℕ → Option ℕ) (at n : ℕ) (runs : List (Piece A)) : Type 0 where
  some : AreNonEmpty runs
  gaps : HaveGaps runs
  above : (end : ℕ) → end < at → BeginAbove end runs
  inside : (i : ℕ) → at ≤ i → i < at + n → byte_in runs i ≡ byte i
  behind : (i : ℕ) → at + n ≤ i → byte_in runs i ≡ None

more : {A : Type 0} (byte : ℕ → Option ℕ) (at n : ℕ) (runs : List (Piece A)) (o : Option ℕ) → byte at ≡ o → AreRunsFrom byte (suc at) n runs → AreRunsFrom byte at (suc n) (with_byte_if at o runs)
more byte at n runs None is rest = record {
  some = rest.some;
  gaps = rest.gaps;
  above = λ end h. rest.above end (omega arith);
  inside = λ i lo hi. elim (cases_lt at i) [
    | inl later ↦ rest.inside i (omega arith) (omega arith)
    | inr here ↦ let same : i ≡ at = omega arith in rw same (byte_in_before runs at at rest.gaps (rest.above at (omega arith)) (omega arith) ∙ sym is)
  ];
  behind = λ i h. rest.behind i (omega arith);
}
more byte at n runs (Some b) is rest =
    let front = with_byte_fronted at b runs rest.some rest.gaps (rest.above at (omega arith)) in
    record {
      some = front.some;
      gaps = front.gaps;
      above = front.above;
      inside = λ i lo hi. elim (cases_lt at i) [
        | inl later ↦ let ne : i ≢ at = omega arith in front.other i ne ∙ rest.inside i (omega arith) (omega arith)
        | inr here ↦ let same : i ≡ at = omega arith in rw same (front.here ∙ sym is)
      ];
      behind = λ i h. let ne : i ≢ at = omega arith in front.other i ne ∙ rest.behind i (omega arith);
    }

runs_from-runs : {A : Type 0} (byte : ℕ → Option ℕ) (at n : ℕ) → AreRunsFrom {A = A} byte at n (runs_from byte at n)
unfolding runs_from
runs_from-runs {A = A} byte at zero = record {
  some = tt;
  gaps = tt;
  above = λ end h. tt;
  inside = λ i lo hi. absurd (omega arith);
  behind = λ i h. byte_in_none A i;
}
runs_from-runs {A = A} byte at (suc n) =
    let rest = runs_from-runs {A = A} byte (suc at) n in
    more byte at n (runs_from byte (suc at) n) (byte at) refl rest

-- `runs_from` gives the maximal runs of what lies below n
pub runs_from-maximal : {A : Type 0} (byte : ℕ → Option ℕ) (n : ℕ) → ((i : ℕ) → n ≤ i → byte i ≡ None) → AreMaximalRuns {A = A} byte (runs_from byte 0 n)
runs_from-maximal byte n none =
    let runs = runs_from-runs byte 0 n in
    record {
      same = λ i. elim (cases_lt i n) [
        | inl below ↦ runs.inside i (omega arith) (omega arith)
        | inr above ↦ runs.behind i (omega arith) ∙ sym (none i above)
      ];
      some = runs.some;
      gaps = runs.gaps;
    }
