-- The text of lines that are added.
use Rattle.std.proofs.Common.{◌≡◌, ℕ, zero, suc, ◌+◌, ◌-◌, ◌*◌, ◌<◌, ◌≤◌, Bool, true, false, not, cond, List, [], ◌∷◌, ◌++◌, length, take, drop, inl, inr, refl, sym, ap, subst, ◌∙◌, append_assoc, append-nil, arith}
use Rattle.std.specs.List.{flat_map, range_with_len}
use Rattle.std.specs.Prelude.{bytes_eq}
use Rattle.bx_text.specs.Fold.{line_bytes}
use Rattle.std.proofs.lemmas.Bool.{cases_lt}
use Rattle.std.proofs.lemmas.Slice.Eq.{bytes_eq-Decides}
use Rattle.bx_text.specs.Dump.{dump_line}
use Rattle.bx_patch.specs.declared.diff.row.Extent.{Extent}
use Rattle.bx_patch.specs.declared.diff.row.Extent.TheVariants.{Bytes, Rows}
use Rattle.bx_patch.specs.Text.{differs, sign_of, line_for, signed_line_text, span_lines, row_lines, spans_from}
use Rattle.bx_patch.specs.private.Row.{AreSame, AreOther, window_lines}
use Rattle.bx_patch.proofs.SpanLemmas.{span_run, span_skip, span_none, Ends}

pub line_some : (new : Bool) (at : ℕ) (bytes : List ℕ) → 0 < length bytes → flat_map signed_line_text (line_for new at bytes) ≡ sign_of new ∷ dump_line false 16 2 at bytes
line_some new at [] some = absurd (omega arith)
line_some new at (b ∷ bytes) some = append-nil (sign_of new ∷ dump_line false 16 2 at (b ∷ bytes))

pub line_none : (new : Bool) (at : ℕ) (bytes : List ℕ) → length bytes ≡ 0 → flat_map signed_line_text (line_for new at bytes) ≡ []
line_none new at [] none = refl
line_none new at (b ∷ bytes) none = absurd (omega arith)

pub flat_more : {A B : Type 0} (f : A → List B) (xs ys : List A) → flat_map f (xs ++ ys) ≡ flat_map f xs ++ flat_map f ys
flat_more f [] ys = refl
flat_more f (x ∷ xs) ys = ap (λ t. f x ++ t) (flat_more f xs ys) ∙ sym (append_assoc (f x) (flat_map f xs) (flat_map f ys))

-- the text of what is left of a row
abbrev pub row_rest : ℕ → List ℕ → List ℕ → ℕ → List ℕ
row_rest at old new from = flat_map signed_line_text (flat_map (span_lines at old new) (spans_from (differs old new) from (16 - from)))

pub row_begin : (at : ℕ) (old new : List ℕ) (from : ℕ) → from ≤ 16 → AreSame old new 0 from →
    flat_map signed_line_text (row_lines Bytes at old new) ≡ row_rest at old new from
row_begin at old new from most same =
    let count : 16 ≡ from + (16 - from) = omega arith in
    let spans : spans_from (differs old new) 0 16 ≡ spans_from (differs old new) from (16 - from) =
    ap (spans_from (differs old new) 0) count ∙ span_skip (differs old new) 0 from (16 - from) (λ j above below. same j above (omega arith))
    ∙ ap (λ a. spans_from (differs old new) a (16 - from)) (let e : 0 + from ≡ from = omega arith in e) in
    ap (λ spans. flat_map signed_line_text (flat_map (span_lines at old new) spans)) spans

pub row_next : (at : ℕ) (old new : List ℕ) (from to next : ℕ) → from < 16 → from < to → to ≤ next → next ≤ 16 →
    AreOther old new from to → (to < 16 → differs old new to ≡ false) → AreSame old new to next →
    row_rest at old new from ≡ flat_map signed_line_text (span_lines at old new (record { at = from; end = to })) ++ row_rest at old new next
row_next at old new from to next inside some later most other ends same =
    let test = differs old new in
    let k : ℕ = to - from - 1 in
    let m : ℕ = 16 - to in
    let count : 16 - from ≡ suc k + m = omega arith in
    let place : from + suc k ≡ to = omega arith in
    let P : ℕ → Type 0 = λ e. Ends test e m in
    let over : Ends test to m = end_by m refl in
    let run : spans_from test from (16 - from) ≡ record { at = from; end = to } ∷ spans_from test to m =
    ap (spans_from test from) count ∙ span_run test from k m (λ j above below. other j above (omega arith)) (subst P (sym place) over)
    ∙ ap (λ e. record { at = from; end = e } ∷ spans_from test e m) place in
    let rest_count : m ≡ (next - to) + (16 - next) = omega arith in
    let rest_place : to + (next - to) ≡ next = omega arith in
    let skip : spans_from test to m ≡ spans_from test next (16 - next) =
    ap (spans_from test to) rest_count ∙ span_skip test to (next - to) (16 - next) (λ j above below. same j above (omega arith))
    ∙ ap (λ a. spans_from test a (16 - next)) rest_place in
    ap (λ spans. flat_map signed_line_text (flat_map (span_lines at old new) spans)) (run ∙ ap (λ spans. record { at = from; end = to } ∷ spans) skip)
    ∙ flat_more signed_line_text (span_lines at old new (record { at = from; end = to })) (flat_map (span_lines at old new) (spans_from test next (16 - next)))
  where
    end_by : (m : ℕ) → m ≡ 16 - to → Ends (differs old new) to m
    end_by zero e = inl refl
    end_by (suc m) e = inr (ends (omega arith))

pub row_end : (at : ℕ) (old new : List ℕ) (from : ℕ) → 16 ≤ from → row_rest at old new from ≡ []
unfolding spans_from
row_end at old new from over =
    let none : 16 - from ≡ 0 = omega arith in
    ap (λ n. flat_map signed_line_text (flat_map (span_lines at old new) (spans_from (differs old new) from n))) none

-- a line that was pushed in two steps
pub added : (old mid new line text : List ℕ) (sign : ℕ) → mid ≡ old ++ sign ∷ [] → new ≡ mid ++ line → text ≡ sign ∷ line → new ≡ old ++ text
added old mid new line text sign a b e = b ∙ ap (λ m. m ++ line) a ∙ append_assoc old (sign ∷ []) line ∙ ap (λ t. old ++ t) (sym e)

-- a text that is added in two steps, so that what is left is as before
pub gone_on : (first old new part before after : List ℕ) → old ++ before ≡ first → before ≡ part ++ after → new ≡ old ++ part → new ++ after ≡ first
gone_on first old new part before after inv step put =
    ap (λ n. n ++ after) put ∙ append_assoc old part after ∙ ap (λ t. old ++ t) (sym step) ∙ inv

-- a place that differs is passed by what passes those that do
pub passes : (old new : List ℕ) (from to : ℕ) → from < 16 → differs old new from ≡ true → from ≤ to → (to < 16 → differs old new to ≡ false) → from < to
passes old new from to inside other least ends = elim (cases_lt from to) [
  | inl more ↦ more
  | inr over ↦
      let same : from ≡ to = omega arith in
      let e : differs old new from ≡ false = ap (differs old new) same ∙ ends (omega arith) in
      absurd (clash (differs old new from) other e)
]
  where
    clash : (b : Bool) → b ≡ true → b ≡ false → ⊥
    clash b t f = cc

pub pushed_line : (old mid after line bytes : List ℕ) (sign at : ℕ) (new : Bool) → mid ≡ old ++ sign ∷ [] → after ≡ mid ++ line → sign ≡ sign_of new →
    line ≡ dump_line false 16 2 at bytes → 0 < length bytes → after ≡ old ++ flat_map signed_line_text (line_for new at bytes)
pushed_line old mid after line bytes sign at new a b s l some =
    added old mid after line (flat_map signed_line_text (line_for new at bytes)) sign a b
    (line_some new at bytes some ∙ ap (λ t. sign_of new ∷ t) (sym l) ∙ ap (λ s. s ∷ line) (sym s))

-- rows that are equal have no lines
never_differs : (x : List ℕ) (j : ℕ) → differs x x j ≡ false
never_differs x j = ap not ((bytes_eq-Decides (take 1 (drop j x)) (take 1 (drop j x))).1 refl)

pub equal_rows : (extent : Extent) (at : ℕ) (old new : List ℕ) → old ≡ new → flat_map signed_line_text (row_lines extent at old new) ≡ []
equal_rows Bytes at old new e =
    let none : row_lines Bytes at old old ≡ [] = ap (λ spans. flat_map (span_lines at old old) spans) (span_none (differs old old) 0 16 (never_differs old)) in
    ap (λ n. flat_map signed_line_text (row_lines Bytes at old n)) (sym e) ∙ ap (flat_map signed_line_text) none
equal_rows Rows at old new e =
    ap (λ b. flat_map signed_line_text (cond b [] (span_lines at old new (record { at = 0; end = 16 })))) ((bytes_eq-Decides old new).1 e)

pub equal_added : (text : List ℕ) (extent : Extent) (at : ℕ) (old new : List ℕ) → old ≡ new → text ≡ text ++ flat_map signed_line_text (row_lines extent at old new)
equal_added text extent at old new e = sym (append-nil text) ∙ ap (λ t. text ++ t) (sym (equal_rows extent at old new e))

-- a row that isn't equal has the lines for all of it
pub whole_row : (at : ℕ) (old new : List ℕ) → bytes_eq old new ≡ false → span_lines at old new (record { at = 0; end = 16 }) ≡ row_lines Rows at old new
whole_row at old new other = ap (λ b. cond b [] (span_lines at old new (record { at = 0; end = 16 }))) (sym other)

-- one number more
pub flat_next : {A : Type 0} (f : ℕ → List A) (from n : ℕ) → flat_map f (range_with_len from (n + 1)) ≡ flat_map f (range_with_len from n) ++ f (from + n)
flat_next f from zero =
    let place : from ≡ from + 0 = omega arith in
    append-nil (f from) ∙ ap f place
flat_next f from (suc n) =
    let place : from + 1 + n ≡ from + suc n = omega arith in
    let count : suc n + 1 ≡ suc (n + 1) = omega arith in
    ap (λ m. flat_map f (range_with_len from m)) count ∙ ap (λ t. f from ++ t) (flat_next f (from + 1) n ∙ ap (λ k. flat_map f (range_with_len (from + 1) n) ++ f k) place)
    ∙ sym (append_assoc (f from) (flat_map f (range_with_len (from + 1) n)) (f (from + suc n)))

pub rows_added : (extent : Extent) (first text next : List ℕ) (at : ℕ) (a b : List ℕ) (k : ℕ) → text ≡ first ++ flat_map signed_line_text (window_lines extent at a b k) →
    next ≡ text ++ flat_map signed_line_text (row_lines extent (at + 16 * k) (line_bytes a k) (line_bytes b k)) →
    next ≡ first ++ flat_map signed_line_text (window_lines extent at a b (k + 1))
rows_added extent first text next at a b k so_far more =
    let row = λ (k : ℕ). row_lines extent (at + 16 * k) (line_bytes a k) (line_bytes b k) in
    let place : 0 + k ≡ k = omega arith in
    let lines : window_lines extent at a b (k + 1) ≡ window_lines extent at a b k ++ row k = flat_next row 0 k ∙ ap (λ j. window_lines extent at a b k ++ row j) place in
    more ∙ ap (λ t. t ++ flat_map signed_line_text (row k)) so_far ∙ append_assoc first (flat_map signed_line_text (window_lines extent at a b k)) (flat_map signed_line_text (row k))
    ∙ ap (λ t. first ++ t) (sym (flat_more signed_line_text (window_lines extent at a b k) (row k)) ∙ ap (flat_map signed_line_text) (sym lines))
