-- Where a text's last entry begins, and what its first line and its last one tell.
use Rattle.std.proofs.Common.{◌≡◌, ◌⊎◌, inl, inr, ℕ, ◌+◌, ◌-◌, ◌<◌, ◌≤◌, min, List, [], ◌++◌, length, take, drop, refl, ap, sym, ◌∙◌, arith, append_assoc, length-append, length-drop, Option, None, Some, slice_index}
use Rattle.std.specs.Prelude.{IfNone, IfSome, codes}
use Rattle.std.proofs.lemmas.Bool.{cases_lt}
use Rattle.std.proofs.lemmas.List.{get_or-drop, get_or-take, length-take, take-append-drop, take-take, take_all, take_min}
use Rattle.memchr.specs.Find.{NoneAfter, Nowhere, OccursAt}
use Rattle.bx_journal_format.specs.Hex.{hex_digits}
use Rattle.bx_journal_format.proofs.HexLemmas.{length-hex_digits}
use Rattle.bx_journal_image.specs.Entry.{BeginsBehind, IsBefore, IsLastEntryAt, TellsBefore, beginning_line}
use Rattle.bx_journal_image.specs.Line.{field}
use Rattle.bx_journal_image.specs.Ranges.{EndsIn, ending_line}
use Rattle.bx_journal_image.proofs.RangeLemmas.{end_long, last_of}

module _ (text buf : List ℕ) (from size : ℕ) (is : buf ≡ take size (drop from text)) (fits : from + size ≤ length text) where
  window_long : length buf ≡ size
  window_long = omega (arith, ap length is, length-take size (drop from text), length-drop from text, fits)

  byte_there : (i : ℕ) → i < size → slice_index buf i ≡ slice_index text (from + i)
  byte_there i below = ap (λ b. slice_index b i) is ∙ get_or-take size (drop from text) i 0 below ∙ get_or-drop from text i 0

  -- where an entry begins in a window of a text, one begins in the text
  pub begins_in : (k : ℕ) → BeginsBehind buf k → BeginsBehind text (from + k)
  begins_in k begins = record {
    fits = omega (arith, begins.fits, window_long, fits);
    reads = λ j few.
        let place : from + k + j ≡ from + (k + j) = omega arith in
        ap (slice_index text) place ∙ sym (byte_there (k + j) (omega (arith, begins.fits, few, window_long))) ∙ begins.reads j few;
  }

  -- and where one begins in the text, one begins in a window that has the place
  begins_there : (k : ℕ) → from ≤ k → k + 7 ≤ from + size → BeginsBehind text k → BeginsBehind buf (k - from)
  begins_there k behind ends begins = record {
    fits = omega (arith, behind, ends, window_long);
    reads = λ j few.
        let place : from + ((k - from) + j) ≡ k + j = omega (arith, behind) in
        byte_there ((k - from) + j) (omega (arith, few, behind, ends)) ∙ ap (slice_index text) place ∙ begins.reads j few;
  }

  module _ (none : (k : ℕ) → BeginsBehind text k → k + 7 ≤ from + size) where
    -- the last one of the window is the last one of the text
    pub last_in : (i : ℕ) → NoneAfter (OccursAt buf (codes "\nchange")) 0 (length buf + 1) i → OccursAt buf (codes "\nchange") i → IsLastEntryAt text (from + i + 1)
    last_in i after begins = record {
      within = omega (arith, begins.fits, window_long, fits);
      begins = inr (from + i, refl, begins_in i begins);
      last = λ k behind there.
          let ends : k + 7 ≤ from + size = none k there in
          after.after (k - from) (omega (arith, behind)) (omega (arith, behind, ends, window_long)) (begins_there k (omega (arith, behind)) ends there);
    }

    -- where none begins in the window, each one begins before it
    pub none_in : Nowhere (OccursAt buf (codes "\nchange")) 0 (length buf + 1) → (k : ℕ) → BeginsBehind text k → k + 7 ≤ from + 7 - 1
    none_in nowhere k there = at (cases_lt k from)
      where
        at : (k < from) ⊎ (from ≤ k) → k + 7 ≤ from + 7 - 1
        at (inl before) = omega (arith, before)
        at (inr behind) =
            let ends : k + 7 ≤ from + size = none k there in
            absurd (nowhere (k - from) (omega arith) (omega (arith, behind, ends, window_long)) (begins_there k behind ends there))

-- an entry begins within a text
pub begins_within : (text : List ℕ) (k len : ℕ) → len ≡ length text → BeginsBehind text k → k + 7 ≤ len
begins_within text k len long begins = omega (arith, long, begins.fits)

-- where none begins so it begins at the start
pub none_at : (text : List ℕ) (end : ℕ) → ((k : ℕ) → BeginsBehind text k → k + 7 ≤ end) → end < 7 → IsLastEntryAt text 0
none_at text end none small = record { within = omega arith; begins = inl refl; last = λ k behind there. absurd (omega (arith, small, none k there)) }

-- the line that begins an entry
pub begin_long : (n before : ℕ) → length (beginning_line n before) ≡ 34
unfolding beginning_line
begin_long n before =
    omega (
      arith,
      length-append (field (codes "change2 ") 8 n ++ field (codes " ") 16 before) (codes "\n"),
      length-append (field (codes "change2 ") 8 n) (field (codes " ") 16 before),
      length-append (codes "change2 ") (hex_digits 8 n),
      length-append (codes " ") (hex_digits 16 before),
      length-hex_digits 8 n,
      length-hex_digits 16 before,
    )

-- its fields
pub begin_fields : (line : List ℕ) (n before : ℕ) → line ≡ beginning_line n before → line ≡ field (codes "change2 ") 8 n ++ (field (codes " ") 16 before ++ codes "\n")
unfolding beginning_line
begin_fields line n before is = is ∙ append_assoc (field (codes "change2 ") 8 n) (field (codes " ") 16 before) (codes "\n")

-- an entry that is shorter than the line doesn't begin with it
pub too_short : (entry : List ℕ) (before : ℕ) → length entry < 34 → TellsBefore entry before → ⊥
too_short entry before short restores = omega (arith, short, length-take 34 entry, ap length restores.is, begin_long restores.n before)

-- what an entry tells by its first bytes
pub before_of : (entry first : List ℕ) (n len : ℕ) (found : Option ℕ) → first ≡ take n entry → n ≡ min 34 len → len ≡ length entry → IsBefore first found → IsBefore entry found
before_of entry first n len found is least long = at found
  where
    bytes : take 34 first ≡ take 34 entry
    bytes =
        let count : n ≡ min 34 (length entry) = omega (arith, least, long) in
        ap (take 34) (is ∙ ap (λ k. take k entry) count ∙ take_min 34 entry) ∙ take-take 34 34 entry (omega arith)

    at : (found : Option ℕ) → IsBefore first found → IsBefore entry found
    at None none = λ before restores. none before (record { n = restores.n; number = restores.number; fits = restores.fits; is = bytes ∙ restores.is })
    at (Some before) restores = record { n = restores.n; number = restores.number; fits = restores.fits; is = sym bytes ∙ restores.is }

module _ (text last : List ℕ) (k n : ℕ) (is : last ≡ take 32 (drop k text)) (long : k + 32 ≡ length text) where
  last_is : last ≡ drop k text
  last_is = is ∙ take_all 32 (drop k text) (omega (arith, long, length-drop k text))

  -- a text ends as its last bytes
  pub ends_some : EndsIn last n → EndsIn text n
  ends_some ends = record {
    front = take k text ++ ends.front;
    after = ends.after;
    number = ends.number;
    fits = ends.fits;
    is = sym (take-append-drop k text) ∙ ap (λ t. take k text ++ t) (sym last_is ∙ ends.is) ∙ sym (append_assoc (take k text) ends.front (ending_line n ends.after));
  }

  pub ends_none : EndsIn text n → EndsIn last n
  ends_none ends = record {
    front = [];
    after = ends.after;
    number = ends.number;
    fits = ends.fits;
    is = last_is ∙ last_of text ends.front n ends.after k ends.is (omega (arith, long));
  }

-- a text that is shorter than the line doesn't end with it
pub no_end : (text : List ℕ) (n : ℕ) → length text < 32 → EndsIn text n → ⊥
no_end text n short ends = omega (arith, short, ap length ends.is, length-append ends.front (ending_line n ends.after), end_long n ends.after)

-- what is said of a value, if there is one
pub some_weaker : {A : Type 0} (o : Option A) (P Q : A → Type 0) → ((a : A) → P a → Q a) → IfSome o P → IfSome o Q
some_weaker None P Q weaker is = tt
some_weaker (Some a) P Q weaker is = weaker a is

-- and of none
pub none_weaker : {A : Type 0} (o : Option A) (P Q : Type 0) → (P → Q) → IfNone o P → IfNone o Q
none_weaker None P Q weaker is = weaker is
none_weaker (Some a) P Q weaker is = tt
