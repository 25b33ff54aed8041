-- What is digested of an image where lines say, a line and a window more.
use Rattle.std.proofs.Common.{◌≡◌, ◌⊎◌, inl, inr, ℕ, ◌+◌, ◌-◌, ◌<◌, ◌≤◌, min, List, [], ◌++◌, length, take, drop, flat_map, None, Some, refl, ap, sym, ◌∙◌, subst, arith, append_assoc, append-nil, length-append, length-drop}
use Rattle.std.proofs.Math.Seq.{take-append-add}
use Rattle.std.proofs.lemmas.Bool.{cases_lt}
use Rattle.std.proofs.lemmas.Grind.{flat_map-append}
use Rattle.std.proofs.lemmas.List.{drop_all, take-append-le, take-take, take_all, take_min}
use Rattle.bx_image.proofs.CacheLemmas.{same_bytes, take_least}
use Rattle.bx_image.specs.Cached.{HasCached}
use Rattle.bx_image.specs.declared.cached.Cached.{Cached}
use Rattle.bx_image.specs.declared.change.TheConstants.{MAX_LEN}
use Rattle.bx_journal_format.specs.Kept.{Run}
use Rattle.bx_journal_format.specs.Line.{saved_in}
use Rattle.bx_journal_format.specs.Text.{split}
use Rattle.bx_journal_format.proofs.Splits.{split-append}
use Rattle.bx_journal_format.proofs.TallyLemmas.{IsFirstLine}
use Rattle.bx_journal_read.specs.scan.Windows.{rest_to}
use Rattle.bx_journal_read.proofs.AddedLemmas.{added_next}
use Rattle.bx_journal_image.specs.declared.finding.summed.Sum.{Sum}
use Rattle.bx_journal_image.specs.Written.{HasSummed, Sums, at_line, at_lines, at_run}
use Rattle.bx_journal_image.proofs.BlockLemmas.{nothing_to, seam}

-- the first of some bytes and of more
pub first_more : (most n : ℕ) (all more : List ℕ) → n ≡ min (length more) (most - length all) → take most all ++ take n more ≡ take most (all ++ more)
first_more most n all more is = at (cases_lt (length all) most)
  where
    at : (length all < most) ⊎ (most ≤ length all) → take most all ++ take n more ≡ take most (all ++ more)
    at (inl short) =
        let sum : length all + (most - length all) ≡ most = omega (arith, short) in
        let least : n ≡ min (most - length all) (length more) = omega (arith, is) in
        ap (λ xs. xs ++ take n more) (take_all most all (omega (arith, short)))
        ∙ ap (λ xs. all ++ xs) (ap (λ k. take k more) least ∙ take_min (most - length all) more)
        ∙ sym (take-append-add all more (most - length all)) ∙ ap (λ k. take k (all ++ more)) sum
    at (inr full) =
        let none : n ≡ 0 = omega (arith, is, full) in
        ap (λ k. take most all ++ take k more) none ∙ append-nil (take most all) ∙ sym (take-append-le most all more full)

-- and how many more count
pub left_more : (most left n : ℕ) (all more : List ℕ) → left ≡ most - length all → n ≡ min (length more) left → left - n ≡ most - length (all ++ more)
left_more most left n all more is least = omega (arith, is, least, length-append all more)

-- nothing more was digested
pub sums_none : (sum : Sum) → Sums sum sum []
sums_none sum all summed = subst (λ xs. HasSummed sum xs) (sym (append-nil all)) summed

-- and more behind it
pub sums_then : (a b c : Sum) (first more : List ℕ) → Sums a b first → Sums b c more → Sums a c (first ++ more)
sums_then a b c first more one next all summed = subst (λ xs. HasSummed c xs) (append_assoc all first more) (next (all ++ first) (one all summed))

pub sums_same : (a b : Sum) (first more : List ℕ) → first ≡ more → Sums a b first → Sums a b more
sums_same a b first more is one = subst (λ xs. Sums a b xs) is one

-- a line is no saved one
pub line_none : (x line : List ℕ) (sum : Sum) → saved_in MAX_LEN line ≡ None → Sums sum sum (at_line x line)
line_none x line sum none = sums_same sum sum [] (at_line x line) (sym (ap (at_run x) none)) (sums_none sum)

-- it is one behind the image's end
pub line_behind : (x line : List ℕ) (sum : Sum) (run : Run) → saved_in MAX_LEN line ≡ Some run → length x ≤ run.at → Sums sum sum (at_line x line)
line_behind x line sum run some behind =
    sums_same sum sum [] (at_line x line) (sym (ap (at_run x) some ∙ ap (take (length run.bytes)) (drop_all run.at x behind) ∙ take_all (length run.bytes) [] (omega arith))) (sums_none sum)

-- it is one of bytes that a page has
pub line_near : (x page line : List ℕ) (k : Cached) (old new : Sum) (run : Run) (count : ℕ) (bytes : List ℕ) → saved_in MAX_LEN line ≡ Some run → take k.count page ≡ take k.count (drop k.at x)
    → HasCached k run.at count → count ≡ min (length run.bytes) (length x - run.at) → bytes ≡ take count (drop (run.at - k.at) page) → Sums old new bytes → Sums old new (at_line x line)
line_near x page line k old new run count bytes some are has least is sums =
    sums_same old new bytes (at_line x line) (
    is ∙ same_bytes x page k.at k.count run.at count are has.0 has.1
    ∙ sym (take_least (length run.bytes) count (drop run.at x) (omega (arith, least)) (λ lt. omega (arith, least, lt, length-drop run.at x)))
    ∙ sym (ap (at_run x) some)
    ) sums

-- a line more
pub lines_next : (x text rest : List ℕ) (taken i : ℕ) (a b c : Sum) → (split (take taken text)).rest ≡ [] → rest ≡ drop taken text → IsFirstLine rest i → Sums a b (at_lines x (take taken text))
    → Sums b c (at_line x (take i rest)) → Sums a c (at_lines x (take (taken + (i + 1)) text))
lines_next x text rest taken i a b c whole left line first next =
    let all : at_lines x (take taken text) ++ at_line x (take i rest) ≡ at_lines x (take (taken + (i + 1)) text) =
    (added_next (at_line x) text rest taken i [] (at_lines x (take taken text)) (at_lines x (take taken text) ++ at_line x (take i rest)) (record { whole = whole; added = refl }) left line refl).added in
    sums_same a c _ _ all (sums_then a b c _ _ first next)

module _ (x text buf : List ℕ) (from at size : ℕ) (order : from ≤ at) (is : buf ≡ take size (drop at text)) (whole : (split (rest_to at from text)).rest ≡ []) where
  -- a window more
  pub window_lines : (taken : ℕ) → taken ≤ size → (split (take taken buf)).lines ≡ (split buf).lines → at_lines x (rest_to at from text) ++ at_lines x buf ≡ at_lines x (rest_to (at + taken) from text)
  window_lines taken few lines =
      let both : (split (rest_to (at + taken) from text)).lines ≡ (split (rest_to at from text)).lines ++ (split (take taken buf)).lines =
      ap (λ t. (split t).lines) (seam text buf from at size taken order is few) ∙ ap (λ s. s.lines) (split-append (rest_to at from text) (take taken buf) whole) in
      sym (ap (flat_map (at_line x)) both ∙ flat_map-append (at_line x) (split (rest_to at from text)).lines (split (take taken buf)).lines
      ∙ ap (λ ls. at_lines x (rest_to at from text) ++ flat_map (at_line x) ls) lines)

  -- the last one, which ends no line
  window_last : (to : ℕ) → at + size ≡ to → (split buf).lines ≡ [] → at_lines x (rest_to at from text) ≡ at_lines x (rest_to to from text)
  window_last to ends none =
      let all : take size buf ≡ buf = ap (take size) is ∙ take-take size size (drop at text) (omega arith) ∙ sym is in
      sym (append-nil (at_lines x (rest_to at from text))) ∙ ap (λ (ls : List (List ℕ)). at_lines x (rest_to at from text) ++ flat_map (at_line x) ls) (sym none)
      ∙ window_lines size (omega arith) (ap (λ t. (split t).lines) all) ∙ ap (λ n. at_lines x (rest_to n from text)) ends

  pub last_lines : (to : ℕ) → at + size ≡ to → (split buf).lines ≡ [] → at_lines x (rest_to at from text) ++ at_lines x buf ≡ at_lines x (rest_to to from text)
  last_lines to ends none =
      ap (λ (ls : List (List ℕ)). at_lines x (rest_to at from text) ++ flat_map (at_line x) ls) none ∙ append-nil (at_lines x (rest_to at from text)) ∙ window_last to ends none

-- nothing is digested of no lines
pub nothing_lines : (x text : List ℕ) (from : ℕ) (sum : Sum) → Sums sum sum (at_lines x (rest_to from from text))
unfolding split
nothing_lines x text from sum = sums_same sum sum [] _ (ap (at_lines x) (sym (nothing_to from text))) (sums_none sum)

-- what a change appended, as far as it counts
pub appended_is : (x : List ℕ) (at n : ℕ) → n ≡ min 65536 (length x - at) → take n (drop at x) ≡ take 65536 (drop at x)
appended_is x at n is =
    let count : n ≡ min 65536 (length (drop at x)) = omega (arith, is, length-drop at x) in
    ap (λ k. take k (drop at x)) count ∙ take_min 65536 (drop at x)

-- the lines that count of an entry
pub entry_lines : (x text : List ℕ) (from to : ℕ) → to ≡ length text → at_lines x (rest_to (from + min 4456448 (to - from)) from text) ≡ at_lines x (take 4456448 (drop from text))
entry_lines x text from to end =
    let count : from + min 4456448 (to - from) - from ≡ min 4456448 (length (drop from text)) = omega (arith, end, length-drop from text) in
    ap (λ n. at_lines x (take n (drop from text))) count ∙ ap (at_lines x) (take_min 4456448 (drop from text))
