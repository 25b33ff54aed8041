-- Blocks that ranges touch.
use Rattle.std.proofs.Common.{◌≡◌, ℕ, ◌+◌, ◌-◌, ◌<◌, ◌≤◌, arith, Bool, true, false, Option, None, Some, List, [], ◌∷◌, ◌++◌, length, take, drop, ap, refl, sym, ◌∙◌, if◌then◌else◌, ◌||◌}
use Rattle.std.proofs.lemmas.List.Folds.{list_any-append}
use Rattle.std.proofs.lemmas.List.{append-nil, append_assoc, length-append, length-take, take_at, take-take, take-append-drop, drop-drop}
use Rattle.std.proofs.Math.Seq.{take-add}
use Rattle.bx_journal_read.specs.scan.Windows.{rest_to}
use Rattle.bx_image.specs.declared.change.TheConstants.{MAX_LEN}
use Rattle.bx_journal_format.specs.Kept.{Run}
use Rattle.bx_journal_format.specs.Line.{saved_in}
use Rattle.bx_journal_format.specs.Text.{split}
use Rattle.bx_journal_format.specs.read.Plain.{HasNoNewline}
use Rattle.bx_journal_format.proofs.Splits.{split-append, split-ended, split-plain}
use Rattle.bx_journal_image.specs.declared.line.ranges.Range.{Range}
use Rattle.bx_journal_image.specs.Blocks.{AreStruck, is_one_touched, is_touched, mark_at, range_of, ranges_in}
use Rattle.bx_journal_image.proofs.RangeLemmas.{lines_behind}

either : {A : Type 0} (a b : Bool) (x y : A) → (if b then x else (if a then x else y)) ≡ (if a || b then x else y)
either true true x y = refl
either true false x y = refl
either false true x y = refl
either false false x y = refl

-- what is struck by two lists of ranges
pub struck_both : (n i : ℕ) (rs ss : List Range) (m : Option ℕ)
    → (if is_one_touched n ss i then None else (if is_one_touched n rs i then None else m)) ≡ (if is_one_touched n (rs ++ ss) i then None else m)
struck_both n i rs ss m =
    either (is_one_touched n rs i) (is_one_touched n ss i) None m
    ∙ ap (λ (b : Bool). if b then None else m) (sym (list_any-append (λ (r : Range). is_touched n r i) rs ss))

-- a line is no saved one
pub line_none : (n : ℕ) (line : List ℕ) (marks : List (Option ℕ)) → saved_in MAX_LEN line ≡ None → AreStruck n (ranges_in (line ∷ [])) marks marks
unfolding ranges_in
line_none n line marks none i block = rw none refl

-- it is one
pub line_some : (n : ℕ) (line : List ℕ) (run : Run) (old new : List (Option ℕ)) → saved_in MAX_LEN line ≡ Some run
    → AreStruck n (record { at = run.at; count = length run.bytes } ∷ []) old new → AreStruck n (ranges_in (line ∷ [])) old new
unfolding ranges_in
line_some n line run old new some struck i block = rw some (struck i block)

-- no more lines
pub struck_none : (n i : ℕ) (rest : List ℕ) (m : Option ℕ) → HasNoNewline rest → (if is_one_touched n (ranges_in (split rest).lines) i then None else m) ≡ m
unfolding ranges_in
struck_none n i rest m plain = ap (λ (ls : List (List ℕ)). if is_one_touched n (ranges_in ls) i then None else m) (ap (λ s. s.lines) (split-plain rest plain))

one_line : (line : List ℕ) (lines : List (List ℕ)) → ranges_in (line ∷ lines) ≡ ranges_in (line ∷ []) ++ ranges_in lines
unfolding ranges_in
one_line line lines = ap (λ (rs : List Range). rs ++ ranges_in lines) (sym (append-nil (range_of (saved_in MAX_LEN line))))

-- a line more
pub struck_on : (n p : ℕ) (old new : List (Option ℕ)) (rest behind : List ℕ) (i : ℕ) → HasNoNewline (take i rest) → rest ≡ take i rest ++ 10 ∷ drop (i + 1) rest → behind ≡ drop (i + 1) rest
    → AreStruck n (ranges_in (take i rest ∷ [])) old new → p < 32
    → (if is_one_touched n (ranges_in (split behind).lines) p then None else mark_at new p) ≡ (if is_one_touched n (ranges_in (split rest).lines) p then None else mark_at old p)
struck_on n p old new rest behind i plain is left struck block =
    ap (λ (m : Option ℕ). if is_one_touched n (ranges_in (split behind).lines) p then None else m) (struck p block)
    ∙ struck_both n p (ranges_in (take i rest ∷ [])) (ranges_in (split behind).lines) (mark_at old p)
    ∙ ap (λ (rs : List Range). if is_one_touched n rs p then None else mark_at old p)
    (sym (ap ranges_in (lines_behind rest behind i plain is left) ∙ one_line (take i rest) (split behind).lines))

-- a line with its newline
pub line_taken : (rest : List ℕ) (i : ℕ) → i < length rest → rest ≡ take i rest ++ 10 ∷ drop (i + 1) rest → take (i + 1) rest ≡ take i rest ++ 10 ∷ []
line_taken rest i below is =
    let long : length (take i rest ++ 10 ∷ []) ≡ i + 1 = omega (arith, length-append (take i rest) (10 ∷ []), length-take i rest, below) in
    ap (take (i + 1)) (is ∙ sym (append_assoc (take i rest) (10 ∷ []) (drop (i + 1) rest))) ∙ take_at (take i rest ++ 10 ∷ []) (drop (i + 1) rest) (i + 1) long

-- what was taken, a line more
pub taken_on : (text rest : List ℕ) (taken i : ℕ) → rest ≡ drop taken text → (split (take taken text)).rest ≡ [] → i < length rest → HasNoNewline (take i rest)
    → rest ≡ take i rest ++ 10 ∷ drop (i + 1) rest → (split (take (taken + (i + 1)) text)).rest ≡ []
unfolding split
taken_on text rest taken i left whole below plain is =
    let both : take (taken + (i + 1)) text ≡ take taken text ++ (take i rest ++ 10 ∷ []) =
    take-add taken (i + 1) text ∙ ap (λ t. take taken text ++ take (i + 1) t) (sym left) ∙ ap (λ t. take taken text ++ t) (line_taken rest i below is) in
    ap (λ t. (split t).rest) both ∙ ap (λ s. s.rest) (split-append (take taken text) (take i rest ++ 10 ∷ []) whole)
    ∙ ap (λ s. s.rest) (split-ended (take i rest) [] plain)

-- the lines of a text are those before what has none
pub lines_taken : (text rest : List ℕ) (taken : ℕ) → rest ≡ drop taken text → (split (take taken text)).rest ≡ [] → HasNoNewline rest → (split (take taken text)).lines ≡ (split text).lines
lines_taken text rest taken left whole plain =
    sym (append-nil (split (take taken text)).lines)
    ∙ ap (λ ls. (split (take taken text)).lines ++ ls) (sym (ap (λ s. s.lines) (split-plain rest plain)))
    ∙ sym (ap (λ s. s.lines) (split-append (take taken text) rest whole))
    ∙ ap (λ t. (split (take taken text ++ t)).lines) left
    ∙ ap (λ t. (split t).lines) (take-append-drop taken text)

ranges_both : (a b : List (List ℕ)) → ranges_in (a ++ b) ≡ ranges_in a ++ ranges_in b
unfolding ranges_in
ranges_both [] b = refl
ranges_both (line ∷ a) b =
    ap (λ (rs : List Range). range_of (saved_in MAX_LEN line) ++ rs) (ranges_both a b) ∙ sym (append_assoc (range_of (saved_in MAX_LEN line)) (ranges_in a) (ranges_in b))

-- the text up to a place, and what was taken there
pub seam : (text buf : List ℕ) (from at size taken : ℕ) → from ≤ at → buf ≡ take size (drop at text) → taken ≤ size → rest_to (at + taken) from text ≡ rest_to at from text ++ take taken buf
seam text buf from at size taken order is few =
    let sum : at + taken - from ≡ (at - from) + taken = omega (arith, order) in
    let place : from + (at - from) ≡ at = omega (arith, order) in
    ap (λ n. take n (drop from text)) sum ∙ take-add (at - from) taken (drop from text)
    ∙ ap (λ t. rest_to at from text ++ take taken t) (drop-drop (at - from) from text ∙ ap (λ n. drop n text) place)
    ∙ ap (λ t. rest_to at from text ++ t) (sym (ap (take taken) is ∙ take-take taken size (drop at text) few))

module _ (n from at size taken : ℕ) (text buf : List ℕ) (first old new : List (Option ℕ)) (order : from ≤ at) (is : buf ≡ take size (drop at text)) (few : taken ≤ size)
    (whole : (split (rest_to at from text)).rest ≡ []) (ends : (split (take taken buf)).rest ≡ []) where
  -- a window more
  pub window_ends : (split (rest_to (at + taken) from text)).rest ≡ []
  window_ends =
      ap (λ t. (split t).rest) (seam text buf from at size taken order is few) ∙ ap (λ s. s.rest) (split-append (rest_to at from text) (take taken buf) whole) ∙ ends

  pub window_struck : AreStruck n (ranges_in (split (rest_to at from text)).lines) first old → AreStruck n (ranges_in (split buf).lines) old new → (split (take taken buf)).lines ≡ (split buf).lines
      → AreStruck n (ranges_in (split (rest_to (at + taken) from text)).lines) first new
  window_struck before now lines p block =
      now p block
      ∙ ap (λ (m : Option ℕ). if is_one_touched n (ranges_in (split buf).lines) p then None else m) (before p block)
      ∙ struck_both n p (ranges_in (split (rest_to at from text)).lines) (ranges_in (split buf).lines) (mark_at first p)
      ∙ ap (λ (rs : List Range). if is_one_touched n rs p then None else mark_at first p) (sym all)
    where
      all : ranges_in (split (rest_to (at + taken) from text)).lines ≡ ranges_in (split (rest_to at from text)).lines ++ ranges_in (split buf).lines
      all =
          ap (λ t. ranges_in (split t).lines) (seam text buf from at size taken order is few)
          ∙ ap (λ s. ranges_in s.lines) (split-append (rest_to at from text) (take taken buf) whole)
          ∙ ranges_both (split (rest_to at from text)).lines (split (take taken buf)).lines
          ∙ ap (λ ls. ranges_in (split (rest_to at from text)).lines ++ ranges_in ls) lines

-- nothing is behind a place up to it
pub nothing_to : (from : ℕ) (text : List ℕ) → rest_to from from text ≡ []
nothing_to from text = ap (λ n. take n (drop from text)) (none from)
  where
    none : (n : ℕ) → n - n ≡ 0
    none n = omega arith

-- and strikes nothing
pub nothing_struck : (n from : ℕ) (text : List ℕ) (marks : List (Option ℕ)) → AreStruck n (ranges_in (split (rest_to from from text)).lines) marks marks
unfolding split ranges_in
nothing_struck n from text marks p block =
    sym (ap (λ t. if is_one_touched n (ranges_in (split t).lines) p then None else mark_at marks p) (nothing_to from text))

-- a range, and others
pub struck_then : (n : ℕ) (r : Range) (rs : List Range) (first old new : List (Option ℕ)) → AreStruck n (r ∷ []) first old → AreStruck n rs old new → AreStruck n (r ∷ rs) first new
struck_then n r rs first old new one more p block =
    more p block ∙ ap (λ (m : Option ℕ). if is_one_touched n rs p then None else m) (one p block) ∙ struck_both n p (r ∷ []) rs (mark_at first p)

-- where no line was taken none ends
pub none_taken : (buf : List ℕ) (taken : ℕ) → taken ≡ 0 → (split (take taken buf)).lines ≡ (split buf).lines → (split buf).lines ≡ []
unfolding split
none_taken buf taken none same = sym same ∙ ap (λ n. (split (take n buf)).lines) none
