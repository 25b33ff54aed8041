-- Which addresses the saved lines of a record name.
use Rattle.std.proofs.Common.{◌≡◌, ◌⊎◌, inl, inr, ℕ, suc, ◌+◌, ◌-◌, ◌<◌, ◌≤◌, ◌^◌, Bool, true, false, ◌&&◌, Option, None, Some, List, [], ◌∷◌, ◌++◌, length, take, drop, ap, refl, sym, subst, ◌∙◌, arith, slice_index, if◌then◌else◌}
use Rattle.std.specs.Prelude.{nat_le, nat_lt}
use Rattle.std.specs.Option.{option_and_then, option_or, unwrap_or}
use Rattle.std.specs.Str.{bytes_eq}
use Rattle.std.proofs.Math.Seq.{take-add}
use Rattle.std.proofs.lemmas.Bool.{and_from, and_parts, cases_lt, le-leb, leb-true, lt-ltb, or_parts}
use Rattle.bx_image.specs.Change.{byte_in, restore}
use Rattle.bx_image.specs.private.Change.{byte_of}
use Rattle.bx_image.specs.declared.change.TheConstants.{MAX_LEN}
use Rattle.bx_image.proofs.Records.{slice_index-restore}
use Rattle.bx_journal_format.specs.DumpLine.{run_of_line}
use Rattle.bx_journal_format.specs.Kept.{Kept, Run, with_run}
use Rattle.bx_journal_format.specs.Line.{after_in, save_line, saved_in}
use Rattle.bx_journal_format.specs.Text.{Between, Ending, Entry, Reading, Reads, Saving, Stage, after_lines, split, start}
use Rattle.bx_journal_format.specs.declared.format.version.Version.{Version}
use Rattle.bx_journal_format.proofs.Gathered.{with_run-byte}
use Rattle.bx_journal_format.proofs.Inverse.{bind_some, test_some}
use Rattle.bx_journal_format.proofs.Runs.{after_lines-append}
use Rattle.bx_journal_format.proofs.Splits.{split-append}
use Rattle.bx_journal_format.proofs.StepLemmas.{adds, ends, goes_on, saves, stops}
use Rattle.bx_journal_format.specs.Shown.{shown}
use Rattle.bx_journal_format.proofs.ShownLemmas.{take_shown}
use Rattle.std.proofs.lemmas.List.{drop-take, length-take}
use Rattle.bx_journal_model.specs.declared.mark.Mark.{Mark}
use Rattle.bx_journal_read.specs.declared.scan.torn.Torn.{Torn}
use Rattle.bx_journal_read.specs.scan.Recovery.{HasMark, IsTorn, IsTornIn}
use Rattle.bx_journal_model.specs.Restoring.{StandsAt}
use Rattle.bx_journal_read.specs.scan.Windows.{rest_to}
use Rattle.bx_journal_model.proofs.RestoreLemmas.{lines_more}
use Rattle.bx_journal_image.specs.declared.judging.judge.Verdict.TheVariants.{Other, Untold}
use Rattle.bx_journal_image.specs.declared.line.form.ImageLine.{ImageLine}
use Rattle.bx_journal_image.specs.declared.line.ranges.Range.{Range}
use Rattle.bx_journal_image.specs.Blocks.{AreTrueMarks, AreStruck, DiffersWithin, is_in, is_in_one, ranges_in, rest_from}
use Rattle.bx_journal_image.specs.Unfinished.{IsJudgedWithout, IsUnfinishedJudged, HasLongSavedLine}
use Rattle.bx_journal_image.proofs.UnfinishedStated.{AreAllIn}
use Rattle.bx_journal_image.proofs.BlockLaws.{right_line}

-- a line that is a saved one in a short image is one in any
saved_wider : (len most : ℕ) (line : List ℕ) (p : Run) → len ≤ most → saved_in len line ≡ Some p → saved_in most line ≡ Some p
unfolding saved_in
saved_wider len most line p few e =
    let found = bind_some (λ piece. if nat_le (length piece.bytes) 16 && nat_le (piece.at + length piece.bytes) len then Some piece else None) (run_of_line line) p e in
    let test = test_some (nat_le (length found.0.bytes) 16 && nat_le (found.0.at + length found.0.bytes) len) found.0 p found.2 in
    let parts = and_parts (nat_le (length found.0.bytes) 16) (nat_le (found.0.at + length found.0.bytes) len) test.0 in
    let below : found.0.at + length found.0.bytes ≤ len = leb-true (found.0.at + length found.0.bytes) len parts.1 in
    let wide = and_from (nat_le (length found.0.bytes) 16) (nat_le (found.0.at + length found.0.bytes) most) parts.0 (le-leb (found.0.at + length found.0.bytes) most (omega (arith, below, few))) in
    rw found.1 (rw wide (ap Some test.1))

-- an address that isn't in its range
not_in : (p : Run) (i : ℕ) → is_in (record { at = p.at; count = length p.bytes }) i ≡ false → byte_of p i ≡ None
not_in p i is = rw is refl

none_both : (a b : Option ℕ) → a ≡ None → b ≡ None → option_or a b ≡ None
none_both a b is none = rw (is, none) refl

module _ (es : List Entry) where
  -- behind its save line an entry stays the newest up to its end line
  saved_last : (ls : List (List ℕ)) (v w : Version) (k s : Kept) → after_lines (record { entries = es; stage = Ending v k }) ls ≡ Some (record { entries = es; stage = Ending w s }) → k ≡ s
  unfolding after_lines
  saved_last [] v w k s is =
      let one : record { entries = es; stage = Ending v k } ≡ record { entries = es; stage = Ending w s } = cc in
      let stages : Ending v k ≡ Ending w s = ap (λ (r : Reading). r.stage) one in
      cc
  saved_last (line ∷ ls) v w k s is = by (after_in v (suc (length es)) line) refl
    where
      by : (o : Option (Option ℕ)) → after_in v (suc (length es)) line ≡ o → k ≡ s
      by None none = absurd (let wrong : None ≡ Some (record { entries = es; stage = Ending w s }) = sym (ap (λ (o : Option Reading). option_and_then (λ q. after_lines q ls) o) (goes_on es (suc (length es)) v k line refl none)) ∙ is in cc)
      by (Some after) some =
          let more = lines_more ls (record { entries = record { saved = k; after = after } ∷ es; stage = Between }) (record { entries = es; stage = Ending w s })
          (sym (ap (λ (o : Option Reading). option_and_then (λ q. after_lines q ls) o) (ends es (suc (length es)) v k line refl after some)) ∙ is) in
          absurd (omega (arith, more))

  -- an address that no range of the lines has is named by no run that they add
  named : (ls : List (List ℕ)) (v w : Version) (k s : Kept) (i : ℕ) → k.len ≤ MAX_LEN → after_lines (record { entries = es; stage = Saving v k }) ls ≡ Some (record { entries = es; stage = Ending w s })
      → is_in_one (ranges_in ls) i ≡ false → byte_in k.runs i ≡ None → byte_in s.runs i ≡ None
  unfolding after_lines ranges_in
  named [] v w k s i few is none so_far =
      let one : record { entries = es; stage = Saving v k } ≡ record { entries = es; stage = Ending w s } = cc in
      let stages : Saving v k ≡ Ending w s = ap (λ (r : Reading). r.stage) one in
      absurd (cc)
  named (line ∷ ls) v w k s i few is none so_far = by (bytes_eq line (save_line (suc (length es)))) (saved_in k.len line) refl refl (λ p. named ls v w (record { len = k.len; runs = with_run k.runs p }) s i few)
    where
      by : (b : Bool) (o : Option Run) → bytes_eq line (save_line (suc (length es))) ≡ b → saved_in k.len line ≡ o
          → ((p : Run) → after_lines (record { entries = es; stage = Saving v (record { len = k.len; runs = with_run k.runs p }) }) ls ≡ Some (record { entries = es; stage = Ending w s })
          → is_in_one (ranges_in ls) i ≡ false → byte_in (with_run k.runs p) i ≡ None → byte_in s.runs i ≡ None) → byte_in s.runs i ≡ None
      by true o save found more =
          let last = saved_last ls v w k s (sym (ap (λ (o : Option Reading). option_and_then (λ q. after_lines q ls) o) (saves es (suc (length es)) v k line refl save)) ∙ is) in
          subst (λ (q : Kept). byte_in q.runs i ≡ None) last so_far
      by false None other found more =
          absurd (let wrong : None ≡ Some (record { entries = es; stage = Ending w s }) = sym (ap (λ (o : Option Reading). option_and_then (λ q. after_lines q ls) o) (stops es (suc (length es)) v k line refl other found)) ∙ is in cc)
      by false (Some p) other found more =
          let wider : saved_in MAX_LEN line ≡ Some p = saved_wider k.len MAX_LEN line p few found in
          let all : is_in_one (record { at = p.at; count = length p.bytes } ∷ [] ++ ranges_in ls) i ≡ false = rw wider at none in
          let parts = or_parts (is_in (record { at = p.at; count = length p.bytes }) i) (is_in_one (ranges_in ls) i) all in
          more p (sym (ap (λ (o : Option Reading). option_and_then (λ q. after_lines q ls) o) (adds es (suc (length es)) v k line refl p other found)) ∙ is) parts.1
          (with_run-byte k.runs p i ∙ none_both (byte_of p i) (byte_in k.runs i) (not_in p i parts.0) so_far)

-- the record that stands at a mark names addresses of its lines alone
pub stands_in : (text : List ℕ) (m : Mark) (s : Kept) → StandsAt text m s → m.len ≤ MAX_LEN → AreAllIn s (ranges_in (split (rest_to m.saved m.lines text)).lines)
unfolding byte_in
stands_in text m s stands few i below none =
    named stands.entries (split (rest_to m.saved m.lines text)).lines stands.version stands.version (record { len = m.len; runs = [] }) s i few lines none refl
  where
    front : List ℕ
    front = take m.lines text

    whole : take m.saved text ≡ front ++ rest_to m.saved m.lines text
    whole = ap (λ n. take n text) (omega (arith, stands.order)) ∙ take-add m.lines (m.saved - m.lines) text

    lines : after_lines (record { entries = stands.entries; stage = Saving stands.version (record { len = m.len; runs = [] }) }) (split (rest_to m.saved m.lines text)).lines
        ≡ Some (record { entries = stands.entries; stage = Ending stands.version s })
    lines =
        sym (after_lines-append start (record { entries = stands.entries; stage = Saving stands.version (record { len = m.len; runs = [] }) }) (split front).lines (split (rest_to m.saved m.lines text)).lines stands.begins.lines)
        ∙ sym (ap (λ t. after_lines start (split t).lines) whole ∙ ap (λ q. after_lines start q.lines) (split-append front (rest_to m.saved m.lines text) stands.begins.whole))
        ∙ stands.ends.lines

-- where restoring makes the same of both images, they differ in what the record names or cuts off alone
same_outside : (s : Kept) (x y : List ℕ) (ranges : List Range) → AreAllIn s ranges → length x < 2 ^ 64 → restore s y ≡ restore s x → DiffersWithin (rest_from s.len ∷ ranges) x y
same_outside s x y ranges all small same a mine there outside =
    let parts = or_parts (is_in (rest_from s.len) a) (is_in_one ranges a) outside in
    let below : a < s.len = below_of parts.0 in
    let none = all a below parts.1 in
    sym (read y none below) ∙ ap (λ z. slice_index z a) same ∙ read x none below
  where
    below_of : is_in (rest_from s.len) a ≡ false → a < s.len
    below_of is = at (cases_lt a s.len)
      where
        at : (a < s.len) ⊎ (s.len ≤ a) → a < s.len
        at (inl below) = below
        at (inr behind) =
            let yes = and_from (nat_le s.len a) (nat_lt a (s.len + (2 ^ 64 - 1 - s.len))) (le-leb s.len a behind) (lt-ltb a (s.len + (2 ^ 64 - 1 - s.len)) (omega (arith, behind, mine, small))) in
            absurd (let wrong : false ≡ true = sym is ∙ yes in cc)

    read : (z : List ℕ) → byte_in s.runs a ≡ None → a < s.len → slice_index (restore s z) a ≡ slice_index z a
    read z none below = slice_index-restore s z a below ∙ ap (λ (o : Option ℕ). unwrap_or o (slice_index z a)) none

pub recovered_image : (x y text : List ℕ) (mark : Mark) (s : Kept) (line : ImageLine) → StandsAt text mark s → mark.len ≤ MAX_LEN → length x < 2 ^ 64 → line.length ≡ length x
    → AreTrueMarks x line.marks → restore s y ≡ restore s x → line.least ≤ length y → length y ≤ line.most → IsJudgedWithout line text mark y Other → ⊥
recovered_image x y text mark s line stands few small long right same least most judged =
    let ranges = ranges_in (split (rest_to mark.saved mark.lines text)).lines in
    let differs = same_outside s x y ranges (stands_in text mark s stands few) small same in
    right_line x y (rest_from mark.len ∷ ranges) line judged.kept long right judged.struck (subst (λ (n : ℕ). DiffersWithin (rest_from n ∷ ranges) x y) stands.len differs) least most judged.judged

-- a text up to a place is read as it is
rest_shown : (text : List ℕ) (m : Mark) → m.lines ≤ m.saved → m.saved ≤ length (shown text) → rest_to m.saved m.lines text ≡ rest_to m.saved m.lines (shown text)
rest_shown text m order within =
    let sum : m.lines + (m.saved - m.lines) ≡ m.saved = omega (arith, order) in
    sym (drop-take m.lines (m.saved - m.lines) text) ∙ ap (λ n. drop m.lines (take n text)) sum ∙ ap (drop m.lines) (take_shown m.saved text within)
    ∙ sym (ap (λ n. drop m.lines (take n (shown text))) sum) ∙ drop-take m.lines (m.saved - m.lines) (shown text)

stands_at : (text : List ℕ) (torn : Torn) (mark : Mark) (r q : Reading) (v : Version) (s : Kept) → Reads text r → r.stage ≡ Ending v s → IsTorn text q torn → torn.mark ≡ Some mark → StandsAt text mark s
stands_at text torn mark r q v s reads stage is marked =
    let both : Some q ≡ Some r = sym is.reads.lines ∙ reads.lines in
    let one : q ≡ r = cc in
    let at : q.stage ≡ Ending v s = ap (λ (p : Reading). p.stage) one ∙ stage in
    subst (λ (o : Option Mark). HasMark text (Ending v s) o) marked (subst (λ (t : Stage). HasMark text t torn.mark) at is.mark)

-- a mark of what is unfinished lies within the text
pub marked_within : (text : List ℕ) (torn : Torn) (mark : Mark) → IsTornIn text torn → torn.mark ≡ Some mark → mark.saved ≤ length text
marked_within text torn mark is marked = at is.reading.stage (subst (λ (o : Option Mark). HasMark (shown text) is.reading.stage o) marked is.torn.mark)
  where
    at : (stage : Stage) → HasMark (shown text) stage (Some mark) → mark.saved ≤ length text
    at Between none = absurd none
    at (Saving v s) none = absurd none
    at (Ending v s) stands =
        let within : mark.saved ≤ length (shown text) = stands.ends.within in
        omega (arith, within, length-take mark.saved text, length-take mark.saved (shown text), ap length (take_shown mark.saved text within))

pub recovered_text : (x y text : List ℕ) (r : Reading) (v : Version) (s : Kept) (line : ImageLine) → Reads (shown text) r → r.stage ≡ Ending v s → s.len ≤ MAX_LEN
    → length x < 2 ^ 64 → line.length ≡ length x → AreTrueMarks x line.marks → restore s y ≡ restore s x → line.least ≤ length y → length y ≤ line.most
    → IsUnfinishedJudged (Some line) text y (Some Other) → ⊥
recovered_text x y text r v s line reads stage few small long right same least most open_ = by open_.judged
  where
    stands : StandsAt (shown text) open_.mark s
    stands = stands_at (shown text) open_.torn open_.mark r open_.unfinished.reading v s reads stage open_.unfinished.torn open_.marked

    lines : rest_to open_.mark.saved open_.mark.lines text ≡ rest_to open_.mark.saved open_.mark.lines (shown text)
    lines = rest_shown text open_.mark stands.order stands.ends.within

    by : ((Other ≡ Untold) × HasLongSavedLine text open_.mark) ⊎ IsJudgedWithout line text open_.mark y Other → ⊥
    by (inl unread) = absurd (let wrong : Other ≡ Untold = unread.0 in cc)
    by (inr judged) =
        recovered_image x y (shown text) open_.mark s line stands (omega (arith, few, stands.len)) small long right same least most (record {
          kept = judged.kept;
          struck = subst (λ t. AreStruck line.length (rest_from open_.mark.len ∷ ranges_in (split t).lines) line.marks judged.kept) lines judged.struck;
          judged = judged.judged;
        })
