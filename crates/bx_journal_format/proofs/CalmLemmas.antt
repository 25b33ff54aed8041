-- The head of an entry has no end line, and what is written is text.
use Rattle.std.proofs.Common.{◌≡◌, ℕ, suc, ◌+◌, ◌≤◌, ◌&&◌, Bool, true, false, eqb, List, [], ◌∷◌, ◌++◌, length, drop, take, map, codes, Some, None, inl, inr, refl, ap, sym, subst, ◌∙◌, arith, rules, append_assoc}
use Rattle.std.specs.Prelude.{flat_map, nat_le, if◌then◌else◌}
use Rattle.std.specs.Option.{option_map}
use Rattle.std.specs.Str.{bytes_eq}
use Rattle.std.specs.List.{list_all}
use Rattle.std.proofs.lemmas.List.Folds.{list_all-append}
use Rattle.std.proofs.lemmas.Bool.{and_parts, and_from, and_left, or_right, or_from, eqb-true, eq-eqb, both_ways, false_from_ne_true}
use Rattle.bx_text.specs.Ascii.{is_printable}
use Rattle.bx_image.specs.declared.change.TheConstants.{MAX_LEN}
use Rattle.bx_journal_format.specs.Kept.{Run, Kept, with_run}
use Rattle.bx_journal_format.specs.DumpLine.{saved_run_line, run_of_line}
use Rattle.bx_journal_format.specs.Entry.{rows, head_lines, head_text, end_text}
use Rattle.bx_journal_format.specs.Line.{start_line, start_head, save_line, end_line, saved_in}
use Rattle.bx_journal_format.specs.Text.{ended, text_of_lines, split, Split, is_short, Entry, Stage, Between, Saving, Ending, Reading, start, after_lines, next_at, next}
use Rattle.bx_journal_format.specs.Shown.{begins_with, ends_line, has_end, is_text_byte}
use Rattle.bx_journal_format.specs.declared.format.version.Version.TheVariants.{First, Second}
use Rattle.bx_journal_format.specs.declared.format.version.Version.{Version}
use Rattle.bx_journal_format.specs.read.Plain.{HasNoNewline}
use Rattle.bx_journal_format.proofs.Splits.{AllPlain}
use Rattle.bx_journal_format.proofs.Foreign.{joined_lines, lines_plain as split_plain}
use Rattle.bx_journal_format.proofs.Inverse.{bind_some, map_some, same_bytes, next_between, next_saving, next_ending}
use Rattle.bx_journal_format.proofs.Damage.{split_at_mark}
use Rattle.bx_journal_format.proofs.Runs.{after_lines-append}
use Rattle.bx_journal_format.specs.count.Mark.{IsMark}
use Rattle.bx_journal_format.proofs.RowLemmas.{AreRows}
use Rattle.bx_journal_format.proofs.Written.{IsSavedLine, saved_line}
use Rattle.bx_journal_format.proofs.LineLemmas.{plain_start, plain_save, plain_end}

abbrev pub word : List ℕ
word = codes "done"

pub calm_line : (l more : List ℕ) → HasNoNewline l → has_end (l ++ 10 ∷ more) ≡ has_end (10 ∷ more)
unfolding has_end
calm_line [] more plain = refl
calm_line (b ∷ l) more plain = rw (plain.0) (calm_line l more plain.1)

pub begins_line : (front l more : List ℕ) → HasNoNewline front → begins_with front (l ++ 10 ∷ more) ≡ true → begins_with front l ≡ true
unfolding begins_with
begins_line [] l more plain is = refl
begins_line (a ∷ front) [] more plain is =
    let at : 10 ≡ a = eqb-true 10 a (and_parts (eqb 10 a) (begins_with front more) is).0 in
    absurd (both_ways (eqb a 10) plain.0 (eq-eqb a 10 (sym at)))
begins_line (a ∷ front) (b ∷ l) more plain is =
    let parts = and_parts (eqb b a) (begins_with front (l ++ 10 ∷ more)) is in
    and_from (eqb b a) (begins_with front l) parts.0 (begins_line front l more plain.1 parts.1)

-- lines that do not begin with the word
abbrev pub AllUnended : List (List ℕ) → Type 0
AllUnended [] = Unit {0}
AllUnended (l ∷ ls) = (begins_with word l ≡ false) × AllUnended ls

pub lines_calm : (ls : List (List ℕ)) → AllPlain ls → AllUnended ls → has_end (10 ∷ text_of_lines ls) ≡ false
unfolding has_end begins_with
lines_calm [] plain none = refl
lines_calm (l ∷ ls) plain none =
    let whole : text_of_lines (l ∷ ls) ≡ l ++ 10 ∷ text_of_lines ls = append_assoc l (10 ∷ []) (text_of_lines ls) in
    let first : begins_with word (text_of_lines (l ∷ ls)) ≡ false =
    false_from_ne_true _ (λ is. both_ways (begins_with word l) none.0 (begins_line word l (text_of_lines ls) (refl, (refl, (refl, (refl, tt)))) (subst (λ t. begins_with word t ≡ true) whole is))) in
    let later : has_end (text_of_lines (l ∷ ls)) ≡ false = ap has_end whole ∙ calm_line l (text_of_lines ls) plain.0 ∙ lines_calm ls plain.1 none.1 in
    or_from (begins_with word (text_of_lines (l ∷ ls)) && ends_line (text_of_lines (l ∷ ls))) (has_end (text_of_lines (l ∷ ls))) (and_left (begins_with word (text_of_lines (l ∷ ls))) (ends_line (text_of_lines (l ∷ ls))) first) later

-- a line that gives a piece doesn't begin with the word
piece_unended : (line : List ℕ) (p : Run) → run_of_line line ≡ Some p → begins_with word line ≡ false
unfolding run_of_line begins_with
piece_unended [] p is = refl
piece_unended (b ∷ []) p is = grind rules
piece_unended (b ∷ d ∷ line) p is = by (eqb b 100) (eqb d 111) refl refl
  where
    by : (one two : Bool) → eqb b 100 ≡ one → eqb d 111 ≡ two → begins_with word (b ∷ d ∷ line) ≡ false
    by false two e f = rw e refl
    by true false e f = rw (e, f) refl
    by true true e f = absurd (let first : b ≡ 100 = eqb-true b 100 e in let second : d ≡ 111 = eqb-true d 111 f in let none = rw (first, second) at is in cc)

save_unended : (n : ℕ) → begins_with word (save_line n) ≡ false
unfolding save_line begins_with
save_unended n = refl

rows_calm : (n len : ℕ) → len ≤ MAX_LEN → (ps : List Run) → AreRows len ps
    → AllPlain (map (λ p. saved_run_line p.at p.bytes) ps ++ save_line n ∷ []) × AllUnended (map (λ p. saved_run_line p.at p.bytes) ps ++ save_line n ∷ [])
rows_calm n len most [] are = ((plain_save n, tt), (save_unended n, tt))
rows_calm n len most (p ∷ ps) are =
    let line : IsSavedLine (saved_run_line p.at p.bytes) p = saved_line p are.3 are.0 are.1 (omega (arith, are.2)) in
    let more = rows_calm n len most ps are.4 in
    ((line.plain, more.0), (piece_unended (saved_run_line p.at p.bytes) p line.reads, more.1))

pub head_calm : (n : ℕ) (s : Kept) → s.len ≤ MAX_LEN → AreRows s.len (flat_map rows s.runs) → has_end (head_text n s) ≡ false
unfolding head_lines
head_calm n s most are =
    let ls : List (List ℕ) = map (λ p. saved_run_line p.at p.bytes) (flat_map rows s.runs) ++ save_line n ∷ [] in
    let calm = rows_calm n s.len most (flat_map rows s.runs) are in
    let whole : text_of_lines (start_line Second n s.len ∷ ls) ≡ start_line Second n s.len ++ 10 ∷ text_of_lines ls = append_assoc (start_line Second n s.len) (10 ∷ []) (text_of_lines ls) in
    ap has_end whole ∙ calm_line (start_line Second n s.len) (text_of_lines ls) (plain_start n s.len) ∙ lines_calm ls calm.0 calm.1

-- short lines have bytes of a text alone
pub line_plain : (l : List ℕ) → list_all is_printable l ≡ true → list_all is_text_byte l ≡ true
line_plain [] prints = refl
line_plain (b ∷ l) prints =
    let parts = and_parts (is_printable b) (list_all is_printable l) prints in
    and_from (is_text_byte b) (list_all is_text_byte l) (or_right (eqb b 10) (is_printable b) parts.0) (line_plain l parts.1)

pub lines_plain : (ls : List (List ℕ)) → list_all is_short ls ≡ true → list_all is_text_byte (text_of_lines ls) ≡ true
lines_plain [] short = refl
lines_plain (l ∷ ls) short =
    let parts = and_parts (is_short l) (list_all is_short ls) short in
    let prints = (and_parts (nat_le (length l) 75) (list_all is_printable l) parts.0).1 in
    let first : list_all is_text_byte (ended l) ≡ true = list_all-append is_text_byte l (10 ∷ []) ∙ and_from (list_all is_text_byte l) true (line_plain l prints) refl in
    list_all-append is_text_byte (ended l) (text_of_lines ls) ∙ and_from (list_all is_text_byte (ended l)) (list_all is_text_byte (text_of_lines ls)) first (lines_plain ls parts.1)

pub short_plain : (text : List ℕ) → list_all is_short (split text).lines ≡ true → (split text).rest ≡ [] → list_all is_text_byte text ≡ true
short_plain text short whole = subst (λ t. list_all is_text_byte t ≡ true) (joined_lines text whole) (lines_plain (split text).lines short)

-- an end line by itself has none behind a newline
pub end_calm : (n after : ℕ) → has_end (end_text n after) ≡ false
unfolding has_end begins_with
end_calm n after =
    let whole : end_text n after ≡ end_line Second n after ++ 10 ∷ [] = append_assoc (end_line Second n after) (10 ∷ []) [] in
    ap has_end whole ∙ calm_line (end_line Second n after) [] (plain_end n after)

start_unended : (v : Version) (n len : ℕ) → begins_with word (start_line v n len) ≡ false
unfolding start_line start_head begins_with
start_unended First n len = refl
start_unended Second n len = refl

saved_unended : (len : ℕ) (line : List ℕ) (p : Run) → saved_in len line ≡ Some p → begins_with word line ≡ false
unfolding saved_in
saved_unended len line p e =
    let found = bind_some (λ piece. if nat_le (length piece.bytes) 16 && nat_le (piece.at + length piece.bytes) len then Some piece else None) (run_of_line line) p e in
    piece_unended line found.0 found.1

saving_unended : (es : List Entry) (v : Version) (s : Kept) (line : List ℕ) (q : Reading) → next_at es (Saving v s) line ≡ Some q → begins_with word line ≡ false
unfolding next_at
saving_unended es v s line q e = by_test (bytes_eq line (save_line (suc (length es)))) refl e
  where
    by_test : (b : Bool) → bytes_eq line (save_line (suc (length es))) ≡ b
        → (if b then Some (record { entries = es; stage = Ending v s }) else option_map (λ (piece : Run). (record { entries = es; stage = Saving v (record { len = s.len; runs = with_run s.runs piece }) })) (saved_in s.len line)) ≡ Some q
        → begins_with word line ≡ false
    by_test true is e = subst (λ l. begins_with word l ≡ false) (sym (same_bytes line (save_line (suc (length es))) is)) (save_unended (suc (length es)))
    by_test false is e =
        let some = map_some (λ (piece : Run). (record { entries = es; stage = Saving v (record { len = s.len; runs = with_run s.runs piece }) })) (saved_in s.len line) q e in
        saved_unended s.len line some.0 some.1

-- a line that ends no entry doesn't begin with the word
line_unended : (es : List Entry) (stage : Stage) (line : List ℕ) (q : Reading) → next_at es stage line ≡ Some q → length q.entries ≡ length es → begins_with word line ≡ false
line_unended es Between line q e same =
    let b = next_between es line q e in
    subst (λ l. begins_with word l ≡ false) (sym b.1.6) (start_unended b.1.0 (suc (length es)) b.1.1)
line_unended es (Saving v s) line q e same = saving_unended es v s line q e
line_unended es (Ending v s) line q e same =
    let n = next_ending es v s line q e in
    absurd (omega (arith, same, ap (λ (r : Reading). length r.entries) n.1))

pub next_counts : (es : List Entry) (stage : Stage) (line : List ℕ) (q : Reading) → next_at es stage line ≡ Some q → length es ≤ length q.entries
next_counts es Between line q e = omega (arith, ap (λ (r : Reading). length r.entries) (next_between es line q e).2)
next_counts es (Saving v s) line q e = elim (next_saving es v s line q e) [
  | inl is ↦ omega (arith, ap (λ (r : Reading). length r.entries) is.1)
  | inr is ↦ omega (arith, ap (λ (r : Reading). length r.entries) is.2)
]
next_counts es (Ending v s) line q e = omega (arith, ap (λ (r : Reading). length r.entries) (next_ending es v s line q e).1)

pub lines_count : (ls : List (List ℕ)) (r q : Reading) → after_lines r ls ≡ Some q → length r.entries ≤ length q.entries
unfolding after_lines
lines_count [] r q e = let same : r ≡ q = cc in omega (arith, ap (λ (p : Reading). length p.entries) same)
lines_count (l ∷ ls) r q e =
    let b = bind_some (λ p. after_lines p ls) (next r l) q e in
    omega (arith, next_counts r.entries r.stage l b.0 b.1, lines_count ls b.0 q b.2)

pub lines_unended : (ls : List (List ℕ)) (r q : Reading) → after_lines r ls ≡ Some q → length q.entries ≡ length r.entries → AllUnended ls
unfolding after_lines
lines_unended [] r q is same = tt
lines_unended (l ∷ ls) r q is same =
    let b = bind_some (λ p. after_lines p ls) (next r l) q is in
    let count : length b.0.entries ≡ length r.entries = omega (arith, next_counts r.entries r.stage l b.0 b.1, lines_count ls b.0 q b.2, same) in
    (line_unended r.entries r.stage l b.0 b.1 count, lines_unended ls b.0 q b.2 (same ∙ sym count))

behind_calm : (ls : List (List ℕ)) → AllPlain ls → AllUnended (drop 1 ls) → has_end (text_of_lines ls) ≡ false
unfolding has_end
behind_calm [] plain none = refl
behind_calm (l ∷ ls) plain none =
    let whole : text_of_lines (l ∷ ls) ≡ l ++ 10 ∷ text_of_lines ls = append_assoc l (10 ∷ []) (text_of_lines ls) in
    ap has_end whole ∙ calm_line l (text_of_lines ls) plain.0 ∙ lines_calm ls plain.1 none

-- behind a save line the first line may end the entry
after_ending : (es : List Entry) (v : Version) (s : Kept) (ls : List (List ℕ)) (q : Reading) → after_lines (record { entries = es; stage = Ending v s }) ls ≡ Some q
    → length q.entries ≡ suc (length es) → AllUnended (drop 1 ls)
unfolding after_lines
after_ending es v s [] q is same = tt
after_ending es v s (l ∷ ls) q is same =
    let b = bind_some (λ p. after_lines p ls) (next (record { entries = es; stage = Ending v s }) l) q is in
    let n = next_ending es v s l b.0 b.1 in
    let count : length b.0.entries ≡ suc (length es) = ap (λ (r : Reading). length r.entries) n.1 in
    lines_unended ls b.0 q b.2 (same ∙ sym count)

pub on_behind : (text : List ℕ) (n : ℕ) (r q : Reading) → IsMark text n r → after_lines start (split text).lines ≡ Some q → after_lines r (split (drop n text)).lines ≡ Some q
on_behind text n r q mark reads =
    sym (after_lines-append start r (split (take n text)).lines (split (drop n text)).lines mark.lines)
    ∙ ap (λ (s : Split). after_lines start s.lines) (sym (split_at_mark text n r mark)) ∙ reads

behind_is : (text : List ℕ) (n : ℕ) (r : Reading) → IsMark text n r → (split text).rest ≡ [] → text_of_lines (split (drop n text)).lines ≡ drop n text
behind_is text n r mark whole = joined_lines (drop n text) (sym (ap (λ (s : Split). s.rest) (split_at_mark text n r mark)) ∙ whole)

-- what stands behind a save line, up to the end of its entry
pub ending_calm : (text : List ℕ) (n : ℕ) (es : List Entry) (v : Version) (s : Kept) (q : Reading) → IsMark text n (record { entries = es; stage = Ending v s })
    → after_lines start (split text).lines ≡ Some q → (split text).rest ≡ [] → length q.entries ≡ suc (length es) → has_end (drop n text) ≡ false
ending_calm text n es v s q mark reads whole same =
    let r : Reading = record { entries = es; stage = Ending v s } in
    ap has_end (sym (behind_is text n r mark whole))
    ∙ behind_calm (split (drop n text)).lines (split_plain (drop n text)) (after_ending es v s (split (drop n text)).lines q (on_behind text n r q mark reads) same)

-- what stands behind a mark, up to where no entry more has ended
pub tail_calm : (text : List ℕ) (n : ℕ) (r q : Reading) → IsMark text n r → after_lines start (split text).lines ≡ Some q → (split text).rest ≡ [] → length q.entries ≡ length r.entries
    → has_end (drop n text) ≡ false
tail_calm text n r q mark reads whole same =
    ap has_end (sym (behind_is text n r mark whole))
    ∙ behind_calm (split (drop n text)).lines (split_plain (drop n text)) (drop_unended (split (drop n text)).lines (lines_unended (split (drop n text)).lines r q (on_behind text n r q mark reads) same))
  where
    drop_unended : (ls : List (List ℕ)) → AllUnended ls → AllUnended (drop 1 ls)
    drop_unended [] none = tt
    drop_unended (l ∷ ls) none = none.1
