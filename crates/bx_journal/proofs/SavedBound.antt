-- The saved lines of a text give no more bytes than it has.
use Rattle.std.proofs.Common.{◌≡◌, ℕ, suc, ◌+◌, ◌<◌, ◌≤◌, Bool, true, false, List, [], ◌∷◌, length, refl, ap, sym, ◌∙◌, subst, arith, Some, None, map, length-append}
use Rattle.std.specs.Prelude.{sum, All, option_map, if◌then◌else◌, ◌&&◌, nat_le}
use Rattle.std.specs.Str.{bytes_eq}
use Rattle.std.proofs.lemmas.List.Elements.{All-nil, All-cons, All-weaker}
use Rattle.bx_journal_format.specs.Kept.{Run, with_run, kept_of}
use Rattle.bx_journal_format.proofs.Gathered.{with_run-sum}
use Rattle.bx_journal_format.specs.declared.read.types.EntryRead.{EntryRead}
use Rattle.bx_journal_format.specs.DumpLine.{run_of_line}
use Rattle.bx_journal_format.specs.Line.{save_line, saved_in}
use Rattle.bx_journal_format.specs.Text.{Entry, Stage, Between, Saving, Ending, Reading, Reads, next_at, start, after_lines, split, text_of_lines, ended, next}
use Rattle.bx_journal_format.specs.count.Rows.{saved_length}
use Rattle.bx_journal_format.specs.Parsed.{entry_of, entries_onto, entries_of}
use Rattle.bx_journal_format.proofs.Inverse.{bind_some, map_some, test_some, next_between, next_ending}
use Rattle.bx_journal_model.proofs.Tails.{joined_rest}
use Rattle.bx_journal.proofs.LogLemmas.{run_length}
use Rattle.bx_journal_format.proofs.PieceBound.{piece_short}

abbrev run_size : Run → ℕ
run_size = run_length {A = Unit {0}}

abbrev held : List Entry → ℕ
held [] = 0
held (e ∷ es) = saved_length e.saved + held es

abbrev held_at : Stage → ℕ
held_at Between = 0
held_at (Saving v s) = saved_length s
held_at (Ending v s) = saved_length s

unfoldable held_in : Reading → ℕ
held_in r = held r.entries + held_at r.stage

saved_short : (len : ℕ) (line : List ℕ) (p : Run) → saved_in len line ≡ Some p → length p.bytes ≤ length line
unfolding saved_in
saved_short len line p e =
    let found = bind_some (λ piece. if nat_le (length piece.bytes) 16 && nat_le (piece.at + length piece.bytes) len then Some piece else None) (run_of_line line) p e in
    let test = test_some (nat_le (length found.0.bytes) 16 && nat_le (found.0.at + length found.0.bytes) len) found.0 p found.2 in
    subst (λ (q : Run). length q.bytes ≤ length line) test.1 (piece_short line found.0 found.1)

next_held : (es : List Entry) (stage : Stage) (line : List ℕ) (q : Reading) → next_at es stage line ≡ Some q → held_in q ≤ held es + held_at stage + length line
unfolding next_at held_in
next_held es Between line q e =
    let b = next_between es line q e in
    let is : q ≡ record { entries = es; stage = Saving b.1.0 (record { len = b.1.1; runs = [] }) } = b.2 ∙ ap (λ s. record { entries = es; stage = s }) b.1.7 in
    let none : sum (map run_size []) ≡ 0 = refl in
    subst (λ (r : Reading). held r.entries + held_at r.stage ≤ held es + 0 + length line) (sym is) (omega (arith, none))
next_held es (Saving v s) line q e = by_test (bytes_eq line (save_line (suc (length es)))) e
  where
    by_test : (b : Bool)
        → (if b then Some (record { entries = es; stage = Ending v s }) else option_map (λ (piece : Run). (record { entries = es; stage = Saving v (record { len = s.len; runs = with_run s.runs piece }) })) (saved_in s.len line)) ≡ Some q
        → held_in q ≤ held es + saved_length s + length line
    by_test true e = let is : record { entries = es; stage = Ending v s } ≡ q = cc in subst (λ (r : Reading). held r.entries + held_at r.stage ≤ held es + saved_length s + length line) is (omega arith)
    by_test false e =
        let some = map_some (λ (piece : Run). (record { entries = es; stage = Saving v (record { len = s.len; runs = with_run s.runs piece }) })) (saved_in s.len line) q e in
        let pushed : sum (map run_size (with_run s.runs some.0)) ≡ sum (map run_size s.runs) + length some.0.bytes = with_run-sum run_size (λ run. refl) s.runs some.0 in
        subst (λ (r : Reading). held r.entries + held_at r.stage ≤ held es + saved_length s + length line) some.2 (omega (arith, pushed, saved_short s.len line some.0 some.1))
next_held es (Ending v s) line q e =
    let is = (next_ending es v s line q e).1 in
    subst (λ (r : Reading). held r.entries + held_at r.stage ≤ held es + saved_length s + length line) (sym is) (omega arith)

step : (r : Reading) (l : List ℕ) (p : Reading) → next r l ≡ Some p → held_in p ≤ held_in r + length l
unfolding held_in
step r l p is = next_held r.entries r.stage l p is

lines_held : (ls : List (List ℕ)) (r q : Reading) → after_lines r ls ≡ Some q → held_in q ≤ held_in r + length (text_of_lines ls)
unfolding after_lines
lines_held [] r q e = let same : r ≡ q = cc in omega (arith, ap held_in same)
lines_held (l ∷ ls) r q e =
    let b = bind_some (λ p. after_lines p ls) (next r l) q e in
    let long : length (text_of_lines (l ∷ ls)) ≡ length l + 1 + length (text_of_lines ls) = length-append (ended l) (text_of_lines ls) ∙ ap (λ n. n + length (text_of_lines ls)) (length-append l (10 ∷ [])) in
    omega (arith, lines_held ls b.0 q b.2, step r l b.0 b.1, long)

held_onto : {A : Type 0} → (limit : ℕ) (done : List Entry) (es : List (EntryRead A)) → held (entries_onto done es) ≤ limit → held done ≤ limit
held_onto limit done [] below = below
held_onto limit done (e ∷ es) below = omega (arith, held_onto limit (entry_of e ∷ done) es below)

each_held : {A : Type 0} → (limit : ℕ) (done : List Entry) (es : List (EntryRead A)) → held (entries_onto done es) ≤ limit → All (λ (e : EntryRead A). saved_length (kept_of e.kept) ≤ limit) es
each_held {A = A} limit done [] below = All-nil (λ (e : EntryRead A). saved_length (kept_of e.kept) ≤ limit)
each_held {A = A} limit done (e ∷ es) below =
    let here : saved_length (kept_of e.kept) + held done ≤ limit = held_onto limit (entry_of e ∷ done) es below in
    All-cons (λ (e : EntryRead A). saved_length (kept_of e.kept) ≤ limit) e es (omega arith) (each_held limit (entry_of e ∷ done) es below)

-- the entries of a text that was read
pub saved_within : {A : Type 0} → (text : List ℕ) (es : List (EntryRead A)) → Reads text (record { entries = entries_of es; stage = Between }) → All (λ (e : EntryRead A). saved_length (kept_of e.kept) ≤ length text) es
unfolding held_in
saved_within text es reads =
    let most : held (entries_of es) + 0 ≤ 0 + 0 + length (text_of_lines (split text).lines) = lines_held (split text).lines start (record { entries = entries_of es; stage = Between }) reads.lines in
    let long : length (text_of_lines (split text).lines) + length (split text).rest ≡ length text = sym (length-append (text_of_lines (split text).lines) (split text).rest) ∙ ap length (joined_rest text) in
    each_held (length text) [] es (omega (arith, most, long))

pub saved_countable : {A : Type 0} → (text : List ℕ) (es here : List (EntryRead A)) → Reads text (record { entries = entries_of es; stage = Between }) → length text < 18446744073709551616 → here ≡ es
    → All (λ (e : EntryRead A). saved_length (kept_of e.kept) < 18446744073709551616) here
saved_countable {A = A} text es here reads short same =
    subst (All (λ (e : EntryRead A). saved_length (kept_of e.kept) < 18446744073709551616)) (sym same)
    (All-weaker (λ (e : EntryRead A). saved_length (kept_of e.kept) ≤ length text) (λ (e : EntryRead A). saved_length (kept_of e.kept) < 18446744073709551616) (λ e below. omega (arith, below, short)) es (saved_within text es reads))
