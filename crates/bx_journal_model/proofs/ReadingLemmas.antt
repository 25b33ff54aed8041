-- What each reading has: runs within the length, and lengths that follow one another.
use Rattle.std.proofs.Common.{◌≡◌, ℕ, suc, ◌+◌, ◌≤◌, Bool, true, false, List, [], ◌∷◌, length, refl, ap, sym, ◌∙◌, subst, arith, Option, Some, None}
use Rattle.std.specs.Prelude.{◌&&◌, IfSome, nat_le, if◌then◌else◌, option_map, unwrap_or, slice_index}
use Rattle.std.specs.Str.{bytes_eq}
use Rattle.std.proofs.lemmas.Grind.{common_steps}
use Rattle.bx_journal_format.specs.Kept.{Run, Kept, with_run}
use Rattle.bx_journal_format.proofs.Gathered.{with_run-within}
use Rattle.bx_image.specs.Image.{image_of, end_of}
use Rattle.bx_image.specs.Change.{AllWithin, restore, byte_in}
use Rattle.std.proofs.lemmas.List.FromFn.{length-map-range_with_len}
use Rattle.bx_journal_format.specs.declared.format.version.Version.{Version}
use Rattle.bx_journal_format.specs.DumpLine.{run_of_line}
use Rattle.bx_journal_format.specs.Line.{save_line, saved_in}
use Rattle.bx_journal_format.specs.Text.{Entry, Stage, Between, Saving, Ending, Reading, next_at, start, after_lines, may_begin, next}
use Rattle.bx_journal_model.specs.Stack.{HaveLengths}
use Rattle.bx_journal_format.proofs.Inverse.{bind_some, map_some, test_some, next_between, next_ending}
use Rattle.bx_journal_format.proofs.Foreign.{and_true}

abbrev pub AreSane : List Entry → Type 0
AreSane [] = Unit {0}
AreSane (e ∷ es) = AllWithin e.saved.len e.saved.runs × (may_begin es e.saved.len ≡ true) × AreSane es

abbrev pub IsSaneAt : List Entry → Stage → Type 0
IsSaneAt es Between = Unit {0}
IsSaneAt es (Saving v s) = AllWithin s.len s.runs × (may_begin es s.len ≡ true)
IsSaneAt es (Ending v s) = AllWithin s.len s.runs × (may_begin es s.len ≡ true)

abbrev pub IsSane : Reading → Type 0
IsSane r = AreSane r.entries × IsSaneAt r.entries r.stage

within_end : (at : ℕ) (bytes : List ℕ) (len : ℕ) → at + length bytes ≤ len → end_of at bytes ≤ len
within_end at [] len h = omega arith
within_end at (b ∷ bytes) len h = h

saved_within : (len : ℕ) (line : List ℕ) (p : Run) → saved_in len line ≡ Some p → end_of p.at p.bytes ≤ len
unfolding saved_in
saved_within len line p e =
    let found = bind_some (λ piece. if nat_le (length piece.bytes) 16 && nat_le (piece.at + length piece.bytes) len then Some piece else None) (run_of_line line) p e in
    let test = test_some (nat_le (length found.0.bytes) 16 && nat_le (found.0.at + length found.0.bytes) len) found.0 p found.2 in
    let both = and_true (nat_le (length found.0.bytes) 16) (nat_le (found.0.at + length found.0.bytes) len) test.0 in
    subst (λ (q : Run). end_of q.at q.bytes ≤ len) test.1 (within_end found.0.at found.0.bytes len (le_of (found.0.at + length found.0.bytes) len both.1))
  where
    le_of : (a b : ℕ) → nat_le a b ≡ true → a ≤ b
    le_of a b e = grind (arith, common_steps)

next_sane : (es : List Entry) (stage : Stage) (line : List ℕ) (q : Reading) → next_at es stage line ≡ Some q → AreSane es → IsSaneAt es stage → IsSane q
unfolding next_at
next_sane es Between line q e all at =
    let b = next_between es line q e in
    let is : q ≡ record { entries = es; stage = Saving b.1.0 (record { len = b.1.1; runs = [] }) } = b.2 ∙ ap (λ s. record { entries = es; stage = s }) b.1.7 in
    subst IsSane (sym is) (all, (tt, b.1.5))
next_sane es (Saving v s) line q e all at = saving_sane es v s line q e all at
  where
    saving_sane : (es : List Entry) (v : Version) (s : Kept) (line : List ℕ) (q : Reading) → next_at es (Saving v s) line ≡ Some q → AreSane es → IsSaneAt es (Saving v s) → IsSane q
    saving_sane es v s line q e all at = by_test es v s line q (bytes_eq line (save_line (suc (length es)))) e all at
      where
        by_test : (es : List Entry) (v : Version) (s : Kept) (line : List ℕ) (q : Reading) (b : Bool)
            → (if b then Some (record { entries = es; stage = Ending v s }) else option_map (λ (piece : Run). (record { entries = es; stage = Saving v (record { len = s.len; runs = with_run s.runs piece }) })) (saved_in s.len line)) ≡ Some q
            → AreSane es → IsSaneAt es (Saving v s) → IsSane q
        by_test es v s line q true e all at = let is : record { entries = es; stage = Ending v s } ≡ q = cc in subst IsSane is (all, at)
        by_test es v s line q false e all at =
            let some = map_some (λ (piece : Run). (record { entries = es; stage = Saving v (record { len = s.len; runs = with_run s.runs piece }) })) (saved_in s.len line) q e in
            subst IsSane some.2 (all, (with_run-within s.len s.runs some.0 at.0 (saved_within s.len line some.0 some.1), at.1))
next_sane es (Ending v s) line q e all at =
    let is = (next_ending es v s line q e).1 in
    subst IsSane (sym is) ((at.0, at.1, all), tt)

pub lines_sane : (ls : List (List ℕ)) (r q : Reading) → IsSane r → after_lines r ls ≡ Some q → IsSane q
unfolding after_lines
lines_sane [] r q sane e = let same : r ≡ q = cc in subst IsSane same sane
lines_sane (l ∷ ls) r q sane e =
    let b = bind_some (λ p. after_lines p ls) (next r l) q e in
    lines_sane ls b.0 q (next_sane r.entries r.stage l b.0 b.1 sane.0 sane.1) b.2

-- whatever is read is so
pub read_sane : (ls : List (List ℕ)) (q : Reading) → after_lines start ls ≡ Some q → IsSane q
read_sane ls q e = lines_sane ls start q (tt, tt) e

pub length-restore : (s : Kept) (x : List ℕ) → length (restore s x) ≡ s.len
unfolding restore image_of
length-restore s x = length-map-range_with_len (λ i. unwrap_or (byte_in s.runs i) (slice_index x i)) 0 s.len

told_len : (es : List Entry) (len : ℕ) (x : List ℕ) → may_begin es len ≡ true → length x ≡ len → AreSane es → HaveLengths es x
told_len [] len x may is sane = tt
told_len (e ∷ es) len x may is sane = (by_after e.after may, told_len es e.saved.len (restore e.saved x) sane.1 (length-restore e.saved x) sane.2)
  where
    by_after : (after : Option ℕ) → may_begin (record { saved = e.saved; after = after } ∷ es) len ≡ true → IfSome after (λ n. length x ≡ n)
    by_after None may = tt
    by_after (Some n) may = grind (arith, common_steps)

-- the lengths that the entries tell, if the newest one's is right
pub have_lengths : (es : List Entry) (x : List ℕ) → AreSane es → may_begin es (length x) ≡ true → HaveLengths es x
have_lengths es x sane may = told_len es (length x) x may refl sane
