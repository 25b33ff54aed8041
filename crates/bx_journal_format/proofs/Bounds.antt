-- The lengths of what is read are those that a line can tell.
use Rattle.std.proofs.Common.{◌≡◌, ℕ, suc, ◌≤◌, List, [], ◌∷◌, length, ap, sym, ◌∙◌, subst, inl, inr, arith, true, Option, Some, None}
use Rattle.bx_image.specs.declared.change.TheConstants.{MAX_LEN}
use Rattle.bx_journal_format.specs.declared.format.version.Version.{Version}
use Rattle.bx_journal_format.specs.Text.{Entry, Stage, Between, Saving, Ending, Reading, next_at, start, after_lines, next}
use Rattle.std.specs.Prelude.{IfSome, nat_le, option_and_then, if◌then◌else◌}
use Rattle.std.specs.Str.{bytes_eq}
use Rattle.std.proofs.lemmas.Grind.{common_steps}
use Rattle.bx_journal_format.specs.declared.format.version.Version.TheVariants.{First, Second}
use Rattle.bx_journal_format.specs.Hex.{number_of}
use Rattle.bx_journal_format.specs.Line.{after_in, at_most, after_prefix, end_head, end_line}
use Rattle.bx_journal_format.proofs.Inverse.{bind_some, map_some, test_some, next_between, next_saving, next_ending}

abbrev pub AreBounded : List Entry → Type 0
AreBounded [] = Unit {0}
AreBounded (e ∷ es) = (e.saved.len ≤ MAX_LEN) × AreBounded es

abbrev pub IsBoundedAt : Stage → Type 0
IsBoundedAt Between = Unit {0}
IsBoundedAt (Saving v s) = s.len ≤ MAX_LEN
IsBoundedAt (Ending v s) = s.len ≤ MAX_LEN

abbrev pub IsBounded : Reading → Type 0
IsBounded r = AreBounded r.entries × IsBoundedAt r.stage

next_bounded : (es : List Entry) (stage : Stage) (line : List ℕ) (q : Reading) → next_at es stage line ≡ Some q → AreBounded es → IsBoundedAt stage → IsBounded q
next_bounded es Between line q e all at =
    let b = next_between es line q e in
    let is : q ≡ record { entries = es; stage = Saving b.1.0 (record { len = b.1.1; runs = [] }) } = b.2 ∙ ap (λ s. record { entries = es; stage = s }) b.1.7 in
    subst IsBounded (sym is) (all, b.1.3)
next_bounded es (Saving v s) line q e all at =
    elim (next_saving es v s line q e) [ inl is ↦ subst IsBounded (sym is.1) (all, at) | inr is ↦ subst IsBounded (sym is.2) (all, at) ]
next_bounded es (Ending v s) line q e all at = subst IsBounded (sym (next_ending es v s line q e).1) ((at, all), tt)

lines_bounded : (ls : List (List ℕ)) (r q : Reading) → IsBounded r → after_lines r ls ≡ Some q → IsBounded q
unfolding after_lines
lines_bounded [] r q bounded e = let same : r ≡ q = cc in subst IsBounded same bounded
lines_bounded (l ∷ ls) r q bounded e =
    let b = bind_some (λ p. after_lines p ls) (next r l) q e in
    lines_bounded ls b.0 q (next_bounded r.entries r.stage l b.0 b.1 bounded.0 bounded.1) b.2

-- whatever is read is so
pub read_bounded : (ls : List (List ℕ)) (q : Reading) → after_lines start ls ≡ Some q → IsBounded q
read_bounded ls q e = lines_bounded ls start q (tt, tt) e

most_of : (limit : ℕ) (o : Option ℕ) (m : ℕ) → at_most limit o ≡ Some m → m ≤ limit
most_of limit o m e =
    let found = bind_some (λ n. if nat_le n limit then Some n else None) o m e in
    let test = test_some (nat_le found.0 limit) found.0 m found.2 in
    subst (λ n. n ≤ limit) test.1 (le_of found.0 limit test.0)
  where
    le_of : (a b : ℕ) → nat_le a b ≡ true → a ≤ b
    le_of a b e = grind (arith, common_steps)

told_most : (v : Version) (n : ℕ) (line : List ℕ) (told : Option ℕ) → after_in v n line ≡ Some told → IfSome told (λ a. a ≤ MAX_LEN)
unfolding after_in
told_most First n line told e =
    let test = test_some (bytes_eq line (end_line First n 0)) None told e in
    subst (λ o. IfSome o (λ a. a ≤ MAX_LEN)) test.1 tt
told_most Second n line told e =
    let some = map_some Some (at_most MAX_LEN (option_and_then (number_of 16) (after_prefix (end_head Second n) line))) told e in
    subst (λ o. IfSome o (λ a. a ≤ MAX_LEN)) some.2 (most_of MAX_LEN (option_and_then (number_of 16) (after_prefix (end_head Second n) line)) some.0 some.1)

-- each recorded length is one that a line can record
abbrev pub AreTold : List Entry → Type 0
AreTold [] = Unit {0}
AreTold (e ∷ es) = IfSome e.after (λ a. a ≤ MAX_LEN) × AreTold es

next_told : (es : List Entry) (stage : Stage) (line : List ℕ) (q : Reading) → next_at es stage line ≡ Some q → AreTold es → AreTold q.entries
unfolding next_at
next_told es Between line q e all =
    let b = next_between es line q e in
    subst (λ (r : Reading). AreTold r.entries) (sym b.2) all
next_told es (Saving v s) line q e all =
    elim (next_saving es v s line q e) [ inl is ↦ subst (λ (r : Reading). AreTold r.entries) (sym is.1) all | inr is ↦ subst (λ (r : Reading). AreTold r.entries) (sym is.2) all ]
next_told es (Ending v s) line q e all =
    let some = map_some (λ (after : Option ℕ). (record { entries = record { saved = s; after = after } ∷ es; stage = Between })) (after_in v (suc (length es)) line) q e in
    subst (λ (r : Reading). AreTold r.entries) some.2 (told_most v (suc (length es)) line some.0 some.1, all)

lines_told : (ls : List (List ℕ)) (r q : Reading) → AreTold r.entries → after_lines r ls ≡ Some q → AreTold q.entries
unfolding after_lines
lines_told [] r q told e = let same : r ≡ q = cc in subst (λ (p : Reading). AreTold p.entries) same told
lines_told (l ∷ ls) r q told e =
    let b = bind_some (λ p. after_lines p ls) (next r l) q e in
    lines_told ls b.0 q (next_told r.entries r.stage l b.0 b.1 told) b.2

pub read_told : (ls : List (List ℕ)) (q : Reading) → after_lines start ls ≡ Some q → AreTold q.entries
read_told ls q e = lines_told ls start q tt e
