-- A text has one spelling: its entries' lines are determined.
use Rattle.std.proofs.Common.{◌≡◌, ◌⊎◌, ℕ, suc, ◌+◌, ◌*◌, ◌<◌, ◌≤◌, List, [], ◌∷◌, ◌++◌, length, length-append, map, refl, ap, sym, ◌∙◌, subst, inl, inr, arith, append-nil, Option, Some, true, false}
use Rattle.std.proofs.lemmas.List.{append_cancel_left, length-map}
use Rattle.std.specs.Prelude.{option_and_then, slice_index}
use Rattle.bx_journal_format.specs.Kept.{Kept}
use Rattle.bx_journal_format.specs.Line.{end_head, end_line, save_line, start_head, start_line}
use Rattle.bx_journal_format.specs.declared.format.version.Version.{Version}
use Rattle.bx_journal_format.specs.declared.format.version.Version.TheVariants.{First, Second}
use Rattle.bx_journal_format.specs.Spelled.{EntryLines, IsSpelled, entry_in, entry_lines}
use Rattle.bx_journal_format.specs.Text.{Entry, Stage, Between, Saving, Ending, Reading, Split, IsPrefix, after_lines, begins_with_s, text_of_lines, next_at, split, start, next}
use Rattle.bx_journal_format.proofs.CalmLemmas.{lines_count}
use Rattle.bx_journal_format.proofs.Foreign.{joined_lines}
use Rattle.bx_journal_format.proofs.Inverse.{bind_some, next_between, next_ending, next_saving}
use Rattle.bx_journal_format.proofs.Runs.{after_lines-append}
use Rattle.bx_journal_format.proofs.Splits.{split-append}
use Rattle.bx_journal_read.proofs.OpenLemmas.{some_same}

-- where two lists of lines are read one behind the other
record AreReadBy (r q : Reading) (a b : List (List ℕ)) : Type 0 where
  at : Reading
  first : after_lines r a ≡ Some at
  then : after_lines at b ≡ Some q

read_on : (o : Option Reading) (s p : Reading) (ls : List (List ℕ)) → o ≡ Some s → after_lines s ls ≡ Some p → option_and_then (λ q. after_lines q ls) o ≡ Some p
read_on o s p ls is e = rw is e

-- lines that are read are read up to any place
read_by : (a b : List (List ℕ)) (r q : Reading) → after_lines r (a ++ b) ≡ Some q → AreReadBy r q a b
unfolding after_lines
read_by [] b r q e = record { at = r; first = refl; then = e }
read_by (l ∷ a) b r q e =
    let s = bind_some (λ p. after_lines p (a ++ b)) (next r l) q e in
    let more = read_by a b s.0 q s.2 in
    record { at = more.at; first = read_on (next r l) s.0 more.at a s.1 more.first; then = more.then }

-- one line that is read
read_one : (l : List ℕ) (ls : List (List ℕ)) (r q : Reading) → after_lines r (l ∷ ls) ≡ Some q → (p : Reading) × (next r l ≡ Some p) × (after_lines p ls ≡ Some q)
unfolding after_lines
read_one l ls r q e = bind_some (λ p. after_lines p ls) (next r l) q e

none_read : (r q : Reading) → after_lines r [] ≡ Some q → r ≡ q
unfolding after_lines
none_read r q e = cc

-- Lines end one entry more at least, and lead to between two entries
record EndsOne (r q : Reading) : Type 0 where
  between : q.stage ≡ Between
  more : length r.entries + 1 ≤ length q.entries

-- a save line is no other line
start_apart : (v : Version) (n len k : ℕ) → save_line k ≡ start_line v n len → ⊥
unfolding start_line start_head save_line
start_apart First n len k e = let h : 115 ≡ 99 = ap (λ l. slice_index l 0) e in omega (arith, h)
start_apart Second n len k e = let h : 115 ≡ 99 = ap (λ l. slice_index l 0) e in omega (arith, h)

end_apart : (v : Version) (n after k : ℕ) → save_line k ≡ end_line v n after → ⊥
unfolding end_line end_head save_line
end_apart First n after k e = let h : 115 ≡ 100 = ap (λ l. slice_index l 0) e in omega (arith, h)
end_apart Second n after k e = let h : 115 ≡ 100 = ap (λ l. slice_index l 0) e in omega (arith, h)

saved_apart : (k : ℕ) → begins_with_s (save_line k) ≡ false → ⊥
unfolding save_line
saved_apart k e = let h : true ≡ false = e in absurd (cc)

-- so it ends saved lines
save_ends : (es : List Entry) (stage : Stage) (k : ℕ) (p : Reading) → next_at es stage (save_line k) ≡ Some p → (v : Version) × (s : Kept) × (p ≡ record { entries = es; stage = Ending v s })
save_ends es Between k p e = let b = next_between es (save_line k) p e in absurd (start_apart b.1.0 (suc (length es)) b.1.1 k b.1.6)
save_ends es (Saving v s) k p e = elim (next_saving es v s (save_line k) p e) [ inl is ↦ (v, s, is.1) | inr is ↦ absurd (saved_apart k is.0) ]
save_ends es (Ending v s) k p e = let n = next_ending es v s (save_line k) p e in absurd (end_apart v (suc (length es)) n.2.0 k n.2.2)

-- the lines of an entry end one at least
entry_ends : (k : ℕ) (first last : List ℕ) (saved : List (List ℕ)) (r q : Reading) → after_lines r (first ∷ (saved ++ save_line k ∷ last ∷ [])) ≡ Some q → EndsOne r q
entry_ends k first last saved r q e =
    let two = read_by (first ∷ saved) (save_line k ∷ last ∷ []) r q e in
    let grows = lines_count (first ∷ saved) r two.at two.first in
    let save = read_one (save_line k) (last ∷ []) two.at q two.then in
    let is = save_ends two.at.entries two.at.stage k save.0 save.1 in
    let end = read_one last [] save.0 q save.2 in
    let next_is : next_at two.at.entries (Ending is.0 is.1) last ≡ Some end.0 = subst (λ (p : Reading). next p last ≡ Some end.0) is.2 end.1 in
    let done = next_ending two.at.entries is.0 is.1 last end.0 next_is in
    let all = sym (none_read end.0 q end.2) ∙ done.1 in
    record { between = ap (λ (p : Reading). p.stage) all; more = omega (arith, grows, ap (λ (p : Reading). length p.entries) all) }

-- the lines of entries lead to between two, and end as many at least
grown : (cs : List EntryLines) (q : Reading) → after_lines start (entry_lines cs) ≡ Some q → (q.stage ≡ Between) × (length cs ≤ length q.entries)
unfolding entry_lines
grown [] q e = (ap (λ (p : Reading). p.stage) (sym (none_read start q e)), omega arith)
grown (c ∷ older) q e =
    let two = read_by (entry_lines older) (c.first ∷ (c.saved ++ save_line (suc (length older)) ∷ c.last ∷ [])) start q e in
    let ends = entry_ends (suc (length older)) c.first c.last c.saved two.at q two.then in
    (ends.between, omega (arith, (grown older two.at two.first).1, ends.more))

-- how far a reading is
abbrev rank_of : Stage → ℕ
rank_of Between = 0
rank_of (Saving v s) = 1
rank_of (Ending v s) = 2

abbrev rank : Reading → ℕ
rank r = 3 * length r.entries + rank_of r.stage

begun_rank : (es : List Entry) (l : List ℕ) (q : Reading) → next_at es Between l ≡ Some q → (rank q ≡ 3 * length es + 1) × (length es < 65535)
begun_rank es l q e =
    let b = next_between es l q e in
    (ap rank (b.2 ∙ ap (λ s. record { entries = es; stage = s }) b.1.7), b.1.2)

rank_next : (es : List Entry) (stage : Stage) (l : List ℕ) (q : Reading) → next_at es stage l ≡ Some q → 3 * length es + rank_of stage ≤ rank q
rank_next es Between l q e = omega (arith, (begun_rank es l q e).0)
rank_next es (Saving v s) l q e =
    elim (next_saving es v s l q e) [
      | inl is ↦ (let heavy : rank q ≡ 3 * length es + 2 = ap rank is.1 in omega (arith, heavy))
      | inr is ↦ (let heavy : rank q ≡ 3 * length es + 1 = ap rank is.2 in omega (arith, heavy))
    ]
rank_next es (Ending v s) l q e =
    let heavy : rank q ≡ 3 * suc (length es) + 0 = ap rank (next_ending es v s l q e).1 in
    omega (arith, heavy)

ranks_grow : (ls : List (List ℕ)) (r q : Reading) → after_lines r ls ≡ Some q → rank r ≤ rank q
ranks_grow [] r q e = subst (λ (p : Reading). rank r ≤ rank p) (none_read r q e) (omega arith)
ranks_grow (l ∷ ls) r q e =
    let one = read_one l ls r q e in
    omega (arith, rank_next r.entries r.stage l one.0 one.1, ranks_grow ls one.0 q one.2)

-- no line leads from between two entries to between two, where none is ended
no_way : (ls : List (List ℕ)) (r q : Reading) → r.stage ≡ Between → q.stage ≡ Between → length r.entries ≡ length q.entries → after_lines r ls ≡ Some q → ls ≡ []
no_way [] r q from to same e = refl
no_way (l ∷ ls) r q from to same e =
    let one = read_one l ls r q e in
    let begins : next_at r.entries Between l ≡ Some one.0 = subst (λ s. next_at r.entries s l ≡ Some one.0) from one.1 in
    let heavy = (begun_rank r.entries l one.0 begins).0 in
    let light : rank q ≡ 3 * length q.entries + 0 = ap (λ s. 3 * length q.entries + rank_of s) to in
    absurd (omega (arith, ranks_grow ls one.0 q one.2, heavy, light, same))

-- of two fronts one is a front of the other
front_of_other : {A : Type 0} → (a b x y : List A) → a ++ x ≡ b ++ y → ((z : List A) × (b ≡ a ++ z)) ⊎ ((z : List A) × (a ≡ b ++ z))
front_of_other [] b x y e = inl (b, refl)
front_of_other (l ∷ a) [] x y e = inr (l ∷ a, refl)
front_of_other (l ∷ a) (m ∷ b) x y e =
    let heads : l ≡ m = cc in
    let tails : a ++ x ≡ b ++ y = cc in
    elim (front_of_other a b x y tails) [
      | inl z ↦ inl (z.0, cc)
      | inr z ↦ inr (z.0, cc)
    ]

longer_same : (a b z : List (List ℕ)) (p q : Reading) → b ≡ a ++ z → after_lines start a ≡ Some p → after_lines start b ≡ Some q → p.stage ≡ Between → q.stage ≡ Between → length p.entries ≡ length q.entries → a ≡ b
longer_same a b z p q is first second from to same =
    let on : after_lines p z ≡ Some q = sym (after_lines-append start p a z first) ∙ ap (after_lines start) (sym is) ∙ second in
    sym (is ∙ ap (λ t. a ++ t) (no_way z p q from to same on) ∙ append-nil a)

fronts_same : (a b x y : List (List ℕ)) (p q : Reading) → a ++ x ≡ b ++ y → after_lines start a ≡ Some p → after_lines start b ≡ Some q → p.stage ≡ Between → q.stage ≡ Between → length p.entries ≡ length q.entries → a ≡ b
fronts_same a b x y p q is first second from to same = elim (front_of_other a b x y is) [
  | inl z ↦ longer_same a b z.0 p q z.1 first second from to same
  | inr z ↦ sym (longer_same b a z.0 q p z.1 second first to from (sym same))
]

last_two : (a b : List (List ℕ)) (s t l m : List ℕ) → a ++ s ∷ l ∷ [] ≡ b ++ t ∷ m ∷ [] → (a ≡ b) × (l ≡ m)
last_two [] [] s t l m e = (refl, cc)
last_two [] (y ∷ b) s t l m e = absurd (omega (arith, ap length e, length-append b (t ∷ m ∷ [])))
last_two (x ∷ a) [] s t l m e = absurd (omega (arith, ap length e, length-append a (s ∷ l ∷ [])))
last_two (x ∷ a) (y ∷ b) s t l m e =
    let heads : x ≡ y = cc in
    let tails : a ++ s ∷ l ∷ [] ≡ b ++ t ∷ m ∷ [] = cc in
    let more = last_two a b s t l m tails in
    (ap (λ z. z ∷ a) heads ∙ ap (λ c. y ∷ c) more.0, more.1)

cons_same : {A : Type 0} → (x y : A) (xs ys : List A) → x ∷ xs ≡ y ∷ ys → (x ≡ y) × (xs ≡ ys)
cons_same x y xs ys e = (cc, cc)

parts_same : (c d : EntryLines) → c.entry ≡ d.entry → c.first ≡ d.first → c.saved ≡ d.saved → c.last ≡ d.last → c ≡ d
parts_same c d entry first saved last =
    ap (λ e. record { entry = e; first = c.first; saved = c.saved; last = c.last }) entry
    ∙ ap (λ l. record { entry = d.entry; first = l; saved = c.saved; last = c.last }) first
    ∙ ap (λ ls. record { entry = d.entry; first = d.first; saved = ls; last = c.last }) saved
    ∙ ap (λ l. record { entry = d.entry; first = d.first; saved = d.saved; last = l }) last

one_spelling : (cs ds : List EntryLines) (q : Reading) → entry_lines cs ≡ entry_lines ds → after_lines start (entry_lines cs) ≡ Some q → length q.entries ≡ length cs → map entry_in cs ≡ map entry_in ds → cs ≡ ds
unfolding entry_lines
one_spelling [] [] q lines read count same = refl
one_spelling [] (d ∷ ds) q lines read count same = absurd (omega (arith, ap length same))
one_spelling (c ∷ cs) [] q lines read count same = absurd (omega (arith, ap length same))
one_spelling (c ∷ older) (d ∷ elder) q lines read count same =
    let own : List (List ℕ) = c.first ∷ (c.saved ++ save_line (suc (length older)) ∷ c.last ∷ []) in
    let other : List (List ℕ) = d.first ∷ (d.saved ++ save_line (suc (length elder)) ∷ d.last ∷ []) in
    let entries = cons_same c.entry d.entry (map entry_in older) (map entry_in elder) same in
    let many : length older ≡ length elder = omega (arith, length-map older entry_in, length-map elder entry_in, ap length entries.1) in
    let a = read_by (entry_lines older) own start q read in
    let b = read_by (entry_lines elder) other start q (subst (λ ls. after_lines start ls ≡ Some q) lines read) in
    let up = grown older a.at a.first in
    let down = grown elder b.at b.first in
    let one = entry_ends (suc (length older)) c.first c.last c.saved a.at q a.then in
    let two = entry_ends (suc (length elder)) d.first d.last d.saved b.at q b.then in
    let before : length a.at.entries ≡ length older = omega (arith, up.1, one.more, count) in
    let beside : length b.at.entries ≡ length elder = omega (arith, down.1, two.more, count, many) in
    let fronts : entry_lines older ≡ entry_lines elder = fronts_same (entry_lines older) (entry_lines elder) own other a.at b.at lines a.first b.first up.0 down.0 (omega (arith, before, beside, many)) in
    let tails : own ≡ other = append_cancel_left (entry_lines older) own other (lines ∙ ap (λ ls. ls ++ other) (sym fronts)) in
    let first = cons_same c.first d.first (c.saved ++ save_line (suc (length older)) ∷ c.last ∷ []) (d.saved ++ save_line (suc (length elder)) ∷ d.last ∷ []) tails in
    let last = last_two c.saved d.saved (save_line (suc (length older))) (save_line (suc (length elder))) c.last d.last first.1 in
    ap (λ x. x ∷ older) (parts_same c d entries.0 first.0 last.0 last.1) ∙ ap (λ xs. d ∷ xs) (one_spelling older elder a.at fronts a.first before entries.1)

-- what a text of finished entries reads as
abbrev finished_of : List EntryLines → Reading
finished_of cs = record { entries = map entry_in cs; stage = Between }

-- a text has one spelling
pub spelled_once : (text : List ℕ) (cs ds : List EntryLines) → IsSpelled text cs → IsSpelled text ds → cs ≡ ds
spelled_once text cs ds c d =
    let same : finished_of cs ≡ finished_of ds = some_same (finished_of cs) (finished_of ds) (sym c.finished.reads.lines ∙ d.finished.reads.lines) in
    one_spelling cs ds (finished_of cs) (sym c.lines ∙ d.lines) (ap (after_lines start) (sym c.lines) ∙ c.finished.reads.lines) (length-map cs entry_in) (ap (λ (r : Reading). r.entries) same)

longer_front : (front other z : List ℕ) (cs ds : List EntryLines) → other ≡ front ++ z → IsSpelled front cs → IsSpelled other ds → map entry_in cs ≡ map entry_in ds → front ≡ other
longer_front front other z cs ds is c d same =
    let parts : split other ≡ record { lines = (split front).lines ++ (split z).lines; rest = (split z).rest } = ap split is ∙ split-append front z c.finished.whole in
    let rest : (split z).rest ≡ [] = sym (ap (λ (s : Split). s.rest) parts) ∙ d.finished.whole in
    let on : after_lines (finished_of cs) (split z).lines ≡ Some (finished_of ds) =
    sym (after_lines-append start (finished_of cs) (split front).lines (split z).lines c.finished.reads.lines) ∙ ap (after_lines start) (sym (ap (λ (s : Split). s.lines) parts)) ∙ d.finished.reads.lines in
    let none : (split z).lines ≡ [] = no_way (split z).lines (finished_of cs) (finished_of ds) refl refl (ap length same) on in
    let empty : z ≡ [] = sym (joined_lines z rest) ∙ ap text_of_lines none in
    sym (is ∙ ap (λ t. front ++ t) empty ∙ append-nil front)

-- and one front has its entries
pub front_once : (text front other : List ℕ) (cs ds : List EntryLines) → IsPrefix front text → IsPrefix other text → IsSpelled front cs → IsSpelled other ds → map entry_in cs ≡ map entry_in ds → front ≡ other
front_once text front other cs ds f o c d same = elim (front_of_other front other f.0 o.0 (sym f.1 ∙ o.1)) [
  | inl z ↦ longer_front front other z.0 cs ds z.1 c d same
  | inr z ↦ sym (longer_front other front z.0 ds cs z.1 d c (sym same))
]

-- a text has at most 65,535 entries
most_next : (es : List Entry) (stage : Stage) (l : List ℕ) (q : Reading) → 3 * length es + rank_of stage ≤ 196605 → next_at es stage l ≡ Some q → rank q ≤ 196605
most_next es Between l q few e = let b = begun_rank es l q e in omega (arith, b.0, b.1)
most_next es (Saving v s) l q few e =
    elim (next_saving es v s l q e) [
      | inl is ↦ (let heavy : rank q ≡ 3 * length es + 2 = ap rank is.1 in omega (arith, heavy, few))
      | inr is ↦ (let heavy : rank q ≡ 3 * length es + 1 = ap rank is.2 in omega (arith, heavy, few))
    ]
most_next es (Ending v s) l q few e =
    let heavy : rank q ≡ 3 * suc (length es) + 0 = ap rank (next_ending es v s l q e).1 in
    omega (arith, heavy, few)

most_read : (ls : List (List ℕ)) (r q : Reading) → rank r ≤ 196605 → after_lines r ls ≡ Some q → rank q ≤ 196605
most_read [] r q few e = subst (λ (p : Reading). rank p ≤ 196605) (none_read r q e) few
most_read (l ∷ ls) r q few e = let one = read_one l ls r q e in most_read ls one.0 q (most_next r.entries r.stage l one.0 few one.1) one.2

pub spelled_few : (text : List ℕ) (cs : List EntryLines) → IsSpelled text cs → length cs ≤ 65535
spelled_few text cs c =
    let few : 3 * length (map entry_in cs) + 0 ≤ 196605 = most_read (split text).lines start (finished_of cs) (omega arith) c.finished.reads.lines in
    omega (arith, few, length-map cs entry_in)
