-- A record that is restored from its text a window at a time.
use Rattle.std.proofs.Common.{◌≡◌, ℕ, zero, suc, ◌+◌, ◌-◌, ◌<◌, ◌≤◌, ◌⊎◌, inl, inr, Bool, true, false, List, [], ◌∷◌, ◌++◌, length, length-append, length-take, min, take, drop, refl, ap, sym, ◌∙◌, subst, arith, append_assoc, append-nil, Option, Some, None, map, slice_index_or}
use Rattle.std.specs.Prelude.{if◌then◌else◌, option_map, All}
use Rattle.std.specs.Option.{option_or}
use Rattle.std.specs.Str.{bytes_eq}
use Rattle.std.proofs.lemmas.Grind.{common_steps}
use Rattle.std.proofs.lemmas.List.{take-append-drop}
use Rattle.std.proofs.Math.Seq.{take-append-add}
use Rattle.bx_image.specs.Image.{place, cut, end_of}
use Rattle.bx_image.specs.Change.{AllWithin, byte_in, placed, restore}
use Rattle.bx_image.specs.private.Change.{byte_of}
use Rattle.bx_image.proofs.Lengths.{length-placed, placed_len}
use Rattle.bx_image.proofs.Records.{placed-cut, placed_len_within}
use Rattle.bx_journal_format.specs.Kept.{Kept, Run, with_run, with_runs}
use Rattle.bx_journal_format.specs.Line.{save_line, saved_in}
use Rattle.bx_journal_format.specs.Text.{Entry, Stage, Saving, Ending, Between, Reading, text_of_lines, split, start, next_at, after_lines}
use Rattle.bx_journal_format.specs.declared.format.version.Version.{Version}
use Rattle.bx_journal_format.specs.declared.read.parts.Part.{Part}
use Rattle.bx_journal_format.specs.count.Mark.{IsMark}
use Rattle.bx_journal_format.specs.count.Parts.{GivesParts, IsIn, LiesIn, TakesSome, part_run}
use Rattle.bx_journal_format.proofs.Foreign.{joined_lines, lines_plain}
use Rattle.bx_journal_format.proofs.Gathered.{with_run-byte}
use Rattle.bx_journal_format.proofs.Inverse.{bind_some, map_some, next_between, next_ending, next_saving}
use Rattle.bx_journal_format.proofs.RowLemmas.{or_assoc, or_none, restore_same}
use Rattle.bx_journal_format.proofs.Runs.{after_lines-append}
use Rattle.bx_journal_format.proofs.Splits.{AllPlain, plain_front, split-append}
use Rattle.bx_journal_format.proofs.Stops.{next_more as in_place_more, saved_same}
use Rattle.bx_journal_format.proofs.TallyLemmas.{take_sum}
use Rattle.bx_journal_format.specs.read.Plain.{HasNoNewline}
use Rattle.bx_journal_model.specs.declared.long.Cut.{Cut}
use Rattle.bx_journal_model.specs.declared.mark.Mark.{Mark}
use Rattle.bx_journal_model.specs.Long.{BeginsAlike, IsCut, passed_of}
use Rattle.bx_journal_model.proofs.LongLines.{stands_for}
use Rattle.bx_journal_model.specs.Phase.{IsCutOf, IsPartOf}
use Rattle.bx_journal_model.specs.Restoring.{AreNamed, IsRestoredTo, Names, RestoresWindow, StandsAt}
use Rattle.bx_journal_model.proofs.WindowBytes.{front_of}

with_runs-byte : (ps runs : List Run) (i : ℕ) → byte_in (with_runs runs ps) i ≡ option_or (byte_in ps i) (byte_in runs i)
unfolding with_runs byte_in
with_runs-byte [] runs i = refl
with_runs-byte (p ∷ ps) runs i =
    with_runs-byte ps (with_run runs p) i ∙ ap (option_or (byte_in ps i)) (with_run-byte runs p i) ∙ sym (or_assoc (byte_in ps i) (byte_of p i) (byte_in runs i))

pub placed-append : (a b : List Run) (x : List ℕ) → placed (a ++ b) x ≡ placed b (placed a x)
unfolding placed
placed-append [] b x = refl
placed-append (p ∷ a) b x = placed-append a b (place x p.at p.bytes)

pub within-append : (len : ℕ) (a b : List Run) → AllWithin len a → AllWithin len b → AllWithin len (a ++ b)
within-append len [] b h k = k
within-append len (p ∷ a) b h k = (h.0, within-append len a b h.1 k)

pub with_runs-append : (runs a b : List Run) → with_runs runs (a ++ b) ≡ with_runs (with_runs runs a) b
unfolding with_runs
with_runs-append runs [] b = refl
with_runs-append runs (p ∷ a) b = with_runs-append (with_run runs p) a b

-- no line makes the finished entries fewer
next_more : (es : List Entry) (stage : Stage) (line : List ℕ) (q : Reading) → next_at es stage line ≡ Some q → length es ≤ length q.entries
next_more es Between line q e = let b = next_between es line q e in omega (arith, ap (λ (p : Reading). length p.entries) b.2)
next_more es (Saving v s) line q e =
    elim (next_saving es v s line q e) [
      | inl is ↦ omega (arith, ap (λ (p : Reading). length p.entries) is.1)
      | inr is ↦ omega (arith, ap (λ (p : Reading). length p.entries) is.2)
    ]
next_more es (Ending v s) line q e = let n = next_ending es v s line q e in omega (arith, ap (λ (p : Reading). length p.entries) n.1)

pub lines_more : (ls : List (List ℕ)) (r q : Reading) → after_lines r ls ≡ Some q → length r.entries ≤ length q.entries
unfolding after_lines
lines_more [] r q e = let same : r ≡ q = cc in omega (arith, ap (λ (p : Reading). length p.entries) same)
lines_more (l ∷ ls) r q e =
    let b = bind_some (λ p. after_lines p ls) (next_at r.entries r.stage l) q e in
    omega (arith, next_more r.entries r.stage l b.0 b.1, lines_more ls b.0 q b.2)

pub same_reading : (q r : Reading) → Some q ≡ Some r → q ≡ r
same_reading q r e = cc

same_saved : (v : Version) (k s : Kept) → Ending v k ≡ Ending v s → s ≡ k
same_saved v k s e = cc

apart_stages : (v : Version) (k s : Kept) → Saving v k ≡ Ending v s → ⊥
apart_stages v k s e = cc

-- behind a save line the entry ends, or nothing follows
ending_stays : (es : List Entry) (v : Version) (k s : Kept) (ls : List (List ℕ)) → after_lines (record { entries = es; stage = Ending v k }) ls ≡ Some (record { entries = es; stage = Ending v s }) → s ≡ k
unfolding after_lines
ending_stays es v k s [] e = same_saved v k s (ap (λ (r : Reading). r.stage) (same_reading (record { entries = es; stage = Ending v k }) (record { entries = es; stage = Ending v s }) e))
ending_stays es v k s (l ∷ ls) e =
    let b = bind_some (λ q. after_lines q ls) (next_at es (Ending v k) l) (record { entries = es; stage = Ending v s }) e in
    let n = next_ending es v k l b.0 b.1 in
    absurd (omega (arith, lines_more ls b.0 (record { entries = es; stage = Ending v s }) b.2, ap (λ (p : Reading). length p.entries) n.1))

saving_not_ending : (es : List Entry) (v : Version) (k s : Kept) (q r : Reading) → q ≡ record { entries = es; stage = Saving v k } → r ≡ record { entries = es; stage = Ending v s } → Some q ≡ Some r → ⊥
saving_not_ending es v k s q r a b e = apart_stages v k s (sym (ap (λ (p : Reading). p.stage) a) ∙ ap (λ (p : Reading). p.stage) (same_reading q r e) ∙ ap (λ (p : Reading). p.stage) b)

-- a line among saved lines is the save line, or gives a run
abbrev pub SavesOrGives : List Entry → Version → Kept → List ℕ → Reading → Type 0
SavesOrGives es v s line q = (q ≡ record { entries = es; stage = Ending v s })
    ⊎ ((piece : Run) × (saved_in s.len line ≡ Some piece) × (q ≡ record { entries = es; stage = Saving v (record { len = s.len; runs = with_run s.runs piece }) }))

pub line_gives : (es : List Entry) (v : Version) (s : Kept) (line : List ℕ) (q : Reading) → next_at es (Saving v s) line ≡ Some q → SavesOrGives es v s line q
unfolding next_at
line_gives es v s line q e = by_test (bytes_eq line (save_line (suc (length es)))) e
  where
    by_test : (b : Bool)
        → (if b then Some (record { entries = es; stage = Ending v s }) else option_map (λ (piece : Run). (record { entries = es; stage = Saving v (record { len = s.len; runs = with_run s.runs piece }) })) (saved_in s.len line)) ≡ Some q
        → SavesOrGives es v s line q
    by_test true e = inl (cc)
    by_test false e =
        let some = map_some (λ (piece : Run). (record { entries = es; stage = Saving v (record { len = s.len; runs = with_run s.runs piece }) })) (saved_in s.len line) q e in
        inr (some.0, some.1, sym some.2)

-- what the lines up to the save line give is behind what was there
saving_ends : (es : List Entry) (v : Version) (k s : Kept) (ls : List (List ℕ)) → after_lines (record { entries = es; stage = Saving v k }) ls ≡ Some (record { entries = es; stage = Ending v s })
    → (rest : List Run) × (s.runs ≡ with_runs k.runs rest)
unfolding after_lines with_runs
saving_ends es v k s [] e = absurd (saving_not_ending es v k s (record { entries = es; stage = Saving v k }) (record { entries = es; stage = Ending v s }) refl refl e)
saving_ends es v k s (l ∷ ls) e =
    let b = bind_some (λ q. after_lines q ls) (next_at es (Saving v k) l) (record { entries = es; stage = Ending v s }) e in
    elim (line_gives es v k l b.0 b.1) [
      | inl is ↦
          let same = ending_stays es v k s ls (subst (λ q. after_lines q ls ≡ Some (record { entries = es; stage = Ending v s })) is b.2) in
          ([], ap (λ (t : Kept). t.runs) same)
      | inr is ↦
          let more = saving_ends es v (record { len = k.len; runs = with_run k.runs is.0 }) s ls (subst (λ q. after_lines q ls ≡ Some (record { entries = es; stage = Ending v s })) is.2 b.2) in
          (is.0 ∷ more.0, more.1)
    ]

-- the lines between a place among saved lines and the end of the save line
record LinesTo (text : List ℕ) (es : List Entry) (v : Version) (k s : Kept) (n m : ℕ) : Type 0 where
  lines : after_lines (record { entries = es; stage = Saving v k }) (split (take (m - n) (drop n text))).lines ≡ Some (record { entries = es; stage = Ending v s })
  whole : (split (take (m - n) (drop n text))).rest ≡ []
  parts : (split (take m text)).lines ≡ (split (take n text)).lines ++ (split (take (m - n) (drop n text))).lines

lines_to : (text : List ℕ) (es : List Entry) (v : Version) (k s : Kept) (n m : ℕ) → IsIn (take n text) es v k → IsMark text m (record { entries = es; stage = Ending v s }) → n ≤ m → LinesTo text es v k s n m
lines_to text es v k s n m inside mark le =
    let a : List ℕ = take n text in
    let b : List ℕ = take (m - n) (drop n text) in
    let count : n + (m - n) ≡ m = omega (arith, le) in
    let is : take m text ≡ a ++ b = ap (λ i. take i text) (sym count) ∙ take_sum n (m - n) text in
    let both = ap split is ∙ split-append a b inside.whole in
    let lines : (split (take m text)).lines ≡ (split a).lines ++ (split b).lines = ap (λ s. s.lines) both in
    record {
      lines = sym (after_lines-append start (record { entries = es; stage = Saving v k }) (split a).lines (split b).lines inside.lines) ∙ ap (after_lines start) (sym lines) ∙ mark.lines;
      whole = sym (ap (λ s. s.rest) both) ∙ mark.whole;
      parts = lines;
    }

-- the runs of a record are those that are given up to a place, and more
pub runs_to : (text : List ℕ) (es : List Entry) (v : Version) (k s : Kept) (n m : ℕ) → IsIn (take n text) es v k → IsMark text m (record { entries = es; stage = Ending v s }) → n ≤ m
    → (rest : List Run) × (s.runs ≡ with_runs k.runs rest)
runs_to text es v k s n m inside mark le =
    saving_ends es v k s (split (take (m - n) (drop n text))).lines (lines_to text es v k s n m inside mark le).lines

or_some : {A : Type 0} (a b : Option A) → option_or a b ≡ None → (a ≡ None) × (b ≡ None)
or_some None b e = (refl, e)
or_some (Some x) b e = absurd (cc)

byte_there : (run : Run) (i : ℕ) → run.at ≤ i → i < run.at + length run.bytes → byte_of run i ≡ None → ⊥
byte_there run i low high none = grind (arith, common_steps)

-- each address of runs that a record has is named by one that names the record
named_each : (r s : Kept) (qs : List Run) → Names r s → ((i : ℕ) → byte_in s.runs i ≡ None → byte_in qs i ≡ None) → AreNamed r qs
unfolding byte_in
named_each r s [] names h = tt
named_each r s (q ∷ qs) names h = (
  λ i low high below none. byte_there q i low high (or_some (byte_in qs i) (byte_of q i) (h i (names i below none).1)).1,
  named_each r s qs names (λ i none. (or_some (byte_in qs i) (byte_of q i) (h i none)).0),
)

pub runs_named : (r s : Kept) (old runs rest : List Run) → s.runs ≡ with_runs (with_runs old runs) rest → Names r s → AreNamed r runs
runs_named r s old runs rest is names = named_each r s runs names (λ i none.
    let all : option_or (byte_in rest i) (byte_in (with_runs old runs) i) ≡ None = sym (with_runs-byte rest (with_runs old runs) i) ∙ sym (ap (λ rs. byte_in rs i) is) ∙ none in
    let before : option_or (byte_in runs i) (byte_in old i) ≡ None = sym (with_runs-byte runs old i) ∙ (or_some (byte_in rest i) (byte_in (with_runs old runs) i) all).1 in
    (or_some (byte_in runs i) (byte_in old i) before).0)

given_lines : (es : List Entry) (v : Version) (k s : Kept) (ls : List (List ℕ)) (text : List ℕ) (n room : ℕ)
    → after_lines (record { entries = es; stage = Saving v k }) ls ≡ Some (record { entries = es; stage = Ending v s })
    → AllPlain ls → text_of_lines ls ≡ take n text → 0 < room → TakesSome k.len (take n text) room 0 → s.runs ≡ k.runs
unfolding after_lines
given_lines es v k s [] text n room e plain is some takes = absurd (saving_not_ending es v k s (record { entries = es; stage = Saving v k }) (record { entries = es; stage = Ending v s }) refl refl e)
given_lines es v k s (l ∷ ls) text n room e plain is some takes =
    let b = bind_some (λ q. after_lines q ls) (next_at es (Saving v k) l) (record { entries = es; stage = Ending v s }) e in
    elim (line_gives es v k l b.0 b.1) [
      | inl ended ↦
          let same = ending_stays es v k s ls (subst (λ q. after_lines q ls ≡ Some (record { entries = es; stage = Ending v s })) ended b.2) in
          ap (λ (t : Kept). t.runs) same
      | inr gives ↦
          let begins : take n text ≡ l ++ 10 ∷ text_of_lines ls = sym is ∙ append_assoc l (10 ∷ []) (text_of_lines ls) in
          let none = takes l (text_of_lines ls) gives.0 some plain.0 begins gives.1 in
          absurd (omega (arith, none))
    ]

-- where nothing is taken the save line comes next, so all is restored
pub all_given : (text : List ℕ) (m : Mark) (s : Kept) (st : StandsAt text m s) (runs : List Run) (at room : ℕ) → IsIn (take at text) st.entries st.version (record { len = m.len; runs = runs })
    → at ≤ m.saved → 0 < room → TakesSome m.len (take (m.saved - at) (drop at text)) room 0 → s.runs ≡ runs
all_given text m s st runs at room inside le some takes =
    let k : Kept = record { len = m.len; runs = runs } in
    let b : List ℕ = take (m.saved - at) (drop at text) in
    let to = lines_to text st.entries st.version k s at m.saved inside st.ends le in
    given_lines st.entries st.version k s (split b).lines (drop at text) (m.saved - at) room to.lines (lines_plain b) (joined_lines b to.whole) some takes

-- the save line's end isn't among saved lines
pub not_ended : (text : List ℕ) (m : Mark) (s : Kept) (st : StandsAt text m s) (runs : List Run) → IsIn (take m.saved text) st.entries st.version (record { len = m.len; runs = runs }) → ⊥
not_ended text m s st runs inside =
    saving_not_ending st.entries st.version (record { len = m.len; runs = runs }) s (record { entries = st.entries; stage = Saving st.version (record { len = m.len; runs = runs }) }) (record { entries = st.entries; stage = Ending st.version s }) refl refl (sym inside.lines ∙ st.ends.lines)

-- runs that were placed on an image of their record's length restore it
pub placed_restores : (s : Kept) (runs : List Run) (len : ℕ) (x y z : List ℕ) → s.len ≡ len → AllWithin len runs → s.runs ≡ with_runs [] runs → z ≡ placed runs y → y ≡ cut x len → z ≡ restore s x
unfolding byte_in
placed_restores s runs len x y z long within is placed_is cut_is =
    let k : Kept = record { len = len; runs = runs } in
    let same : (i : ℕ) → byte_in runs i ≡ byte_in s.runs i = λ i. sym (or_none (byte_in runs i)) ∙ sym (with_runs-byte runs [] i) ∙ sym (ap (λ rs. byte_in rs i) is) in
    placed_is ∙ ap (placed runs) cut_is ∙ placed-cut k x within ∙ restore_same len runs s.runs x same ∙ ap (λ n. restore (record { len = n; runs = s.runs }) x) (sym long)

-- and leave it its length, whatever they are
pub placed_long : (len : ℕ) (runs : List Run) (x y : List ℕ) → AllWithin len runs → length x ≡ len → y ≡ placed runs x → length y ≡ len
placed_long len runs x y within long is = ap length is ∙ length-placed runs x ∙ ap (placed_len runs) long ∙ placed_len_within runs len within

-- before the first line nothing is restored
pub restored_none : (text : List ℕ) (m : Mark) (s : Kept) (st : StandsAt text m s) (x : List ℕ) → IsRestoredTo text st.entries st.version m.len m.lines x x
unfolding placed with_runs
restored_none text m s st x = record { runs = []; within = tt; inside = record { lines = st.begins.lines; whole = st.begins.whole }; image = refl }

-- a window more
pub restored_on : (text : List ℕ) (es : List Entry) (v : Version) (len more room at n : ℕ) (x y z : List ℕ) → IsRestoredTo text es v len at x y → RestoresWindow text len more room at n y z
    → IsRestoredTo text es v len (at + n) x z
restored_on text es v len rest room at n x y z to more = record {
  runs = to.runs ++ more.runs;
  within = within-append len to.runs more.runs to.within more.within;
  inside = subst (λ rs. IsIn (take (at + n) text) es v (record { len = len; runs = rs })) (sym (with_runs-append [] to.runs more.runs)) (more.leads es v (with_runs [] to.runs) to.inside);
  image = more.image ∙ ap (placed more.runs) to.image ∙ sym (placed-append to.runs more.runs x);
}

-- what a window gives is named by what names the record
pub window_named : (text : List ℕ) (m : Mark) (s r : Kept) (st : StandsAt text m s) → Names r s → (at n : ℕ) (x y : List ℕ) (to : IsRestoredTo text st.entries st.version m.len at x y) (runs : List Run)
    → at + n ≤ m.saved → IsIn (take (at + n) text) st.entries st.version (record { len = m.len; runs = with_runs (with_runs [] to.runs) runs }) → AreNamed r runs
window_named text m s r st names at n x y to runs le inside =
    let k : Kept = record { len = m.len; runs = with_runs (with_runs [] to.runs) runs } in
    let rest = runs_to text st.entries st.version k s (at + n) m.saved inside st.ends le in
    runs_named r s (with_runs [] to.runs) runs rest.0 rest.1 names

-- the parts of a window are runs within the length
pub parts_within : (len size : ℕ) (window : List ℕ) (parts : List Part) → length window ≡ size → All (LiesIn size len) parts → AllWithin len (map (part_run window) parts)
parts_within len size window parts long lie = by parts (λ k d less. (lie k d less).1)
  where
    end : (at : ℕ) (bytes : List ℕ) → at + length bytes ≤ len → end_of at bytes ≤ len
    end at [] h = omega arith
    end at (b ∷ bytes) h = h

    by : (ps : List Part) → ((k : ℕ) (d : Part) → k < length ps → (slice_index_or ps k d).at + (slice_index_or ps k d).count ≤ len) → AllWithin len (map (part_run window) ps)
    by [] h = tt
    by (p ∷ ps) h = (end p.at (take p.count (drop p.from window)) (omega (arith, h 0 p (omega arith), length-take p.count (drop p.from window))), by ps (λ k d less. h (suc k) d (omega (arith, less))))

-- what a window of a text gives, behind a place
pub given_on : (text : List ℕ) (len at size taken : ℕ) (old new : List ℕ) (parts : List Part) → old ≡ take size (drop at text) → GivesParts len old new parts taken
    → (es : List Entry) (v : Version) (runs : List Run) → IsIn (take at text) es v (record { len = len; runs = runs })
    → IsIn (take (at + taken) text) es v (record { len = len; runs = with_runs runs (map (part_run new) parts) })
given_on text len at size taken old new parts is gives es v runs inside =
    let same : take at text ++ take taken old ≡ take (at + taken) text =
    ap (λ t. take at text ++ t) (front_of taken size old (drop at text) gives.within is) ∙ sym (take_sum at taken text) in
    subst (λ t. IsIn t es v (record { len = len; runs = with_runs runs (map (part_run new) parts) })) same (gives.leads (take at text) es v runs inside)

-- the parts of a window, one after another
pub part_placed : (window : List ℕ) (parts : List Part) (i : ℕ) (d : Part) (x : List ℕ) → i < length parts
    → placed (drop i (map (part_run window) parts)) x ≡ placed (drop (suc i) (map (part_run window) parts)) (place x (slice_index_or parts i d).at (take (slice_index_or parts i d).count (drop (slice_index_or parts i d).from window)))
unfolding placed
part_placed window [] i d x less = absurd (omega arith)
part_placed window (p ∷ ps) zero d x less = refl
part_placed window (p ∷ ps) (suc i) d x less = part_placed window ps i d x (omega arith)

pub placed_end : (window : List ℕ) (parts : List Part) (i : ℕ) (x : List ℕ) → length parts ≤ i → placed (drop i (map (part_run window) parts)) x ≡ x
unfolding placed
placed_end window [] zero x le = refl
placed_end window [] (suc i) x le = refl
placed_end window (p ∷ ps) zero x le = absurd (omega arith)
placed_end window (p ∷ ps) (suc i) x le = placed_end window ps i x (omega arith)

pub named_at : (r : Kept) (window : List ℕ) (parts : List Part) (i : ℕ) (d : Part) → AreNamed r (map (part_run window) parts) → i < length parts
    → IsPartOf r (slice_index_or parts i d).at (length (take (slice_index_or parts i d).count (drop (slice_index_or parts i d).from window)))
named_at r window [] i d named less = absurd (omega arith)
named_at r window (p ∷ ps) zero d named less = named.0
named_at r window (p ∷ ps) (suc i) d named less = named_at r window ps i d named.1 (omega arith)

pub cut_named : (r s : Kept) (n : ℕ) → s.len ≡ n → Names r s → IsCutOf r n
cut_named r s n is names i from below none = omega (arith, (names i below none).0, is, from)

pub takes_room : (len : ℕ) (window : List ℕ) (room n : ℕ) → n ≡ 0 → TakesSome len window room n → TakesSome len window room 0
takes_room len window room n none takes = subst (TakesSome len window room) none takes

pub names_itself : (s : Kept) → Names s s
names_itself s i below none = (below, none)

-- what a window of lines gives, behind a place: also where its line is cut
after_one : (r q : Reading) (front more : List ℕ) → 1024 ≤ length front → after_lines r (front ∷ []) ≡ Some q → after_lines r ((front ++ more) ∷ []) ≡ Some q
unfolding after_lines
after_one r q front more enough e =
    let b = bind_some (λ p. after_lines p []) (next_at r.entries r.stage front) q e in
    rw (in_place_more r.entries r.stage front more b.0 enough b.1) b.2

pub cut_given : (faithful : Type 0) (text : List ℕ) (len at to taken : ℕ) (window old new : List ℕ) (c : Cut) (parts : List Part) → faithful → IsCut faithful text at to window c → old ≡ take c.count window → GivesParts len old new parts taken
    → (es : List Entry) (v : Version) (runs : List Run) → IsIn (take at text) es v (record { len = len; runs = runs })
    → IsIn (take (at + passed_of c taken) text) es v (record { len = len; runs = with_runs runs (map (part_run new) parts) })
cut_given faithful text len at to taken window old new c parts h cut is gives es v runs inside =
    let a : List ℕ = take at text in
    let r : Reading = record { entries = es; stage = Saving v (record { len = len; runs = runs }) } in
    let q : Reading = record { entries = es; stage = Saving v (record { len = len; runs = with_runs runs (map (part_run new) parts) }) } in
    let bytes : List ℕ = take taken (take c.count window) in
    let same : take taken old ≡ bytes = ap (take taken) is in
    let led = subst (λ t. IsIn (a ++ t) es v (record { len = len; runs = with_runs runs (map (part_run new) parts) })) same (gives.leads a es v runs inside) in
    let both = split-append a bytes inside.whole in
    let whole : (split bytes).rest ≡ [] = sym (ap (λ s. s.rest) both) ∙ led.whole in
    let below : taken ≤ c.count = omega (arith, gives.within, ap length is, length-take c.count window, cut.within) in
    let s = stands_for faithful text at to window c taken cut below whole in
    let lines : after_lines r (split bytes).lines ≡ Some q = sym (after_lines-append start r (split a).lines (split bytes).lines inside.lines) ∙ ap (after_lines start) (sym (ap (λ p. p.lines) both)) ∙ led.lines in
    let more : after_lines r (split s.text).lines ≡ Some q = s.alike (λ ls. after_lines r ls ≡ Some q) (λ front rest enough e. after_one r q front rest enough e) lines in
    let next = split-append a s.text inside.whole in
    let to_is : a ++ s.text ≡ take (at + passed_of c taken) text = ap (λ t. a ++ t) (s.is h) ∙ sym (take_sum at (passed_of c taken) text) in
    subst (λ t. IsIn t es v (record { len = len; runs = with_runs runs (map (part_run new) parts) })) to_is (record {
      lines = ap (λ p. after_lines start p.lines) next ∙ after_lines-append start r (split a).lines (split s.text).lines inside.lines ∙ more;
      whole = ap (λ p. p.rest) next ∙ s.whole;
    })

-- where a whole line is there, something is taken
pub cut_some : (len room taken n : ℕ) (text bytes : List ℕ) → TakesSome len bytes room taken → BeginsAlike text bytes → taken ≤ n → TakesSome len text room n
cut_some len room taken n text bytes takes begins most line rest run some plain is gives =
    let b = begins line rest is plain in
    let apart : HasNoNewline (b.0 ++ b.1) = subst HasNoNewline b.4 plain in
    let own : saved_in len b.0 ≡ Some run =
    elim b.5 [
      | inl enough ↦ sym (saved_same len b.0 b.1 enough) ∙ ap (saved_in len) (sym b.4) ∙ gives
      | inr none ↦ ap (saved_in len) (sym (b.4 ∙ ap (λ t. b.0 ++ t) none ∙ append-nil b.0)) ∙ gives
    ] in
    omega (arith, takes b.0 b.2 run some (plain_front b.0 b.1 apart) b.3 own, most)
