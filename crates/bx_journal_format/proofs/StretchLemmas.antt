-- Saved lines of a window, decoded in it: what a line adds, and the parts that they give.
use Rattle.std.proofs.Common.{◌≡◌, ℕ, zero, suc, ◌+◌, ◌<◌, ◌≤◌, Bool, true, false, List, [], ◌∷◌, ◌++◌, length, take, drop, map, refl, ap, sym, ◌∙◌, subst, arith, append_assoc, append-nil, length-append, length-take, length-drop, Some, None}
use Rattle.std.specs.Prelude.{◌==◌, All, if◌then◌else◌}
use Rattle.std.proofs.lemmas.Grind.{common_steps}
use Rattle.std.proofs.lemmas.List.{drop-take, take-take}
use Rattle.std.proofs.lemmas.List.Elements.{All-nil, All-weaker, All-head, All-tail}
use Rattle.std.proofs.Math.Seq.{drop-append_seam}
use Rattle.bx_journal_format.specs.declared.format.version.Version.{Version}
use Rattle.bx_journal_format.specs.declared.read.parts.Part.{Part}
use Rattle.bx_journal_format.specs.declared.read.parts.Stretch.{Stretch}
use Rattle.bx_journal_format.specs.Kept.{Run, Kept, with_run, with_runs}
use Rattle.bx_journal_format.specs.Line.{saved_in}
use Rattle.bx_journal_format.specs.Text.{Entry, Saving, Reading, Split, ended, split, start, next_at, after_lines}
use Rattle.bx_journal_format.specs.read.Followed.{IsFullSaved}
use Rattle.bx_journal_format.specs.count.Parts.{IsIn, GivesParts, GivesStretch, LiesIn, TakesSome, part_run, with_parts}
use Rattle.bx_journal_format.specs.read.Plain.{HasNoNewline}
use Rattle.bx_journal_format.proofs.Gathered.{goes_on, together}
use Rattle.bx_journal_format.proofs.GrammarLemmas.{not_save, piece_only, saved_found}
use Rattle.bx_journal_format.proofs.OverLemmas.{IsPutOver, over_before, over_behind, over_front, over_length}
use Rattle.bx_journal_format.proofs.PieceBound.{piece_short}
use Rattle.bx_journal_format.proofs.ReadLoop.{drop_twice}
use Rattle.bx_journal_format.proofs.Runs.{after_lines-append}
use Rattle.bx_journal_format.proofs.Splits.{split-append, split-ended, split-plain}
use Rattle.bx_journal_format.proofs.StepLemmas.{adds}
use Rattle.bx_journal_format.proofs.TallyLemmas.{IsFirstLine, last, line_taken, take_sum}

-- runs that go on with one another

some_runs : (runs : List Run) (p : Run) → 0 < length (with_run runs p)
unfolding with_run
some_runs [] p = omega arith
some_runs (run ∷ []) p = by (p.at == run.at + length run.bytes)
  where
    by : (b : Bool) → 0 < length (if b then together run p ∷ [] else run ∷ p ∷ [])
    by true = omega arith
    by false = omega arith
some_runs (run ∷ next ∷ runs) p = omega arith

behind_first : (run : Run) (runs : List Run) (p : Run) → 0 < length runs → with_run (run ∷ runs) p ≡ run ∷ with_run runs p
unfolding with_run
behind_first run [] p some = absurd (omega (arith, some))
behind_first run (next ∷ runs) p some = refl

equal : (m n : ℕ) → m ≡ n → m == n ≡ true
equal m n is = grind (arith, common_steps)

same_number : (m n : ℕ) → m == n ≡ true → m ≡ n
same_number m n e = grind (arith, common_steps)

-- one more run, and another that goes on with it
pub with_run-twice : (runs : List Run) (p q : Run) → q.at ≡ p.at + length p.bytes → with_run (with_run runs p) q ≡ with_run runs (together p q)
unfolding with_run
with_run-twice [] p q is = goes_on p q (equal q.at (p.at + length p.bytes) is)
with_run-twice (run ∷ []) p q is = by (p.at == run.at + length run.bytes) refl
  where
    by : (b : Bool) → p.at == run.at + length run.bytes ≡ b
        → with_run (if b then together run p ∷ [] else run ∷ p ∷ []) q ≡ (if b then together run (together p q) ∷ [] else run ∷ together p q ∷ [])
    by true at =
        let end : q.at ≡ run.at + length (run.bytes ++ p.bytes) = omega (arith, is, same_number p.at (run.at + length run.bytes) at, length-append run.bytes p.bytes) in
        goes_on (together run p) q (equal q.at (run.at + length (run.bytes ++ p.bytes)) end)
        ∙ ap (λ (bytes : List ℕ). record { at = run.at; bytes = bytes } ∷ []) (append_assoc run.bytes p.bytes q.bytes)
    by false at = ap (λ rs. run ∷ rs) (goes_on p q (equal q.at (p.at + length p.bytes) is))
with_run-twice (run ∷ next ∷ runs) p q is =
    behind_first run (with_run (next ∷ runs) p) q (some_runs (next ∷ runs) p) ∙ ap (λ rs. run ∷ rs) (with_run-twice (next ∷ runs) p q is)

runs_more : (ps runs : List Run) (p : Run) → with_runs runs (ps ++ p ∷ []) ≡ with_run (with_runs runs ps) p
unfolding with_runs
runs_more [] runs p = refl
runs_more (q ∷ ps) runs p = runs_more ps (with_run runs q) p

-- one line more

abbrev at_len : ℕ → List Run → Kept
at_len len runs = record { len = len; runs = runs }

one_in : (text line : List ℕ) (entries : List Entry) (v : Version) (len : ℕ) (runs : List Run) (run : Run) → IsIn text entries v (at_len len runs) → HasNoNewline line
    → saved_in len line ≡ Some run → IsIn (text ++ ended line) entries v (at_len len (with_run runs run))
unfolding split after_lines
one_in text line entries v len runs run h plain saved =
    let one : split (ended line) ≡ record { lines = line ∷ []; rest = [] } = split-ended line [] plain in
    let parts : split (text ++ ended line) ≡ record { lines = (split text).lines ++ line ∷ []; rest = [] } =
    split-append text (ended line) h.whole ∙ ap (λ (s : Split). record { lines = (split text).lines ++ s.lines; rest = s.rest }) one in
    let here : Reading = record { entries = entries; stage = Saving v (at_len len runs) } in
    let there : Reading = record { entries = entries; stage = Saving v (at_len len (with_run runs run)) } in
    let is = saved_found len line run saved in
    let apart = not_save line run (suc (length entries)) (piece_only line is.0.0 run is.0.1) in
    let step : next_at entries (Saving v (at_len len runs)) line ≡ Some there = adds entries (suc (length entries)) v (at_len len runs) line refl run apart saved in
    record {
      lines = ap (λ (s : Split). after_lines start s.lines) parts ∙ after_lines-append start here (split text).lines (line ∷ []) h.lines ∙ last here there line step;
      whole = ap (λ (s : Split). s.rest) parts;
    }

-- what a saved line gives is no longer than the line, and lies within the length
pub record IsSmall (len : ℕ) (line : List ℕ) (run : Run) : Type 0 where
  pub short : length run.bytes ≤ length line
  pub below : run.at + length run.bytes ≤ len

pub small : (len : ℕ) (line : List ℕ) (run : Run) → saved_in len line ≡ Some run → IsSmall len line run
small len line run saved =
    let is = saved_found len line run saved in
    record { short = piece_short line run (piece_only line is.0.0 run is.0.1); below = is.2 }

-- bytes that were put over others

put_bytes : (old : List ℕ) (at : ℕ) (bytes new : List ℕ) → IsPutOver old at bytes new → take (length bytes) (drop at new) ≡ bytes
put_bytes old at bytes new put =
    sym (drop-take at (length bytes) new) ∙ ap (drop at) (over_front old at bytes new put) ∙ seam (take at old) bytes at (omega (arith, length-take at old, put.within))
  where
    seam : (a b : List ℕ) (n : ℕ) → length a ≡ n → drop n (a ++ b) ≡ b
    seam a b n long = subst (λ k. drop k (a ++ b) ≡ b) long (drop-append_seam a b)

-- what ends within the part that is the same
same_part : (used from count : ℕ) (old new : List ℕ) → take used new ≡ take used old → from + count ≤ used → take count (drop from new) ≡ take count (drop from old)
same_part used from count old new same within =
    sym (drop-take from count new) ∙ ap (drop from) (less new) ∙ ap (λ l. drop from (take (from + count) l)) same ∙ ap (drop from) (sym (less old)) ∙ drop-take from count old
  where
    less : (xs : List ℕ) → take (from + count) xs ≡ take (from + count) (take used xs)
    less xs = sym (take-take (from + count) used xs within)

put_behind : (old : List ℕ) (used count : ℕ) (bytes new : List ℕ) → IsPutOver old (used + count) bytes new → take (count + length bytes) (drop used new) ≡ take count (drop used old) ++ bytes
put_behind old used count bytes new put =
    take_sum count (length bytes) (drop used new)
    ∙ ap (λ l. l ++ take (length bytes) (drop count (drop used new))) (same_part (used + count) used count old new (over_before old (used + count) bytes new (used + count) put (omega arith)) (omega arith))
    ∙ ap (λ l. take count (drop used old) ++ take (length bytes) l) (drop_twice used count new)
    ∙ ap (λ l. take count (drop used old) ++ l) (put_bytes old (used + count) bytes new put)

-- lines that go on with one another

-- the first
pub stretch_first : (len used from i : ℕ) (window new : List ℕ) (run : Run) → used ≤ from → IsFirstLine (drop from window) i → saved_in len (take i (drop from window)) ≡ Some run
    → IsPutOver window used run.bytes new → GivesStretch len used from window new (record { at = run.at; count = length run.bytes; taken = i + 1 })
stretch_first len used from i window new run order f saved put =
    let rest : List ℕ = drop from window in
    let s = small len (take i rest) run saved in
    let short : length run.bytes ≤ i = omega (arith, s.short, length-take i rest) in
    record {
      some = omega arith;
      within = omega (arith, f.below, length-drop from window);
      same = over_length window used run.bytes new put;
      before = over_before window used run.bytes new used put (omega arith);
      behind = over_behind window used run.bytes new (from + (i + 1)) put (omega (arith, short, order));
      order = omega (arith, short, order);
      below = s.below;
      leads = λ text entries v runs h.
          let line = one_in text (take i rest) entries v len runs run h f.plain saved in
          let bytes : run.bytes ≡ take (length run.bytes) (drop used new) = sym (put_bytes window used run.bytes new put) in
          subst (λ t. IsIn (text ++ t) entries v (at_len len (with_run runs (record { at = run.at; bytes = take (length run.bytes) (drop used new) })))) (sym (line_taken rest i f))
          (subst (λ b. IsIn (text ++ ended (take i rest)) entries v (at_len len (with_run runs (record { at = run.at; bytes = b })))) bytes line);
    }

-- one more, which is full
pub stretch_on : (len used from : ℕ) (old window new more : List ℕ) (s : Stretch) → used ≤ from → GivesStretch len used from old window s → length more ≡ 16
    → IsFullSaved len (s.at + s.count) (drop (from + s.taken) window) more → IsPutOver window (used + s.count) more new
    → GivesStretch len used from old new (record { at = s.at; count = s.count + 16; taken = s.taken + 68 })
stretch_on len used from old window new more s order so long full put =
    let place = from + s.taken in
    let rest : List ℕ = drop place window in
    let f : IsFirstLine rest 67 = record { below = omega (arith, full.long); plain = full.plain; is = full.ended } in
    let line_long : 68 ≤ length (drop place window) = full.long in
    let m = small len (take 67 rest) (record { at = s.at + s.count; bytes = more }) full.saved in
    let next : from + (s.taken + 68) ≡ place + 68 = omega arith in
    let gone : drop (from + (s.taken + 68)) window ≡ drop (from + (s.taken + 68)) old =
    ap (λ n. drop n window) next ∙ sym (drop_twice place 68 window) ∙ ap (drop 68) so.behind ∙ drop_twice place 68 old ∙ ap (λ n. drop n old) (sym next) in
    record {
      some = omega arith;
      within = omega (arith, line_long, length-drop place window, so.same, so.within);
      same = over_length window (used + s.count) more new put ∙ so.same;
      before = over_before window (used + s.count) more new used put (omega arith) ∙ so.before;
      behind = over_behind window (used + s.count) more new (from + (s.taken + 68)) put (omega (arith, long, order, so.order)) ∙ gone;
      order = omega (arith, so.order);
      below = omega (arith, m.below, long);
      leads = λ text entries v runs h.
          let done : List ℕ = take s.count (drop used window) in
          let p : Run = record { at = s.at; bytes = done } in
          let q : Run = record { at = s.at + s.count; bytes = more } in
          let done_long : length done ≡ s.count = omega (arith, length-take s.count (drop used window), length-drop used window, so.order, so.within, so.same) in
          let line = one_in (text ++ take s.taken (drop from old)) (take 67 rest) entries v len (with_run runs p) q (so.leads text entries v runs h) full.plain full.saved in
          let twice : with_run (with_run runs p) q ≡ with_run runs (together p q) = with_run-twice runs p q (omega (arith, done_long)) in
          let bytes : done ++ more ≡ take (s.count + 16) (drop used new) = sym (ap (λ n. take (s.count + n) (drop used new)) (sym long) ∙ put_behind window used s.count more new put) in
          let all : with_run (with_run runs p) q ≡ with_run runs (record { at = s.at; bytes = take (s.count + 16) (drop used new) }) =
          twice ∙ ap (λ (b : List ℕ). with_run runs (record { at = s.at; bytes = b })) bytes in
          let end : take s.taken (drop from old) ++ ended (take 67 rest) ≡ take (s.taken + 68) (drop from old) =
          sym (take_sum s.taken 68 (drop from old) ∙ ap (λ l. take s.taken (drop from old) ++ take 68 l) (drop_twice from s.taken old ∙ sym so.behind)
          ∙ ap (λ l. take s.taken (drop from old) ++ l) (line_taken rest 67 f)) in
          let whole : (text ++ take s.taken (drop from old)) ++ ended (take 67 rest) ≡ text ++ take (s.taken + 68) (drop from old) =
          append_assoc text (take s.taken (drop from old)) (ended (take 67 rest)) ∙ ap (λ l. text ++ l) end in
          subst (λ t. IsIn t entries v (at_len len (with_run runs (record { at = s.at; bytes = take (s.count + 16) (drop used new) })))) whole
          (subst (λ rs. IsIn ((text ++ take s.taken (drop from old)) ++ ended (take 67 rest)) entries v (at_len len rs)) all line);
    }

-- parts

-- the parts of the first bytes of a window are the same where these bytes are
parts_same : (used len : ℕ) (window new : List ℕ) (parts : List Part) → take used new ≡ take used window → All (LiesIn used len) parts → map (part_run new) parts ≡ map (part_run window) parts
parts_same used len window new [] same lie = refl
parts_same used len window new (part ∷ parts) same lie =
    let first = All-head (LiesIn used len) part parts lie in
    let bytes = same_part used part.from part.count window new same first.0 in
    ap (λ (b : List ℕ). record { at = part.at; bytes = b } ∷ map (part_run new) parts) bytes
    ∙ ap (λ rs. part_run window part ∷ rs) (parts_same used len window new parts same (All-tail (LiesIn used len) part parts lie))

pub lie_wider : (size more len : ℕ) (parts : List Part) → size ≤ more → All (LiesIn size len) parts → All (LiesIn more len) parts
lie_wider size more len parts order lie = All-weaker (LiesIn size len) (LiesIn more len) (λ part is. (omega (arith, is.0, order), is.1)) parts lie

-- one more part
pub parts_push : (window : List ℕ) (runs : List Run) (parts : List Part) (more : Part) → with_parts runs window (parts ++ more ∷ []) ≡ with_run (with_parts runs window parts) (part_run window more)
parts_push window runs parts more = ap (with_runs runs) (map_push parts) ∙ runs_more (map (part_run window) parts) runs (part_run window more)
  where
    map_push : (parts : List Part) → map (part_run window) (parts ++ more ∷ []) ≡ map (part_run window) parts ++ part_run window more ∷ []
    map_push [] = refl
    map_push (part ∷ parts) = ap (λ rs. part_run window part ∷ rs) (map_push parts)

-- the last part, with more bytes behind its own
pub parts_longer : (window : List ℕ) (runs : List Run) (parts : List Part) (end more : Part) → end.from + end.count ≤ length window → more.at ≡ end.at + end.count → more.from ≡ end.from + end.count
    → with_parts runs window (parts ++ record { at = end.at; from = end.from; count = end.count + more.count } ∷ []) ≡ with_run (with_parts runs window (parts ++ end ∷ [])) (part_run window more)
parts_longer window runs parts end more within at from =
    let p : Run = part_run window end in
    let q : Run = part_run window more in
    let long : length p.bytes ≡ end.count = omega (arith, length-take end.count (drop end.from window), length-drop end.from window, within) in
    let bytes : take (end.count + more.count) (drop end.from window) ≡ p.bytes ++ q.bytes =
    take_sum end.count more.count (drop end.from window) ∙ ap (λ l. p.bytes ++ take more.count l) (drop_twice end.from end.count window ∙ ap (λ n. drop n window) (sym from)) in
    parts_push window runs parts (record { at = end.at; from = end.from; count = end.count + more.count })
    ∙ ap (λ (b : List ℕ). with_run (with_parts runs window parts) (record { at = end.at; bytes = b })) bytes
    ∙ sym (with_run-twice (with_parts runs window parts) p q (omega (arith, at, long)))
    ∙ ap (λ rs. with_run rs q) (sym (parts_push window runs parts end))

-- the first bytes of a window were taken, and what they give stands in its first bytes
pub record HasParts (len : ℕ) (old window : List ℕ) (parts : List Part) (taken used : ℕ) : Type 0 where
  pub within : taken ≤ length old
  pub same : length window ≡ length old
  pub order : used ≤ taken
  pub left : drop taken window ≡ drop taken old
  pub lie : All (LiesIn used len) parts
  pub leads : (text : List ℕ) (entries : List Entry) (v : Version) (runs : List Run) → IsIn text entries v (record { len = len; runs = runs })
      → IsIn (text ++ take taken old) entries v (record { len = len; runs = with_parts runs window parts })

pub no_parts : (len : ℕ) (window : List ℕ) → HasParts len window window [] 0 0
unfolding with_runs
no_parts len window = record {
  within = omega arith;
  same = refl;
  order = omega arith;
  left = refl;
  lie = All-nil (LiesIn 0 len);
  leads = λ text entries v runs h. subst (λ t. IsIn t entries v (at_len len runs)) (sym (append-nil text)) h;
}

pub gives_parts : (len : ℕ) (old window : List ℕ) (parts : List Part) (taken used : ℕ) → HasParts len old window parts taken used → GivesParts len old window parts taken
gives_parts len old window parts taken used has = record {
  within = has.within;
  same = has.same;
  lie = lie_wider used (length window) len parts (omega (arith, has.order, has.within, has.same)) has.lie;
  leads = has.leads;
}

-- whatever runs there were, they have one more
abbrev pub HavePart : List ℕ → ℕ → List Part → List Part → Part → Type 0
HavePart window len old new more =
    (runs : List Run) → All (LiesIn (length window) len) old → with_parts runs window new ≡ with_run (with_parts runs window old) (part_run window more)

pub parts_on : (len : ℕ) (old window new : List ℕ) (parts next : List Part) (taken used : ℕ) (s : Stretch) → HasParts len old window parts taken used → GivesStretch len used taken window new s
    → HavePart new len parts next (record { at = s.at; from = used; count = s.count })
    → (All (LiesIn (used + s.count) len) parts → LiesIn (used + s.count) len (record { at = s.at; from = used; count = s.count }) → All (LiesIn (used + s.count) len) next)
    → HasParts len old new next (taken + s.taken) (used + s.count)
parts_on len old window new parts next taken used s has so have lie =
    let more : Part = record { at = s.at; from = used; count = s.count } in
    record {
      within = omega (arith, so.within, has.same);
      same = so.same ∙ has.same;
      order = so.order;
      left = so.behind ∙ sym (drop_twice taken s.taken window) ∙ ap (drop s.taken) has.left ∙ drop_twice taken s.taken old;
      lie = lie (lie_wider used (used + s.count) len parts (omega arith) has.lie) (omega arith, so.below);
      leads = λ text entries v runs h.
          let rest : drop taken window ≡ drop taken old = has.left in
          let go = so.leads (text ++ take taken old) entries v (with_parts runs window parts) (has.leads text entries v runs h) in
          let all : with_run (with_parts runs window parts) (part_run new more) ≡ with_parts runs new next =
          ap (λ ps. with_run (with_runs runs ps) (part_run new more)) (sym (parts_same used len window new parts so.before has.lie))
          ∙ sym (have runs (lie_wider used (length new) len parts (omega (arith, has.order, has.within, has.same, so.same)) has.lie)) in
          let end : (text ++ take taken old) ++ take s.taken (drop taken window) ≡ text ++ take (taken + s.taken) old =
          ap (λ l. (text ++ take taken old) ++ take s.taken l) rest ∙ append_assoc text (take taken old) (take s.taken (drop taken old)) ∙ ap (λ l. text ++ l) (sym (take_sum taken s.taken old)) in
          subst (λ t. IsIn t entries v (at_len len (with_parts runs new next))) end
          (subst (λ rs. IsIn ((text ++ take taken old) ++ take s.taken (drop taken window)) entries v (at_len len rs)) all go);
    }

-- a text within one line has none before a newline
no_line : (text line rest : List ℕ) → HasNoNewline text → HasNoNewline line → text ≡ line ++ 10 ∷ rest → ⊥
no_line text line rest plain l is =
    let lines : [] ≡ line ∷ (split rest).lines = ap (λ (s : Split). s.lines) (sym (split-plain text plain) ∙ ap split is ∙ split-ended line rest l) in
    absurd (cc)

-- a text has one first line
one_first : (text line rest : List ℕ) (i : ℕ) → IsFirstLine text i → HasNoNewline line → text ≡ line ++ 10 ∷ rest → take i text ≡ line
one_first text line rest i f l is =
    let ends : text ≡ take i text ++ 10 ∷ drop (i + 1) text = f.is in
    let lines : take i text ∷ (split (drop (i + 1) text)).lines ≡ line ∷ (split rest).lines =
    ap (λ (s : Split). s.lines) (sym (split-ended (take i text) (drop (i + 1) text) f.plain) ∙ ap split (sym ends ∙ is) ∙ split-ended line rest l) in
    cc

-- nothing is taken where no line ends
pub none_ends : (len : ℕ) (text : List ℕ) → HasNoNewline text → TakesSome len text 1 0
none_ends len text plain line rest run room l is saved = absurd (no_line text line rest plain l is)

-- and where the first line is no saved line
pub none_saved : (len i : ℕ) (text : List ℕ) → IsFirstLine text i → saved_in len (take i text) ≡ None → TakesSome len text 1 0
none_saved len i text f none line rest run room l is saved =
    let same : take i text ≡ line = one_first text line rest i f l is in
    let clash : None ≡ Some run = sym none ∙ ap (saved_in len) same ∙ saved in
    absurd (cc)

-- where nothing can be taken any more, it was nothing only if there was nothing at the beginning
pub some_taken : (len : ℕ) (old window : List ℕ) (room taken : ℕ) → drop taken window ≡ drop taken old → TakesSome len (drop taken window) 1 0 → TakesSome len old room taken
some_taken len old window room zero left none line rest run some plain is saved = none line rest run (omega arith) plain (left ∙ is) saved
some_taken len old window room (suc taken) left none line rest run some plain is saved = omega arith
