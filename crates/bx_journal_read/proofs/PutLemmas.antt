-- Ranges that are written a window at a time.
use Rattle.std.proofs.Common.{◌≡◌, ℕ, ◌+◌, ◌-◌, ◌≤◌, Bool, true, false, None, Some, List, [], ◌∷◌, ◌++◌, length, take, drop, refl, ap, sym, ◌∙◌, subst, arith, append_assoc, append-nil, inl, inr, Option}
use Rattle.std.specs.Prelude.{◌==◌, flat_map}
use Rattle.std.proofs.lemmas.Grind.{flat_map-append}
use Rattle.std.proofs.KnownBytes.{Appends-nil, Appends-trans}
use Rattle.bx_journal_format.specs.declared.read.marks.Mark.{Mark}
use Rattle.bx_journal_format.specs.declared.read.ranges.Ranging.{Ranging}
use Rattle.bx_journal_format.specs.declared.read.ranges.RangedLines.{RangedLines}
use Rattle.bx_journal_format.specs.Kept.{Run, with_run}
use Rattle.bx_journal_format.specs.Line.{saved_in}
use Rattle.bx_journal_format.specs.Ranges.{range_text, ranges_text, AreRanged, ArePut, EndsRanges, IsRangedIn}
use Rattle.bx_journal_format.specs.Spelled.{runs_behind, with_found}
use Rattle.bx_journal_format.proofs.Gathered.{goes_on, stands_apart, together, with_run-last}
use Rattle.bx_journal_format.specs.Text.{Split, split}
use Rattle.bx_journal_format.proofs.RangeSteps.{runs_behind-append}
use Rattle.bx_journal_format.proofs.ReadLoop.{drop_twice}
use Rattle.bx_journal_format.proofs.Splits.{split-append}
use Rattle.bx_journal_format.proofs.TallyLemmas.{take_sum}
use Rattle.bx_journal_read.specs.declared.show.ranges.Done.{Done}
use Rattle.bx_journal_model.specs.declared.fault.SessionFault.{SessionFault}
use Rattle.bx_journal_read.specs.declared.show.fault.ShowFault.{ShowFault}
use Rattle.bx_journal_read.specs.declared.show.fault.ShowFault.TheVariants.{Text}
use Rattle.bx_journal_read.specs.show.Showing.{ArePutTo, PutsOn, StopsRanges, ranges_at}
use Rattle.bx_journal_read.specs.show.Stopping.{CountsBytes, StopsPrefix}
use Rattle.bx_journal_read.proofs.StopLemmas.{counts_both, stops_first, stops_later, stops_none}
use Rattle.bx_journal_model.proofs.WindowBytes.{front_of}
use Rattle.std.specs.Io.KnownBytes.{Appends}

-- nothing is put yet
pub put_none : (faithful : Type 0) (stored : List ℕ) (mark : Mark) (d : Done) (w : Option (List ℕ)) → d.at ≡ mark.from → AreRanged [] d.ranging [] → ArePutTo faithful stored mark d.written d w w
unfolding split runs_behind
put_none faithful stored mark d w at none = record {
  bytes = [];
  is = λ h. ap (λ n. take n (drop mark.from stored)) (zero_is at);
  whole = refl;
  text = [];
  put = none;
  appended = Appends-nil w;
  counted = λ few. omega arith;
}
  where
    zero_is : d.at ≡ mark.from → 0 ≡ d.at - mark.from
    zero_is at = omega (arith, at)

-- a window of a store that is the same as before
pub puts_from : (faithful now : Type 0) (stored text : List ℕ) (mark : Mark) (old new : Done) (w0 w1 : Option (List ℕ)) → (faithful → now) → (faithful → text ≡ stored) → PutsOn now text mark old new w0 w1
    → PutsOn faithful stored mark old new w0 w1
puts_from faithful now stored text mark old new w0 w1 still same p = record {
  bytes = p.bytes;
  is = λ h. p.is (still h) ∙ ap (λ t. take (new.at - old.at) (drop old.at t)) (same h);
  whole = p.whole;
  text = p.text;
  leads = p.leads;
  appended = p.appended;
  counted = p.counted;
  some = p.some;
  within = p.within;
  below = p.below;
}

-- a window more
pub put_more : (faithful : Type 0) (stored : List ℕ) (mark : Mark) (start : ℕ) (old new : Done) (w0 w1 w2 : Option (List ℕ)) → mark.from ≤ old.at → ArePutTo faithful stored mark start old w0 w1
    → PutsOn faithful stored mark old new w1 w2 → ArePutTo faithful stored mark start new w0 w2
put_more faithful stored mark start old new w0 w1 w2 behind to on =
    let parts : split (to.bytes ++ on.bytes) ≡ record { lines = (split to.bytes).lines ++ (split on.bytes).lines; rest = (split on.bytes).rest } = split-append to.bytes on.bytes to.whole in
    let runs : runs_behind mark.len [] (split (to.bytes ++ on.bytes)).lines ≡ runs_behind mark.len (runs_behind mark.len [] (split to.bytes).lines) (split on.bytes).lines =
    ap (λ (s : Split). runs_behind mark.len [] s.lines) parts ∙ runs_behind-append mark.len [] (split to.bytes).lines (split on.bytes).lines in
    let before : AreRanged (runs_behind mark.len [] (split to.bytes).lines) old.ranging (to.text ++ []) = subst (AreRanged (runs_behind mark.len [] (split to.bytes).lines) old.ranging) (sym (append-nil to.text)) to.put in
    let sum : (old.at - mark.from) + (new.at - old.at) ≡ new.at - mark.from = omega (arith, behind, on.some) in
    let place : mark.from + (old.at - mark.from) ≡ old.at = omega (arith, behind) in
    record {
      bytes = to.bytes ++ on.bytes;
      is = λ h. ap (λ l. l ++ on.bytes) (to.is h) ∙ ap (λ l. take (old.at - mark.from) (drop mark.from stored) ++ l) (on.is h)
          ∙ ap (λ n. take (old.at - mark.from) (drop mark.from stored) ++ take (new.at - old.at) (drop n stored)) (sym place)
          ∙ ap (λ l. take (old.at - mark.from) (drop mark.from stored) ++ take (new.at - old.at) l) (sym (drop_twice mark.from (old.at - mark.from) stored))
          ∙ sym (take_sum (old.at - mark.from) (new.at - old.at) (drop mark.from stored))
          ∙ ap (λ n. take n (drop mark.from stored)) sum;
      whole = ap (λ (s : Split). s.rest) parts ∙ on.whole;
      text = to.text ++ on.text;
      put = subst (λ rs. AreRanged rs new.ranging (to.text ++ on.text)) (sym runs) (on.leads (runs_behind mark.len [] (split to.bytes).lines) to.text before);
      appended = Appends-trans w0 w1 w2 to.text on.text to.appended on.appended;
      counted = counts_both start old.written new.written to.text on.text to.counted on.counted;
    }

-- and the last range
all_put : (faithful : Type 0) (stored : List ℕ) (mark : Mark) (start : ℕ) (d : Done) (w0 w1 : Option (List ℕ)) (last : List ℕ) → d.at ≡ mark.to → (to : ArePutTo faithful stored mark start d w0 w1) → EndsRanges d.ranging [] last
    → faithful → to.text ++ last ≡ ranges_at stored mark
all_put faithful stored mark start d w0 w1 last at to ends h =
    let before : AreRanged (runs_behind mark.len [] (split to.bytes).lines) d.ranging (to.text ++ []) = subst (AreRanged (runs_behind mark.len [] (split to.bytes).lines) d.ranging) (sym (append-nil to.text)) to.put in
    let all = ends (runs_behind mark.len [] (split to.bytes).lines) to.text before in
    let bytes : to.bytes ≡ take (mark.to - mark.from) (drop mark.from stored) = to.is h ∙ ap (λ n. take (n - mark.from) (drop mark.from stored)) at in
    all ∙ ap (λ t. ranges_text (runs_behind mark.len [] (split t).lines)) bytes

pub put_all : (faithful : Type 0) (stored : List ℕ) (mark : Mark) (start : ℕ) (d : Done) (w0 w1 w2 : Option (List ℕ)) (last : List ℕ) → d.at ≡ mark.to → ArePutTo faithful stored mark start d w0 w1 → EndsRanges d.ranging [] last
    → Appends w1 w2 last → faithful → Appends w0 w2 (ranges_at stored mark)
put_all faithful stored mark start d w0 w1 w2 last at to ends put h =
    subst (Appends w0 w2) (all_put faithful stored mark start d w0 w1 last at to ends h) (Appends-trans w0 w1 w2 to.text last to.appended put)

-- it was counted
pub put_all_counted : (faithful : Type 0) (stored : List ℕ) (mark : Mark) (start after : ℕ) (d : Done) (w0 w1 : Option (List ℕ)) (last : List ℕ) → d.at ≡ mark.to → ArePutTo faithful stored mark start d w0 w1
    → EndsRanges d.ranging [] last → CountsBytes d.written last after → faithful → CountsBytes start (ranges_at stored mark) after
put_all_counted faithful stored mark start after d w0 w1 last at to ends counted h =
    subst (λ t. CountsBytes start t after) (all_put faithful stored mark start d w0 w1 last at to ends h) (counts_both start d.written after to.text last to.counted counted)

-- it was stopped
pub put_all_stopped : (faithful : Type 0) (stored : List ℕ) (mark : Mark) (start : ℕ) (d : Done) (w0 w1 w2 : Option (List ℕ)) (last : List ℕ) (fault : ShowFault) → d.at ≡ mark.to → ArePutTo faithful stored mark start d w0 w1
    → EndsRanges d.ranging [] last → StopsPrefix d.written last w1 w2 fault → faithful → StopsPrefix start (ranges_at stored mark) w0 w2 fault
put_all_stopped faithful stored mark start d w0 w1 w2 last fault at to ends stop h =
    subst (λ t. StopsPrefix start t w0 w2 fault) (all_put faithful stored mark start d w0 w1 last at to ends h)
    (stops_later start d.written to.text last w0 w1 w2 fault to.appended to.counted stop)

-- a window was stopped, of a store that is the same as before
pub put_stopped : (faithful : Type 0) (stored text : List ℕ) (mark : Mark) (start : ℕ) (d : Done) (w0 w1 w2 : Option (List ℕ)) (fault : ShowFault) → mark.from ≤ d.at → d.at ≤ mark.to → text ≡ stored
    → ArePutTo faithful stored mark start d w0 w1 → StopsRanges text mark d w1 w2 fault → faithful → StopsPrefix start (ranges_at stored mark) w0 w2 fault
put_stopped faithful stored text mark start d w0 w1 w2 fault behind on same to stop h =
    let found = stop (runs_behind mark.len [] (split to.bytes).lines) to.text to.put in
    let more : List ℕ = take (mark.to - d.at) (drop d.at stored) in
    let sum : mark.to - mark.from ≡ (d.at - mark.from) + (mark.to - d.at) = omega (arith, behind, on) in
    let place : mark.from + (d.at - mark.from) ≡ d.at = omega (arith, behind) in
    let bytes : take (mark.to - mark.from) (drop mark.from stored) ≡ to.bytes ++ more =
    ap (λ n. take n (drop mark.from stored)) sum ∙ take_sum (d.at - mark.from) (mark.to - d.at) (drop mark.from stored)
    ∙ ap (λ l. l ++ take (mark.to - d.at) (drop (d.at - mark.from) (drop mark.from stored))) (sym (to.is h))
    ∙ ap (λ l. to.bytes ++ take (mark.to - d.at) l) (drop_twice mark.from (d.at - mark.from) stored)
    ∙ ap (λ n. to.bytes ++ take (mark.to - d.at) (drop n stored)) place in
    let lines : (split (take (mark.to - mark.from) (drop mark.from stored))).lines ≡ (split to.bytes).lines ++ (split more).lines =
    ap (λ t. (split t).lines) bytes ∙ ap (λ (s : Split). s.lines) (split-append to.bytes more to.whole) in
    let runs : runs_behind mark.len [] (split (take (mark.to - mark.from) (drop mark.from stored))).lines ≡ runs_behind mark.len (runs_behind mark.len [] (split to.bytes).lines) (split more).lines =
    ap (runs_behind mark.len []) lines ∙ runs_behind-append mark.len [] (split to.bytes).lines (split more).lines in
    let text_is : ranges_at stored mark ≡ to.text ++ found.0 =
    ap ranges_text runs ∙ ap (λ t. ranges_text (runs_behind mark.len (runs_behind mark.len [] (split to.bytes).lines) (split (take (mark.to - d.at) (drop d.at t))).lines)) (sym same) ∙ found.1 in
    subst (λ t. StopsPrefix start t w0 w2 fault) (sym text_is) (stops_later start d.written to.text found.0 w0 w1 w2 fault to.appended to.counted found.2)

-- the last run may go on, or another begins; those before it stay
one_more : (front : List Run) (last : Run) (o : Option Run) → (mid : List Run) × (next : Run) × (with_found (front ++ last ∷ []) o ≡ (front ++ mid) ++ next ∷ [])
one_more front last None = ([], last, ap (λ rs. rs ++ last ∷ []) (sym (append-nil front)))
one_more front last (Some p) = by_test (p.at == last.at + length last.bytes) refl
  where
    by_test : (b : Bool) → p.at == last.at + length last.bytes ≡ b → (mid : List Run) × (next : Run) × (with_run (front ++ last ∷ []) p ≡ (front ++ mid) ++ next ∷ [])
    by_test true is = ([], together last p, with_run-last front last p ∙ ap (λ rs. front ++ rs) (goes_on last p is) ∙ ap (λ rs. rs ++ together last p ∷ []) (sym (append-nil front)))
    by_test false is = (last ∷ [], p, with_run-last front last p ∙ ap (λ rs. front ++ rs) (stands_apart last p is) ∙ sym (append_assoc front (last ∷ []) (p ∷ [])))

front_stays : (len : ℕ) (lines : List (List ℕ)) (front : List Run) (last : Run) → (later : List Run) × (runs_behind len (front ++ last ∷ []) lines ≡ front ++ later)
unfolding runs_behind
front_stays len [] front last = (last ∷ [], refl)
front_stays len (line ∷ lines) front last =
    let more = one_more front last (saved_in len line) in
    let rest = front_stays len lines (front ++ more.0) more.1 in
    (more.0 ++ rest.0, ap (λ rs. runs_behind len rs lines) more.2 ∙ rest.1 ∙ append_assoc front more.0 rest.0)

put_front : (b : Bool) (ranges text more : List ℕ) → ArePut b ranges text → (rest : List ℕ) × (drop 1 (ranges ++ more) ≡ text ++ rest)
put_front true ranges text more put = (more, ap (λ t. drop 1 (t ++ more)) put)
put_front false ranges text more put = (drop 1 (ranges ++ more), ap (λ t. t ++ drop 1 (ranges ++ more)) (sym put.1))

-- what is put of ranges is a front of the ranges behind any more lines
ranged_front : (len : ℕ) (lines : List (List ℕ)) (runs : List Run) (r : Ranging) (text : List ℕ) → AreRanged runs r text → (rest : List ℕ) × (ranges_text (runs_behind len runs lines) ≡ text ++ rest)
ranged_front len lines runs r text a = elim a.are [ inl is ↦ by_run is | inr none ↦ by_none none ]
  where
    by_later : (later : List Run) → runs_behind len runs lines ≡ a.front ++ later → (rest : List ℕ) × (ranges_text (runs_behind len runs lines) ≡ text ++ rest)
    by_later later is =
        let found = put_front r.is_behind (flat_map range_text a.front) text (flat_map range_text later) a.put in
        (found.0, ap ranges_text is ∙ ap (drop 1) (flat_map-append range_text a.front later) ∙ found.1)

    by_run : runs ≡ a.front ++ record { at = r.at; bytes = a.bytes } ∷ [] → (rest : List ℕ) × (ranges_text (runs_behind len runs lines) ≡ text ++ rest)
    by_run is =
        let stays = front_stays len lines a.front (record { at = r.at; bytes = a.bytes }) in
        by_later stays.0 (ap (λ rs. runs_behind len rs lines) is ∙ stays.1)

    by_none : (runs ≡ []) × (a.front ≡ []) × (r.at ≡ 0) × (a.bytes ≡ []) → (rest : List ℕ) × (ranges_text (runs_behind len runs lines) ≡ text ++ rest)
    by_none none = by_later (runs_behind len runs lines) (ap (λ fs. fs ++ runs_behind len runs lines) (sym none.1))

-- nothing was written of a window
pub window_refused : (stored : List ℕ) (mark : Mark) (d : Done) (w : Option (List ℕ)) (fault : SessionFault) → StopsRanges stored mark d w w (Text fault)
window_refused stored mark d w fault runs text a =
    let found = ranged_front mark.len (split (take (mark.to - d.at) (drop d.at stored))).lines runs d.ranging text a in
    (found.0, found.1, stops_none d.written found.0 w fault)

-- a front of one was
pub ranges_stopped : (stored window : List ℕ) (mark : Mark) (d : Done) (l : RangedLines) (size : ℕ) (old put : List ℕ) (w0 w1 : Option (List ℕ)) (fault : ShowFault) → window ≡ take size (drop d.at stored)
    → d.at + l.taken ≤ mark.to → old ≡ [] → IsRangedIn window mark.len d.ranging old put l → StopsPrefix d.written put w0 w1 fault → StopsRanges stored mark d w0 w1 fault
ranges_stopped stored window mark d l size old put w0 w1 fault is inside empty ranged stop runs text a =
    let bytes : List ℕ = take l.taken window in
    let more : List ℕ = take (mark.to - d.at - l.taken) (drop l.taken (drop d.at stored)) in
    let sum : mark.to - d.at ≡ l.taken + (mark.to - d.at - l.taken) = omega (arith, inside) in
    let parts : take (mark.to - d.at) (drop d.at stored) ≡ bytes ++ more =
    ap (λ n. take n (drop d.at stored)) sum ∙ take_sum l.taken (mark.to - d.at - l.taken) (drop d.at stored)
    ∙ ap (λ t. t ++ more) (sym (front_of l.taken size window (drop d.at stored) ranged.within is)) in
    let lines : (split (take (mark.to - d.at) (drop d.at stored))).lines ≡ (split bytes).lines ++ (split more).lines =
    ap (λ t. (split t).lines) parts ∙ ap (λ (s : Split). s.lines) (split-append bytes more ranged.whole) in
    let before : AreRanged runs d.ranging (text ++ old) = subst (λ o. AreRanged runs d.ranging (text ++ o)) (sym empty) (subst (AreRanged runs d.ranging) (sym (append-nil text)) a) in
    let behind : AreRanged (runs_behind mark.len runs (split bytes).lines) l.ranging (text ++ put) = ranged.leads runs text before in
    let found = ranged_front mark.len (split more).lines (runs_behind mark.len runs (split bytes).lines) l.ranging (text ++ put) behind in (
      put ++ found.0,
      ap (λ ls. ranges_text (runs_behind mark.len runs ls)) lines ∙ ap ranges_text (runs_behind-append mark.len runs (split bytes).lines (split more).lines) ∙ found.1 ∙ append_assoc text put found.0,
      stops_first d.written put found.0 w0 w1 fault stop,
    )
