-- From phase to phase.
use Rattle.std.proofs.Common.{◌≡◌, ℕ, suc, ◌≤◌, true, List, [], ◌∷◌, ◌++◌, length, refl, ap, sym, ◌∙◌, subst, inl, inr, ◌⊎◌, arith, append-nil, Option, Some, None}
use Rattle.std.specs.Prelude.{flat_map, IfSome}
use Rattle.std.specs.List.{list_all}
use Rattle.std.proofs.lemmas.Grind.{common_steps}
use Rattle.std.proofs.lemmas.List.Folds.{list_all-append}
use Rattle.bx_image.specs.declared.change.TheConstants.{MAX_LEN}
use Rattle.bx_journal_format.specs.Kept.{Kept, with_runs}
use Rattle.bx_image.specs.Change.{restore, IsOf, IsAsGood}
use Rattle.bx_journal_format.specs.declared.format.version.Version.{Version}
use Rattle.bx_journal_format.specs.declared.format.version.Version.TheVariants.{Second}
use Rattle.bx_journal_format.specs.Line.{end_line}
use Rattle.bx_journal_format.specs.Entry.{rows, head_lines, head_text, end_text}
use Rattle.bx_journal_format.specs.Text.{IsPrefix, Reading, Entry, Ending, IsRest, split, start, may_begin, after_lines, is_short}
use Rattle.bx_journal_model.specs.Stack.{stack_of, HaveLengths, AllCover, image_at, recovered, CoversAt, Recovers}
use Rattle.bx_journal_model.specs.Phase.{IsAtRest, IsOpen, as_read}
use Rattle.bx_journal_format.proofs.Splits.{split-append}
use Rattle.bx_journal_format.proofs.Runs.{SafeRun, Goes, GoesAllBy, safe_prefix, safe_all, after_lines-append, empty_rest}
use Rattle.bx_journal_format.proofs.Gathered.{as_read_byte}
use Rattle.bx_journal_format.proofs.RowLemmas.{restore_same, covers_same, all_rows_are}
use Rattle.bx_journal_format.proofs.EntryRun.{head_run, end_run, ending, between}

-- what a reading has for an image and a stack
pub record Fine (x : List ℕ) (stack : List (List ℕ)) (r : Reading) : Type 0 where
  pub covers : CoversAt r.stage x
  pub finished : AllCover r.entries (image_at r.stage x)
  pub lengths : HaveLengths r.entries (image_at r.stage x)
  pub stack_is : recovered r x ≡ stack

-- a text of whole lines
pub record IsWhole (text : List ℕ) (r : Reading) : Type 0 where
  pub lines : after_lines start (split text).lines ≡ Some r
  pub whole : (split text).rest ≡ []
  pub short : list_all is_short (split text).lines ≡ true

pub length-stack_of : (es : List Entry) (x : List ℕ) → length (stack_of es x) ≡ suc (length es)
unfolding stack_of
length-stack_of [] x = refl
length-stack_of (e ∷ es) x = ap suc (length-stack_of es (restore e.saved x))

-- an accepted text of short lines
pub record ReadsShort (text : List ℕ) (q : Reading) : Type 0 where
  pub lines : after_lines start (split text).lines ≡ Some q
  pub rest : IsRest q.entries q.stage (split text).rest
  pub short : list_all is_short (split text).lines ≡ true

pub extends : (Q : Reading → Type 0) (text p : List ℕ) (r : Reading) → IsWhole text r → (g : Goes Q r p) → ReadsShort (text ++ p) g.reading
extends Q text p r w g = record {
  lines = rw (split-append text p w.whole) (after_lines-append start r (split text).lines (split p).lines w.lines ∙ g.lines);
  rest = rw (split-append text p w.whole) g.rest;
  short = rw (split-append text p w.whole, list_all-append is_short (split text).lines (split p).lines, w.short) g.short;
}

pub recovers_by : (text p : List ℕ) (x : List ℕ) (stack : List (List ℕ)) (q : Reading) → ReadsShort (text ++ p) q → Fine x stack q → Recovers (text ++ p) x stack
recovers_by text p x stack q e f = record {
  reading = q;
  reads = record { lines = e.lines; rest = e.rest };
  sound = record { short = e.short; unfinished = f.covers; finished = f.finished };
  lengths = f.lengths;
  stack_is = f.stack_is;
}

pub rest_is_whole : (text x : List ℕ) (stack : List (List ℕ)) (rest : IsAtRest text x stack) → IsWhole text (between rest.stands.entries)
rest_is_whole text x stack rest = record { lines = rest.stands.reads.lines; whole = rest.stands.whole; short = rest.sound.short }

pub open_is_whole : (v : Version) (s : Kept) (text x : List ℕ) (stack : List (List ℕ)) (open_ : IsOpen v s text x stack) → IsWhole text (record { entries = open_.entries; stage = Ending v s })
open_is_whole v s text x stack o = record { lines = o.reads.lines; whole = o.whole; short = o.sound.short }

pub rest_recovers : (text x : List ℕ) (stack : List (List ℕ)) → IsAtRest text x stack → Recovers text x stack
rest_recovers text x stack rest = record {
  reading = between rest.stands.entries;
  reads = rest.stands.reads;
  sound = rest.sound;
  lengths = rest.stands.lengths;
  stack_is = sym rest.stands.stack_is;
}

pub open_recovers : (v : Version) (s : Kept) (text x : List ℕ) (stack : List (List ℕ)) → IsOpen v s text x stack → Recovers text x stack
open_recovers v s text x stack o = record {
  reading = record { entries = o.entries; stage = Ending v s };
  reads = o.reads;
  sound = o.sound;
  lengths = o.lengths;
  stack_is = sym o.stack_is;
}

-- another image serves as well
unfoldable pub open_moves : (v : Version) (s : Kept) (text x y : List ℕ) (stack : List (List ℕ)) → IsOpen v s text x stack → IsAsGood s x y → IsOpen v s text y stack
open_moves v s text x y stack o good = record {
  entries = o.entries;
  reads = o.reads;
  whole = o.whole;
  sound = record { short = o.sound.short; unfinished = good.covers; finished = subst (AllCover o.entries) (sym good.same) o.sound.finished };
  lengths = subst (HaveLengths o.entries) (sym good.same) o.lengths;
  stack_is = o.stack_is ∙ ap (stack_of o.entries) (sym good.same);
}

pub may_begin_of : (es : List Entry) (x : List ℕ) (len : ℕ) → HaveLengths es x → len ≡ length x → may_begin es len ≡ true
may_begin_of [] x len h e = refl
may_begin_of (entry ∷ es) x len h e = by_after entry.after h.0
  where
    by_after : (after : Option ℕ) → IfSome after (λ n. length x ≡ n) → may_begin (record { saved = entry.saved; after = after } ∷ es) len ≡ true
    by_after None told = refl
    by_after (Some n) told = grind (arith, common_steps, e, told)

-- the reading behind the head of an entry
abbrev IsHead : List Entry → Kept → Reading → Type 0
IsHead es s r = r ≡ ending es Second s.len (with_runs [] (flat_map rows s.runs))

-- the readings along the head of an entry that keeps what the image has
head_fine : (text x : List ℕ) (stack : List (List ℕ)) (s : Kept) (rest : IsAtRest text x stack) → IsOf s x → s.len ≤ MAX_LEN → length stack ≤ 65535
    → SafeRun (Fine x stack) (IsHead rest.stands.entries s) (between rest.stands.entries) (head_lines (length stack) s)
head_fine text x stack s rest is most room =
    let es : List Entry = rest.stands.entries in
    let count : length stack ≡ suc (length es) = ap length rest.stands.stack_is ∙ length-stack_of es x in
    let back : restore (as_read s) x ≡ x = restore_same s.len (with_runs [] (flat_map rows s.runs)) s.runs x (as_read_byte s.runs) ∙ is.back in
    let run : SafeRun (Fine x stack) (IsHead es s) (between es) (head_lines (suc (length es)) s ++ []) =
    head_run (Fine x stack) (IsHead es s) es s (omega arith) most (may_begin_of es x s.len rest.stands.lengths is.len) (all_rows_are s.len s.runs is.within is.bytes)
    (record { covers = tt; finished = rest.sound.finished; lengths = rest.stands.lengths; stack_is = sym rest.stands.stack_is })
    (λ runs. record { covers = tt; finished = rest.sound.finished; lengths = rest.stands.lengths; stack_is = sym rest.stands.stack_is })
    [] (
      record {
        covers = covers_same s.len (with_runs [] (flat_map rows s.runs)) s.runs x (as_read_byte s.runs) is.covers;
        finished = subst (AllCover es) (sym back) rest.sound.finished;
        lengths = subst (HaveLengths es) (sym back) rest.stands.lengths;
        stack_is = ap (stack_of es) back ∙ sym rest.stands.stack_is;
      },
      refl,
    ) in
    let run_plain : SafeRun (Fine x stack) (IsHead es s) (between es) (head_lines (suc (length es)) s) = subst (SafeRun (Fine x stack) (IsHead es s) (between es)) (append-nil (head_lines (suc (length es)) s)) run in
    subst (λ n. SafeRun (Fine x stack) (IsHead es s) (between es) (head_lines n s)) (sym count) run_plain

-- any front of the head of the next entry leaves the stack
pub head_recovers : (text x : List ℕ) (stack : List (List ℕ)) (s : Kept) (p : List ℕ) → IsAtRest text x stack → IsOf s x → s.len ≤ MAX_LEN → length stack ≤ 65535
    → IsPrefix p (head_text (length stack) s) → Recovers (text ++ p) x stack
head_recovers text x stack s p rest is most room front =
    let es : List Entry = rest.stands.entries in
    let run = head_fine text x stack s rest is most room in
    let g : Goes (Fine x stack) (between es) p = safe_prefix (Fine x stack) (IsHead es s) (between es) (head_lines (length stack) s) run p front in
    recovers_by text p x stack g.reading (extends (Fine x stack) text p (between es) (rest_is_whole text x stack rest) g) g.has

whole_goes : (Q E : Reading → Type 0) (r : Reading) (p : List ℕ) (g : GoesAllBy Q E r (split p)) → Goes Q r p
whole_goes Q E r p g = record { reading = g.reading; lines = g.lines; rest = subst (IsRest g.reading.entries g.reading.stage) (sym g.whole) (empty_rest g.reading.entries g.reading.stage); has = g.has; short = g.short }

pub whole_behind : (text p : List ℕ) → (split text).rest ≡ [] → (split p).rest ≡ [] → (split (text ++ p)).rest ≡ []
whole_behind text p w v = rw (split-append text p w) v

pub open_by : (v : Version) (s : Kept) (es : List Entry) (text x : List ℕ) (stack : List (List ℕ)) (q : Reading) → q ≡ record { entries = es; stage = Ending v s } → ReadsShort text q → (split text).rest ≡ [] → Fine x stack q → IsOpen v s text x stack
open_by v s es text x stack q is e w f =
    let P : Reading → Type 0 = λ r. ReadsShort text r × Fine x stack r in
    let both : P (record { entries = es; stage = Ending v s }) = subst P is (e, f) in
    record {
      entries = es;
      reads = record { lines = both.0.lines; rest = both.0.rest };
      whole = w;
      sound = record { short = both.0.short; unfinished = both.1.covers; finished = both.1.finished };
      lengths = both.1.lengths;
      stack_is = sym both.1.stack_is;
    }

-- the whole head opens the entry
pub head_opens : (text x : List ℕ) (stack : List (List ℕ)) (s : Kept) → IsAtRest text x stack → IsOf s x → s.len ≤ MAX_LEN → length stack ≤ 65535
    → IsOpen Second (as_read s) (text ++ head_text (length stack) s) x stack
unfolding whole_goes
head_opens text x stack s rest is most room =
    let es : List Entry = rest.stands.entries in
    let g : GoesAllBy (Fine x stack) (IsHead es s) (between es) (split (head_text (length stack) s)) = safe_all (Fine x stack) (IsHead es s) (between es) (head_lines (length stack) s) (head_fine text x stack s rest is most room) in
    let e = extends (Fine x stack) text (head_text (length stack) s) (between es) (rest_is_whole text x stack rest) (whole_goes (Fine x stack) (IsHead es s) (between es) (head_text (length stack) s) g) in
    open_by Second (as_read s) es (text ++ head_text (length stack) s) x stack g.reading g.ends e (whole_behind text (head_text (length stack) s) rest.stands.whole g.whole) g.has

abbrev IsEnd : List Entry → Kept → ℕ → Reading → Type 0
IsEnd es s after r = r ≡ between (record { saved = s; after = Some after } ∷ es)

abbrev FineEither : List ℕ → List (List ℕ) → Reading → Type 0
FineEither x stack r = Fine x stack r ⊎ Fine x (x ∷ stack) r

-- what stands, where the entry is open, and where it has ended
pub open_fine : (text x : List ℕ) (stack : List (List ℕ)) (s : Kept) (o : IsOpen Second s text x stack) → Fine x stack (record { entries = o.entries; stage = Ending Second s })
open_fine text x stack s o = record { covers = o.sound.unfinished; finished = o.sound.finished; lengths = o.lengths; stack_is = sym o.stack_is }

pub ended_fine : (text x : List ℕ) (stack : List (List ℕ)) (s : Kept) (o : IsOpen Second s text x stack) (after : ℕ) → length x ≡ after
    → Fine x (x ∷ stack) (between (record { saved = s; after = Some after } ∷ o.entries))
unfolding stack_of
ended_fine text x stack s o after told = record {
  covers = tt;
  finished = (o.sound.unfinished, o.sound.finished);
  lengths = (told, o.lengths);
  stack_is = ap (λ t. x ∷ t) (sym o.stack_is);
}

end_fine : (text x : List ℕ) (stack : List (List ℕ)) (s : Kept) (open_ : IsOpen Second s text x stack) (after : ℕ) → length x ≡ after → after ≤ MAX_LEN
    → SafeRun (FineEither x stack) (λ r. IsEnd open_.entries s after r × Fine x (x ∷ stack) r) (record { entries = open_.entries; stage = Ending Second s }) (end_line Second (length stack) after ∷ [])
unfolding stack_of
end_fine text x stack s o after told most =
    let es : List Entry = o.entries in
    let count : length stack ≡ suc (length es) = ap length o.stack_is ∙ length-stack_of es (restore s x) in
    let new = ended_fine text x stack s o after told in
    let E : Reading → Type 0 = λ r. IsEnd es s after r × Fine x (x ∷ stack) r in
    let run : SafeRun (FineEither x stack) E (ending es Second s.len s.runs) (end_line Second (suc (length es)) after ∷ []) =
    end_run (FineEither x stack) E es s after most
    (inl (open_fine text x stack s o))
    (inr new) (refl, new) in
    subst (λ n. SafeRun (FineEither x stack) E (ending es Second s.len s.runs) (end_line Second n after ∷ [])) (sym count) run

pub rest_by : (es : List Entry) (text x : List ℕ) (stack : List (List ℕ)) (q : Reading) → q ≡ between es → ReadsShort text q → (split text).rest ≡ [] → Fine x stack q → IsAtRest text x stack
rest_by es text x stack q is e w f =
    let P : Reading → Type 0 = λ r. ReadsShort text r × Fine x stack r in
    let both : P (between es) = subst P is (e, f) in
    record {
      stands = record { entries = es; reads = record { lines = both.0.lines; rest = both.0.rest }; whole = w; lengths = both.1.lengths; stack_is = sym both.1.stack_is };
      sound = record { short = both.0.short; unfinished = both.1.covers; finished = both.1.finished };
    }

-- the whole line ends the entry, and the image stands on the stack
pub end_rests : (text x : List ℕ) (stack : List (List ℕ)) (s : Kept) (after : ℕ) → IsOpen Second s text x stack → length x ≡ after → after ≤ MAX_LEN
    → IsAtRest (text ++ end_text (length stack) after) x (x ∷ stack)
unfolding whole_goes
end_rests text x stack s after o told most =
    let r : Reading = record { entries = o.entries; stage = Ending Second s } in
    let E : Reading → Type 0 = λ q. IsEnd o.entries s after q × Fine x (x ∷ stack) q in
    let p : List ℕ = end_text (length stack) after in
    let g : GoesAllBy (FineEither x stack) E r (split p) = safe_all (FineEither x stack) E r (end_line Second (length stack) after ∷ []) (end_fine text x stack s o after told most) in
    let e : ReadsShort (text ++ p) g.reading = extends (FineEither x stack) text p r (open_is_whole Second s text x stack o) (whole_goes (FineEither x stack) E r p g) in
    rest_by (record { saved = s; after = Some after } ∷ o.entries) (text ++ p) x (x ∷ stack) g.reading g.ends.0 e (whole_behind text p o.whole g.whole) g.ends.1
