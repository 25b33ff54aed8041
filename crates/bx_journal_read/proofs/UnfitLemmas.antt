-- Where a text isn't a redo text, by its places.
use Rattle.std.proofs.Common.{◌≡◌, ℕ, suc, ◌+◌, ◌<◌, ◌≤◌, Bool, true, false, List, [], ◌∷◌, ◌++◌, length, length-append, append_assoc, take, take_all, refl, ap, sym, ◌∙◌, subst, inl, inr, arith, Some}
use Rattle.bx_journal_format.specs.Finished.{AllTell, IsFinished}
use Rattle.bx_journal_format.specs.Parsed.{told_by}
use Rattle.bx_journal_format.specs.Text.{Entry, Stage, Between, Saving, Ending, Reading, split, start, next_at, after_lines}
use Rattle.bx_journal_format.specs.count.Mark.{IsMark}
use Rattle.bx_journal_format.specs.declared.read.types.Front.{Front}
use Rattle.bx_journal_format.proofs.Inverse.{bind_some, next_between, next_ending, next_saving}
use Rattle.bx_journal_read.specs.declared.scan.torn.Torn.{Torn}
use Rattle.bx_journal_read.specs.scan.Judging.{IsUnfitIn}
use Rattle.bx_journal_model.specs.Redo.{BeginsAt, FirstForm, HasTailAt, IsFirstFormAt, IsTooManyAt, Tail}
use Rattle.bx_journal_read.specs.scan.Recovery.{HasTorn, IsTornFront}
use Rattle.bx_journal_read.specs.scan.Windows.{AreAround, AreMoreThan, IsFrontCounted}
use Rattle.bx_journal_read.proofs.TailLemmas.{begins_of}
use Rattle.bx_journal_read.proofs.WalkLemmas.{front_surely, lines_between}
use Rattle.bx_journal_read.proofs.ZeroLemmas.{torn_unclean}

-- a tail begins at the line behind those before it
tail_at : (text : List ℕ) (t : Torn) → HasTorn text t → t.begins < length text → HasTailAt text (suc (length (split (take t.begins text)).lines))
tail_at text t has lt =
    let r : Reading = has.reading in
    record {
      reading = r;
      reads = has.torn.reads;
      unfinished = λ f. torn_unclean text t r has.torn (λ e. omega (arith, e, lt)) (r.entries, f);
      begins = begins_of text t.begins r.entries has.torn.begins;
    }

pub tail_unfit : (H now last : Type 0) (stored text behind : List ℕ) (len n changes : ℕ) (t : Torn) → (H → now) → (H → last) → (H → text ≡ stored) → (H → behind ≡ stored) → (H → len ≡ length stored) → t.begins < len
    → IsTornFront now text len t → (last → n ≡ length (split (take t.begins behind)).lines) → IsUnfitIn H stored changes (n + 1)
tail_unfit H now last stored text behind len n changes t to on same again long lt front count h =
    let all : take len text ≡ stored = ap (take len) (same h) ∙ take_all len stored (omega (arith, long h)) in
    let there = tail_at stored t (subst (λ u. HasTorn u t) all (front.torn (to h))) (omega (arith, lt, long h)) in
    let number : suc (length (split (take t.begins stored)).lines) ≡ n + 1 = omega (arith, count (on h), ap (λ u. length (split (take t.begins u)).lines) (again h)) in
    inl (Tail (subst (HasTailAt stored) number there))

-- no line takes a finished entry away
next_grown : (es : List Entry) (stage : Stage) (line : List ℕ) (q : Reading) → next_at es stage line ≡ Some q → (newer : List Entry) × (q.entries ≡ newer ++ es)
next_grown es Between line q e = let b = next_between es line q e in ([], ap (λ (p : Reading). p.entries) b.2)
next_grown es (Saving v s) line q e =
    elim (next_saving es v s line q e) [
      | inl is ↦ ([], ap (λ (p : Reading). p.entries) is.1)
      | inr is ↦ ([], ap (λ (p : Reading). p.entries) is.2)
    ]
next_grown es (Ending v s) line q e =
    let n = next_ending es v s line q e in
    (record { saved = s; after = n.0 } ∷ [], ap (λ (p : Reading). p.entries) n.1)

entries_grow : (ls : List (List ℕ)) (r q : Reading) → after_lines r ls ≡ Some q → (newer : List Entry) × (q.entries ≡ newer ++ r.entries)
unfolding after_lines
entries_grow [] r q e = let same : r ≡ q = cc in ([], ap (λ (p : Reading). p.entries) (sym same))
entries_grow (l ∷ ls) r q e =
    let b = bind_some (λ p. after_lines p ls) (next_at r.entries r.stage l) q e in
    let first = next_grown r.entries r.stage l b.0 b.1 in
    let more = entries_grow ls b.0 q b.2 in
    (more.0 ++ first.0, more.1 ∙ ap (λ es. more.0 ++ es) first.1 ∙ sym (append_assoc more.0 first.0 r.entries))

-- a front of finished entries that was counted
module _ (text : List ℕ) (only : Bool) (f : Front) (c : IsFrontCounted (Unit {0}) text only f) where
  front_at : f.at ≤ length text → IsMark text f.at (record { entries = c.counted.counted.entries; stage = Between })
  front_at within = record {
    within = within;
    lines = subst (λ u. after_lines start (split u).lines ≡ Some (record { entries = c.counted.counted.entries; stage = Between })) (c.is tt) c.counted.counted.finished.reads.lines;
    whole = subst (λ u. (split u).rest ≡ []) (c.is tt) c.counted.counted.finished.whole;
  }

  front_begins : f.at ≤ length text → BeginsAt text c.counted.counted.entries (f.lines + 1)
  front_begins within =
      let number : suc (length (split (take f.at text)).lines) ≡ f.lines + 1 = omega (arith, c.counted.many, ap (λ u. length (split u).lines) (c.is tt)) in
      subst (BeginsAt text c.counted.counted.entries) number (begins_of text f.at c.counted.counted.entries (front_at within))

  front_all : f.at ≡ length text → IsFinished text c.counted.counted.entries
  front_all all = subst (λ u. IsFinished u c.counted.counted.entries) (c.is tt ∙ take_all f.at text (omega (arith, all))) c.counted.counted.finished

-- the entries of a front are the oldest of those of a longer one
fronts_grow : (text : List ℕ) (one two : Bool) (f g : Front) (c : IsFrontCounted (Unit {0}) text one f) (d : IsFrontCounted (Unit {0}) text two g) → f.at ≤ g.at → g.at ≤ length text
    → (newer : List Entry) × (d.counted.counted.entries ≡ newer ++ c.counted.counted.entries)
fronts_grow text one two f g c d le within =
    let p : Reading = record { entries = c.counted.counted.entries; stage = Between } in
    let q : Reading = record { entries = d.counted.counted.entries; stage = Between } in
    entries_grow _ p q (lines_between text p q f.at g.at (front_at text one f c (omega (arith, le, within))) (front_at text two g d within) le)

one_more : (newer older es : List Entry) → es ≡ newer ++ older → length es ≡ suc (length older) → (e : Entry) × (es ≡ e ∷ older)
one_more [] older es is long = absurd (omega (arith, ap length is, long))
one_more (e ∷ []) older es is long = (e, is)
one_more (e ∷ d ∷ newer) older es is long = absurd (omega (arith, ap length is, length-append newer older, long))

-- an entry that tells no length, behind those that do
untold_at : (text : List ℕ) (len : ℕ) (whole front next : Front) → len ≡ length text → AreAround whole front next len → IsFrontCounted (Unit {0}) text false whole → IsFrontCounted (Unit {0}) text true front
    → IsFrontCounted (Unit {0}) text false next → IsFirstFormAt text (front.lines + 1)
untold_at text len whole front next long around w c d =
    let within : next.at ≤ length text = omega (arith, around.within, long) in
    let es : List Entry = c.counted.counted.entries in
    let fs : List Entry = d.counted.counted.entries in
    let on = fronts_grow text true false front next c d (omega (arith, around.order)) within in
    let count : length fs ≡ suc (length es) = omega (arith, around.one, c.counted.counted.counted, d.counted.counted.counted) in
    let one = one_more on.0 es fs on.1 count in
    let more = fronts_grow text false false next whole d w (omega (arith, around.within, around.all)) (omega (arith, around.all, long)) in
    record {
      newer = more.0;
      entry = one.0;
      older = es;
      finished = subst (IsFinished text) (more.1 ∙ ap (λ s. more.0 ++ s) one.1) (front_all text false whole w (omega (arith, around.all, long)));
      untold = sym (ap told_by one.1) ∙ sym d.counted.counted.told_is ∙ around.untold;
      told = c.counted.tell refl;
      begins = front_begins text true front c (omega (arith, around.order, within));
    }

-- more entries than these
beyond_at : (text : List ℕ) (len most changes : ℕ) (whole front : Front) → len ≡ length text → most + changes ≡ 65535 → AreMoreThan whole front most len → IsFrontCounted (Unit {0}) text true whole
    → IsFrontCounted (Unit {0}) text true front → IsTooManyAt text changes (front.lines + 1)
beyond_at text len most changes whole front long sum many w c =
    let es : List Entry = c.counted.counted.entries in
    let all : whole.at ≡ length text = omega (arith, many.all, long) in
    let more = fronts_grow text true true front whole c w (omega (arith, many.within, many.all)) (omega (arith, all)) in
    record {
      newer = more.0;
      older = es;
      finished = subst (IsFinished text) more.1 (front_all text true whole w all);
      tell = subst AllTell more.1 (w.counted.tell refl);
      some = λ none. omega (arith, ap length none, ap length more.1, length-append more.0 es, many.more, many.count, c.counted.counted.counted, w.counted.counted.counted);
      many = omega (arith, sum, many.count, c.counted.counted.counted);
      begins = front_begins text true front c (omega (arith, many.within, long));
    }

-- the same of a store's text
module _ (H : Type 0) (stored : List ℕ) (len changes : ℕ) (long : H → len ≡ length stored) where
  pub untold_unfit : (now last : Type 0) (text behind : List ℕ) (whole front next : Front) → (H → now) → (H → last) → (H → text ≡ stored) → (H → behind ≡ stored) → AreAround whole front next len
      → IsFrontCounted H stored false whole → IsFrontCounted now text true front → IsFrontCounted last behind false next → IsUnfitIn H stored changes (front.lines + 1)
  untold_unfit now last text behind whole front next to on same again around w c d h =
      inl (FirstForm (untold_at stored len whole front next (long h) around (front_surely H stored stored false whole h refl w) (front_surely now text stored true front (to h) (same h) c)
      (front_surely last behind stored false next (on h) (again h) d)))

  pub beyond_unfit : (now : Type 0) (text : List ℕ) (most : ℕ) (whole front : Front) → (H → now) → (H → text ≡ stored) → most + changes ≡ 65535 → AreMoreThan whole front most len
      → IsFrontCounted H stored true whole → IsFrontCounted now text true front → IsUnfitIn H stored changes (front.lines + 1)
  beyond_unfit now text most whole front to same sum many w c h =
      inr (beyond_at stored len most changes whole front (long h) sum many (front_surely H stored stored true whole h refl w) (front_surely now text stored true front (to h) (same h) c))
