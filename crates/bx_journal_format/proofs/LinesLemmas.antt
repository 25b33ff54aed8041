-- A text that is read a window at a time.
use Rattle.std.proofs.Common.{◌≡◌, ℕ, suc, ◌+◌, ◌-◌, ◌≤◌, List, [], ◌∷◌, ◌++◌, length, take, drop, refl, ap, sym, ◌∙◌, subst, arith, Some, length-append, length-take}
use Rattle.std.proofs.lemmas.List.{take-append-le, take_all}
use Rattle.std.proofs.Math.Seq.{drop-append_seam}
use Rattle.bx_journal_format.specs.declared.read.lines.LinesRead.{LinesRead}
use Rattle.bx_journal_format.specs.declared.read.types.EntryRead.{EntryRead}
use Rattle.bx_journal_format.specs.declared.read.types.Front.{Front}
use Rattle.bx_journal_format.specs.declared.read.types.StageRead.{StageRead}
use Rattle.bx_journal_format.specs.declared.read.types.StageRead.TheVariants.{Between as BetweenRead, Saving as SavingRead, Ending as EndingRead}
use Rattle.bx_journal_format.specs.Text.{Entry, Reading, split, start, after_lines}
use Rattle.bx_journal_format.specs.count.Mark.{IsMark}
use Rattle.bx_journal_format.specs.read.Lines.{IsFront, IsReadAt, IsReadUpTo}
use Rattle.bx_journal_format.specs.Parsed.{entry_of, entries_onto, reading_onto, AreMarked, IsStageMarked, IsReadTo, Leads, KeepsMarks}
use Rattle.bx_journal_format.proofs.ReadLoop.{IsFound, read_on, drop_twice}
use Rattle.bx_journal_format.proofs.TallyLemmas.{take_less, take_sum}

-- nothing is read behind a front
pub none_read : {A : Type 0} → (text : List ℕ) (older : List Entry) (front : Front) (r : LinesRead A) → r.entries.items ≡ [] → r.stage ≡ BetweenRead → r.at ≡ front.at → IsFront text older front → IsReadUpTo text older front r
none_read {A = A} text older front r none is place f =
    let empty : IsReadAt {A = A} text older [] BetweenRead front.at = record { mark = f.mark; marked = (omega arith, omega (arith, f.few, f.count)) } in
    record {
      count = f.count;
      told = f.told;
      long = f.long ∙ sym place;
      read = subst (λ n. IsReadAt text older r.entries.items r.stage n) (sym place)
          (subst (λ s. IsReadAt text older r.entries.items s front.at) (sym is) (subst (λ es. IsReadAt text older es BetweenRead front.at) (sym none) empty));
    }

-- what is read of a text up to a place is read so of each other one that is the same up to there
module _ (text other : List ℕ) (at : ℕ) (within : at ≤ length other) (same : take at other ≡ take at text) where
  same_before : (n : ℕ) → n ≤ at → take n other ≡ take n text
  same_before n below =
      let more : n + (at - n) ≡ at = omega (arith, below) in
      sym (take_less n (at - n) other) ∙ ap (λ k. take n (take k other)) more ∙ ap (take n) same ∙ ap (λ k. take n (take k text)) (sym more) ∙ take_less n (at - n) text

  mark_other : (n : ℕ) (r : Reading) → n ≤ at → IsMark text n r → IsMark other n r
  mark_other n r below m = record {
    within = omega (arith, below, within);
    lines = ap (λ t. after_lines start (split t).lines) (same_before n below) ∙ m.lines;
    whole = ap (λ t. (split t).rest) (same_before n below) ∙ m.whole;
  }

  marked_forth : {A : Type 0} → (done : List Entry) (from to : ℕ) (es : List (EntryRead A)) → AreMarked text done from es to → from ≤ to
  marked_forth done from to [] are = are
  marked_forth done from to (e ∷ es) are = omega (arith, are.0, are.1.order, marked_forth (entry_of e ∷ done) e.saved to es are.2)

  are_other : {A : Type 0} → (done : List Entry) (from to : ℕ) (es : List (EntryRead A)) → to ≤ at → AreMarked text done from es to → AreMarked other done from es to
  are_other done from to [] below are = are
  are_other done from to (e ∷ es) below are =
      let forth : e.saved ≤ to = marked_forth (entry_of e ∷ done) e.saved to es are.2 in
      let saved : e.saved ≤ at = omega (arith, forth, below) in
      let begins : e.begins ≤ at = omega (arith, saved, are.1.order) in (
        are.0,
        record {
          beginning = mark_other e.begins _ begins are.1.beginning;
          saving = mark_other e.saved _ saved are.1.saving;
          order = are.1.order;
        },
        are_other (entry_of e ∷ done) e.saved to es below are.2,
      )

  marked_other : {A : Type 0} → (older : List Entry) (es : List (EntryRead A)) (stage : StageRead A) (n : ℕ) → n ≤ at → IsStageMarked text older es stage n → IsStageMarked other older es stage n
  marked_other older es BetweenRead n below m = (are_other older 0 n es below m.0, m.1)
  marked_other older es (SavingRead v len runs begins) n below m =
      let first : begins ≤ at = omega (arith, m.2, below) in
      (are_other older 0 begins es first m.0, mark_other begins _ first m.1, m.2, m.3)
  marked_other older es (EndingRead v kept begins saved) n below m =
      let last : saved ≤ at = omega (arith, m.4, below) in
      let first : begins ≤ at = omega (arith, m.3, last) in
      (are_other older 0 begins es first m.0, mark_other begins _ first m.1, mark_other saved _ last m.2, m.3, m.4, m.5)

  pub read_other : {A : Type 0} → (older : List Entry) (es : List (EntryRead A)) (stage : StageRead A) → IsReadAt text older es stage at → IsReadAt other older es stage at
  read_other older es stage r = record { mark = mark_other at _ (omega arith) r.mark; marked = marked_other older es stage at (omega arith) r.marked }

-- all of a text was read, and with a window behind it so much of the whole
pub read_in_whole : {A : Type 0} → (text window : List ℕ) (older : List Entry) (es : List (EntryRead A)) (stage : StageRead A) (at : ℕ) → length text ≡ at → IsReadAt text older es stage at → IsReadAt (text ++ window) older es stage at
read_in_whole text window older es stage at long r =
    read_other text (text ++ window) at (omega (arith, length-append text window, long)) (take-append-le at text window (omega (arith, long))) older es stage r

-- and of the whole only what was read
pub read_of_whole : {A : Type 0} → (text window : List ℕ) (older : List Entry) (es : List (EntryRead A)) (stage : StageRead A) (start from : ℕ) → length text ≡ start → from ≤ length window
    → IsReadAt (text ++ window) older es stage (start + from) → IsReadAt (text ++ take from window) older es stage (start + from)
read_of_whole text window older es stage start from long within r =
    let part : List ℕ = text ++ take from window in
    let size : length part ≡ start + from = omega (arith, length-append text (take from window), length-take from window, long, within) in
    let behind : drop start (text ++ window) ≡ window = subst (λ n. drop n (text ++ window) ≡ window) long (drop-append_seam text window) in
    let front : take start (text ++ window) ≡ text = take-append-le start text window (omega (arith, long)) ∙ take_all start text (omega (arith, long)) in
    let is : take (start + from) (text ++ window) ≡ part = take_sum start from (text ++ window) ∙ ap (λ l. l ++ take from (drop start (text ++ window))) front ∙ ap (λ l. text ++ take from l) behind in
    read_other (text ++ window) part (start + from) (omega (arith, size)) (take_all (start + from) part (omega (arith, size)) ∙ sym is) older es stage r

-- what isn't read yet of a window
pub left_of_whole : (text window : List ℕ) (start from : ℕ) → length text ≡ start → drop from window ≡ drop (start + from) (text ++ window)
left_of_whole text window start from long =
    ap (drop from) (sym (subst (λ n. drop n (text ++ window) ≡ window) long (drop-append_seam text window))) ∙ drop_twice start from (text ++ window)

-- one line more
pub read_one : {A : Type 0} → (text rest : List ℕ) (older : List Entry) (es new : List (EntryRead A)) (stage s : StageRead A) (at i : ℕ) → IsReadAt text older es stage at → rest ≡ drop at text → IsFound rest i
    → Leads (reading_onto older es stage) (take i rest) (entries_onto older new) (Some s) → KeepsMarks text older new (at + i + 1) (Some s) → IsReadAt text older new s (at + i + 1)
read_one text rest older es new stage s at i r left f leads keeps =
    let to : IsReadTo text older es stage at (suc (length (split (take at text)).lines)) = record { mark = r.mark; marked = r.marked; counted = refl } in
    let next = read_on text rest older es new stage s at (suc (length (split (take at text)).lines)) i to left f leads keeps in
    record { mark = next.mark; marked = next.marked }
