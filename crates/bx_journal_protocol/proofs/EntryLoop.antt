-- One turn of the undos, or of the redos, over the text that the entries stand in: the newest entry is taken off.
use Rattle.std.proofs.Common.{◌≡◌, ℕ, ◌+◌, ◌-◌, ◌≤◌, List, [], ◌∷◌, ◌++◌, length, map, take, drop, ap, sym, ◌∙◌, subst, arith, length-append, length-take}
use Rattle.std.proofs.lemmas.List.{take-take, take-append-drop, take_all}
use Rattle.bx_image.specs.Change.{AllWithin}
use Rattle.bx_journal_format.specs.Kept.{run_of, kept_of}
use Rattle.bx_journal_format.specs.Finished.{IsFinished}
use Rattle.bx_journal_format.specs.Text.{Entry, Between, Ending, Reads}
use Rattle.bx_journal_format.specs.declared.read.types.EntryRead.{EntryRead}
use Rattle.bx_journal_format.specs.count.Mark.{HasMarks}
use Rattle.bx_journal_format.specs.Parsed.{AllKept, entry_of, entries_onto}
use Rattle.bx_journal_format.proofs.ReadLemmas.{onto-push}
use Rattle.bx_journal_model.specs.Undoing.{HasLeft, AreReadFrom}
use Rattle.bx_journal_protocol.proofs.RedoText.{one_list}
use Rattle.bx_journal_model.proofs.UndoLoop.{IsUndone, IsUndoing, popped, finished_mark, drop_one, kept_next, kept_more}
use Rattle.bx_journal_protocol.proofs.UndoSteps.{mark_in}

-- behind i turns, with n of k to come: the entries that are left, in a text that was `first` and is now the front of it that ends with them
pub record EntriesLeft {A : Type 0} (text_faithful : Type 0) (first now : List ℕ) (room i : ℕ) (entries es : List (EntryRead A)) (k n : ℕ) : Type 0 where
  pub gone : length es + i ≡ length entries
  pub more : n + i ≡ k
  pub few : k ≤ length entries
  pub place : IsUndoing text_faithful first now es
  pub dropped : text_faithful → (fs : List Entry) → IsFinished first fs → IsFinished now (drop i fs)
  pub kept : AllKept room (drop (length entries - k) es)

pub all_left : {A : Type 0} {text_faithful : Type 0} {stored : List ℕ} {room : ℕ} {entries : List (EntryRead A)} {k : ℕ} → AreReadFrom text_faithful stored entries → k ≤ length entries
    → AllKept room (drop (length entries - k) entries) → EntriesLeft text_faithful stored stored room 0 entries entries k k
all_left read few kept = record {
  gone = omega arith;
  more = omega arith;
  few = few;
  place = record {
    text = read.text;
    to = length read.text;
    undone = record { older = read.older; marked = read.marked; mark = read.mark };
    is = read.is;
    left = λ h. read.is h ∙ sym (take_all (length read.text) read.text (omega arith));
  };
  dropped = λ h fs finished. finished;
  kept = kept;
}

-- what a turn takes off, which is the last of the entries
pub record EntryTurn {A : Type 0} {text_faithful : Type 0} {first now : List ℕ} {room i : ℕ} {entries all : List (EntryRead A)} {k n : ℕ}
    (was : EntriesLeft text_faithful first now room i entries all k n) (es : List (EntryRead A)) (e : EntryRead A) (less : ℕ) : Type 0 where
  pub long : length es + 1 ≡ length all
  pub most : less + 1 ≡ n
  pub undone : IsUndone was.place.text (es ++ e ∷ []) was.place.to
  pub kept : AllKept room (drop (length entries - k) es) × AllWithin e.kept.len (map run_of e.kept.runs) × (e.kept.len ≤ room)

pub entry_turn : {A : Type 0} {text_faithful : Type 0} {first now : List ℕ} {room i : ℕ} {entries all : List (EntryRead A)} {k n : ℕ}
    (was : EntriesLeft text_faithful first now room i entries all k n) {es : List (EntryRead A)} {e : EntryRead A} {less : ℕ} → all ≡ es ++ e ∷ [] → less + 1 ≡ n → EntryTurn was es e less
entry_turn {room = room} {entries = entries} {k = k} was {es = es} {e = e} is most =
    let n : ℕ = length entries - k in
    let long = ap length is ∙ length-append es (e ∷ []) in
    record {
      long = sym long;
      most = most;
      undone = subst (λ fs. IsUndone was.place.text fs was.place.to) is was.place.undone;
      kept = kept_next room n es e (omega (arith, long, most, was.gone, was.more, was.few)) (subst (λ fs. AllKept room (drop n fs)) is was.kept);
    }

-- a front of the text is left
pub left_at : {A : Type 0} {text_faithful : Type 0} {first now : List ℕ} {room i : ℕ} {entries all : List (EntryRead A)} {k n : ℕ}
    (was : EntriesLeft text_faithful first now room i entries all k n) → text_faithful → (fs : List Entry) → IsFinished first fs → HasLeft first now (drop i fs)
left_at was th fs finished =
    let bytes : List ℕ = was.place.text in
    let to : ℕ = was.place.to in
    record {
      front = (drop to bytes, was.place.is th ∙ sym (take-append-drop to bytes) ∙ ap (λ t. t ++ drop to bytes) (sym (was.place.left th)));
      finished = was.dropped th fs finished;
    }

module _ {A : Type 0} {text_faithful : Type 0} {first now : List ℕ} {room i : ℕ} {entries all : List (EntryRead A)} {k n : ℕ}
    {was : EntriesLeft text_faithful first now room i entries all k n} {es : List (EntryRead A)} {e : EntryRead A} {less : ℕ} (turn : EntryTurn was es e less) where
  -- the places of the entry
  pub places : HasMarks was.place.text (entries_onto turn.undone.older es) e.version (entry_of e) e.begins e.saved × (e.saved ≤ was.place.to)
  places = let p = popped was.place.text es e was.place.to turn.undone in (p.1, p.2)

  pub long_at : text_faithful → e.saved ≤ length now
  long_at th = omega (arith, places.1, turn.undone.mark.within, ap length (was.place.left th), length-take was.place.to was.place.text)

  cut_at : {new : List ℕ} → text_faithful → new ≡ take e.begins now → new ≡ take e.begins was.place.text
  cut_at th cut = cut ∙ ap (take e.begins) (was.place.left th) ∙ take-take e.begins was.place.to was.place.text (omega (arith, places.0.order, places.1))

  pub marks_at : text_faithful → HasMarks now (entries_onto turn.undone.older es) e.version (entry_of e) e.begins e.saved
  marks_at th =
      let bytes : List ℕ = was.place.text in
      let to : ℕ = was.place.to in
      let within : e.begins ≤ to = omega (arith, places.0.order, places.1) in
      subst (λ t. HasMarks t (entries_onto turn.undone.older es) e.version (entry_of e) e.begins e.saved) (sym (was.place.left th)) (record {
        beginning = mark_in bytes e.begins to (record { entries = entries_onto turn.undone.older es; stage = Between }) places.0.beginning within turn.undone.mark.within;
        saving = mark_in bytes e.saved to (record { entries = entries_onto turn.undone.older es; stage = Ending e.version (kept_of e.kept) }) places.0.saving places.1 turn.undone.mark.within;
        order = places.0.order;
      })

  pub finished_now : text_faithful → IsFinished now (entry_of e ∷ entries_onto turn.undone.older es)
  finished_now th = subst (λ t. IsFinished t (entry_of e ∷ entries_onto turn.undone.older es)) (sym (was.place.left th))
      (subst (IsFinished (take was.place.to was.place.text)) (onto-push turn.undone.older es e) (finished_mark was.place.text (entries_onto turn.undone.older (es ++ e ∷ [])) was.place.to turn.undone.mark))

  -- the text without the entry
  pub finished_below : {new : List ℕ} → text_faithful → new ≡ take e.begins now → IsFinished new (entries_onto turn.undone.older es)
  finished_below th cut = subst (λ t. IsFinished t (entries_onto turn.undone.older es)) (sym (cut_at th cut)) (finished_mark was.place.text (entries_onto turn.undone.older es) e.begins places.0.beginning)

  pub entries_same : text_faithful → (fs : List Entry) → Reads now (record { entries = fs; stage = Between }) → fs ≡ entry_of e ∷ entries_onto turn.undone.older es
  entries_same th fs reads = one_list now fs (entry_of e ∷ entries_onto turn.undone.older es) reads (finished_now th).reads

  -- behind the turn
  pub one_less : {new : List ℕ} {room_new : ℕ} → (text_faithful → new ≡ take e.begins now) → room ≤ room_new → EntriesLeft text_faithful first new room_new (i + 1) entries es k less
  one_less {new = new} {room_new = room_new} cut more = record {
    gone = omega (arith, was.gone, turn.long);
    more = omega (arith, was.more, turn.most);
    few = was.few;
    place = record {
      text = was.place.text;
      to = e.begins;
      undone = (popped was.place.text es e was.place.to turn.undone).0;
      is = was.place.is;
      left = λ th. cut_at th (cut th);
    };
    dropped = λ th fs finished.
        let left = was.dropped th fs finished in
        let same : drop i fs ≡ entry_of e ∷ entries_onto turn.undone.older es = entries_same th (drop i fs) left.reads in
        subst (IsFinished new) (sym (ap (drop 1) same) ∙ drop_one i fs) (finished_below th (cut th));
    kept = kept_more room room_new (drop (length entries - k) es) turn.kept.0 more;
  }
