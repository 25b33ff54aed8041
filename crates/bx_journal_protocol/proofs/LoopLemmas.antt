-- One turn of the undos: the newest entry is taken off the text that the entries stand in, and the record of what the turn takes of the image off the records.
use Rattle.std.proofs.Common.{◌≡◌, ℕ, ◌+◌, ◌-◌, ◌≤◌, List, [], ◌∷◌, ◌++◌, length, map, take, drop, ap, sym, ◌∙◌, subst, arith, length-append}
use Rattle.std.specs.Prelude.{reverse}
use Rattle.bx_image.specs.declared.record.Saved.{Saved}
use Rattle.bx_image.specs.Change.{restore, AllWithin}
use Rattle.bx_image.specs.declared.change.TheConstants.{MAX_LEN}
use Rattle.bx_journal_format.specs.Kept.{run_of, kept_of}
use Rattle.bx_journal_format.specs.Entry.{entry_text}
use Rattle.bx_journal_format.specs.Finished.{IsFinished}
use Rattle.bx_journal_format.specs.Text.{Entry, Between, Reads}
use Rattle.bx_journal_format.specs.declared.read.types.EntryRead.{EntryRead}
use Rattle.bx_journal_format.specs.count.Mark.{HasMarks}
use Rattle.bx_journal_format.specs.Parsed.{AllKept, entry_of, entries_onto}
use Rattle.bx_journal_format.proofs.KeptLemmas.{same_restore}
use Rattle.bx_journal_model.specs.Images.{Images}
use Rattle.bx_journal_model.specs.Undoing.{HasLeft, AreReadFrom}
use Rattle.bx_journal_protocol.specs.protocol.Takens.{IsTakenBy, AllShaped, AreFilled, AreReady, AreRoomFrom, IsFirstBelow, LieBehind, LieInTurn, entries_len}
use Rattle.bx_journal_protocol.specs.protocol.Turns.{AreAtRest, AreStanding}
use Rattle.bx_journal_protocol.proofs.EntryLoop.{EntriesLeft, EntryTurn, all_left, entry_turn, one_less, left_at as front_left, places as entry_places, long_at as entry_within, marks_at as entry_marks, finished_below as without_entry, entries_same as same_entries}
use Rattle.bx_journal_protocol.proofs.LeftOut.{ready_behind}
use Rattle.bx_journal_protocol.proofs.PlacedLemmas.{kept_reading}
use Rattle.bx_journal_protocol.proofs.TakenLemmas.{len_pop, reverse_last, shaped_pop}
use Rattle.bx_journal_model.proofs.UndoLoop.{IsUndone, IsUndoing}

pub standing : {text x redo : List ℕ} {s : Images} → AreAtRest text x redo s → AreStanding text x redo s
standing rest = record { stands = rest.rest.stands; undone = rest.undone }

-- behind i turns: the entries that are left, in a text that was `first` and is now the front of it that ends with them, and the records, the newest filled from the image x
pub record AreLeft {A : Type 0} (text_faithful faithful : Type 0) (first now x : List ℕ) (i : ℕ) (entries es : List (EntryRead A)) (takens ts : List (Saved A)) : Type 0 where
  pub gone : length es + i ≡ length entries
  pub more : length ts + i ≡ length takens
  pub few : length takens ≤ length entries
  pub place : IsUndoing text_faithful first now es
  pub dropped : text_faithful → (fs : List Entry) → IsFinished first fs → IsFinished now (drop i fs)
  pub kept : AllKept MAX_LEN (drop (length entries - length takens) es)
  pub shaped : AllShaped ts
  pub ready : text_faithful → faithful → AreReady x (reverse es) (reverse ts)
  pub behind : faithful → LieBehind (reverse es) (reverse ts)

pub none_gone : {A : Type 0} {text_faithful faithful : Type 0} {stored x : List ℕ} {entries : List (EntryRead A)} {takens : List (Saved A)} → AreReadFrom text_faithful stored entries → length takens ≤ length entries
    → AllShaped takens → (faithful → AreReady x (reverse entries) (reverse takens)) → AreLeft text_faithful faithful stored stored x 0 entries entries takens takens
none_gone {x = x} {entries = entries} {takens = takens} read few shaped ready =
    let left = all_left {room = MAX_LEN} read few (kept_reading read (length entries - length takens)) in record {
      gone = left.gone;
      more = left.more;
      few = few;
      place = left.place;
      dropped = left.dropped;
      kept = left.kept;
      shaped = shaped;
      ready = λ th h. ready h;
      behind = λ h. ready_behind x (reverse entries) (reverse takens) (ready h);
    }

-- without the records
abbrev entries_of : {A : Type 0} {text_faithful faithful : Type 0} {first now x : List ℕ} {i : ℕ} {entries es : List (EntryRead A)} {takens ts : List (Saved A)}
    → AreLeft text_faithful faithful first now x i entries es takens ts → EntriesLeft text_faithful first now MAX_LEN i entries es (length takens) (length ts)
entries_of was = record { gone = was.gone; more = was.more; few = was.few; place = was.place; dropped = was.dropped; kept = was.kept }

-- what a turn takes off, which are the last of both
pub record IsTurn {A : Type 0} {text_faithful faithful : Type 0} {first now x : List ℕ} {i : ℕ} {entries all : List (EntryRead A)} {takens records : List (Saved A)}
    (was : AreLeft text_faithful faithful first now x i entries all takens records) (es : List (EntryRead A)) (e : EntryRead A) (ts : List (Saved A)) (t : Saved A) : Type 0 where
  pub long : length es + 1 ≡ length all
  pub most : length ts + 1 ≡ length records
  pub lens : entries_len records ≡ entries_len ts + length (entry_text 0 (kept_of t) 0)
  pub undone : IsUndone was.place.text (es ++ e ∷ []) was.place.to
  pub shaped : AllShaped ts × AllWithin t.len t.runs
  pub kept : AllKept MAX_LEN (drop (length entries - length takens) es) × AllWithin e.kept.len (map run_of e.kept.runs) × (e.kept.len ≤ MAX_LEN)
  pub ready : text_faithful → faithful → IsTakenBy x e t × AreRoomFrom (restore e.kept x) (reverse es) (reverse ts)
  pub behind : faithful → LieInTurn e.kept.len (reverse es) (reverse ts)

-- the newest record and the others
ready_pop : {A : Type 0} (x : List ℕ) (es : List (EntryRead A)) (e : EntryRead A) (ts : List (Saved A)) (t : Saved A) → AreReady x (reverse (es ++ e ∷ [])) (reverse (ts ++ t ∷ [])) → IsTakenBy x e t × AreRoomFrom (restore e.kept x) (reverse es) (reverse ts)
ready_pop x es e ts t ready = subst (λ us. AreReady x (e ∷ reverse es) us) (reverse_last ts t) (subst (λ fs. AreReady x fs (reverse (ts ++ t ∷ []))) (reverse_last es e) ready)

behind_pop : {A : Type 0} (es : List (EntryRead A)) (e : EntryRead A) (ts : List (Saved A)) (t : Saved A) → LieBehind (reverse (es ++ e ∷ [])) (reverse (ts ++ t ∷ [])) → LieInTurn e.kept.len (reverse es) (reverse ts)
behind_pop es e ts t behind = subst (LieBehind (e ∷ reverse es)) (reverse_last ts t) (subst (λ fs. LieBehind fs (reverse (ts ++ t ∷ []))) (reverse_last es e) behind)

pub turn_of : {A : Type 0} {text_faithful faithful : Type 0} {first now x : List ℕ} {i : ℕ} {entries all : List (EntryRead A)} {takens records : List (Saved A)}
    (was : AreLeft text_faithful faithful first now x i entries all takens records) {es : List (EntryRead A)} {e : EntryRead A} {ts : List (Saved A)} {t : Saved A} → all ≡ es ++ e ∷ [] → records ≡ ts ++ t ∷ [] → IsTurn was es e ts t
turn_of {x = x} {records = records} was {es = es} {e = e} {ts = ts} {t = t} is ends =
    let turn = entry_turn (entries_of was) {less = length ts} is (sym (ap length ends ∙ length-append ts (t ∷ []))) in
    record {
      long = turn.long;
      most = turn.most;
      lens = ap entries_len ends ∙ len_pop ts t;
      undone = turn.undone;
      shaped = shaped_pop ts t (subst AllShaped ends was.shaped);
      kept = turn.kept;
      ready = λ th h. ready_pop x es e ts t (subst (λ us. AreReady x (reverse (es ++ e ∷ [])) (reverse us)) ends (subst (λ fs. AreReady x (reverse fs) (reverse records)) is (was.ready th h)));
      behind = λ h. behind_pop es e ts t (subst (λ us. LieBehind (reverse (es ++ e ∷ [])) (reverse us)) ends (subst (λ fs. LieBehind (reverse fs) (reverse records)) is (was.behind h)));
    }

first_in_turn : {A : Type 0} (len : ℕ) (es : List (EntryRead A)) (ts : List (Saved A)) → LieInTurn len es ts → IsFirstBelow len ts
first_in_turn len es [] z = tt
first_in_turn len [] (t ∷ ts) z = absurd z
first_in_turn len (e ∷ es) (t ∷ ts) z = z.0

-- a front of the text is left
pub left_at : {A : Type 0} {text_faithful faithful : Type 0} {first now x : List ℕ} {i : ℕ} {entries all : List (EntryRead A)} {takens records : List (Saved A)}
    (was : AreLeft text_faithful faithful first now x i entries all takens records) → text_faithful → (fs : List Entry) → IsFinished first fs → HasLeft first now (drop i fs)
left_at was th fs finished = front_left (entries_of was) th fs finished

module _ {A : Type 0} {text_faithful faithful : Type 0} {first now x : List ℕ} {i : ℕ} {entries all : List (EntryRead A)} {takens records : List (Saved A)}
    {was : AreLeft text_faithful faithful first now x i entries all takens records} {es : List (EntryRead A)} {e : EntryRead A} {ts : List (Saved A)} {t : Saved A} (turn : IsTurn was es e ts t) where
  -- without the record
  abbrev alone : EntryTurn (entries_of was) es e (length ts)
  alone = record { long = turn.long; most = turn.most; undone = turn.undone; kept = turn.kept }

  pub places : HasMarks was.place.text (entries_onto turn.undone.older es) e.version (entry_of e) e.begins e.saved × (e.saved ≤ was.place.to)
  places = entry_places alone

  pub long_at : text_faithful → e.saved ≤ length now
  long_at th = entry_within alone th

  pub marks_at : text_faithful → HasMarks now (entries_onto turn.undone.older es) e.version (entry_of e) e.begins e.saved
  marks_at th = entry_marks alone th

  -- the text without the entry
  pub finished_below : {new : List ℕ} → text_faithful → new ≡ take e.begins now → IsFinished new (entries_onto turn.undone.older es)
  finished_below th cut = without_entry alone th cut

  pub entries_same : text_faithful → (fs : List Entry) → Reads now (record { entries = fs; stage = Between }) → fs ≡ entry_of e ∷ entries_onto turn.undone.older es
  entries_same th fs reads = same_entries alone th fs reads

  in_turn_at : (y : List ℕ) → faithful → length y ≡ e.kept.len → LieInTurn (length y) (reverse es) (reverse ts)
  in_turn_at y h long = subst (λ n. LieInTurn n (reverse es) (reverse ts)) (sym long) (turn.behind h)

  pub first_below : (y : List ℕ) → faithful → length y ≡ e.kept.len → IsFirstBelow (length y) (reverse ts)
  first_below y h long = first_in_turn (length y) (reverse es) (reverse ts) (in_turn_at y h long)

  -- behind the turn
  pub one_gone : {new z : List ℕ} {filled : List (Saved A)} → (text_faithful → new ≡ take e.begins now) → (faithful → length z ≡ e.kept.len) → (text_faithful → faithful → z ≡ restore (kept_of e.kept) x)
      → (AllShaped ts → AllShaped filled) → length filled ≡ length ts → (faithful → AreFilled z ts filled) → AreLeft text_faithful faithful first new z (i + 1) entries es takens filled
  one_gone {z = z} cut long restored shaped count filled =
      let left = one_less alone {room_new = MAX_LEN} cut (omega arith) in record {
        gone = left.gone;
        more = omega (arith, left.more, count);
        few = was.few;
        place = left.place;
        dropped = left.dropped;
        kept = left.kept;
        shaped = shaped turn.shaped.0;
        ready = λ th h. (filled h).ready (reverse es) (subst (λ w. AreRoomFrom w (reverse es) (reverse ts)) (sym (restored th h ∙ same_restore e.kept x)) (turn.ready th h).1);
        behind = λ h. (filled h).behind (length z) (reverse es) (in_turn_at z h (long h));
      }
