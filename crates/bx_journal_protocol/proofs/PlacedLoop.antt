-- One turn of the undos, by the places of the entries: the last place is taken off, and what is known of its entry.
use Rattle.std.proofs.Common.{◌≡◌, ℕ, ◌+◌, ◌≤◌, List, [], ◌∷◌, ◌++◌, length, take, ap, sym, ◌∙◌, subst, arith, length-append}
use Rattle.std.specs.Prelude.{reverse}
use Rattle.bx_image.specs.declared.record.Saved.{Saved}
use Rattle.bx_image.specs.Change.{restore}
use Rattle.bx_journal_format.specs.Kept.{kept_of}
use Rattle.bx_journal_format.specs.declared.read.types.EntryRead.{EntryRead}
use Rattle.bx_journal_protocol.specs.declared.protocol.undo_entry.Placed.{Placed}
use Rattle.bx_journal_protocol.specs.protocol.Placed.{AllFit, ArePlaced, ArePrepared, IsPlaced}
use Rattle.bx_journal_protocol.specs.protocol.Takens.{AllShaped, AreFilled}
use Rattle.bx_journal_protocol.proofs.LoopLemmas.{AreLeft, IsTurn, long_at, none_gone, one_gone, places, turn_of}
use Rattle.bx_journal_protocol.proofs.PlacedLemmas.{Fits, all_before, fit_more, fit_popped, place_popped, placed_cut}
use Rattle.bx_journal_model.proofs.UndoLoop.{popped}

-- behind i turns: the places that are left, for entries that stand in what is left of the text
pub record PlacesLeft {A : Type 0} (text_faithful faithful : Type 0) (first now x : List ℕ) (room window i : ℕ) (takens ts : List (Saved A)) (ps : List Placed) : Type 0 where
  pub entries : List (EntryRead A)
  pub all : List (EntryRead A)
  pub left : AreLeft text_faithful faithful first now x i entries all takens ts
  pub placed : ArePlaced text_faithful now (reverse all) (reverse ps)
  pub fit : AllFit room window ps
  pub same : length ps ≡ length ts

pub all_placed : {A : Type 0} {text_faithful faithful : Type 0} {stored x : List ℕ} {room window : ℕ} {takens : List (Saved A)} {ps : List Placed} → ArePrepared faithful x text_faithful stored ps takens → AllShaped takens → AllFit room window ps
    → length ps ≡ length takens → PlacesLeft text_faithful faithful stored stored x room window 0 takens takens ps
all_placed prepared shaped fit same = record {
  entries = prepared.entries;
  all = prepared.entries;
  left = none_gone prepared.read prepared.few shaped prepared.ready;
  placed = prepared.placed;
  fit = fit;
  same = same;
}

-- what a turn takes off: the last place, whose entry is the newest, and the last record
pub record PlacedTurn {A : Type 0} {text_faithful faithful : Type 0} {first now x : List ℕ} {room window i : ℕ} {takens records : List (Saved A)} {all : List Placed}
    (was : PlacesLeft text_faithful faithful first now x room window i takens records all) (ps : List Placed) (p : Placed) (ts : List (Saved A)) (t : Saved A) : Type 0 where
  pub es : List (EntryRead A)
  pub e : EntryRead A
  pub turn : IsTurn was.left es e ts t
  pub placed : IsPlaced text_faithful now e p
  pub below : ArePlaced text_faithful now (reverse es) (reverse ps)
  pub fit : AllFit room window ps × Fits room window p
  pub same : length ps ≡ length ts

pub placed_turn : {A : Type 0} {text_faithful faithful : Type 0} {first now x : List ℕ} {room window i : ℕ} {takens records : List (Saved A)} {all : List Placed}
    (was : PlacesLeft text_faithful faithful first now x room window i takens records all) {ps : List Placed} {p : Placed} {ts : List (Saved A)} {t : Saved A} → all ≡ ps ++ p ∷ [] → records ≡ ts ++ t ∷ [] → PlacedTurn was ps p ts t
placed_turn was {ps = ps} {p = p} {ts = ts} {t = t} is ends =
    let last = place_popped ps is was.placed in
    record {
      es = last.below;
      e = last.entry;
      turn = turn_of was.left last.is ends;
      placed = last.placed;
      below = last.rest;
      fit = fit_popped ps is was.fit;
      same = omega (arith, was.same, ap length is ∙ length-append ps (p ∷ []), ap length ends ∙ length-append ts (t ∷ []));
    }

module _ {A : Type 0} {text_faithful faithful : Type 0} {first now x : List ℕ} {room window i : ℕ} {takens records : List (Saved A)} {all : List Placed}
    {was : PlacesLeft text_faithful faithful first now x room window i takens records all} {ps : List Placed} {p : Placed} {ts : List (Saved A)} {t : Saved A} (last : PlacedTurn was ps p ts t) where
  pub saved_within : text_faithful → p.mark.saved ≤ length now
  saved_within th = omega (arith, long_at last.turn th, last.placed.saved)

  -- behind the turn
  pub one_taken : {new z : List ℕ} {room_new window_new : ℕ} {filled : List (Saved A)} → (text_faithful → new ≡ take last.e.begins now) → (faithful → length z ≡ last.e.kept.len)
      → (text_faithful → faithful → z ≡ restore (kept_of last.e.kept) x) → room ≤ room_new → window_new ≡ window
      → (AllShaped ts → AllShaped filled) → length filled ≡ length ts → (faithful → AreFilled z ts filled) → PlacesLeft text_faithful faithful first new z room_new window_new (i + 1) takens filled ps
  one_taken {new = new} {room_new = room_new} {window_new = window_new} cut long restored more same shaped count filled =
      let older = (popped was.left.place.text last.es last.e was.left.place.to last.turn.undone).0 in
      let before = all_before was.left.place.text older.older 0 last.e.begins last.es older.marked in
      record {
        entries = was.entries;
        all = last.es;
        left = one_gone last.turn cut long restored shaped count filled;
        placed = placed_cut text_faithful now new last.e.begins (reverse last.es) (reverse ps) (λ th. omega (arith, long_at last.turn th, (places last.turn).0.order)) cut before last.below;
        fit = subst (λ w. AllFit room_new w ps) (sym same) (fit_more room room_new window ps more last.fit.0);
        same = last.same ∙ sym count;
      }
