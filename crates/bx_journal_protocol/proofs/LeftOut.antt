-- Records that leave zeros out give the image back.
use Rattle.std.proofs.Common.{◌≡◌, ℕ, ◌+◌, ◌<◌, ◌≤◌, inl, inr, Option, None, Some, List, [], ◌∷◌, ◌++◌, slice_index, length, map, refl, ap, sym, ◌∙◌, subst, arith}
use Rattle.std.specs.Prelude.{◌⊎◌, reverse}
use Rattle.std.specs.Option.{unwrap_or}
use Rattle.bx_text.specs.declared.owned.pieces.Piece.{Piece}
use Rattle.bx_image.specs.declared.change.Change.{Change}
use Rattle.bx_image.specs.declared.change.TheConstants.{MAX_LEN}
use Rattle.bx_image.specs.declared.record.Saved.{Saved}
use Rattle.bx_image.specs.declared.record.spans.Span.{Span}
use Rattle.bx_image.specs.Change.{byte_in, restore, saved, IsOf}
use Rattle.bx_image.specs.Image.{zeros}
use Rattle.bx_image.specs.Over.{run_over, saved_over, LeavesZerosOut, LieWithin}
use Rattle.bx_image.specs.Runs.{AreRunsOf, HaveShape, LieBelow}
use Rattle.bx_image.specs.private.Spans.{StandOver}
use Rattle.bx_image.proofs.FillLemmas.{length-zeros}
use Rattle.bx_image.proofs.Images.{same_image, slice_index_past}
use Rattle.bx_image.proofs.OverLemmas.{runs_are, stand_over}
use Rattle.bx_image.proofs.Records.{length-restore, restore-saved, slice_index-restore}
use Rattle.bx_journal_format.specs.Kept.{Kept, kept_of}
use Rattle.bx_journal_format.specs.declared.read.types.EntryRead.{EntryRead}
use Rattle.bx_journal_format.proofs.KeptLemmas.{is_of_in, same_byte}
use Rattle.bx_journal_protocol.specs.declared.before.overwritten.Overwritten.{Overwritten}
use Rattle.bx_journal_protocol.specs.before.Overwritten.{AreOverwrittenOf, HaveRoom, IsOverwrittenOf}
use Rattle.bx_journal_model.specs.Taken.{taken, IsKeptOf}
use Rattle.bx_journal_protocol.specs.protocol.Takens.{AreReady, AreRoomFrom, IsFirstBelow, IsRoomFor, LieBehind, LieInTurn}
use Rattle.bx_journal_protocol.proofs.Restored.{back_of, keeps_restored}
use Rattle.bx_journal_protocol.proofs.TakenLemmas.{reverse_last}
use Rattle.bx_journal_protocol.proofs.TakenText.{saved_in}

-- what was taken gives the image back
pub taken_back : (e : Kept) (y : List ℕ) → restore (taken e y) (restore e y) ≡ y
taken_back e y = restore-saved (back_of e) y (restore e y) (keeps_restored e y)

-- and so does what leaves zeros out
pub kept_back : (e : Kept) (x : List ℕ) (s : Kept) → IsKeptOf e x s → restore s (restore e x) ≡ x
kept_back e x s kept = same_image (restore s y) (restore (taken e x) y) (length-restore s y ∙ kept.zeros.len ∙ sym (length-restore (taken e x) y)) one ∙ taken_back e x
  where
    y : List ℕ
    y = restore e x

    here : (i : ℕ) (b : Option ℕ) → i < s.len → byte_in s.runs i ≡ b → slice_index (restore s y) i ≡ unwrap_or b (slice_index y i)
    here i b low is = slice_index-restore s y i low ∙ ap (λ o. unwrap_or o (slice_index y i)) is

    there : (i : ℕ) (b : Option ℕ) → i < s.len → byte_in (taken e x).runs i ≡ b → slice_index (restore (taken e x) y) i ≡ unwrap_or b (slice_index y i)
    there i b low is = slice_index-restore (taken e x) y i (omega (arith, low, kept.zeros.len)) ∙ ap (λ o. unwrap_or o (slice_index y i)) is

    by_case : (i : ℕ) → i < s.len → (byte_in s.runs i ≡ byte_in (taken e x).runs i) ⊎ ((e.len ≤ i) × (byte_in s.runs i ≡ None) × (byte_in (taken e x).runs i ≡ Some 0))
        → slice_index (restore s y) i ≡ slice_index (restore (taken e x) y) i
    by_case i low (inl same) = here i (byte_in (taken e x).runs i) low same ∙ sym (there i (byte_in (taken e x).runs i) low refl)
    by_case i low (inr out) = here i None low out.1 ∙ slice_index_past y i (omega (arith, length-restore e x, out.0)) ∙ sym (there i (Some 0) low out.2)

    one : (i : ℕ) → i < length (restore s y) → slice_index (restore s y) i ≡ slice_index (restore (taken e x) y) i
    one i low = let within : i < s.len = omega (arith, low, length-restore s y) in by_case i within (kept.zeros.bytes i)

-- the change that puts an entry's record back
abbrev entry_back : {A : Type 0} → EntryRead A → Change A
entry_back e = record { base = Some e.kept.len; writes = e.kept.runs }

-- the same record of no allocator
pub kept_from : {A : Type 0} (e : EntryRead A) (x : List ℕ) (new : Saved A) → IsOf new x → LeavesZerosOut e.kept.len (saved (entry_back e) x) new → IsKeptOf (kept_of e.kept) x (kept_of new)
kept_from {A = A} e x new of_x left = record {
  of_x = is_of_in new x of_x;
  zeros = record { len = left.len ∙ ap (λ (s : Kept). s.len) full_is; bytes = λ i. by_case i (left.bytes i) };
}
  where
    full : Saved A
    full = saved (entry_back e) x

    full_is : kept_of full ≡ taken (kept_of e.kept) x
    full_is = saved_in (entry_back e) x

    full_byte : (i : ℕ) → byte_in full.runs i ≡ byte_in (taken (kept_of e.kept) x).runs i
    full_byte i = sym (same_byte full.runs i) ∙ ap (λ (s : Kept). byte_in s.runs i) full_is

    by_case : (i : ℕ) → (byte_in new.runs i ≡ byte_in full.runs i) ⊎ ((e.kept.len ≤ i) × (byte_in new.runs i ≡ None) × (byte_in full.runs i ≡ Some 0))
        → (byte_in (kept_of new).runs i ≡ byte_in (taken (kept_of e.kept) x).runs i) ⊎ ((e.kept.len ≤ i) × (byte_in (kept_of new).runs i ≡ None) × (byte_in (taken (kept_of e.kept) x).runs i ≡ Some 0))
    by_case i (inl same) = inl (same_byte new.runs i ∙ same ∙ full_byte i)
    by_case i (inr out) = inr (out.0, same_byte new.runs i ∙ out.1, sym (full_byte i) ∙ out.2)

-- where records can be filled in turn, each lies below its image's length
pub in_turn : {A : Type 0} (x : List ℕ) (es : List (EntryRead A)) (ts : List (Saved A)) → AreRoomFrom x es ts → LieInTurn (length x) es ts
in_turn x es [] all = tt
in_turn x [] (t ∷ ts) all = absurd all
in_turn x (e ∷ es) (t ∷ ts) all = (all.0.below, subst (λ n. LieInTurn n es ts) (length-restore e.kept x) (in_turn (restore e.kept x) es ts all.1))

pub ready_behind : {A : Type 0} (x : List ℕ) (es : List (EntryRead A)) (ts : List (Saved A)) → AreReady x es ts → LieBehind es ts
ready_behind x es [] all = tt
ready_behind x [] (t ∷ ts) all = absurd all
ready_behind x (e ∷ es) (t ∷ ts) all = subst (λ n. LieInTurn n es ts) (length-restore e.kept x) (in_turn (restore e.kept x) es ts all.1)

pub first_of_rooms : {A : Type 0} (x : List ℕ) (es : List (EntryRead A)) (ts : List (Saved A)) → AreRoomFrom x es ts → IsFirstBelow (length x) ts
first_of_rooms x es [] all = tt
first_of_rooms x [] (t ∷ ts) all = absurd all
first_of_rooms x (e ∷ es) (t ∷ ts) all = all.0.below

-- a record of zeros over ranges can be filled from the image that they are of
stand_shape : {A : Type 0} (spans : List Span) (olds : List (Piece A)) (news : List (Piece A)) → StandOver spans olds → HaveShape olds news → StandOver spans news
stand_shape [] [] [] stand shape = tt
stand_shape [] [] (r ∷ news) stand shape = absurd shape
stand_shape [] (o ∷ olds) news stand shape = absurd stand
stand_shape (s ∷ spans) [] news stand shape = absurd stand
stand_shape (s ∷ spans) (o ∷ olds) [] stand shape = absurd shape
stand_shape (s ∷ spans) (o ∷ olds) (r ∷ news) stand shape =
    (shape.0 ∙ stand.0, omega (arith, shape.0, shape.1, stand.1), stand_shape spans olds news stand.2 shape.2)

room_of_ranges : {A B : Type 0} (x : List ℕ) (e : EntryRead A) (o : Overwritten B) (t : Saved A) → IsOverwrittenOf x e o → t ≡ saved_over (zeros o.len) o.ranges.items → LieBelow o.len t.runs → IsRoomFor x e t
room_of_ranges {A = A} x e o t over is below = record {
  len_is = len;
  below = subst (λ n. LieBelow n t.runs) over.len_is below;
  fills = λ new same shape read of_x long.
      let spans : List Span = o.ranges.items in
      let runs : t.runs ≡ map (run_over (zeros o.len)) spans = ap (λ (s : Saved _). s.runs) is in
      let within : LieWithin (length (zeros o.len)) spans = subst (λ n. LieWithin n spans) (sym (length-zeros o.len ∙ over.len_is)) over.within in
      let stand : StandOver spans t.runs = subst (StandOver spans) (sym runs) (stand_over A (zeros o.len) spans within) in
      let runs_is : new.runs ≡ map (run_over x) spans = runs_are x spans new.runs over.within (stand_shape spans t.runs new.runs stand shape) read in
      let left = over.saved long (entry_back e) (record { base = refl; writes = refl }) in
      let full : Saved A = saved (entry_back e) x in
      kept_from e x new of_x (record {
        len = same ∙ len ∙ left.len;
        bytes = λ i. subst (λ rs. (byte_in rs i ≡ byte_in full.runs i) ⊎ ((e.kept.len ≤ i) × (byte_in rs i ≡ None) × (byte_in full.runs i ≡ Some 0))) (sym runs_is) (left.bytes i);
      });
}
  where
    len : t.len ≡ length x
    len = ap (λ (s : Saved _). s.len) is ∙ length-zeros o.len ∙ over.len_is

pub room_next : {A : Type 0} (os : List (Overwritten A)) (ts : List (Saved A)) (o : Overwritten A) (t : Saved A) → HaveRoom os ts → t ≡ saved_over (zeros o.len) o.ranges.items → LieBelow o.len t.runs
    → HaveRoom (os ++ o ∷ []) (ts ++ t ∷ [])
room_next {A = A} os ts o t all is below x es over =
    subst (AreRoomFrom x es) (sym (reverse_last ts t)) (go es (subst (AreOverwrittenOf x es) (reverse_last os o) over))
  where
    go : (fs : List (EntryRead A)) → AreOverwrittenOf x fs (o ∷ reverse os) → AreRoomFrom x fs (t ∷ reverse ts)
    go [] here = absurd here
    go (e ∷ fs) here = (room_of_ranges x e o t here.0 is below, all (restore e.kept x) fs here.1)
