-- What some undos take before their first write: the places of their entries, what is overwritten, and records of zeros.
use Rattle.std.proofs.Common.{◌≡◌, ℕ, zero, suc, ◌+◌, ◌-◌, ◌<◌, ◌≤◌, List, [], ◌∷◌, ◌++◌, length, length-append, length-take, take, drop, map, refl, ap, sym, ◌∙◌, subst, arith, Result, Ok, Err}
use Rattle.std.specs.Prelude.{reverse, slice_index_or, OnOk}
use Rattle.std.specs.List.{All}
use Rattle.std.proofs.lemmas.List.{drop_more, take_more, length-reverse, reverse-append, take-append-drop}
use Rattle.bx_image.specs.Change.{restore}
use Rattle.bx_image.specs.Over.{LieWithin}
use Rattle.bx_journal_format.specs.Kept.{kept_of}
use Rattle.bx_journal_format.specs.Text.{Entry, split}
use Rattle.bx_journal_format.specs.declared.read.types.EntryRead.{EntryRead}
use Rattle.bx_journal_format.specs.count.Mark.{HasMarks}
use Rattle.bx_journal_format.specs.Parsed.{entry_of, AreMarked}
use Rattle.bx_journal_protocol.specs.declared.protocol.undo_entry.Placed.{Placed}
use Rattle.bx_journal_protocol.specs.declared.before.overwritten.Overwritten.{Overwritten}
use Rattle.bx_journal_protocol.specs.before.Overwritten.{AreAllWithin, AreOrdered, AreOverwrittenOf, IsOrdered, IsOverwrittenOf, image_below, place_in}
use Rattle.bx_journal_protocol.specs.protocol.Placed.{AllFit, ArePlaced, IsPlaced}
use Rattle.bx_journal_model.specs.Restoring.{IsEnough, StandsAt}
use Rattle.bx_journal_model.proofs.StandLemmas.{stands_of}
use Rattle.bx_journal_protocol.proofs.TakenLemmas.{reverse_last}
use Rattle.bx_journal_format.proofs.Splits.{split-append}

-- what restoring the next entry overwrites
pub overwritten_push : {A B : Type 0} (x : List ℕ) (es : List (EntryRead A)) (os : List (Overwritten B)) (place : ℕ) (d : EntryRead A) (o : Overwritten B) → place < length es
    → AreOverwrittenOf (image_below (drop place es) x) (reverse (take place es)) (reverse os) → IsOverwrittenOf (image_below (drop (place + 1) es) x) (slice_index_or es place d) o
    → AreOverwrittenOf (image_below (drop (place + 1) es) x) (reverse (take (place + 1) es)) (reverse (os ++ o ∷ []))
overwritten_push x es os place d o inside all one =
    let e = slice_index_or es place d in
    let y : List ℕ = image_below (drop (place + 1) es) x in
    let more : reverse (take (place + 1) es) ≡ e ∷ reverse (take place es) = ap reverse (take_more es place d inside) ∙ reverse_last (take place es) e in
    let rest : AreOverwrittenOf (restore e.kept y) (reverse (take place es)) (reverse os) = subst (λ fs. AreOverwrittenOf (image_below fs x) (reverse (take place es)) (reverse os)) (drop_more es place d inside) all in
    subst (λ fs. AreOverwrittenOf y fs (reverse (os ++ o ∷ []))) (sym more) (subst (λ us. AreOverwrittenOf y (e ∷ reverse (take place es)) us) (sym (reverse_last os o)) (one, rest))

-- with older entries, and nothing is said of these
pub overwritten_more : {A B : Type 0} (x : List ℕ) (es fs : List (EntryRead A)) (os : List (Overwritten B)) → AreOverwrittenOf x es os → AreOverwrittenOf x (es ++ fs) os
overwritten_more x es fs [] all = tt
overwritten_more x [] fs (o ∷ os) all = absurd all
overwritten_more x (e ∷ es) fs (o ∷ os) all = (all.0, overwritten_more (restore e.kept x) es fs os all.1)

pub within_push : {B : Type 0} (os : List (Overwritten B)) (o : Overwritten B) → AreAllWithin os → LieWithin o.len o.ranges.items → AreAllWithin (os ++ o ∷ [])
within_push [] o all one = (one, tt)
within_push (u ∷ os) o all one = (all.0, within_push os o all.1 one)

pub within_at : {B : Type 0} (os : List (Overwritten B)) (i : ℕ) (d : Overwritten B) → i < length os → AreAllWithin os → LieWithin (slice_index_or os i d).len (slice_index_or os i d).ranges.items
within_at [] i d inside all = absurd (omega (arith, inside))
within_at (o ∷ os) zero d inside all = all.0
within_at (o ∷ os) (suc i) d inside all = within_at os i d (omega (arith, inside)) all.1

-- the save line of each ends behind its first line
pub ordered_at : {A : Type 0} (es : List (EntryRead A)) (i : ℕ) (d : EntryRead A) → i < length es → AreOrdered es → IsOrdered (slice_index_or es i d)
ordered_at [] i d inside all = absurd (omega (arith, inside))
ordered_at (e ∷ es) zero d inside all = all.0
ordered_at (e ∷ es) (suc i) d inside all = ordered_at es i d (omega (arith, inside)) all.1

pub ordered_drop : {A : Type 0} (n : ℕ) (es : List (EntryRead A)) → AreOrdered es → AreOrdered (drop n es)
ordered_drop zero es all = all
ordered_drop (suc n) [] all = tt
ordered_drop (suc n) (e ∷ es) all = ordered_drop n es all.1

stands_here : {A : Type 0} (text : List ℕ) (done : List Entry) (e : EntryRead A) → HasMarks text done e.version (entry_of e) e.begins e.saved → StandsAt text (place_in e).mark (kept_of e.kept)
stands_here text done e marks = stands_of text done e.version (kept_of e.kept) e.begins e.saved marks.beginning marks.saving marks.order

pub marked_ordered : {A : Type 0} (text : List ℕ) (done : List Entry) (from to : ℕ) (es : List (EntryRead A)) → AreMarked text done from es to → AreOrdered es
marked_ordered text done from to [] marked = tt
marked_ordered text done from to (e ∷ es) marked =
    ((stands_here text done e marked.1).order, marked_ordered text (entry_of e ∷ done) e.saved to es marked.2)

-- where the last entries stand
placed_one : {A : Type 0} (faithful : Type 0) (stored text : List ℕ) (done : List Entry) (e : EntryRead A) → (faithful → stored ≡ text) → HasMarks text done e.version (entry_of e) e.begins e.saved
    → IsPlaced faithful stored e (place_in e)
placed_one faithful stored text done e is marks = record {
  begins = refl;
  saved = refl;
  len = refl;
  stands = λ h. subst (λ u. StandsAt u (place_in e).mark (kept_of e.kept)) (sym (is h)) (stands_here text done e marks);
}

placed_more : {A : Type 0} (faithful : Type 0) (stored : List ℕ) (es fs : List (EntryRead A)) (ps : List Placed) → ArePlaced faithful stored es ps → ArePlaced faithful stored (es ++ fs) ps
placed_more faithful stored es fs [] placed = tt
placed_more faithful stored [] fs (p ∷ ps) placed = absurd placed
placed_more faithful stored (e ∷ es) fs (p ∷ ps) placed = (placed.0, placed_more faithful stored es fs ps placed.1)

placed_next : {A : Type 0} (faithful : Type 0) (stored : List ℕ) (es : List (EntryRead A)) (ps : List Placed) (e : EntryRead A) (p : Placed) → length ps ≡ length es → ArePlaced faithful stored es ps
    → IsPlaced faithful stored e p → ArePlaced faithful stored (es ++ e ∷ []) (ps ++ p ∷ [])
placed_next faithful stored [] [] e p long placed one = (one, tt)
placed_next faithful stored [] (q ∷ ps) e p long placed one = absurd placed
placed_next faithful stored (f ∷ es) [] e p long placed one = absurd (omega (arith, long))
placed_next faithful stored (f ∷ es) (q ∷ ps) e p long placed one = (placed.0, placed_next faithful stored es ps e p (omega (arith, long)) placed.1 one)

length_map : {X Y : Type 0} (f : X → Y) (xs : List X) → length (map f xs) ≡ length xs
length_map f [] = refl
length_map f (x ∷ xs) = ap suc (length_map f xs)

pub placed_last : {A : Type 0} (faithful : Type 0) (stored text : List ℕ) (done : List Entry) (from to : ℕ) (es : List (EntryRead A)) (n : ℕ) → (faithful → stored ≡ text)
    → AreMarked text done from es to → ArePlaced faithful stored (reverse es) (reverse (map place_in (drop n es)))
placed_last faithful stored text done from to [] zero is marked = tt
placed_last faithful stored text done from to [] (suc n) is marked = tt
placed_last faithful stored text done from to (e ∷ es) zero is marked =
    let ps : List Placed = map place_in es in
    let long : length (reverse ps) ≡ length (reverse es) = length-reverse ps ∙ length_map place_in es ∙ sym (length-reverse es) in
    let rest : ArePlaced faithful stored (reverse es) (reverse ps) = placed_last faithful stored text (entry_of e ∷ done) e.saved to es zero is marked.2 in
    subst (λ fs. ArePlaced faithful stored fs (reverse (place_in e ∷ ps))) (sym (reverse-append (e ∷ []) es))
    (subst (ArePlaced faithful stored (reverse es ++ e ∷ [])) (sym (reverse-append (place_in e ∷ []) ps))
    (placed_next faithful stored (reverse es) (reverse ps) e (place_in e) long rest (placed_one faithful stored text done e is marked.1)))
placed_last faithful stored text done from to (e ∷ es) (suc n) is marked =
    let ps : List Placed = reverse (map place_in (drop n es)) in
    let rest : ArePlaced faithful stored (reverse es) ps = placed_last faithful stored text (entry_of e ∷ done) e.saved to es n is marked.2 in
    subst (λ fs. ArePlaced faithful stored fs ps) (sym (reverse-append (e ∷ []) es)) (placed_more faithful stored (reverse es) (e ∷ []) ps rest)

-- they lie in order, within the room of an image
pub places_fit : {A : Type 0} (es : List (EntryRead A)) (window longest room : ℕ) → AreOrdered es → All (λ (e : EntryRead A). e.kept.len ≤ longest) es → longest ≤ room → IsEnough window
    → AllFit room window (map place_in es)
places_fit [] window longest room order below le fits = tt
places_fit (e ∷ es) window longest room order below le fits =
    (omega arith, order.0, omega (arith, below 0 e (omega arith), le), fits, places_fit es window longest room order.1 (λ k d h. below (suc k) d (omega (arith, h))) le fits)

pub places_many : {A : Type 0} (es : List (EntryRead A)) (k : ℕ) (ps : List Placed) → k ≤ length es → ps ≡ map place_in (drop (length es - k) es) → length ps ≡ k
places_many es k ps few is =
    let n : ℕ = length es - k in
    let whole : length es ≡ length (take n es) + length (drop n es) = ap length (sym (take-append-drop n es)) ∙ length-append (take n es) (drop n es) in
    ap length is ∙ length_map place_in (drop n es) ∙ omega (arith, whole, length-take n es, few)

pub fit_more : (room more window : ℕ) (ps : List Placed) → room ≤ more → AllFit room window ps → AllFit more window ps
fit_more room more window [] le fit = tt
fit_more room more window (p ∷ ps) le fit = (fit.0, fit.1, omega (arith, fit.2, le), fit.3, fit_more room more window ps le fit.4)

-- what holds of the answers that are none, and of the others
pub on_ok : {V E P Q : Type 0} (r : Result V E) → OnOk r P → (P → Q) → OnOk r Q
on_ok (Ok v) p f = f p
on_ok (Err e) p f = tt
