-- The ranges that redos will touch, one after another.
use Rattle.std.proofs.Common.{◌≡◌, ℕ, zero, suc, ◌+◌, ◌^◌, ◌<◌, ◌≤◌, List, [], ◌∷◌, ◌++◌, length, take, drop, ap, sym, ◌∙◌, subst, arith, Result, Ok, Err}
use Rattle.std.specs.Prelude.{reverse, slice_index_or, IfOk, OnOk, Vec}
use Rattle.std.proofs.lemmas.List.{take_more}
use Rattle.bx_image.specs.declared.change.Change.{Change}
use Rattle.bx_image.specs.declared.change.TheConstants.{MAX_LEN}
use Rattle.bx_image.specs.declared.record.spans.Span.{Span}
use Rattle.bx_image.specs.Change.{saved, HaveBytes, IsOf, Restores}
use Rattle.bx_image.specs.Over.{LieWithin}
use Rattle.bx_journal_format.specs.Entry.{head_text}
use Rattle.bx_journal_format.specs.Kept.{Kept, kept_of}
use Rattle.bx_journal_format.specs.declared.read.types.EntryRead.{EntryRead}
use Rattle.bx_journal_protocol.specs.declared.write.head.Place.{Place}
use Rattle.bx_journal_protocol.specs.write.Ranges.{head_from, kept_over, left_len, rest_len, AreRanges, IsPlace}
use Rattle.bx_journal_protocol.specs.protocol.Takens.{length_at}
use Rattle.bx_journal_protocol.specs.write.Touched.{AreTouched, AreToldRanges, IsHeadBegun, IsFirstBegun, IsFirstWithin, IsTouched, entries_over}
use Rattle.bx_journal_protocol.proofs.RangeLemmas.{are_ranges, kept_as, kept_of_image, ranges_more}
use Rattle.bx_journal_protocol.proofs.TakenLemmas.{last_is, reverse_last}
use Rattle.bx_journal_protocol.proofs.TakingLemmas.{length_here}

-- what the entry that is written when e is restored keeps of the image x
pub record IsKeptOf {A : Type 0} (faithful : Type 0) (x : List ℕ) (e : EntryRead A) (s : Kept) : Type 0 where
  pub short : faithful → length x ≤ MAX_LEN
  pub of_x : faithful → IsOf s x
  pub is : faithful → (c : Change A) → Restores c e.kept → s ≡ kept_of (saved c x)

-- it is what the image has in the ranges that e touches, once these were looked at
pub kept_by : {A faithful : Type 0} {x : List ℕ} {len : ℕ} {e : EntryRead A} {r : List Span} → IsTouched len e r → (faithful → len ≡ length x) → (faithful → HaveBytes (kept_over x r).runs)
    → IsKeptOf faithful x e (kept_over x r)
kept_by {x = x} {r = r} touched long bytes = record {
  short = λ h. omega (arith, touched.few, long h);
  of_x = λ h. kept_of_image x r (subst (λ n. LieWithin n r) (long h) touched.within) (bytes h);
  is = λ h c back. sym (kept_as x r (saved c x) (touched.saved c back x (sym (long h))));
}

-- the last is taken off
pub touched_pop : {A B : Type 0} (len : ℕ) (es : List (EntryRead A)) (e : EntryRead A) (rs : List (Vec Span B)) (r : Vec Span B) → AreTouched len (reverse (es ++ e ∷ [])) (reverse (rs ++ r ∷ []))
    → IsTouched len e r.items × AreTouched e.kept.len (reverse es) (reverse rs)
touched_pop len es e rs r touched =
    subst (λ us. AreTouched len (e ∷ reverse es) us) (reverse_last rs r) (subst (λ fs. AreTouched len fs (reverse (rs ++ r ∷ []))) (reverse_last es e) touched)

pub begun_pop : {B faithful : Type 0} (x : List ℕ) (n : ℕ) (rs : List (Vec Span B)) (r : Vec Span B) (page : List ℕ) (place : Place) → IsFirstBegun faithful x n (reverse (rs ++ r ∷ [])) page place
    → IsHeadBegun faithful x n r.items page place
begun_pop {faithful = faithful} x n rs r page place begun = subst (λ us. IsFirstBegun faithful x n us page place) (reverse_last rs r) begun

pub over_pop : {B : Type 0} (rs : List (Vec Span B)) (r : Vec Span B) → entries_over (rs ++ r ∷ []) ≡ entries_over rs + (80 + left_len r.items 0)
over_pop [] r = omega arith
over_pop (f ∷ rs) r = omega (arith, over_pop rs r)

-- the first of them lie within the length
pub first_within : {A B : Type 0} (len : ℕ) (es : List (EntryRead A)) (rs : List (Vec Span B)) → AreTouched len es rs → IsFirstWithin len rs
first_within len es [] touched = tt
first_within len [] (r ∷ rs) touched = absurd touched
first_within len (e ∷ es) (r ∷ rs) touched = touched.0.within

-- ranges more, for the next entry
pub touched_push : {A B : Type 0} (len : ℕ) (es : List (EntryRead A)) (rs : List (Vec Span B)) (place : ℕ) (d : EntryRead A) (r : Vec Span B) → place < length es
    → AreTouched (length_at (drop place es) len) (reverse (take place es)) (reverse rs) → IsTouched (length_at (drop (place + 1) es) len) (slice_index_or es place d) r.items
    → AreTouched (length_at (drop (place + 1) es) len) (reverse (take (place + 1) es)) (reverse (rs ++ r ∷ []))
touched_push len es rs place d r inside all one =
    let e = slice_index_or es place d in
    let above : ℕ = length_at (drop (place + 1) es) len in
    let more : reverse (take (place + 1) es) ≡ e ∷ reverse (take place es) = ap reverse (take_more es place d inside) ∙ reverse_last (take place es) e in
    let rest : AreTouched e.kept.len (reverse (take place es)) (reverse rs) = subst (λ n. AreTouched n (reverse (take place es)) (reverse rs)) (length_here es place len d inside) all in
    subst (λ fs. AreTouched above fs (reverse (rs ++ r ∷ []))) (sym more) (subst (λ us. AreTouched above (e ∷ reverse (take place es)) us) (sym (reverse_last rs r)) (one, rest))

pub told_of : {A : Type 0} {len : ℕ} {e : EntryRead A} {r : List Span} → IsTouched len e r → LieWithin MAX_LEN r
told_of touched = λ k d h. let one = touched.within k d h in record { some = one.some; within = omega (arith, one.within, touched.few) }

pub told_push : {B : Type 0} (rs : List (Vec Span B)) (r : Vec Span B) → AreToldRanges rs → LieWithin MAX_LEN r.items → AreToldRanges (rs ++ r ∷ [])
told_push [] r all one = (one, tt)
told_push (f ∷ rs) r all one = (all.0, told_push rs r all.1 one)

pub told_at : {B : Type 0} (rs : List (Vec Span B)) (i : ℕ) (d : Vec Span B) → i < length rs → AreToldRanges rs → LieWithin MAX_LEN (slice_index_or rs i d).items
told_at [] i d inside all = absurd (omega (arith, inside))
told_at (r ∷ rs) zero d inside all = all.0
told_at (r ∷ rs) (suc i) d inside all = told_at rs i d (omega (arith, inside)) all.1

pub told_ranges : (spans : List Span) → LieWithin 281474976710655 spans → AreRanges (2 ^ 62) spans
told_ranges spans within = ranges_more 281474976710655 (2 ^ 62) spans (omega arith) (are_ranges 281474976710655 spans within)

-- the entry of ranges more
pub over_more : {B : Type 0} (rs : List (Vec Span B)) (i : ℕ) (d : Vec Span B) → i < length rs → entries_over (take (i + 1) rs) ≡ entries_over (take i rs) + (80 + left_len (slice_index_or rs i d).items 0)
over_more rs i d inside = ap entries_over (take_more rs i d inside) ∙ over_pop (take i rs) (slice_index_or rs i d)

-- what was begun on a device that has the same image, of the same ranges
pub begun_same : {B faithful here : Type 0} {x y : List ℕ} (n : ℕ) {rs slice : List (Vec Span B)} (page : List ℕ) (place : Place) → (faithful → here) → (faithful → y ≡ x) → slice ≡ rs
    → IsFirstBegun here x n (reverse slice) page place → IsFirstBegun faithful y n (reverse rs) page place
begun_same {B = B} {faithful = faithful} {here = here} {x = x} {y = y} n {rs = rs} page place still same is begun =
    go (reverse rs) (subst (λ us. IsFirstBegun here x n (reverse us) page place) is begun)
  where
    go : (us : List (Vec Span B)) → IsFirstBegun here x n us page place → IsFirstBegun faithful y n us page place
    go [] begun = tt
    go (r ∷ us) begun = record {
      is_place = begun.is_place;
      text = λ h. subst (λ z. head_from z r.items place page n ≡ head_text n (kept_over z r.items)) (sym (same h)) (begun.text (still h));
      bytes = λ h. subst (λ z. HaveBytes (kept_over z r.items).runs) (sym (same h)) (begun.bytes (still h));
      long = begun.long;
      some = begun.some;
    }

-- what begins the head of an entry with ranges
pub begun_of : {E faithful : Type 0} (x : List ℕ) (n : ℕ) (rs : List Span) (page : List ℕ) (r : Result Place E) → (faithful → IfOk r (λ p. head_from x rs p page n ≡ head_text n (kept_over x rs)))
    → (faithful → OnOk r (HaveBytes (kept_over x rs).runs)) → IfOk r (λ p. length page + rest_len rs p ≡ 34 + left_len rs 0) → OnOk r (0 < length page) → IfOk r (IsPlace rs) → IfOk r (IsHeadBegun faithful x n rs page)
begun_of x n rs page (Ok p) text bytes long some place = record { is_place = place; text = text; bytes = bytes; long = long; some = some }
begun_of x n rs page (Err e) text bytes long some place = tt

-- the last of some ranges is the first from the end
pub first_is : {B : Type 0} (ts : List (Vec Span B)) (n : ℕ) (d : Vec Span B) → length ts ≡ suc n → reverse ts ≡ slice_index_or ts n d ∷ reverse (take n ts)
first_is ts n d long = ap reverse (last_is ts n d long) ∙ reverse_last (take n ts) (slice_index_or ts n d)

pub last_within : {B : Type 0} (len : ℕ) (ts : List (Vec Span B)) (n : ℕ) (d : Vec Span B) → length ts ≡ suc n → IsFirstWithin len (reverse ts) → LieWithin len (slice_index_or ts n d).items
last_within len ts n d long within = subst (IsFirstWithin len) (first_is ts n d long) within

pub last_begun : {B E : Type 0} (faithful : Type 0) (x : List ℕ) (number : ℕ) (ts : List (Vec Span B)) (n : ℕ) (d : Vec Span B) (page : List ℕ) (r : Result Place E) → length ts ≡ suc n
    → IfOk r (IsHeadBegun faithful x number (slice_index_or ts n d).items page) → IfOk r (IsFirstBegun faithful x number (reverse ts) page)
last_begun faithful x number ts n d page (Ok p) long begun = subst (λ us. IsFirstBegun faithful x number us page p) (sym (first_is ts n d long)) begun
last_begun faithful x number ts n d page (Err e) long begun = tt

pub none_begun : {B : Type 0} (faithful : Type 0) (x : List ℕ) (number : ℕ) (ts : List (Vec Span B)) (page : List ℕ) (p : Place) → length ts ≡ 0 → IsFirstBegun faithful x number (reverse ts) page p
none_begun faithful x number [] page p none = tt
none_begun faithful x number (t ∷ ts) page p none = absurd (omega (arith, none))

pub ranges_in : (len wide : ℕ) (spans : List Span) → len ≤ wide → LieWithin len spans → AreRanges wide spans
ranges_in len wide spans le within = ranges_more len wide spans le (are_ranges len spans within)
