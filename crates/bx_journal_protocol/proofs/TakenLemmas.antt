-- The records that undos will take, one after another.
use Rattle.std.proofs.Common.{◌≡◌, ℕ, suc, ◌+◌, List, [], ◌∷◌, ◌++◌, length, take, ap, sym, ◌∙◌, subst, arith}
use Rattle.std.specs.Prelude.{slice_set, slice_index_or, reverse}
use Rattle.std.proofs.lemmas.List.{take_more, take_more_set, take_all, length-set, reverse-append}
use Rattle.bx_text.specs.declared.owned.pieces.Piece.{Piece}
use Rattle.bx_image.specs.declared.record.Saved.{Saved}
use Rattle.bx_image.specs.Change.{AllWithin, IsOf}
use Rattle.bx_image.specs.Runs.{AreRunsOf, HaveShape}
use Rattle.bx_journal_format.specs.Kept.{kept_of}
use Rattle.bx_journal_format.specs.Entry.{entry_text}
use Rattle.bx_journal_format.specs.declared.read.types.EntryRead.{EntryRead}
use Rattle.bx_journal_protocol.specs.protocol.Takens.{AreRoomFrom, AreReady, AllShaped, LieBehind, LieInTurn, entries_len}
use Rattle.bx_journal_protocol.proofs.Shapes.{runs_same, entry_long}

-- the last of a list, before and behind
pub last_is : {X : Type 0} (xs : List X) (n : ℕ) (d : X) → length xs ≡ suc n → xs ≡ take n xs ++ slice_index_or xs n d ∷ []
last_is xs n d long =
    let count : n + 1 ≡ length xs = omega arith in
    sym (take_all (length xs) xs (omega arith)) ∙ ap (λ k. take k xs) (sym count) ∙ take_more xs n d (omega arith)

pub last_set : {X : Type 0} (xs : List X) (n : ℕ) (y : X) → length xs ≡ suc n → slice_set xs n y ≡ take n xs ++ y ∷ []
last_set xs n y long =
    let count : n + 1 ≡ length (slice_set xs n y) = omega (arith, length-set xs n y, long) in
    sym (take_all (length (slice_set xs n y)) (slice_set xs n y) (omega arith)) ∙ ap (λ k. take k (slice_set xs n y)) (sym count) ∙ take_more_set xs n y (omega arith)

pub reverse_last : {X : Type 0} (xs : List X) (y : X) → reverse (xs ++ y ∷ []) ≡ y ∷ reverse xs
reverse_last xs y = reverse-append xs (y ∷ [])

-- a record of one shape with another
pub record IsShapedAs {A : Type 0} (t new : Saved A) : Type 0 where
  pub len : new.len ≡ t.len
  pub runs : HaveShape t.runs new.runs

-- what filling a record says of it
pub record IsFilled {A : Type 0} (x : List ℕ) (t new : Saved A) : Type 0 where
  pub kept : t.len ≡ length x → IsOf new x
  pub read : AreRunsOf x new.runs

pub filled_ready : {A : Type 0} (x : List ℕ) (es : List (EntryRead A)) (t new : Saved A) (ts : List (Saved A)) → IsShapedAs t new → IsFilled x t new → AreRoomFrom x es (t ∷ ts) → AreReady x es (new ∷ ts)
filled_ready x [] t new ts shape filled z = absurd z
filled_ready x (e ∷ es) t new ts shape filled z = (
  record {
    len = shape.len ∙ z.0.len_is;
    of_x = filled.kept z.0.len_is;
    is = λ long. z.0.fills new shape.len shape.runs filled.read (filled.kept z.0.len_is) long;
  },
  z.1,
)

pub ready_filled : {A : Type 0} (x : List ℕ) (es : List (EntryRead A)) (front : List (Saved A)) (t new : Saved A) → IsShapedAs t new → IsFilled x t new → AreRoomFrom x es (reverse (front ++ t ∷ [])) → AreReady x es (reverse (front ++ new ∷ []))
ready_filled x es front t new shape filled z = rw (reverse_last front new) (filled_ready x es t new (reverse front) shape filled (rw (reverse_last front t) at z))

pub behind_filled : {A : Type 0} (len : ℕ) (es : List (EntryRead A)) (front : List (Saved A)) (t new : Saved A) → LieInTurn len es (reverse (front ++ t ∷ [])) → LieBehind es (reverse (front ++ new ∷ []))
behind_filled {A = A} len es front t new z = rw (reverse_last front new) (go es (rw (reverse_last front t) at z))
  where
    go : (fs : List (EntryRead A)) → LieInTurn len fs (t ∷ reverse front) → LieBehind fs (new ∷ reverse front)
    go [] z = absurd z
    go (e ∷ fs) z = z.1

shape_within : {A : Type 0} (t new : Saved A) → IsShapedAs t new → AllWithin t.len t.runs → AllWithin new.len new.runs
shape_within t new shape within = subst (λ n. AllWithin n new.runs) (sym shape.len) (runs_within t.len t.runs new.runs shape.runs within)
  where
    end_same : (at at2 : ℕ) (bs cs : List ℕ) (len : ℕ) → at2 ≡ at → length cs ≡ length bs → AllWithin {A = Unit {0}} len (record { at = at; bytes = bs } ∷ []) → AllWithin {A = Unit {0}} len (record { at = at2; bytes = cs } ∷ [])
    end_same at at2 [] [] len same long w = w
    end_same at at2 [] (b ∷ cs) len same long w = absurd (omega (arith, long))
    end_same at at2 (b ∷ bs) [] len same long w = absurd (omega (arith, long))
    end_same at at2 (b ∷ bs) (c ∷ cs) len same long w = (omega (arith, same, long, w.0), tt)

    runs_within : {A : Type 0} (len : ℕ) (olds news : List (Piece A)) → HaveShape olds news → AllWithin len olds → AllWithin len news
    runs_within len [] [] shape w = tt
    runs_within len [] (r ∷ news) shape w = absurd shape
    runs_within len (o ∷ olds) [] shape w = absurd shape
    runs_within len (o ∷ olds) (r ∷ news) shape w = ((end_same o.at r.at o.bytes r.bytes len shape.0 shape.1 (w.0, tt)).0, runs_within len olds news shape.2 w.1)

pub shaped_next : {A : Type 0} (front : List (Saved A)) (t new : Saved A) → IsShapedAs t new → AllShaped (front ++ t ∷ []) → AllShaped (front ++ new ∷ [])
shaped_next [] t new shape all = (shape_within t new shape all.0, tt)
shaped_next (f ∷ front) t new shape all = (all.0, shaped_next front t new shape all.1)

pub len_next : {A : Type 0} (front : List (Saved A)) (t new : Saved A) → IsShapedAs t new → entries_len (front ++ new ∷ []) ≡ entries_len (front ++ t ∷ [])
len_next [] t new shape = ap (λ n. n + 0) (entry_long 0 0 (kept_of new) (kept_of t) 0 0 (runs_same t.runs new.runs shape.runs))
len_next (f ∷ front) t new shape = ap (λ n. length (entry_text 0 (kept_of f) 0) + n) (len_next front t new shape)

-- the last is taken off
pub shaped_pop : {A : Type 0} (front : List (Saved A)) (t : Saved A) → AllShaped (front ++ t ∷ []) → AllShaped front × AllWithin t.len t.runs
shaped_pop [] t all = (tt, all.0)
shaped_pop (f ∷ front) t all = let more = shaped_pop front t all.1 in ((all.0, more.0), more.1)

pub len_pop : {A : Type 0} (front : List (Saved A)) (t : Saved A) → entries_len (front ++ t ∷ []) ≡ entries_len front + length (entry_text 0 (kept_of t) 0)
len_pop [] t = omega arith
len_pop (f ∷ front) t = omega (arith, len_pop front t)
