-- What some undos, or some redos, take before their first write.
use Rattle.std.proofs.Common.{◌≡◌, ℕ, zero, suc, ◌+◌, ◌<◌, List, [], ◌∷◌, ◌++◌, length, take, drop, refl, ap, arith, length-drop, length-append}
use Rattle.std.specs.Prelude.{slice_index_or}
use Rattle.std.proofs.lemmas.List.{take_more}
use Rattle.bx_image.specs.declared.record.Saved.{Saved}
use Rattle.bx_image.specs.Change.{AllWithin}
use Rattle.bx_journal_format.specs.Kept.{kept_of}
use Rattle.bx_journal_format.specs.Entry.{head_text, end_text}
use Rattle.bx_journal_model.specs.Machine.{changes_of}
use Rattle.bx_journal_format.specs.declared.read.types.EntryRead.{EntryRead}
use Rattle.bx_journal_protocol.specs.protocol.Takens.{AllShaped, entries_len, length_at}
use Rattle.bx_journal_protocol.proofs.Shapes.{end_long}
use Rattle.bx_journal_protocol.proofs.TakenLemmas.{len_pop}

pub changes_left : (stack : List (List ℕ)) (count k left : ℕ) → length stack ≡ suc count → left + k ≡ count → changes_of (drop k stack) ≡ left
changes_left stack count k left counted is = omega (arith, counted, is, length-drop k stack)

-- the length at an entry is the one that it restores
pub length_here : {A : Type 0} (es : List (EntryRead A)) (place len : ℕ) (d : EntryRead A) → place < length es → length_at (drop place es) len ≡ (slice_index_or es place d).kept.len
length_here [] place len d inside = absurd (omega (arith, inside))
length_here (e ∷ es) zero len d inside = refl
length_here (e ∷ es) (suc place) len d inside = length_here es place len d (omega (arith, inside))

pub shaped_push : {A : Type 0} (ts : List (Saved A)) (t : Saved A) → AllShaped ts → AllWithin t.len t.runs → AllShaped (ts ++ t ∷ [])
shaped_push [] t all within = (within, tt)
shaped_push (u ∷ ts) t all within = (all.0, shaped_push ts t all.1 within)

pub shaped_at : {A : Type 0} (ts : List (Saved A)) (i : ℕ) (d : Saved A) → i < length ts → AllShaped ts → AllWithin (slice_index_or ts i d).len (slice_index_or ts i d).runs
shaped_at [] i d inside all = absurd (omega (arith, inside))
shaped_at (t ∷ ts) zero d inside all = all.0
shaped_at (t ∷ ts) (suc i) d inside all = shaped_at ts i d (omega (arith, inside)) all.1

-- the entry of one record more
pub len_more : {A : Type 0} (ts : List (Saved A)) (i : ℕ) (d : Saved A) → i < length ts → entries_len (take (i + 1) ts) ≡ entries_len (take i ts) + length (head_text 0 (kept_of (slice_index_or ts i d))) + 32
len_more ts i d inside =
    let t = slice_index_or ts i d in
    omega (arith, ap entries_len (take_more ts i d inside), len_pop (take i ts) t, length-append (head_text 0 (kept_of t)) (end_text 0 0), end_long 0 0)
