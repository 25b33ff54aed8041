-- The text whose entries are taken off one after another.
use Rattle.std.proofs.Common.{◌≡◌, ℕ, zero, suc, ◌+◌, ◌≤◌, List, [], ◌∷◌, ◌++◌, length, map, take, drop, refl, ap, sym, ◌∙◌, subst, inl, arith}
use Rattle.bx_journal_format.specs.declared.read.types.EntryRead.{EntryRead}
use Rattle.bx_journal_format.specs.Text.{Entry, Between, IsRest}
use Rattle.bx_journal_format.specs.Kept.{run_of}
use Rattle.bx_journal_format.specs.Finished.{IsFinished}
use Rattle.bx_journal_format.specs.count.Mark.{IsMark, HasMarks}
use Rattle.bx_journal_format.specs.Parsed.{entry_of, entries_onto, AreMarked, AllKept}
use Rattle.bx_image.specs.Change.{AllWithin}
use Rattle.bx_journal_format.proofs.ReadLemmas.{marked-pop}

-- the entries that are left end at a place; before those that were read stand older ones
pub record IsUndone {A : Type 0} (bytes : List ℕ) (es : List (EntryRead A)) (to : ℕ) : Type 0 where
  pub older : List Entry
  pub marked : AreMarked bytes older 0 es to
  pub mark : IsMark bytes to (record { entries = entries_onto older es; stage = Between })

-- where undoing is in a text that was read again: the store's, where that is faithful
pub record IsUndoing {A : Type 0} (faithful : Type 0) (first now : List ℕ) (es : List (EntryRead A)) : Type 0 where
  pub text : List ℕ
  pub to : ℕ
  pub undone : IsUndone text es to
  pub is : faithful → first ≡ text
  pub left : faithful → now ≡ take to text

-- the places of the newest entry
pub popped : {A : Type 0} → (bytes : List ℕ) (es : List (EntryRead A)) (e : EntryRead A) (to : ℕ) → (u : IsUndone bytes (es ++ e ∷ []) to)
    → IsUndone bytes es e.begins × HasMarks bytes (entries_onto u.older es) e.version (entry_of e) e.begins e.saved × (e.saved ≤ to)
popped bytes es e to u =
    let m = marked-pop bytes u.older 0 to es e u.marked in
    (record { older = u.older; marked = m.0; mark = m.1.beginning }, m.1, m.2)

-- the text at a mark
pub finished_mark : (bytes : List ℕ) (es : List Entry) (n : ℕ) → IsMark bytes n (record { entries = es; stage = Between }) → IsFinished (take n bytes) es
finished_mark bytes es n mark = record {
  reads = record { lines = mark.lines; rest = subst (IsRest es Between) (sym mark.whole) (inl refl) };
  whole = mark.whole;
}

pub drop_one : {X : Type 0} (n : ℕ) (xs : List X) → drop 1 (drop n xs) ≡ drop (n + 1) xs
drop_one zero xs = refl
drop_one {X = X} (suc n) [] = let count : suc n + 1 ≡ suc (n + 1) = omega arith in sym (ap (λ k. drop {A = X} k []) count)
drop_one (suc n) (x ∷ xs) = let count : suc n + 1 ≡ suc (n + 1) = omega arith in drop_one n xs ∙ sym (ap (λ k. drop k (x ∷ xs)) count)

kept_pop : {A : Type 0} → (limit : ℕ) (es : List (EntryRead A)) (e : EntryRead A) → AllKept limit (es ++ e ∷ []) → AllKept limit es × AllWithin e.kept.len (map run_of e.kept.runs) × (e.kept.len ≤ limit)
kept_pop limit [] e k = (tt, k.0, k.1)
kept_pop limit (f ∷ es) e k = let more = kept_pop limit es e k.2 in ((k.0, k.1, more.0), more.1, more.2)

-- the newest of those that are to be taken back
pub kept_next : {A : Type 0} → (limit n : ℕ) (es : List (EntryRead A)) (e : EntryRead A) → n ≤ length es → AllKept limit (drop n (es ++ e ∷ [])) → AllKept limit (drop n es) × AllWithin e.kept.len (map run_of e.kept.runs) × (e.kept.len ≤ limit)
kept_next {A = A} limit n es e within k = kept_pop limit (drop n es) e (subst (AllKept limit) (drop_in n es within) k)
  where
    drop_in : (n : ℕ) (es : List (EntryRead A)) → n ≤ length es → drop n (es ++ e ∷ []) ≡ drop n es ++ e ∷ []
    drop_in zero es within = refl
    drop_in (suc n) [] within = absurd (omega arith)
    drop_in (suc n) (f ∷ es) within = drop_in n es (omega arith)

pub kept_more : {A : Type 0} → (limit more : ℕ) (es : List (EntryRead A)) → AllKept limit es → limit ≤ more → AllKept more es
kept_more limit more [] k le = tt
kept_more limit more (f ∷ es) k le = (k.0, omega (arith, k.1, le), kept_more limit more es k.2 le)
