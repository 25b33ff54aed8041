-- Room for the longest image that some entries restore.
use Rattle.std.proofs.Common.{◌≡◌, ℕ, zero, suc, ◌+◌, ◌<◌, ◌≤◌, List, [], ◌∷◌, ◌++◌, length, map, take, drop, ap, sym, ◌∙◌, subst, arith, get_or}
use Rattle.bx_journal_format.specs.Kept.{run_of}
use Rattle.bx_journal_format.specs.declared.read.types.EntryRead.{EntryRead}
use Rattle.bx_journal_format.specs.Text.{Entry, Between, split}
use Rattle.bx_journal_format.specs.Parsed.{entry_of, entries_onto, AllKept}
use Rattle.bx_journal_model.specs.Undoing.{IsReadLast}
use Rattle.std.specs.Prelude.{All}
use Rattle.std.proofs.lemmas.List.Elements.{All-head, All-tail, All-nil, All-cons, All-weaker, All-append}
use Rattle.std.proofs.lemmas.List.{take_more}
use Rattle.bx_image.specs.Change.{AllWithin}
use Rattle.bx_journal_model.proofs.ReadingLemmas.{AreSane, read_sane}
use Rattle.bx_journal_model.proofs.UndoLoop.{kept_more}

-- the runs of each entry end within its length
abbrev EachWithin : {A : Type 0} → List (EntryRead A) → Type 0
EachWithin [] = Unit {0}
EachWithin (e ∷ es) = AllWithin e.kept.len (map run_of e.kept.runs) × EachWithin es

sane_onto : {A : Type 0} → (done : List Entry) (es : List (EntryRead A)) → AreSane (entries_onto done es) → AreSane done
sane_onto done [] sane = sane
sane_onto done (e ∷ es) sane = (sane_onto (entry_of e ∷ done) es sane).2

each_within : {A : Type 0} → (done : List Entry) (es : List (EntryRead A)) → AreSane (entries_onto done es) → EachWithin es
each_within done [] sane = tt
each_within done (e ∷ es) sane = ((sane_onto (entry_of e ∷ done) es sane).0, each_within (entry_of e ∷ done) es sane)

each_drop : {A : Type 0} → (n : ℕ) (es : List (EntryRead A)) → EachWithin es → EachWithin (drop n es)
each_drop zero es each = each
each_drop (suc n) [] each = tt
each_drop (suc n) (e ∷ es) each = each_drop n es each.1

all_kept : {A : Type 0} → (limit : ℕ) (es : List (EntryRead A)) → EachWithin es → All (λ (e : EntryRead A). e.kept.len ≤ limit) es → AllKept limit es
all_kept {A = A} limit [] each below = tt
all_kept {A = A} limit (e ∷ es) each below =
    (each.0, All-head (λ (e : EntryRead A). e.kept.len ≤ limit) e es below, all_kept limit es each.1 (All-tail (λ (e : EntryRead A). e.kept.len ≤ limit) e es below))

-- room for the greatest of the lengths is room for each
pub kept_last : {A : Type 0} → (text : List ℕ) (es last : List (EntryRead A)) (count n longest room : ℕ) → IsReadLast text es count → last ≡ drop n es → All (λ (e : EntryRead A). e.kept.len ≤ longest) last → longest ≤ room → AllKept room (drop n es)
kept_last {A = A} text es last count n longest room read is below within =
    let sane : AreSane (entries_onto read.older es) = (read_sane (split text).lines (record { entries = entries_onto read.older es; stage = Between }) read.finished.reads.lines).0 in
    let here : All (λ (e : EntryRead A). e.kept.len ≤ longest) (drop n es) = subst (All (λ (e : EntryRead A). e.kept.len ≤ longest)) is below in
    kept_more longest room (drop n es) (all_kept longest (drop n es) (each_drop n es (each_within read.older es sane)) here) within

-- the greatest length so far, and that of one more entry
pub longest_more : {A : Type 0} → (es : List (EntryRead A)) (i : ℕ) (e : EntryRead A) (old new : ℕ) → i < length es → e ≡ get_or es i e → All (λ (f : EntryRead A). f.kept.len ≤ old) (take i es) → old ≤ new → e.kept.len ≤ new
    → All (λ (f : EntryRead A). f.kept.len ≤ new) (take (i + 1) es)
longest_more {A = A} es i e old new within is below more here =
    let taken : take (i + 1) es ≡ take i es ++ e ∷ [] = take_more es i e within ∙ ap (λ f. take i es ++ f ∷ []) (sym is) in
    let before : All (λ (f : EntryRead A). f.kept.len ≤ new) (take i es) = All-weaker (λ (f : EntryRead A). f.kept.len ≤ old) (λ (f : EntryRead A). f.kept.len ≤ new) (λ f h. omega (arith, h, more)) (take i es) below in
    let last : All (λ (f : EntryRead A). f.kept.len ≤ new) (e ∷ []) = All-cons (λ (f : EntryRead A). f.kept.len ≤ new) e [] here (All-nil (λ (f : EntryRead A). f.kept.len ≤ new)) in
    subst (All (λ (f : EntryRead A). f.kept.len ≤ new)) (sym taken) (All-append (λ (f : EntryRead A). f.kept.len ≤ new) (take i es) (e ∷ []) before last)
