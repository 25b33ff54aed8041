-- The steps of taking an entry back, over texts and images.
use Rattle.std.proofs.Common.{◌≡◌, ℕ, ◌≤◌, List, ◌∷◌, length, take, sym, subst, arith, length-take}
use Rattle.std.proofs.lemmas.List.{take-take}
use Rattle.bx_journal_format.specs.declared.format.version.Version.{Version}
use Rattle.bx_journal_format.specs.Text.{Entry, Between, Ending, Reading}
use Rattle.bx_journal_model.specs.Phase.{RecoversEither, IsOpen}
use Rattle.bx_journal_format.specs.count.Mark.{IsMark}
use Rattle.bx_journal_model.specs.Step.{HasTail, TakesBack}
use Rattle.bx_journal_store.specs.Store.{IsCutInPart}
use Rattle.bx_journal_model.proofs.Cuts.{Newest, newest_of, cut_end_fault, cut_end_ok}

pub mark_in : (text : List ℕ) (m n : ℕ) (r : Reading) → IsMark text m r → m ≤ n → n ≤ length text → IsMark (take n text) m r
mark_in text m n r mark order within =
    let same : take m (take n text) ≡ take m text = take-take m n text order in
    record {
      within = omega (arith, length-take n text, order, within);
      lines = rw same mark.lines;
      whole = rw same mark.whole;
    }

module _ (text x : List ℕ) (below : List (List ℕ)) (v : Version) (e : Entry) (begins saved : ℕ) (t : TakesBack text x below v e begins saved) where
  newest : Newest text x below t.entries e
  newest = newest_of text x below t.entries e t.rest t.newest

  pub first_fault : (new : List ℕ) → IsCutInPart saved text new → RecoversEither new x (x ∷ below) below
  first_fault new part = cut_end_fault text new x below t.entries e v saved newest t.marks.saving part

  pub first_ok : (new : List ℕ) → new ≡ take saved text → IsOpen v e.saved new x below
  first_ok new is = subst (λ s. IsOpen v e.saved s x below) (sym is) (cut_end_ok text x below t.entries e v saved newest t.marks.saving)

  begin_mark : IsMark (take saved text) begins (record { entries = t.entries; stage = Between })
  begin_mark = mark_in text begins saved (record { entries = t.entries; stage = Between }) t.marks.beginning t.marks.order t.marks.saving.within

  pub first_tail : (new : List ℕ) → new ≡ take saved text → HasTail new x below t.entries (Ending v e.saved) begins
  unfolding cut_end_ok
  first_tail new is =
      let o = cut_end_ok text x below t.entries e v saved newest t.marks.saving in
      subst (λ s. HasTail s x below t.entries (Ending v e.saved) begins) (sym is) (record { reads = o.reads; sound = o.sound; lengths = o.lengths; stack_is = sym o.stack_is; mark = begin_mark })
