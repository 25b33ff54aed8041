-- What opening leaves of a journal's text: a front of it, which is its finished entries alone.
use Rattle.std.proofs.Common.{◌≡◌, ℕ, List, [], sym, ◌∙◌, subst, Option, Some, append-nil}
use Rattle.bx_journal_format.specs.Text.{Between, Reading, Reads}
use Rattle.bx_journal_format.specs.count.Tally.{IsCounted}
use Rattle.bx_journal_model.specs.Undoing.{HasLeft}

one_reading : {A : Type 0} (x y : A) → Some x ≡ Some y → x ≡ y
one_reading x y e = cc

-- the text was finished entries alone, and stayed
pub left_whole : (text new : List ℕ) (count : ℕ) (told : Option ℕ) (r : Reading) → IsCounted text count told → Reads text r → new ≡ text → HasLeft text new r.entries
left_whole text new count told r c reads same =
    let is : record { entries = c.entries; stage = Between } ≡ r = one_reading (record { entries = c.entries; stage = Between }) r (sym c.finished.reads.lines ∙ reads.lines) in
    let left : HasLeft text text r.entries = subst (λ (q : Reading). HasLeft text text q.entries) is (record { front = ([], sym (append-nil text)); finished = c.finished }) in
    subst (λ t. HasLeft text t r.entries) (sym same) left
