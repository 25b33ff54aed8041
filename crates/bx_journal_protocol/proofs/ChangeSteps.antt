-- The steps of a change, over texts and images.
use Rattle.std.proofs.Common.{◌≡◌, ℕ, ◌≤◌, List, [], ◌∷◌, ◌++◌, length, take, drop, refl, ap, sym, ◌∙◌, subst}
use Rattle.std.proofs.lemmas.List.{take-append-drop}
use Rattle.std.specs.Prelude.{flat_map}
use Rattle.bx_image.specs.declared.change.TheConstants.{MAX_LEN}
use Rattle.bx_journal_format.specs.Kept.{Kept, kept_of, with_runs}
use Rattle.bx_image.specs.declared.change.Change.{Change}
use Rattle.bx_image.specs.Change.{effect, saved, IsAsGood}
use Rattle.bx_journal_format.specs.declared.format.version.Version.TheVariants.{Second}
use Rattle.bx_journal_format.specs.Entry.{head_text, end_text, rows}
use Rattle.bx_journal_format.specs.Text.{IsPrefix}
use Rattle.bx_journal_model.specs.Stack.{Recovers}
use Rattle.bx_journal_model.specs.Phase.{IsAtRest, IsOpen, as_read}
use Rattle.bx_journal_model.specs.Step.{StartsEntry, EndsEntry, WritesEntry}
use Rattle.bx_journal_store.specs.Store.{IsPartlyAppended}
use Rattle.bx_journal_format.proofs.Gathered.{as_read_byte}
use Rattle.bx_journal_format.proofs.RowLemmas.{restore_same, covers_same}
use Rattle.bx_journal_model.proofs.Phases.{head_recovers, head_opens, end_rests, open_moves}

front_of : (k : ℕ) (bytes text : List ℕ) → bytes ≡ text → IsPrefix (take k bytes) text
front_of k bytes text is = (drop k bytes, sym is ∙ sym (take-append-drop k bytes))

pub head_ok : (text new x : List ℕ) (stack : List (List ℕ)) (s : Kept) (head : List ℕ) → StartsEntry text x stack s head → new ≡ text ++ head → IsOpen Second (as_read s) new x stack
head_ok text new x stack s head starts is =
    subst (λ t. IsOpen Second (as_read s) t x stack) (ap (λ h. text ++ h) (sym starts.head_is) ∙ sym is) (head_opens text x stack s starts.rest starts.kept starts.fits starts.number)

pub head_fault : (text new x : List ℕ) (stack : List (List ℕ)) (s : Kept) (head : List ℕ) → StartsEntry text x stack s head → IsPartlyAppended head text new → Recovers new x stack
head_fault text new x stack s head starts part =
    subst (λ t. Recovers t x stack) (sym part.1) (head_recovers text x stack s (take part.0 head) starts.rest starts.kept starts.fits starts.number (front_of part.0 head (head_text (length stack) s) starts.head_is))

pub end_ok : (text new x : List ℕ) (stack : List (List ℕ)) (s : Kept) (line : List ℕ) → EndsEntry text x stack s line → new ≡ text ++ line → IsAtRest new x (x ∷ stack)
end_ok text new x stack s line ends is =
    subst (λ t. IsAtRest t x (x ∷ stack)) (ap (λ h. text ++ h) (sym ends.end_is) ∙ sym is) (end_rests text x stack s (length x) ends.unfinished refl ends.fits)

good_as_read : (s : Kept) (x y : List ℕ) → IsAsGood s x y → IsAsGood (as_read s) x y
good_as_read s x y good = record {
  same = restore_same s.len (with_runs [] (flat_map rows s.runs)) s.runs y (as_read_byte s.runs) ∙ good.same ∙ sym (restore_same s.len (with_runs [] (flat_map rows s.runs)) s.runs x (as_read_byte s.runs));
  covers = covers_same s.len (with_runs [] (flat_map rows s.runs)) s.runs y (as_read_byte s.runs) good.covers;
}

-- whatever the change did, the entry is open as before
pub change_moves : (s : Kept) (text x y : List ℕ) (stack : List (List ℕ)) → IsOpen Second (as_read s) text x stack → IsAsGood s x y → IsOpen Second (as_read s) text y stack
change_moves s text x y stack o good = open_moves Second (as_read s) text x y stack o (good_as_read s x y good)

pub ends_of : {A : Type 0} → (c : Change A) (text new x y : List ℕ) (stack : List (List ℕ)) (head line : List ℕ) → WritesEntry c text x stack head line → IsOpen Second (as_read (kept_of (saved c x))) new y stack → y ≡ effect c x
    → EndsEntry new y stack (as_read (kept_of (saved c x))) line
ends_of c text new x y stack head line writes o is = record {
  unfinished = o;
  fits = subst (λ n. length n ≤ MAX_LEN) (sym is) writes.fits;
  end_is = writes.end_is ∙ ap (λ z. end_text (length stack) (length z)) (sym is);
}
