-- What a line says before a command's first write.
use Rattle.std.proofs.Common.{◌≡◌, ◌∙◌, ℕ, ◌-◌, ◌<◌, Bool, true, false, Option, None, List, length, replicate, refl, ap, sym, subst, inl, inr, arith, if◌then◌else◌}
use Rattle.std.proofs.lemmas.List.{get_or-replicate, take_all}
use Rattle.bx_journal_format.specs.Text.{split}
use Rattle.bx_journal_read.specs.scan.Windows.{rest_to}
use Rattle.bx_journal_image.specs.Blocks.{AreWholeMarks, AreTrueMarks, AreStruck, HasLongLine, IsMarkOf, is_one_touched, mark_at, ranges_in}
use Rattle.bx_journal_image.specs.Seal.{AreStepsMarks}

-- digests of all blocks say nothing wrong
pub all_right : (x : List ℕ) (marks : List (Option ℕ)) → AreWholeMarks x marks → AreTrueMarks x marks
all_right x marks all i block = subst (IsMarkOf x i) (sym (all i block)) refl

-- all of a text
pub whole_text : (text : List ℕ) (to : ℕ) → to ≡ length text → rest_to to 0 text ≡ text
whole_text text to is = take_all (to - 0) text (omega (arith, is))

-- blocks that were struck by the lines of all of a text
pub steps_struck : (x text : List ℕ) (total to : ℕ) (old new : List (Option ℕ)) → total ≡ length x → to ≡ length text → AreWholeMarks x old
    → AreStruck total (ranges_in (split (rest_to to 0 text)).lines) old new → AreStepsMarks x text new
steps_struck x text total to old new long end all struck = record {
  known = old;
  right = all_right x old all;
  struck = subst (λ (n : ℕ). AreStruck n (ranges_in (split text).lines) old new) long (subst (λ t. AreStruck total (ranges_in (split t).lines) old new) (whole_text text to end) struck);
  all = inl all;
}

same_either : (b : Bool) → ◌≡◌ {A = Option ℕ} None (if b then None else None)
same_either true = refl
same_either false = refl

-- nothing is known any more
pub steps_unknown : (x text : List ℕ) (to : ℕ) → to ≡ length text → HasLongLine 65536 0 to text → AreStepsMarks x text (replicate 32 None)
steps_unknown x text to end long = record {
  known = replicate 32 None;
  right = λ i block. subst (IsMarkOf x i) (sym (nothing i block)) tt;
  struck = λ i block. nothing i block ∙ same_either (is_one_touched (length x) (ranges_in (split text).lines) i)
      ∙ ap (λ (m : Option ℕ). if is_one_touched (length x) (ranges_in (split text).lines) i then None else m) (sym (nothing i block));
  all = inr (subst (λ n. HasLongLine 65536 0 n text) end long);
}
  where
    nothing : (i : ℕ) → i < 32 → mark_at (replicate 32 None) i ≡ None
    nothing i block = get_or-replicate 32 i None None block
