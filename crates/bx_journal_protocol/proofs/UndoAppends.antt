-- What an undo appends, from the change that restores an entry.
use Rattle.std.proofs.Common.{◌≡◌, suc, ◌++◌, length, ap, sym, ◌∙◌, arith}
use Rattle.bx_image.specs.Change.{effect, saved, restore}
use Rattle.bx_image.proofs.Records.{restore-saved, KeepsUntouched-effect, effect-restore, length-restore}
use Rattle.bx_journal_format.specs.Kept.{Kept, kept_of}
use Rattle.bx_journal_format.specs.Entry.{entry_text}
use Rattle.bx_journal_format.proofs.KeptLemmas.{is_of_in, same_restore}
use Rattle.bx_journal_protocol.proofs.RedoLawsStated.{PushedByUndo}
use Rattle.bx_journal_protocol.proofs.RedoText.{pushed_is_redo}

pub pushed_by_undo : {A : Type 0} → PushedByUndo A
pushed_by_undo c text new x y n u e entry r back is long fits restored written =
    let same : effect c x ≡ y = effect-restore c entry x back.restores back.within ∙ sym (same_restore entry x) ∙ ap (λ (s : Kept). restore s x) back.kept ∙ sym restored in
    let len : length y ≡ e.saved.len = ap length restored ∙ length-restore e.saved x in
    let undoes : restore (kept_of (saved c x)) y ≡ x = same_restore (saved c x) y ∙ ap (restore (saved c x)) (sym same) ∙ restore-saved c x (effect c x) (KeepsUntouched-effect c x) in
    pushed_is_redo text new x y n u (kept_of (saved c x)) r (is_of_in (saved c x) x is) long (omega (arith, len, fits)) undoes (written ∙ ap (λ m. text ++ entry_text (suc (length u)) (kept_of (saved c x)) m) (sym len))
