use Rattle.std.proofs.Common.{◌≡◌, List, ℕ, [], ap, sym, ◌∙◌, subst, arith}
use Rattle.bx_journal_protocol.proofs.RedoText.{empty_is_redo}
use Rattle.bx_journal_model.specs.Redo.{IsRedoOf}
use Rattle.bx_journal.proofs.ForgottenLemmas.{alone_at_rest, found_first, found_in_part, left_first}
use Rattle.bx_journal.proofs.forget.forget_devices.Goals as goal
use Rattle.bx_journal.proofs.forget.forget_devices.Goals.{After-empty_texts}

-- the image is the one before
same_image : (g : _) (c : After-empty_texts g) → g.D.Device.faithful c.args.devices.now.image → g.D.Device.image c.empty_texts.new.devices.image ≡ g.D.Device.image c.args.devices.now.image
same_image g c dh = ap g.D.Device.image c.empty_texts.ensures.image ∙ c.settle.ensures.stayed.image_same dh

pub returns-in-Ok-clause-alone : goal.returns-in-Ok-clause-alone
returns-in-Ok-clause-alone g c dh th rh =
    let stayed = c.settle.ensures.stayed in
    let none = c.in-Ok.ensures.journal (stayed.journal_faith.1 th) in
    let redo_none = c.in-Ok.ensures.redo (stayed.redo_faith.1 rh) in
    let y : List ℕ = g.D.Device.image c.empty_texts.new.devices.image in
    record {
      journal = none;
      redo = redo_none;
      rest = alone_at_rest _ y _ none (same_image g (goal.at.returns-in-Ok-clause-alone g c).After-empty_texts dh);
      undone = subst (λ t. IsRedoOf t y 0 []) (sym redo_none) (empty_is_redo y 0 (omega arith));
      settled = c.in-Ok.ensures.settles (stayed.journal_faith.1 th) (stayed.redo_faith.1 rh) (c.in_default.ensures.settled dh th rh);
    }

pub returns-in-Err-empty_texts-clause-finds : goal.returns-in-Err-empty_texts-clause-finds
returns-in-Err-empty_texts-clause-finds g c dh th rh s found =
    let stayed = c.settle.ensures.stayed in
    let t = stayed.journal_faith.1 th in
    let u = stayed.redo_faith.1 rh in
    let before = c.in_default.ensures.settled dh th rh in
    let fades = c.in-Err-empty_texts.ensures.survives t u before in (
      (λ whole redo_whole. found_in_part _ _ _ _ _ _ s found (left_first (stayed.text_same th) (c.in-Err-empty_texts.ensures.left t u).redo_first)
          (same_image g (goal.at.returns-in-Err-empty_texts-clause-finds g c).After-empty_texts dh) whole redo_whole),
      (λ y text redo there text_there redo_there whole redo_whole.
          let image_there = subst (λ d. g.D.Device.survives d y) c.empty_texts.ensures.image there in
          found_in_part _ _ _ _ _ _ s found (found_first text redo (stayed.text_same th) fades.redo_first text_there redo_there) (before.image y image_there ∙ stayed.image_same dh) whole redo_whole),
    )
