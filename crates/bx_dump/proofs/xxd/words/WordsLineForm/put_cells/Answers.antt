use Rattle.std.proofs.Common.{◌≡◌, ℕ, List, [], ◌∷◌, refl, sym, ap, ◌∙◌}
use Rattle.std.specs.List.{flat_map}
use Rattle.bx_dump.proofs.xxd.words.WordsLineForm.put_cells.Goals as goal

-- each byte stands for itself
singles : (bytes : List ℕ) → flat_map (λ b. b ∷ []) bytes ≡ bytes
singles [] = refl
singles (b ∷ bs) = ap (λ t. b ∷ t) (singles bs)

pub returns : goal.returns
returns c = c.copy_from_slice.ensures.after ∙ sym (singles c.args.bytes.now)
