use Rattle.std.proofs.Common.{arith}
use Rattle.std.proofs.lemmas.List.Sorted.{Contains-permutation, IsNonDecreasingBy-from_sort}
use Rattle.bx_patch.proofs.preview.index.put_keys.Goals as goal

pub returns : goal.returns
returns g c made = (
  omega arith,
  IsNonDecreasingBy-from_sort (λ x. x) _ c.sort_unstable.ensures.sorted,
  λ i d window inside meets none. none (Contains-permutation _ _ _ c.sort_unstable.ensures.permutation (c.push_pieces-made.ensures made i d window inside meets)),
)
