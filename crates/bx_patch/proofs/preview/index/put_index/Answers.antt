use Rattle.std.proofs.Common.{◌≡◌, arith}
use Rattle.std.proofs.lemmas.List.{get_or_default}
use Rattle.bx_patch.proofs.preview.index.put_index.Goals as goal

pub returns : goal.returns
returns g c made k d inside =
    let first : k ≡ 0 = omega arith in
    let same = get_or_default c.args.changes.now 0 c.index-changes-0.result d (omega (arith, inside)) in
    rw (first, ← same) (rw c.as_slice.ensures at (c.put_keys.ensures made))
