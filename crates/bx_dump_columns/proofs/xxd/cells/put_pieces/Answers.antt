use Rattle.std.proofs.Common.{◌≡◌, ◌+◌, ◌-◌, ◌*◌, ◌≤◌, ◌++◌, ◌∷◌, [], length, take, drop, arith, sym, ap, ◌∙◌}
use Rattle.std.specs.List.{flat_map, range_with_len}
use Rattle.std.proofs.lemmas.List.{length-take-le, length-drop}
use Rattle.std.proofs.Math.Nat.{mul-le-mul_left}
use Rattle.bx_dump_columns.specs.Cells.{piece_at}
use Rattle.bx_dump_columns.proofs.CellsLemmas.{piece_more, range_more}
use Rattle.bx_dump_columns.proofs.xxd.cells.put_pieces.Goals as goal

pub loop-k-preserved : goal.loop-k-preserved
loop-k-preserved c =
    let n = c.args.piece in
    let k = c.loop-k.k in
    let cells = c.args.cells.now in
    let part = c.copy_from_slice.new.self in
    let next : (n + 1) * (k + 1) ≤ (n + 1) * c.args.count = mul-le-mul_left (n + 1) (omega arith) in
    let inside : n * (k + 1) ≤ n * c.args.count = mul-le-mul_left n (omega arith) in
    let many : n * k + n - n * k ≡ n = omega arith in
    let is : part ≡ take n (drop (n * k) cells) = c.copy_from_slice.ensures.after ∙ ap (λ m. take m (drop (n * k) cells)) many in
    let size : length part ≡ n = ap length is ∙ length-take-le n (drop (n * k) cells) (omega (arith, length-drop (n * k) cells)) in
    let same : (n + 1) * k + n - (n + 1) * k ≡ n = omega arith in
    let more = piece_more c.loop-k.field part ((n + 1) * k) n ((n + 1) * k + n - (n + 1) * k) ((n + 1) * (k + 1)) size same (omega (arith, c.loop-k.auto.field, c.requires.room)) (omega arith) in
    more ∙ ap (λ t. t ++ (part ++ 32 ∷ [])) c.loop-k.invariant ∙ ap (λ t. flat_map (piece_at n cells) (range_with_len 0 k) ++ (t ++ 32 ∷ [])) is ∙ sym (range_more (piece_at n cells) k)
