use Rattle.std.proofs.Common.{◌≡◌, ℕ, ◌+◌, ◌-◌, ◌*◌, ◌<◌, ◌≤◌, ◌++◌, ◌∷◌, [], length, take, drop, arith, sym, ap, ◌∙◌}
use Rattle.std.specs.List.{flat_map, range_with_len}
use Rattle.std.proofs.lemmas.List.{length-take-le, length-drop}
use Rattle.std.proofs.Math.Nat.{mul-le-mul_left}
use Rattle.bx_dump_columns.specs.Cells.{piece_at}
use Rattle.bx_dump_columns.proofs.CellsLemmas.{piece_more, range_more}
use Rattle.bx_dump_columns.proofs.xxd.cells.put_fixed_pieces.Goals as goal

-- piece k is among all
piece_fits : (n k count : ℕ) → k < count → n * k + n ≤ n * count
piece_fits n k count below = let next : n * (k + 1) ≤ n * count = mul-le-mul_left n (omega arith) in omega arith

pub overflow_mul-at : goal.overflow_mul-at
overflow_mul-at g c = omega (arith, piece_fits (g.row.N + 1) c.loop-k.k c.args.count c.loop-k-test.true, c.requires.room)

pub overflow_mul-k : goal.overflow_mul-k
overflow_mul-k g c = omega (arith, piece_fits g.row.N c.loop-k.k c.args.count c.loop-k-test.true, c.requires.enough)

pub overflow_mul-k-in-loop-k : goal.overflow_mul-k-in-loop-k
overflow_mul-k-in-loop-k g c = omega (arith, piece_fits g.row.N c.loop-k.k c.args.count c.loop-k-test.true, c.requires.enough)

pub overflow_add-k : goal.overflow_add-k
overflow_add-k g c = omega (arith, piece_fits g.row.N c.loop-k.k c.args.count c.loop-k-test.true, c.requires.enough)

pub slice_bounds-copy_from_slice-end-in-loop-k : goal.slice_bounds-copy_from_slice-end-in-loop-k
slice_bounds-copy_from_slice-end-in-loop-k g c =
    let inside : g.row.N * c.loop-k.k + g.row.N ≤ length c.args.cells.now = omega (arith, piece_fits g.row.N c.loop-k.k c.args.count c.loop-k-test.true, c.requires.enough) in
    inside

pub loop-k-preserved : goal.loop-k-preserved
loop-k-preserved g c =
    let n = g.row.N in
    let k = c.loop-k.k in
    let cells = c.args.cells.now in
    let part = c.copy_from_slice-in-loop-k.new.self in
    let next : (n + 1) * (k + 1) ≤ (n + 1) * c.args.count = mul-le-mul_left (n + 1) (omega arith) in
    let inside : n * (k + 1) ≤ n * c.args.count = mul-le-mul_left n (omega arith) in
    let many : n * k + n - n * k ≡ n = omega arith in
    let is : part ≡ take n (drop (n * k) cells) = c.copy_from_slice-in-loop-k.ensures.after ∙ c.copy_from_slice.ensures.after ∙ ap (λ m. take m (drop (n * k) cells)) many in
    let size : length part ≡ n = ap length is ∙ length-take-le n (drop (n * k) cells) (omega (arith, length-drop (n * k) cells)) in
    let same : (n + 1) * k + n - (n + 1) * k ≡ n = omega arith in
    let more = piece_more c.loop-k.field part ((n + 1) * k) n ((n + 1) * k + n - (n + 1) * k) ((n + 1) * (k + 1)) size same (omega (arith, c.loop-k.auto.field, c.requires.room)) (omega arith) in
    more ∙ ap (λ t. t ++ (part ++ 32 ∷ [])) c.loop-k.invariant ∙ ap (λ t. flat_map (piece_at n cells) (range_with_len 0 k) ++ (t ++ 32 ∷ [])) is ∙ sym (range_more (piece_at n cells) k)
