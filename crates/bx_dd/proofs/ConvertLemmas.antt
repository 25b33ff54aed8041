-- Blocks, turned_blocks.
use Rattle.std.proofs.Common.{◌≡◌, ℕ, ◌%◌, ◌/◌, ◌<◌, ◌≤◌, min, refl, Bool, true, false, cond, List, [], ◌++◌, length, replicate, ◌-◌, arith, length-append}
use Rattle.std.proofs.lemmas.List.{length-map, length-replicate}
use Rattle.bx_dd.proofs.BlockLemmas.{length-swapped}
use Rattle.bx_text.proofs.PiecesLemmas.{in_pieces-none, in_pieces-more}
use Rattle.bx_dd.specs.declared.form.Form.{Form}
use Rattle.bx_dd.specs.Counting.{counts_of}
use Rattle.bx_dd.specs.Output.{converted, cut_records, turned_blocks, swapped, cased, filler}
use Rattle.bx_dd.specs.private.Output.{block_of}

pub joined_none : (form : Form) → 0 < form.ibs → turned_blocks form [] ≡ []
unfolding turned_blocks block_of
joined_none form pos = in_pieces-none (block_of form) form.ibs pos

-- one block more
pub joined_more : (form : Form) (input block : List ℕ) → 0 < form.ibs → length input % form.ibs ≡ 0 → 0 < length block → length block ≤ form.ibs →
    turned_blocks form (input ++ block) ≡ turned_blocks form input ++ block_of form block
unfolding turned_blocks block_of
joined_more form input block pos whole some fits = in_pieces-more (block_of form) form.ibs input block pos whole some fits

length-filled : (fill n : ℕ) (xs : List ℕ) → length xs ≤ n → length (xs ++ replicate (n - length xs) fill) ≡ n
length-filled fill n xs fits = omega (arith, length-append xs (replicate (n - length xs) fill), length-replicate {A = ℕ} (n - length xs) fill)

length-chosen : (b : Bool) (n : ℕ) (xs ys : List ℕ) → length xs ≤ n → length ys ≤ n → length (cond b xs ys) ≤ n
length-chosen true n xs ys p q = p
length-chosen false n xs ys p q = q

-- a block stays within its size
pub length-block : (form : Form) (block : List ℕ) → length block ≤ form.ibs → length (block_of form block) ≤ form.ibs
unfolding block_of
length-block form block fits =
    let n = form.ibs in
    let filled = block ++ replicate (n - length block) (filler form.shape) in
    let full = cond form.sync filled block in
    let short : length full ≤ n = length-chosen form.sync n filled block (omega (arith, length-filled (filler form.shape) n block fits)) fits in
    omega (arith, length-map (cond form.swab (swapped full) full) (cased form.letters), length-chosen form.swab n (swapped full) full (omega (arith, length-swapped full)) short)

-- what is counted
pub counts_same : (form : Form) (input bytes : List ℕ) (taken part_in part_out cut : ℕ) → taken ≡ length input → bytes ≡ converted form input →
    part_in ≡ min (taken % form.ibs) 1 → part_out ≡ min (length bytes % form.obs) 1 → cut ≡ cut_records form.shape form.cbs (turned_blocks form input) → (n : ℕ) → n ≡ length bytes →
    record { whole_in = taken / form.ibs; part_in = part_in; whole_out = n / form.obs; part_out = part_out; cut = cut } ≡ counts_of form input
counts_same form input bytes taken part_in part_out cut a b i o c n l = rw (i, o, c, l, a, b) refl
