-- Rows of dd, computed from the definitions.
use Rattle.std.specs.Prelude.{◌≡◌, ◌/◌, ℕ, true, false, None, Some, List, [], ◌∷◌, ◌++◌, refl, codes, length, take}
use Rattle.bx_text.specs.InPieces.{in_pieces}
use Rattle.bx_dd.specs.declared.form.Form.{Form}
use Rattle.bx_dd.specs.declared.form.Letters.TheVariants.{Keep, Upper}
use Rattle.bx_dd.specs.declared.form.Shape.TheVariants.{Flat, Block, Unblock}
use Rattle.bx_dd.specs.Output.{converted, cut_records, turned_blocks, swapped, records, shaped, unfinished}
use Rattle.bx_dd.specs.private.Output.{block_of, fitted, line_of}
use Rattle.bx_dd.specs.private.Transfer.{selected}
use Rattle.bx_dd.specs.private.Counting.{parts_in}
use Rattle.bx_dd.specs.private.Standing.{record_rest}

swab_odd_block : converted (record { ibs = 3; obs = 512; cbs = 0; swab = true; sync = false; letters = Keep; shape = Flat }) (codes "ABCDEF") ≡ codes "BACEDF"
unfolding turned_blocks in_pieces block_of swapped shaped fitted line_of
swab_odd_block = refl

block_row : converted (record { ibs = 512; obs = 512; cbs = 4; swab = false; sync = false; letters = Keep; shape = Block }) (codes "ab\nlongline\n") ≡ codes "ab  long"
unfolding turned_blocks in_pieces block_of swapped shaped records fitted line_of
block_row = refl

block_cut : cut_records Block 4 (codes "ab\nlongline\n") ≡ 1
unfolding cut_records records
block_cut = refl

unblock_row : converted (record { ibs = 512; obs = 512; cbs = 4; swab = false; sync = false; letters = Keep; shape = Unblock }) (codes "ab  cd") ≡ codes "ab\ncd\n"
unfolding turned_blocks in_pieces block_of swapped shaped line_of fitted
unblock_row = refl

sync_row : converted (record { ibs = 4; obs = 512; cbs = 0; swab = false; sync = true; letters = Keep; shape = Flat }) (codes "abcde") ≡ codes "abcde" ++ 0 ∷ 0 ∷ 0 ∷ []
unfolding turned_blocks in_pieces block_of swapped shaped fitted line_of
sync_row = refl

skip_count_row : converted (record { ibs = 2; obs = 2; cbs = 0; swab = false; sync = false; letters = Upper; shape = Flat }) (selected 2 1 (Some 1) (codes "abcdef")) ≡ codes "CD"
unfolding turned_blocks in_pieces block_of swapped shaped fitted line_of
skip_count_row = refl

skip_past_end : converted (record { ibs = 512; obs = 512; cbs = 0; swab = false; sync = false; letters = Keep; shape = Flat }) (selected 512 9 None (codes "abc")) ≡ []
unfolding turned_blocks in_pieces block_of swapped shaped fitted line_of
skip_past_end = refl

count_zero : converted (record { ibs = 512; obs = 512; cbs = 0; swab = false; sync = false; letters = Keep; shape = Flat }) (selected 512 0 (Some 0) (codes "abc")) ≡ []
unfolding turned_blocks in_pieces block_of swapped shaped fitted line_of
count_zero = refl

sync_block_row : converted (record { ibs = 4; obs = 512; cbs = 2; swab = false; sync = true; letters = Keep; shape = Block }) (codes "a\nb") ≡ codes "a b "
unfolding turned_blocks in_pieces block_of swapped shaped records fitted line_of
sync_block_row = refl

by_blocks : converted (record { ibs = 3; obs = 512; cbs = 4; swab = false; sync = false; letters = Upper; shape = Block }) (codes "ab\nlongline\n") ≡ codes "AB  LONG"
unfolding turned_blocks in_pieces block_of swapped shaped records fitted line_of
by_blocks = refl

abbrev upper_records : Form
upper_records = record { ibs = 3; obs = 512; cbs = 4; swab = false; sync = false; letters = Upper; shape = Block }

abbrev held_after : List ℕ → ℕ
held_after input = length (take 4 (record_rest Block 4 (turned_blocks upper_records input)))

held_first : held_after (codes "ab\n") ≡ 0
unfolding turned_blocks in_pieces block_of swapped unfinished
held_first = refl

held_second : held_after (codes "ab\nlon") ≡ 3
unfolding turned_blocks in_pieces block_of swapped unfinished
held_second = refl

held_third : held_after (codes "ab\nlongli") ≡ 4
unfolding turned_blocks in_pieces block_of swapped unfinished
held_third = refl

held_last : held_after (codes "ab\nlongline\n") ≡ 0
unfolding turned_blocks in_pieces block_of swapped unfinished
held_last = refl

-- 4+0 in, 0+1 out, cut 1
whole_in : length (codes "ab\nlongline\n") / 3 ≡ 4
whole_in = refl

part_out : parts_in 512 (length (codes "AB  LONG")) ≡ 1
part_out = refl

sync_counts : parts_in 4 (length (codes "abcde")) ≡ 1
sync_counts = refl
