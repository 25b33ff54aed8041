use Rattle.std.proofs.Common.{◌≡◌, ◌-◌, ◌*◌, length, replicate, arith, sym, refl, ap, ◌∙◌, append_assoc}
use Rattle.std.specs.Prelude.{codes, reverse}
use Rattle.std.specs.List.{flat_map}
use Rattle.std.proofs.lemmas.List.{length-reverse}
use Rattle.bx_text.specs.Dump.{pair_of}
use Rattle.bx_dump_columns.proofs.CellsLemmas.{blanks}
use Rattle.bx_dump_columns.proofs.LinesLemmas.{cells_len}
use Rattle.bx_dump_columns.proofs.xxd.words.put_word.Goals as goal

pub returns : goal.returns
returns c =
    let bytes = c.args.bytes.now in
    let shown = flat_map (pair_of c.args.upper) (reverse bytes) in
    let size : length shown ≡ 2 * length bytes = cells_len (pair_of c.args.upper) 2 (λ b. refl) (reverse bytes) ∙ ap (λ n. 2 * n) (length-reverse bytes) in
    let gap = blanks c.blank.new.field (2 * c.args.group - length shown) (omega (arith, size, c.blank.auto.field, c.split_at_mut-gap.ensures.front_len)) (λ k inside. c.blank.ensures k inside) in
    rw (gap, c.put_turned.ensures, c.copy_from_slice.ensures.after) (sym (append_assoc (replicate (2 * c.args.group - length shown) 32) shown (codes " ")))
