use Rattle.std.proofs.Common.{◌≡◌, take, ◌++◌, replicate, ap, ◌∙◌}
use lib.Lanes.{pick_l}
use Rattle.bx_dump_columns.specs.Decimal.{cells_len}
use Rattle.bx_dump_columns.proofs.OdTwos.{columns, signed_places, unsigned_places, signed_is, unsigned_is}
use Rattle.bx_dump_columns.proofs.od.decimal_twos.cells_of.Goals.{then-signed, else-signed}
use Rattle.bx_dump_columns.proofs.od.decimal_twos.cells_of.Goals as goal

pub returns-clause-text : goal.returns-clause-text
returns-clause-text c =
    let signed = c.args.signed in
    let values = c.args.values in
    let low = c.eight_and_eight-low.ensures ∙ (λ i. c.chars_at.ensures i ++ c.last_chars.ensures i) in
    let middle = c.eight_and_eight-middle.ensures ∙ (λ i. c.chars_at-2.ensures i ++ c.chars_at-3.ensures i) in
    let high = c.eight_and_eight-high.ensures ∙ (λ i. c.first_chars.ensures i ++ c.chars_at-4.ensures i) in
    let back = c.all_of-back.ensures ∙ (λ i. low i ++ middle i) in
    let front = c.all_of-front.ensures ∙ ap (λ l. l ++ replicate 16 32) high in
    let is : c.all_of-back.result ++ c.all_of-front.result ≡ columns signed values = λ i. back i ++ front i in
    elim c.if-signed.branch [
      | then-signed w ↦ ap (take (cells_len signed)) (w.result-is ∙ ap (λ l. pick_l 0 l signed_places) is) ∙ rw w.if-signed.true (signed_is values c.fits-values.0)
      | else-signed w ↦ ap (take (cells_len signed)) (w.result-is ∙ ap (λ l. pick_l 0 l unsigned_places) is) ∙ rw w.if-signed.false (unsigned_is values c.fits-values.0)
    ]
