use Rattle.std.proofs.Common.{◌∙◌}
use Rattle.bx_dump_columns.proofs.OdHex.{line_of_one, line_of_two, line_of_four, line_of_eight}
use Rattle.bx_dump_columns.proofs.od.hexadecimal.put_hexadecimal_line.Goals as goal

pub returns-in-One-clause-text : goal.returns-in-One-clause-text
returns-in-One-clause-text c =
    rw c.in-One.is (c.put_values_of_one.ensures.text c.args.bytes.now c.told-bytes c.put_sixteen.ensures ∙ line_of_one c.args.bytes.now c.told-bytes (λ k. record { fits = c.fits-bytes k }))

pub returns-in-Two-clause-text : goal.returns-in-Two-clause-text
returns-in-Two-clause-text c =
    rw c.in-Two.is (c.put_values_of_two.ensures.text c.args.bytes.now c.told-bytes c.put_sixteen.ensures ∙ line_of_two c.args.bytes.now c.told-bytes (λ k. record { fits = c.fits-bytes k }))

pub returns-in-Four-clause-text : goal.returns-in-Four-clause-text
returns-in-Four-clause-text c =
    rw c.in-Four.is (c.put_values_of_four.ensures.text c.args.bytes.now c.told-bytes c.put_sixteen.ensures ∙ line_of_four c.args.bytes.now c.told-bytes (λ k. record { fits = c.fits-bytes k }))

pub returns-in-Eight-clause-text : goal.returns-in-Eight-clause-text
returns-in-Eight-clause-text c =
    rw c.in-Eight.is (c.put_values_of_eight.ensures.text c.args.bytes.now c.told-bytes c.put_sixteen.ensures ∙ line_of_eight c.args.bytes.now c.told-bytes (λ k. record { fits = c.fits-bytes k }))
