use Rattle.std.proofs.Common.{◌≡◌, ◌++◌, length, refl, ap, ◌∙◌}
use Rattle.std.specs.List.{flat_map}
use Rattle.bx_dump_columns.specs.declared.od.options.NumForm.TheVariants as form
use Rattle.bx_dump_columns.proofs.OdFours.{cell, fours_length, four_parts, four_values, both_taken}
use Rattle.bx_dump_columns.proofs.od.decimal_fours.put_signed_fours.Goals as goal

pub returns-clause-text : goal.returns-clause-text
returns-clause-text c =
    let bytes = c.args.bytes.now in
    let first = c.put_signed_pair in
    let second = c.put_signed_pair-2 in
    let long_first : length first.new.text ≡ 24 = first.auto.text ∙ c.split_at_mut-front.ensures.front_len in
    let long_second : length second.new.text ≡ 24 = second.auto.text ∙ c.split_at_mut-back.ensures.front_len in
    let long : length c.fours_of.result ≡ 4 = ap length c.fours_of.ensures ∙ fours_length 4 bytes c.told-bytes in
    both_taken 48 24 first.new.text second.new.text c.split_at_mut-back.result.1.now long_first long_second refl
    ∙ (λ i. first.ensures i ++ second.ensures i)
    ∙ four_parts form.Signed c.fours_of.result long ∙ ap (flat_map (cell form.Signed)) c.fours_of.ensures ∙ four_values form.Signed 4 bytes c.told-bytes 0
