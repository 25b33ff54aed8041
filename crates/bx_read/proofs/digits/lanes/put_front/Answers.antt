use Rattle.std.proofs.Common.{◌/◌, ap, take, ◌∙◌}
use Rattle.bx_read.proofs.FrontLemmas.{front_digits_are, few, front_bytes}
use Rattle.bx_read.proofs.digits.lanes.put_front.Goals as goal

pub returns-clause-count : goal.returns-clause-count
returns-clause-count c = ap (λ n. n / 2) (c.front_values.ensures ∙ front_digits_are (take 16 c.args.text.now) c.values_of-values.result c.values_of-values.ensures)

pub returns-clause-few : goal.returns-clause-few
returns-clause-few c =
    few c.args.text.now c.values_of-values.result c.args.out.now c.front_values.result c.requires.text c.requires.room c.values_of-values.ensures c.front_values.ensures

pub returns-clause-bytes : goal.returns-clause-bytes
returns-clause-bytes c =
    front_bytes c.args.text.now c.values_of-values.result c.args.out.now c.front_values.result c.requires.text c.requires.room c.values_of-values.ensures c.front_values.ensures
