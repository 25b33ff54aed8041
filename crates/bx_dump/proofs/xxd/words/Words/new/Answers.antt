use Rattle.std.proofs.Common.{◌≡◌, ◌+◌, ◌-◌, ◌*◌, ◌/◌, ◌≤◌, refl, arith}
use Rattle.std.proofs.Math.Nat.{mul-div-le, mul-le-mul_left}
use Rattle.bx_dump_columns.proofs.LinesLemmas.{count_most}
use Rattle.bx_dump.proofs.xxd.words.Words.new.Goals as goal

pub invariant_of-result : goal.invariant_of-result
invariant_of-result c =
    let cols = c.args.cols in
    let group = c.args.group in
    let count = (cols + group - 1) / group in
    let all : cols * 1 ≤ cols * group = mul-le-mul_left {m = 1} {n = group} cols (omega (arith, c.requires.some_group)) in
    let few : count ≤ cols = count_most cols group cols c.requires.some_group (omega arith) in
    let bytes : group * count ≤ cols + group - 1 = mul-div-le (cols + group - 1) group in
    record {
      some = c.requires.some;
      few = c.requires.few;
      some_group = c.requires.some_group;
      few_groups = c.requires.few_groups;
      groups = refl;
      few_words = omega (arith, few, c.requires.few);
      narrow = omega (arith, bytes, few, c.requires.few, c.requires.few_groups);
    }
