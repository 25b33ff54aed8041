use Rattle.std.proofs.Common.{◌≡◌, ◌-◌, ◌∙◌, ap, length, min, subst}
use Rattle.md5.specs.Md5.{Holds}
use Rattle.bx_journal_image.proofs.WrittenLemmas.{first_more, left_more}
use Rattle.bx_journal_image.proofs.finding.summed.sum_bytes.Goals as goal

pub returns : goal.returns
returns c = λ all before.
    let bytes = c.args.bytes.now in
    let count : c.min-count.result ≡ min (length bytes) (1048576 - length all) = c.min-count.ensures ∙ ap (min (length bytes)) before.left in
    record {
      hash = subst (λ m. Holds c.update.new.self m) (first_more 1048576 c.min-count.result all bytes count) (c.update.ensures _ before.hash);
      left = left_more 1048576 c.args.sum.now.left c.min-count.result all bytes before.left c.min-count.ensures;
    }
