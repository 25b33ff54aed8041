use Rattle.std.proofs.Common.{◌+◌, ◌∙◌, ◌++◌, [], List, ℕ, ap, drop, take}
use Rattle.bx_journal_read.specs.scan.Windows.{rest_to}
use Rattle.bx_journal_image.specs.Digest.{image_digest}
use Rattle.bx_journal_image.specs.Written.{HasSummed, appended_bytes, at_lines, saved_bytes}
use Rattle.bx_journal_image.proofs.WrittenLemmas.{entry_lines}
use Rattle.bx_journal_image.proofs.finding.rest.digest_entry.Goals as goal

pub returns-clause-digest : goal.returns-clause-digest
returns-clause-digest g c = λ hi ht.
    let entry = c.args.entry in
    let x = g.D.Device.image c.args.image.now in
    let text = g.T.TextStore.text c.args.text.now in
    let looks = c.in_ok-all.ensures.looks.image in
    let named : List ℕ = at_lines x (rest_to (entry.from + c.min.result) entry.from text) in
    let summed : HasSummed c.sum_text.new.sum named = c.in_ok-all.ensures.sums hi ht c.if-not-all.false [] c.nothing_summed-sum.ensures in
    let lines = ap (λ k. at_lines x (rest_to (entry.from + k) entry.from text)) c.min.ensures ∙ entry_lines x text entry.from entry.to (c.requires.end ht) in
    let more = c.in_ok-more.ensures.bytes (looks.faith.1 hi) ∙ ap (λ y. appended_bytes y entry.before) (looks.same hi) in
    c.sum_end.ensures named summed
    ∙ ap (λ t. image_digest (take 1048576 t ++ take c.in_ok-more.more c.read_appended.new.window)) lines
    ∙ ap (λ t. image_digest (saved_bytes x (drop entry.from text) ++ t)) more
