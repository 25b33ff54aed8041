use Rattle.std.proofs.Common.{ℕ, List, ◌++◌, length, ap, ◌∙◌, arith, length-append}
use Rattle.bx_image.specs.declared.record.spans.Span.{Span}
use Rattle.bx_journal_format.specs.declared.format.version.Version.TheVariants.{Second}
use Rattle.bx_journal_format.specs.Line.{start_line}
use Rattle.bx_journal_format.specs.Text.{ended}
use Rattle.bx_journal_format.proofs.WriterLemmas.{start_long}
use Rattle.bx_journal_protocol.specs.write.Ranges.{left_text}
use Rattle.bx_journal_protocol.proofs.RangeLemmas.{head_over, place_first, ok_more}
use Rattle.bx_journal_protocol.proofs.write.ranges.begin_head.Goals as goal

pub push_line-requires-clause-free : goal.push_line-requires-clause-free
push_line-requires-clause-free g c = omega (arith, ap length c.requires.empty, c.requires.room)

pub fill_page-requires-clause-place : goal.fill_page-requires-clause-place
fill_page-requires-clause-place g c = place_first _ c.args.ranges.now c.requires.ordered

pub returns-clause-begun : goal.returns-clause-begun
returns-clause-begun g c faithful =
    let x : List ℕ = g.D.Device.image c.args.image.now in
    let ranges : List Span = c.args.ranges.now in
    let line : List ℕ = c.start_words.result in
    ok_more c.fill_page.result (c.fill_page.ensures.put faithful)
    (λ p put. head_over c.args.number x ranges c.fill_page.new.page.items line p (c.start_words.ensures.text ∙ ap (start_line Second c.args.number) (c.requires.long faithful))
    (put ∙ ap (λ t. t ++ left_text x ranges 0) (c.push_line.ensures.line ∙ ap (λ t. t ++ ended line) c.requires.empty)))

pub returns-clause-long : goal.returns-clause-long
returns-clause-long g c =
    let line : List ℕ = c.start_words.result in
    ok_more c.fill_page.result c.fill_page.ensures.long
    (λ p long. omega (
      arith,
      long,
      ap length c.push_line.ensures.line,
      length-append c.args.page.now.items (ended line),
      ap length c.requires.empty,
      ap (λ l. length (ended l)) c.start_words.ensures.text,
      start_long c.args.number c.args.len,
    ))
