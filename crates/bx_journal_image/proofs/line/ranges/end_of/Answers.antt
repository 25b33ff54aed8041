use Rattle.std.proofs.Common.{◌≡◌, ◌-◌, ◌++◌, true, false, sym, ◌∙◌, refl, arith, ap, length, length-append, codes}
use Rattle.std.specs.Str.{bytes_eq}
use Rattle.std.proofs.lemmas.Slice.Eq.{bytes_eq-Decides}
use Rattle.bx_journal_image.specs.Line.{field}
use Rattle.bx_journal_image.specs.Ranges.{ending_line}
use Rattle.bx_journal_image.proofs.RangeLemmas.{end_long, fields_in, last_of}
use Rattle.bx_journal_image.proofs.line.ranges.end_of.Goals as goal

pub returns-then-text-lt-END-clause-none : goal.returns-then-text-lt-END-clause-none
returns-then-text-lt-END-clause-none c n h =
    absurd (omega (arith, ap length h.is, length-append h.front (ending_line n h.after), end_long n h.after, c.if-text-lt-END.true))

pub returns-else-eq-clause-none : goal.returns-else-eq-clause-none
returns-else-eq-clause-none c n h =
    let line : c.split_at.result.1.now ≡ ending_line n h.after = c.split_at.ensures.back ∙ last_of c.args.text.now h.front n h.after (length c.args.text.now - 32) h.is refl in
    let one = c.number_behind-number.ensures.is (codes "done2 ") (field (codes " ") 16 h.after ++ codes "\n") n refl h.number (fields_in c.split_at.result.1.now n h.after line) in
    let two = c.number_behind-after.ensures.is (codes " ") (codes "\n") h.after refl h.fits one.1 in
    let written : c.as_bytes.result.now ≡ c.split_at.result.1.now =
    c.as_bytes.ensures.value ∙ c.write_end-written.ensures ∙ ap (λ k. ending_line k c.number_behind-after.result.number) one.0 ∙ ap (ending_line n) two.0 ∙ sym line in
    let same : bytes_eq c.as_bytes.result.now c.split_at.result.1.now ≡ true = (bytes_eq-Decides c.as_bytes.result.now c.split_at.result.1.now).1 written in
    let test : false ≡ true = sym c.if-eq.false ∙ c.eq.ensures ∙ same in
    absurd (cc)
