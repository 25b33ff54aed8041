use Rattle.std.proofs.Common.{◌≡◌, ◌++◌, true, false, sym, ◌∙◌, refl, ap, codes}
use Rattle.std.specs.Str.{bytes_eq}
use Rattle.std.proofs.lemmas.List.{take_all}
use Rattle.std.proofs.lemmas.Slice.Eq.{bytes_eq-Decides}
use Rattle.bx_journal_image.specs.Entry.{beginning_line}
use Rattle.bx_journal_image.specs.Line.{field}
use Rattle.bx_journal_image.proofs.EntryLemmas.{begin_fields, too_short}
use Rattle.bx_journal_image.proofs.finding.entry.length_in.Goals as goal

pub returns-then-first-lt-FIRST : goal.returns-then-first-lt-FIRST
returns-then-first-lt-FIRST c = λ before tells. too_short c.args.first.now before c.if-first-lt-FIRST.true tells

pub returns-then-eq : goal.returns-then-eq
returns-then-eq c = record {
  n = c.number_behind-number.result.number;
  number = c.number_behind-number.ensures.fits;
  fits = c.number_behind-before.ensures.fits;
  is = take_all 34 c.args.first.now c.requires
      ∙ sym ((bytes_eq-Decides c.as_bytes.result.now c.args.first.now).0 (sym c.eq.ensures ∙ c.if-eq.true))
      ∙ c.as_bytes.ensures.value ∙ c.write_beginning-written.ensures;
}

pub returns-else-eq : goal.returns-else-eq
returns-else-eq c = λ before tells.
    let line = sym (take_all 34 c.args.first.now c.requires) ∙ tells.is in
    let one = c.number_behind-number.ensures.is (codes "change2 ") (field (codes " ") 16 before ++ codes "\n") tells.n refl tells.number (begin_fields c.args.first.now tells.n before line) in
    let two = c.number_behind-before.ensures.is (codes " ") (codes "\n") before refl tells.fits one.1 in
    let written : c.as_bytes.result.now ≡ c.args.first.now =
    c.as_bytes.ensures.value ∙ c.write_beginning-written.ensures ∙ ap (λ k. beginning_line k c.number_behind-before.result.number) one.0 ∙ ap (beginning_line tells.n) two.0 ∙ sym line in
    let same : bytes_eq c.as_bytes.result.now c.args.first.now ≡ true = (bytes_eq-Decides c.as_bytes.result.now c.args.first.now).1 written in
    let test : false ≡ true = sym c.if-eq.false ∙ c.eq.ensures ∙ same in
    absurd (cc)
