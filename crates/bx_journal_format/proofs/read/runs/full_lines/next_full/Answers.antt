use Rattle.std.proofs.Common.{◌≡◌, ◌+◌, ◌<◌, ◌++◌, ◌∷◌, ℕ, length, take, drop, ap, ◌∙◌, subst, arith, Some}
use Rattle.bx_journal_format.specs.read.Plain.{HasNoNewline}
use Rattle.bx_journal_format.proofs.SavedLines.{saved_reads}
use Rattle.bx_journal_format.proofs.read.runs.full_lines.next_full.Goals as goal

pub returns : goal.returns
returns c =
    let text = c.args.text.now in
    let full = c.in_ok-full.full in
    let found = c.in_ok-end_at.ensures.found in
    let is : c.in_ok-end_at.field-0 ≡ 67 = c.in_ok-end_at.ensures.place in
    let f = subst (λ i. (i < length text) × HasNoNewline (take i text) × (text ≡ take i text ++ 10 ∷ drop (i + 1) text)) is found in
    let long : length full.bytes ≡ 16 = omega arith in
    let place : full.at ≡ c.args.at + c.args.size = omega arith in
    record {
      long = omega (arith, f.0);
      plain = f.1;
      ended = f.2;
      saved = saved_reads c.args.len (take 67 text) (record { at = full.at; bytes = full.bytes }) c.in_ok-full.ensures (omega (arith, long)) (omega (arith, long, c.in_ok-within.ensures.1))
          ∙ ap (λ (n : ℕ). Some (record { at = n; bytes = full.bytes })) place;
    }
