use Rattle.std.proofs.Common.{take, refl, ap, sym, ◌∙◌}
use Rattle.bx_journal_format.specs.Kept.{Run}
use Rattle.bx_journal_format.specs.Line.{save_line, saved_in}
use Rattle.bx_journal_format.specs.Text.{Saving, Ending}
use Rattle.bx_journal_format.specs.read.Event.{kept_with}
use Rattle.bx_journal_format.proofs.Inverse.{same_bytes}
use Rattle.bx_journal_format.proofs.StepLemmas.{saves, adds, stops}
use Rattle.bx_journal_format.proofs.read.classify.among.Goals as goal

pub returns-then-is_save : goal.returns-then-is_save
returns-then-is_save c es s e same =
    let save = sym c.is_save.ensures ∙ c.if-is_save.true in
    record {
      reading = record { entries = es; stage = Ending c.args.version s };
      leads = saves es c.args.number c.args.version s c.args.line.now e save;
      is = (s, refl, refl, same_bytes c.args.line.now (save_line c.args.number) save ∙ ap save_line (sym e));
    }

pub returns-in_err-line : goal.returns-in_err-line
returns-in_err-line c es s e same =
    rw (c.from_residual.ensures) (stops es c.args.number c.args.version s c.args.line.now e (sym c.is_save.ensures ∙ c.if-is_save.false) (ap (λ n. saved_in n c.args.line.now) same ∙ c.in_err-line.ensures))

pub returns : goal.returns
returns c es s e same =
    let p : Run = record { at = c.in_ok-line.line.at; bytes = take c.in_ok-line.line.count c.in_ok-line.line.bytes } in
    let saved = ap (λ n. saved_in n c.args.line.now) same ∙ c.in_ok-line.ensures in
    record {
      reading = record { entries = es; stage = Saving c.args.version (kept_with s p) };
      leads = adds es c.args.number c.args.version s c.args.line.now e p (sym c.is_save.ensures ∙ c.if-is_save.false) saved;
      is = (c.args.version, s, refl, refl, saved);
    }
