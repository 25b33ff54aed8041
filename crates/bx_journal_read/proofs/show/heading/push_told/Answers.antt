use Rattle.std.proofs.Common.{◌≡◌, ◌++◌, OnOk, string_bytes, subst, sym}
use Rattle.bx_journal_read.specs.show.ShownSteps.{told_end}
use Rattle.bx_journal_read.proofs.show.heading.push_told.Goals as goal

pub returns-in-true : goal.returns-in-true
returns-in-true g c =
    subst (λ b. OnOk c.push_kept.result (string_bytes c.push_kept.new.text ≡ string_bytes c.args.text.now ++ told_end b c.args.after c.args.len)) (sym c.in-true.is) c.push_kept.ensures

pub returns-in-false : goal.returns-in-false
returns-in-false g c =
    subst (λ b. OnOk c.push_changed.result (string_bytes c.push_changed.new.text ≡ string_bytes c.args.text.now ++ told_end b c.args.after c.args.len)) (sym c.in-false.is) c.push_changed.ensures
