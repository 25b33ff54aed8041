use Rattle.std.proofs.Common.{◌∙◌, ◌+◌, [], Some, None, ap, sym, subst, arith}
use Rattle.bx_journal_format.specs.Kept.{kept_of}
use Rattle.bx_journal_format.specs.Parsed.{told_by, IsStageMarked, entries_of, stage_of}
use Rattle.bx_journal_format.proofs.ReadLoop.{marked_few}
use Rattle.bx_journal_read.specs.scan.Recovery.{HasMark}
use Rattle.bx_journal_model.specs.Restoring.{StandsAt}
use Rattle.bx_journal_model.proofs.StandLemmas.{ending_fits, ending_stands}
use Rattle.bx_journal_read.proofs.TailLemmas.{begins_at, torn_read}
use Rattle.bx_journal_read.proofs.scan.journal.as_torn.Goals as goal

pub overflow_cast-count : goal.overflow_cast-count
overflow_cast-count g c =
    let r = c.requires.read in
    let j = c.args.journal.now in
    omega (arith, c.len-count.ensures, j.entries.ok.0, j.entries.ok.1, marked_few r.0 [] j.entries.items j.stage j.whole r.1.places.marked)

pub returns-in-Between-clause-torn : goal.returns-in-Between-clause-torn
returns-in-Between-clause-torn g c text read =
    let j = c.args.journal.now in
    torn_read text j _ read (ap (λ stage. begins_at stage j.whole) (sym c.in-Between.is)) (omega (arith, c.len-count.ensures, j.entries.ok.0, j.entries.ok.1))
    (c.told_length-told.ensures ∙ ap (λ es. told_by (entries_of es)) c.deref.ensures.value)
    (subst (λ stage. HasMark text (stage_of stage) None) (sym c.in-Between.is) tt)

pub returns-in-Saving-clause-torn : goal.returns-in-Saving-clause-torn
returns-in-Saving-clause-torn g c text read =
    let j = c.args.journal.now in
    torn_read text j _ read (ap (λ stage. begins_at stage j.whole) (sym c.in-Saving.is)) (omega (arith, c.len-count.ensures, j.entries.ok.0, j.entries.ok.1))
    (c.told_length-told.ensures ∙ ap (λ es. told_by (entries_of es)) c.deref.ensures.value)
    (subst (λ stage. HasMark text (stage_of stage) None) (sym c.in-Saving.is) tt)

pub returns-in-Ending-clause-torn : goal.returns-in-Ending-clause-torn
returns-in-Ending-clause-torn g c text read =
    let j = c.args.journal.now in
    let marked = subst (λ stage. IsStageMarked text [] j.entries.items stage j.whole) c.in-Ending.is read.places.marked in
    let stands = ending_stands text j.entries.items c.in-Ending.version c.in-Ending.kept c.in-Ending.begins c.in-Ending.saved j.whole marked in
    let here = subst (λ n. StandsAt text (record { lines = c.in-Ending.begins + n + 1; saved = c.in-Ending.saved; len = c.in-Ending.kept.len }) (kept_of c.in-Ending.kept)) (sym c.start_size.ensures) stands in
    torn_read text j _ read (ap (λ stage. begins_at stage j.whole) (sym c.in-Ending.is)) (omega (arith, c.len-count.ensures, j.entries.ok.0, j.entries.ok.1))
    (c.told_length-told.ensures ∙ ap (λ es. told_by (entries_of es)) c.deref.ensures.value)
    (subst (λ stage. HasMark text (stage_of stage) (Some (record { lines = c.in-Ending.begins + c.start_size.result + 1; saved = c.in-Ending.saved; len = c.in-Ending.kept.len }))) (sym c.in-Ending.is) here)

pub overflow_add-result : goal.overflow_add-result
overflow_add-result g c =
    let j = c.args.journal.now in
    let r = c.requires.read in
    let marked = subst (λ stage. IsStageMarked r.0 [] j.entries.items stage j.whole) c.in-Ending.is r.1.places.marked in
    omega (arith, ending_fits r.0 j.entries.items c.in-Ending.version c.in-Ending.kept c.in-Ending.begins c.in-Ending.saved j.whole marked, r.2, c.start_size.ensures)

pub overflow_add-result-in-Ending : goal.overflow_add-result-in-Ending
overflow_add-result-in-Ending g c =
    let j = c.args.journal.now in
    let r = c.requires.read in
    let marked = subst (λ stage. IsStageMarked r.0 [] j.entries.items stage j.whole) c.in-Ending.is r.1.places.marked in
    omega (arith, ending_fits r.0 j.entries.items c.in-Ending.version c.in-Ending.kept c.in-Ending.begins c.in-Ending.saved j.whole marked, r.2, c.start_size.ensures)

pub returns-in-Ending-clause-order : goal.returns-in-Ending-clause-order
returns-in-Ending-clause-order g c =
    let j = c.args.journal.now in
    let r = c.requires.read in
    let marked = subst (λ stage. IsStageMarked r.0 [] j.entries.items stage j.whole) c.in-Ending.is r.1.places.marked in
    omega (arith, (ending_stands r.0 j.entries.items c.in-Ending.version c.in-Ending.kept c.in-Ending.begins c.in-Ending.saved j.whole marked).order, c.start_size.ensures)
