use Rattle.std.proofs.Common.{refl, arith}
use Rattle.bx_image.proofs.Survivors.{NoMore_then}
use Rattle.bx_journal_read.proofs.RecoverLemmas.{counts_among}
use Rattle.bx_journal.proofs.recovery.unfinished.get_ready.Goals as goal

pub returns-in-Err-prepare-clause-counts : goal.returns-in-Err-prepare-clause-counts
returns-in-Err-prepare-clause-counts g c =
    counts_among c.in-Err-prepare.fault _ _ _ _ _ _ _ _ _ _ c.in-Err-prepare.ensures.looks.counts (λ h. omega (arith, h)) (λ h. (h.0, refl, refl))

pub returns-in-Err-clause-found_before : goal.returns-in-Err-clause-found_before
returns-in-Err-clause-found_before g c = record { image_before = λ h k there. there; journal_before = λ h k there. there; redo_before = λ h k there. there }

pub returns-in-Err-prepare-clause-found_before : goal.returns-in-Err-prepare-clause-found_before
returns-in-Err-prepare-clause-found_before g c =
    record { image_before = c.prepare.ensures.found_before; journal_before = λ h k there. there; redo_before = λ h k there. there }

pub returns-in-Ok-settle-clause-found_before : goal.returns-in-Ok-settle-clause-found_before
returns-in-Ok-settle-clause-found_before g c = record {
  image_before = λ h. NoMore_then _ _ _ (c.prepare.ensures.found_before h) (c.settle.ensures.found_before.image_before (c.prepare.ensures.looks.faith.1 h));
  journal_before = c.settle.ensures.found_before.journal_before;
  redo_before = c.settle.ensures.found_before.redo_before;
}

pub returns-in-Err-settle-clause-found_before : goal.returns-in-Err-settle-clause-found_before
returns-in-Err-settle-clause-found_before g c = record {
  image_before = λ h. NoMore_then _ _ _ (c.prepare.ensures.found_before h) (c.settle.ensures.found_before.image_before (c.prepare.ensures.looks.faith.1 h));
  journal_before = c.settle.ensures.found_before.journal_before;
  redo_before = c.settle.ensures.found_before.redo_before;
}
