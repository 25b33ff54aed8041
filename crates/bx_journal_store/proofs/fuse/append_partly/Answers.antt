use Rattle.bx_journal_store.proofs.Texts.{IsPartlyAppended_either}
use Rattle.bx_journal_store.proofs.Fading.{FadesBehind_front}
use Rattle.bx_journal_store.proofs.fuse.append_partly.Goals as goal

pub returns-in-All-clause-appended : goal.returns-in-All-clause-appended
returns-in-All-clause-appended g c faithful =
    IsPartlyAppended_either c.append-in-All.result _ _ _ (c.append-in-All.ensures.ok faithful) (c.append-in-All.ensures.failed faithful)

pub returns-in-Half-clause-fades : goal.returns-in-Half-clause-fades
returns-in-Half-clause-fades g c faithful = FadesBehind_front _ c.args.bytes.now _ _ _ (c.append.ensures.fades faithful)
