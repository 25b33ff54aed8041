use Rattle.std.proofs.Common.{◌∙◌}
use Rattle.bx_image.proofs.Files.{OnErr_map}
use Rattle.bx_journal_store.proofs.Texts.{cut_front, OnOk_map, IsPartlyCut-on_the_way}
use Rattle.bx_journal_store.proofs.file.FileTextTextStore.cut.Goals as goal

pub returns-clause-ok : goal.returns-clause-ok
returns-clause-ok g c faithful =
    rw c.counted.ensures.same (OnOk_map c.resize_to-outcome.result _ _ (λ is. is ∙ cut_front _ c.args.n (c.requires.within faithful)) (c.resize_to-outcome.ensures.ok faithful))

pub returns-clause-failed : goal.returns-clause-failed
returns-clause-failed g c faithful =
    rw c.counted.ensures.same (OnErr_map c.resize_to-outcome.result _ _ (IsPartlyCut-on_the_way c.args.n _ _ (c.requires.within faithful)) (c.resize_to-outcome.ensures.failed faithful))

pub returns-clause-fades : goal.returns-clause-fades
returns-clause-fades g c faithful = c.resize_to-outcome.ensures.fades faithful (c.requires.within faithful)
