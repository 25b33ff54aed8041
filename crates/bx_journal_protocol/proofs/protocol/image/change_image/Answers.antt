use Rattle.std.proofs.Common.{Result, Ok, Err}
use Rattle.std.specs.Prelude.{OnErr}
use Rattle.bx_image.specs.Change.{saved, IsAsGood}
use Rattle.bx_journal_format.specs.Kept.{kept_of}
use Rattle.bx_journal_model.specs.Phase.{as_read}
use Rattle.bx_journal_format.specs.declared.format.version.Version.TheVariants.{Second}
use Rattle.bx_journal_protocol.proofs.ChangeSteps.{change_moves}
use Rattle.bx_journal_format.proofs.KeptLemmas.{good_in}
use Rattle.bx_journal_model.proofs.Phases.{open_recovers}
use Rattle.bx_image.proofs.Records.{IsAsGood-saved}
use Rattle.bx_journal_protocol.proofs.protocol.image.change_image.Goals as goal

always_err : {T E P : Type 0} (r : Result T E) → P → OnErr r P
always_err (Ok x) p = tt
always_err (Err e) p = p

pub returns-in_err-apply-clause-taken_back : goal.returns-in_err-apply-clause-taken_back
returns-in_err-apply-clause-taken_back g c faithful =
    good_in (saved c.args.change.now (g.D.Device.image c.args.image.now)) (g.D.Device.image c.args.image.now) (g.D.Device.image c.apply.new.device) (c.in_err-apply.ensures.taken_back faithful)

pub returns-in_err-apply-clause-phase : goal.returns-in_err-apply-clause-phase
returns-in_err-apply-clause-phase g c faithful text stack opened =
    let x = g.D.Device.image c.args.image.now in
    let y = g.D.Device.image c.apply.new.device in
    let good : IsAsGood (kept_of (saved c.args.change.now x)) x y = good_in (saved c.args.change.now x) x y (c.in_err-apply.ensures.taken_back faithful) in
    change_moves (kept_of (saved c.args.change.now x)) text x y stack opened good

pub returns-in_err-apply-clause-survives : goal.returns-in_err-apply-clause-survives
returns-in_err-apply-clause-survives g c faithful only y there text stack opened =
    let x = g.D.Device.image c.args.image.now in
    let good : IsAsGood (kept_of (saved c.args.change.now x)) x y = good_in (saved c.args.change.now x) x y (IsAsGood-saved c.args.change.now x y (c.in_err-apply.ensures.survives faithful only y there)) in
    change_moves (kept_of (saved c.args.change.now x)) text x y stack opened good

pub returns-in_err-apply-clause-fault : goal.returns-in_err-apply-clause-fault
returns-in_err-apply-clause-fault g c faithful text stack opened =
    let x = g.D.Device.image c.args.image.now in
    let y = g.D.Device.image c.apply.new.device in
    let good : IsAsGood (kept_of (saved c.args.change.now x)) x y = good_in (saved c.args.change.now x) x y (c.in_err-apply.ensures.taken_back faithful) in
    always_err c.from_residual.result (open_recovers Second (as_read (kept_of (saved c.args.change.now x))) text y stack (change_moves (kept_of (saved c.args.change.now x)) text x y stack opened good))

pub returns-clause-taken_back : goal.returns-clause-taken_back
returns-clause-taken_back g c faithful =
    let x = g.D.Device.image c.args.image.now in
    let applied = c.in_ok-apply.ensures in
    rw (c.sync.ensures.image (applied.goes_on.faith.1 faithful)) (good_in (saved c.args.change.now x) x _ (applied.taken_back faithful))

pub returns-clause-phase : goal.returns-clause-phase
returns-clause-phase g c faithful text stack opened =
    let x = g.D.Device.image c.args.image.now in
    let applied = c.in_ok-apply.ensures in
    let good : IsAsGood (kept_of (saved c.args.change.now x)) x _ = good_in (saved c.args.change.now x) x _ (applied.taken_back faithful) in
    rw (c.sync.ensures.image (applied.goes_on.faith.1 faithful)) (change_moves (kept_of (saved c.args.change.now x)) text x _ stack opened good)

pub returns-clause-survives : goal.returns-clause-survives
returns-clause-survives g c faithful only y there text stack opened =
    let x = g.D.Device.image c.args.image.now in
    let applied = c.in_ok-apply.ensures in
    let before = c.sync.ensures.survives (applied.goes_on.faith.1 faithful) y there in
    let good : IsAsGood (kept_of (saved c.args.change.now x)) x y = good_in (saved c.args.change.now x) x y (IsAsGood-saved c.args.change.now x y (applied.survives faithful only y before)) in
    change_moves (kept_of (saved c.args.change.now x)) text x y stack opened good

pub returns-clause-fault : goal.returns-clause-fault
returns-clause-fault g c faithful text stack opened =
    let x = g.D.Device.image c.args.image.now in
    always_err c.sync.result (open_recovers Second (as_read (kept_of (saved c.args.change.now x))) text _ stack (returns-clause-phase g c faithful text stack opened))
