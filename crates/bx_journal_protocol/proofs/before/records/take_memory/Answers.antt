use Rattle.std.proofs.Common.{◌∙◌, length, ap, subst, sym}
use Rattle.std.specs.Prelude.{reverse}
use Rattle.bx_journal_protocol.specs.before.Overwritten.{AreAllWithin, HaveRoom}
use Rattle.bx_journal_protocol.specs.protocol.Takens.{AllShaped}
use Rattle.bx_journal_protocol.proofs.Lacking.{ends_alike, lacks_behind, lacks_handed}
use Rattle.bx_journal_protocol.proofs.before.records.take_memory.Goals as goal

pub all_zeros-requires : goal.all_zeros-requires
all_zeros-requires g c = record { within = subst AreAllWithin (sym c.as_slice.ensures.value) c.in_ok-plan.ensures.plan.within }

pub entries_len-requires : goal.entries_len-requires
entries_len-requires g c = record { shaped = subst AllShaped (sym c.as_slice-2.ensures.value) c.in_ok-takens.ensures.shaped }

pub returns-clause-taken : goal.returns-clause-taken
returns-clause-taken g c =
    let plan = c.in_ok-plan.ensures.plan in
    let taken = c.in_ok-takens.ensures in
    record {
      places = plan.places;
      shaped = taken.shaped;
      count = taken.count ∙ ap length c.as_slice.ensures.value ∙ plan.count;
      longest = plan.longest;
      empty = c.in_ok-page.ensures.empty;
      page_room = c.in_ok-page.ensures.room;
      window = c.in_ok-buffers.ensures.window;
      parts = c.in_ok-buffers.ensures.parts;
    }

pub returns-clause-room : goal.returns-clause-room
returns-clause-room g c faithful =
    subst (λ us. HaveRoom us c.in_ok-takens.takens.items) c.as_slice.ensures.value c.in_ok-takens.ensures.room (g.D.Device.image c.args.image.now) (reverse c.args.read.entries.items) (c.in_ok-plan.ensures.overwritten faithful)

-- behind the look at the image only memory is lacking
pub returns-in_err-clone-clause-looks : goal.returns-in_err-clone-clause-looks
returns-in_err-clone-clause-looks g c =
    lacks_behind _ _ _ c.args.image.now c.plan_of.new.image c.in_ok-plan.plan c.in_ok-plan.ensures.looks c.from_residual-in_err-clone.result c.from_residual-in_err-clone.ensures.1

pub returns-in_err-page-clause-looks : goal.returns-in_err-page-clause-looks
returns-in_err-page-clause-looks g c =
    lacks_behind _ _ _ c.args.image.now c.plan_of.new.image c.in_ok-plan.plan c.in_ok-plan.ensures.looks c.from_residual-in_err-page.result c.from_residual-in_err-page.ensures.1

pub returns-in_err-buffers-clause-looks : goal.returns-in_err-buffers-clause-looks
returns-in_err-buffers-clause-looks g c =
    lacks_handed _ _ _ c.args.image.now c.plan_of.new.image c.in_ok-plan.plan _ c.in_ok-plan.ensures.looks c.from_residual-in_err-buffers.result c.from_residual-in_err-buffers.ensures.1 c.in_err-buffers.ensures.kind

pub returns-clause-looks : goal.returns-clause-looks
returns-clause-looks g c = ends_alike _ _ _ c.args.image.now c.plan_of.new.image c.in_ok-plan.plan _ c.in_ok-plan.ensures.looks
