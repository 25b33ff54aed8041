use Rattle.std.proofs.Common.{◌≡◌, ◌-◌, ◌^◌, ◌∙◌, min, length, ap, subst, sym, arith}
use Rattle.std.specs.Prelude.{slice_index_or}
use Rattle.std.proofs.lemmas.List.{take_all}
use Rattle.bx_image.specs.declared.record.Saved.{Saved}
use Rattle.bx_image.specs.Change.{AllWithin}
use Rattle.bx_journal_format.specs.Entry.{head_text}
use Rattle.bx_journal_format.specs.Kept.{kept_of}
use Rattle.bx_journal_protocol.specs.protocol.Takens.{entries_len}
use Rattle.bx_journal_protocol.proofs.TakingLemmas.{shaped_at, len_more}
use Rattle.bx_journal_protocol.proofs.before.records.entries_len.Goals as goal

pub head_len-requires : goal.head_len-requires
head_len-requires g c =
    record { within = subst (λ (t : Saved g.row.A.Denot). AllWithin t.len t.runs) (sym c.taken-item.is) (shaped_at c.args.takens.now c.loop-taken.taken-index c.taken-item.result c.loop-taken-test.true c.requires.shaped) }

pub loop-taken-preserved : goal.loop-taken-preserved
loop-taken-preserved g c =
    let here : length (head_text 0 (kept_of c.taken-item.result)) ≡ length (head_text 0 (kept_of (slice_index_or c.args.takens.now c.loop-taken.taken-index c.taken-item.result))) =
    ap (λ (t : Saved g.row.A.Denot). length (head_text 0 (kept_of t))) c.taken-item.is in
    omega (arith, len_more c.args.takens.now c.loop-taken.taken-index c.taken-item.result c.loop-taken-test.true, here, c.head_len.ensures 0, c.saturating_add.ensures, c.saturating_add-total.ensures, c.loop-taken.invariant)

pub returns : goal.returns
returns g c = c.loop-taken.invariant ∙ ap (λ ts. min (entries_len ts) (2 ^ 64 - 1)) (take_all c.loop-taken.taken-index c.args.takens.now (omega arith))
