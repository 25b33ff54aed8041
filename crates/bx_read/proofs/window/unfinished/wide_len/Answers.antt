use Rattle.std.proofs.Common.{sym, ◌∙◌}
use Rattle.bx_read.proofs.UnfinishedLemmas.{line_own, line_long, cut_own, cut_long, cut_near, sure_front, wide_parts}
use Rattle.bx_read.proofs.window.unfinished.wide_len.Goals as goal

pub long_fault-fault-requires : goal.long_fault-fault-requires
long_fault-fault-requires c = record { long = line_long c.args.front.now c.args.end c.requires.ends c.requires.within c.requires.whole c.requires.long }

pub returns-then-is_too_wide-clause-wide : goal.returns-then-is_too_wide-clause-wide
returns-then-is_too_wide-clause-wide c =
    let front = c.args.front.now in
    let own = line_own front c.args.end c.requires.ends c.requires.within c.requires.whole c.requires.long in
    wide_parts c.args.number _ c.long_fault-fault.result own c.long_fault-fault.ensures (sym c.is_too_wide.ensures ∙ c.if-is_too_wide.true)

pub long_fault-requires : goal.long_fault-requires
long_fault-requires c =
    let r = c.requires in
    let cut = c.data_len-cut in
    record { long = cut_long c.args.front.now c.args.end r.ends r.within r.whole r.long cut.result cut.ensures.front cut.ensures.within }

pub returns-then-is_too_wide-2-clause-wide : goal.returns-then-is_too_wide-2-clause-wide
returns-then-is_too_wide-2-clause-wide c =
    let r = c.requires in
    let cut = c.data_len-cut in
    let own = cut_own c.args.front.now c.args.end r.ends r.within r.whole r.long cut.result cut.ensures.front cut.ensures.within in
    wide_parts c.args.number _ c.long_fault.result own c.long_fault.ensures (sym c.is_too_wide-2.ensures ∙ c.if-is_too_wide-2.true)

pub returns-then-is_too_wide-2-clause-within : goal.returns-then-is_too_wide-2-clause-within
returns-then-is_too_wide-2-clause-within c =
    let r = c.requires in
    let cut = c.data_len-cut in
    cut_near c.args.front.now c.args.end r.ends r.within r.whole r.long cut.result cut.ensures.front cut.ensures.within

pub returns-clause-fault : goal.returns-clause-fault
returns-clause-fault c =
    let r = c.requires in
    let cut = c.data_len-cut in
    sure_front c.args.front.now c.args.end r.ends r.within r.whole r.long cut.result cut.ensures.front cut.ensures.within c.args.number c.long_fault-fault.result c.long_fault.result
    c.long_fault-fault.ensures (sym c.is_too_wide.ensures ∙ c.if-is_too_wide.false) c.long_fault.ensures (sym c.is_too_wide-2.ensures ∙ c.if-is_too_wide-2.false)
