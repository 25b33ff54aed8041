use Rattle.std.proofs.Common.{◌-◌, ◌^◌, ◌∙◌, min, ap, subst, sym, arith}
use Rattle.bx_journal_protocol.specs.write.Touched.{AreToldRanges, entries_over}
use Rattle.bx_journal_protocol.proofs.before.ranges.take_memory.Goals as goal

pub entries_len-total-requires : goal.entries_len-total-requires
entries_len-total-requires g c = record { told = subst AreToldRanges (sym c.as_slice.ensures.value) c.in_ok-takens.ensures.told }

pub returns-clause-long : goal.returns-clause-long
returns-clause-long g c = c.entries_len-total.ensures ∙ ap (λ ts. min (entries_over ts) (2 ^ 64 - 1)) c.as_slice.ensures.value

pub returns-clause-window : goal.returns-clause-window
returns-clause-window g c = omega (arith, c.in_ok-window.window.ok.0, c.in_ok-window.ensures.len, c.max.ensures, c.min.ensures)
