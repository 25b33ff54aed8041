use Rattle.std.proofs.Common.{◌≡◌, ◌-◌, ◌∙◌, ◌≤◌, List, length, drop, ap, subst, arith}
use Rattle.std.specs.List.{All}
use Rattle.bx_journal_format.specs.declared.read.types.EntryRead.{EntryRead}
use Rattle.bx_journal_protocol.proofs.before.ranges.longest_of_last.Goals as goal

pub returns : goal.returns
returns g c =
    let es : List (EntryRead g.row.A.Denot) = c.args.read.now.entries.items in
    let n : c.len.result - c.args.k ≡ length es - c.args.k = omega arith in
    subst (All (λ (e : EntryRead g.row.A.Denot). e.kept.len ≤ c.longest_of.result)) (c.split_at.ensures.back ∙ ap (drop (c.len.result - c.args.k)) c.as_slice.ensures.value ∙ ap (λ k. drop k es) n) c.longest_of.ensures
