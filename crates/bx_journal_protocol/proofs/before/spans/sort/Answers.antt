use Rattle.std.proofs.Common.{rules}
use Rattle.std.proofs.lemmas.List.Sorted.{IsNonDecreasingBy-from_sort_by_key}
use Rattle.bx_image.specs.declared.record.spans.Span.{Span}
use Rattle.bx_journal_protocol.proofs.before.spans.sort.Goals as goal

pub returns-clause-sorted : goal.returns-clause-sorted
returns-clause-sorted g c = IsNonDecreasingBy-from_sort_by_key (λ (s : Span). s.at) _ c.sort_unstable_by_key.ensures.sorted (λ a r q k. search rules)
