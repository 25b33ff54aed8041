use Rattle.std.proofs.Common.{◌≡◌, ◌≤◌, ◌∙◌, ◌||◌, ◌&&◌, ℕ, List, length, min, ap, subst, sym, arith, Result, Ok, Err}
use Rattle.std.specs.Prelude.{nat_lt, IfOk}
use Rattle.std.proofs.lemmas.List.Elements.{All-weaker}
use Rattle.bx_image.specs.declared.change.Change.{Change}
use Rattle.bx_image.specs.declared.record.spans.Span.{Span}
use Rattle.bx_image.specs.Change.{touches, Restores}
use Rattle.bx_image.specs.Image.{zeros}
use Rattle.bx_image.specs.Over.{IsWithin, LieWithin}
use Rattle.bx_image.specs.private.Spans.{are_over, is_between}
use Rattle.bx_image.proofs.FillLemmas.{length-zeros}
use Rattle.bx_journal_protocol.specs.before.Overwritten.{are_written}
use Rattle.bx_journal_protocol.proofs.Behind.{over_below, ranges_leave}
use Rattle.bx_journal_protocol.proofs.before.overwritten.ranges_of.Goals as goal

both : {T E : Type 0} {P Q R : T → Type 0} (r : Result T E) → ((v : T) → P v → Q v → R v) → IfOk r P → IfOk r Q → IfOk r R
both (Ok v) f p q = f v p q
both (Err e) f p q = tt

short : (m len : ℕ) (spans : List Span) → m ≤ len → LieWithin m spans → LieWithin len spans
short m len spans less within = All-weaker (IsWithin m) (IsWithin len) (λ s h. record { some = h.some; within = omega (arith, h.within, less) }) spans within

pub returns-clause-within : goal.returns-clause-within
returns-clause-within g c =
    let less : c.min.result ≤ c.args.above = omega (arith, c.min.ensures) in
    let below = short c.min.result c.args.above c.in_ok-ranges.ranges.items less c.in_ok-ranges.ensures.within in
    c.joined.ensures.within c.args.above (c.in_ok-push_records.ensures.within (c.in_ok-push_ranges.ensures.within below))

pub returns-clause-zeros : goal.returns-clause-zeros
returns-clause-zeros g c x long blank =
    let base : ℕ = c.args.entry.now.kept.len in
    let m : ℕ = c.min.result in
    let below : List Span = c.in_ok-ranges.ranges.items in
    let blocks = c.args.blocks.now in
    let newer = c.args.newer.now in
    let less : m ≤ c.args.above = omega (arith, c.min.ensures) in
    let all : IfOk c.joined.result (λ r. LieWithin c.args.above r.items) =
    c.joined.ensures.within c.args.above (c.in_ok-push_records.ensures.within (c.in_ok-push_ranges.ensures.within (short m c.args.above below less c.in_ok-ranges.ensures.within))) in
    let lies : LieWithin (length (zeros m)) below = subst (λ n. LieWithin n below) (sym (length-zeros m)) c.in_ok-ranges.ensures.within in
    let front = λ (change : Change g.row.A.Denot) (back : Restores change c.args.entry.now.kept) (i : ℕ). over_below change (zeros m) below lies (c.in_ok-ranges.ensures.saved change back (zeros m) (length-zeros m)) i
    ∙ ap (λ n. nat_lt i n && touches change i) (length-zeros m ∙ c.min.ensures ∙ ap (λ n. min n base) (sym long)) in
    both c.joined.result (λ r over within change back. ranges_leave change base x below r.items blocks newer back.base (subst (λ n. LieWithin n r.items) (sym long) within) (front change back)
    (λ i. over i ∙ c.in_ok-push_records.ensures.over i ∙ ap (λ b. b || (is_between base c.args.above i && are_written newer i)) (c.in_ok-push_ranges.ensures.over i)
    ∙ ap (λ n. (are_over below i || (is_between base n i && are_over blocks i)) || (is_between base n i && are_written newer i)) (sym long)) blank) c.joined.ensures.over all
