use Rattle.std.proofs.Common.{◌≡◌, ◌+◌, ◌∷◌, ◌++◌, [], ℕ, List, Some, length, length-append, subst, arith}
use Rattle.std.specs.Prelude.{IfSome}
use Rattle.bx_journal_format.specs.Text.{ended}
use Rattle.bx_journal_format.specs.read.Lines.{IsReadAt}
use Rattle.bx_journal_format.specs.read.TakeLine.{TakesLine}
use Rattle.bx_journal_format.proofs.LinesLemmas.{read_in_whole}
use Rattle.bx_journal_format.proofs.LongLemmas.{read_ended}
use Rattle.bx_journal_format.proofs.read.long.read_long.Goals as goal

pub returns : goal.returns
returns g c text older more u plain size =
    let r = c.args.read in
    let es = r.entries.items in
    let line : List ℕ = c.args.line.now in
    let l : List ℕ = line ++ more in
    let old = c.in_ok-old.old in
    let next = c.in-Some.next in
    let long : length l ≡ c.args.size = omega (arith, length-append line more, size) in
    let read : IsReadAt (text ++ ended l) older es old r.at = c.in_ok-old.ensures (text ++ ended l) older es r.at (read_in_whole text (ended l) older es r.stage r.at u.long u.read) in
    let found = c.in_ok-taken.ensures older u.count u.told r.at more in
    let takes : TakesLine older es old r.at l es (Some next) =
    subst (λ fs. TakesLine older fs old r.at l fs (Some next)) c.deref.ensures.value
    (subst (λ o. IfSome o (λ s. TakesLine older c.deref.result.now old r.at l c.deref.result.now (Some s))) c.in-Some.is found) in
    let place : r.at + length l + 1 ≡ r.at + c.args.size + 1 = omega (arith, long) in
    record {
      count = u.count;
      told = u.told;
      long = omega (arith, u.long, long, length-append text (ended l), length-append l (10 ∷ []));
      read = subst (IsReadAt (text ++ ended l) older es next) place (read_ended text l older es old next r.at u.long plain read takes);
    }
