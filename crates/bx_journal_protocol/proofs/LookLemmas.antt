-- Bytes of an image that were read.
use Rattle.std.proofs.Common.{◌≡◌, ℕ, zero, suc, ◌+◌, ◌-◌, ◌≤◌, ◌<◌, List, [], ◌∷◌, ◌++◌, length, take, drop, get_or, sym, subst, arith}
use Rattle.bx_image.specs.declared.record.spans.Span.{Span}
use Rattle.bx_image.specs.Change.{AreBytes, HaveBytes}
use Rattle.bx_journal_protocol.specs.write.Ranges.{kept_over}
use Rattle.bx_journal_protocol.proofs.RangeLemmas.{range_bytes}

pub bytes_none : (at : ℕ) (x : List ℕ) → AreBytes (take (at - at) (drop at x))
bytes_none at x =
    let none : at - at ≡ 0 = omega arith in
    subst (λ n. AreBytes (take n (drop at x))) (sym none) tt

bytes_append : (a b : List ℕ) → AreBytes a → AreBytes b → AreBytes (a ++ b)
bytes_append [] b first next = next
bytes_append (x ∷ a) b first next = (first.0, bytes_append a b first.1 next)

pub bytes_more : (x : List ℕ) (at mid n : ℕ) → at ≤ mid → AreBytes (take (mid - at) (drop at x)) → AreBytes (take n (drop mid x)) → AreBytes (take ((mid + n) - at) (drop at x))
bytes_more x at mid n order first next =
    let more : mid ≤ mid + n = omega arith in
    let count : n ≡ (mid + n) - mid = omega arith in
    subst AreBytes (sym (range_bytes x at mid (mid + n) order more)) (bytes_append (take (mid - at) (drop at x)) (take ((mid + n) - mid) (drop mid x)) first (subst (λ m. AreBytes (take m (drop mid x))) count next))

-- one range more
pub have_more : (x : List ℕ) (ranges : List Span) (k : ℕ) (d : Span) → k < length ranges
    → HaveBytes (kept_over x (take k ranges)).runs → AreBytes (take ((get_or ranges k d).end - (get_or ranges k d).at) (drop (get_or ranges k d).at x))
    → HaveBytes (kept_over x (take (k + 1) ranges)).runs
have_more x [] k d inside before more = absurd (omega (arith, inside))
have_more x (s ∷ ranges) zero d inside before more = (more, tt)
have_more x (s ∷ ranges) (suc k) d inside before more =
    let count : suc k + 1 ≡ suc (k + 1) = omega arith in
    subst (λ n. HaveBytes (kept_over x (take n (s ∷ ranges))).runs) (sym count) (before.0, have_more x ranges k d (omega (arith, inside)) before.1 more)
