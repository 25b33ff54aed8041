-- Full lines of a window whose bytes are gathered at its beginning.
use Rattle.std.proofs.Common.{◌≡◌, ℕ, ◌+◌, ◌*◌, ◌≤◌, List, ◌++◌, length, take, drop, refl, ap, sym, ◌∙◌, subst, arith, append-nil, append_assoc, length-append, length-take, length-drop}
use Rattle.bx_journal_format.specs.read.Followed.{IsFullSaved, GoesOnBy, IsGathered, with_last}
use Rattle.bx_journal_format.proofs.FollowLemmas.{none_goes_on, one_goes_on}
use Rattle.bx_journal_format.proofs.OverLemmas.{IsPutOver, over_length, over_front, over_behind}
use Rattle.bx_journal_format.proofs.ReadLoop.{drop_twice}

-- no line yet
pub none_gathered : (len at size from : ℕ) (window : List ℕ) → from ≤ length window → IsGathered len at size from window window 0
none_gathered len at size from window within = record {
  within = omega (arith, within);
  same = refl;
  left = refl;
  goes_on = λ front bytes long.
      none_goes_on len (drop from window) (with_last front at bytes) (with_last front at (bytes ++ take (16 * 0) window)) (ap (λ b. with_last front at b) (append-nil bytes));
}

-- one more line
pub one_gathered : (len at size from : ℕ) (old window new more : List ℕ) (count : ℕ) → IsGathered len at size from old window count → length more ≡ 16
    → IsFullSaved len (at + (size + 16 * count)) (drop (from + 68 * count) window) more → IsPutOver window (16 * count) more new → IsGathered len at size from old new (count + 1)
one_gathered len at size from old window new more count so long full put =
    let next : from + 68 * count + 68 ≡ from + 68 * (count + 1) = omega arith in
    let end : 16 * count + length more ≡ 16 * (count + 1) = omega (arith, long) in
    let rest : 68 ≤ length (drop (from + 68 * count) window) = full.long in
    let gone : drop (from + 68 * (count + 1)) window ≡ drop (from + 68 * (count + 1)) old =
    ap (λ n. drop n window) (sym next) ∙ sym (drop_twice (from + 68 * count) 68 window) ∙ ap (drop 68) so.left ∙ drop_twice (from + 68 * count) 68 old ∙ ap (λ n. drop n old) next in
    record {
      within = omega (arith, rest, length-drop (from + 68 * count) window, so.same, so.within);
      same = over_length window (16 * count) more new put ∙ so.same;
      left = over_behind window (16 * count) more new (from + 68 * (count + 1)) put (omega (arith, long)) ∙ gone;
      goes_on = λ front bytes size_is.
          let done : List ℕ = bytes ++ take (16 * count) window in
          let done_long : length done ≡ size + 16 * count = omega (arith, length-append bytes (take (16 * count) window), length-take (16 * count) window, put.within, size_is) in
          let place : drop (from + 68 * count) window ≡ drop (68 * count) (drop from old) = so.left ∙ sym (drop_twice from (68 * count) old) in
          let all : done ++ more ≡ bytes ++ take (16 * (count + 1)) new =
          append_assoc bytes (take (16 * count) window) more ∙ ap (λ l. bytes ++ l) (sym (over_front window (16 * count) more new put) ∙ ap (λ n. take n new) end) in
          subst (λ b. GoesOnBy len (drop from old) (with_last front at bytes) (with_last front at b) (count + 1)) all
          (one_goes_on len (drop from old) (drop (from + 68 * count) window) (with_last front at bytes) front at done more count place
          (subst (λ n. IsFullSaved len (at + n) (drop (from + 68 * count) window) more) (sym done_long) full) (so.goes_on front bytes size_is));
    }
