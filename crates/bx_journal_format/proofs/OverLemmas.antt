-- Bytes that are put over those of a list, and a run that is put over its own lines.
use Rattle.std.proofs.Common.{◌≡◌, ℕ, ◌+◌, ◌*◌, ◌≤◌, List, ◌++◌, length, take, drop, refl, ap, sym, ◌∙◌, subst, arith, length-append, length-take, length-drop}
use Rattle.std.proofs.lemmas.List.{take-append-le, take_all, take-take}
use Rattle.std.proofs.lemmas.Slice.{drop-append-drop}
use Rattle.bx_journal_format.specs.Kept.{Run}
use Rattle.bx_journal_format.specs.read.Followed.{IsFullSaved, GoesOnBy, with_last}
use Rattle.bx_journal_format.proofs.FollowLemmas.{none_goes_on, one_goes_on}
use Rattle.bx_journal_format.proofs.ReadLoop.{drop_twice}

-- the bytes were put over those of a list at a place
pub record IsPutOver (old : List ℕ) (at : ℕ) (bytes new : List ℕ) : Type 0 where
  pub within : at + length bytes ≤ length old
  pub is : new ≡ take at old ++ bytes ++ drop (at + length bytes) old

front_long : (old : List ℕ) (at : ℕ) (bytes : List ℕ) → at + length bytes ≤ length old → length (take at old ++ bytes) ≡ at + length bytes
front_long old at bytes within = omega (arith, length-append (take at old) bytes, length-take at old, within)

pub over_length : (old : List ℕ) (at : ℕ) (bytes new : List ℕ) → IsPutOver old at bytes new → length new ≡ length old
over_length old at bytes new put =
    omega (arith, ap length put.is, length-append (take at old ++ bytes) (drop (at + length bytes) old), front_long old at bytes put.within, length-drop (at + length bytes) old, put.within)

-- what ends where the bytes end
pub over_front : (old : List ℕ) (at : ℕ) (bytes new : List ℕ) → IsPutOver old at bytes new → take (at + length bytes) new ≡ take at old ++ bytes
over_front old at bytes new put =
    let front : List ℕ = take at old ++ bytes in
    let long : length front ≡ at + length bytes = front_long old at bytes put.within in
    ap (take (at + length bytes)) put.is
    ∙ take-append-le (at + length bytes) front (drop (at + length bytes) old) (omega (arith, long))
    ∙ take_all (at + length bytes) front (omega (arith, long))

-- the bytes that were put first
pub first_is : (old first new : List ℕ) → IsPutOver old 0 first new → take (length first) new ≡ first
first_is old first new put =
    let long : length first ≡ 0 + length first = omega arith in
    ap (λ n. take n new) long ∙ over_front old 0 first new put

-- what begins behind the bytes stays
pub over_behind : (old : List ℕ) (at : ℕ) (bytes new : List ℕ) (n : ℕ) → IsPutOver old at bytes new → at + length bytes ≤ n → drop n new ≡ drop n old
over_behind old at bytes new n put behind =
    ap (drop n) put.is ∙ drop-append-drop (at + length bytes) old (take at old ++ bytes) n behind (front_long old at bytes put.within)

-- what ends before the bytes stays
pub over_before : (old : List ℕ) (at : ℕ) (bytes new : List ℕ) (n : ℕ) → IsPutOver old at bytes new → n ≤ at → take n new ≡ take n old
over_before old at bytes new n put before =
    let front : List ℕ = take at old ++ bytes in
    let long : length front ≡ at + length bytes = front_long old at bytes put.within in
    ap (take n) put.is
    ∙ take-append-le n front (drop (at + length bytes) old) (omega (arith, long, before))
    ∙ take-append-le n (take at old) bytes (omega (arith, length-take at old, put.within, before))
    ∙ take-take n at old before

-- a whole list that was written over
pub over_whole : (n : ℕ) (old new : List ℕ) → length new ≡ length old → n ≡ length old → take n (new ++ drop (length new) old) ≡ new
over_whole n old new same long =
    take-append-le n new (drop (length new) old) (omega (arith, same, long)) ∙ take_all n new (omega (arith, same, long))

-- the run's bytes are the text's first ones, and `count` lines were put behind them
pub record IsExtended (len at size from : ℕ) (old new : List ℕ) (count : ℕ) : Type 0 where
  pub within : from + 68 * count ≤ length old
  pub same : length new ≡ length old
  pub kept : take size new ≡ take size old
  pub left : drop (from + 68 * count) new ≡ drop (from + 68 * count) old
  pub goes_on : (front : List Run) → GoesOnBy len (drop from old) (with_last front at (take size old)) (with_last front at (take (size + 16 * count) new)) count

-- no line yet
pub none_extended : (len at size from : ℕ) (text : List ℕ) → from ≤ length text → IsExtended len at size from text text 0
none_extended len at size from text within = record {
  within = omega (arith, within);
  same = refl;
  kept = refl;
  left = refl;
  goes_on = λ front.
      let place : size + 16 * 0 ≡ size = omega arith in
      none_goes_on len (drop from text) (with_last front at (take size text)) (with_last front at (take (size + 16 * 0) text)) (ap (λ n. with_last front at (take n text)) place);
}

-- one more line
pub one_extended : (len at size from : ℕ) (old text new more : List ℕ) (count : ℕ) → size ≤ from → IsExtended len at size from old text count → length more ≡ 16
    → IsFullSaved len (at + (size + 16 * count)) (drop (from + 68 * count) text) more → IsPutOver text (size + 16 * count) more new → IsExtended len at size from old new (count + 1)
one_extended len at size from old text new more count order so long full put =
    let next : from + 68 * count + 68 ≡ from + 68 * (count + 1) = omega arith in
    let end : size + 16 * count + length more ≡ size + 16 * (count + 1) = omega (arith, long) in
    let rest : 68 ≤ length (drop (from + 68 * count) text) = full.long in
    let gone : drop (from + 68 * (count + 1)) text ≡ drop (from + 68 * (count + 1)) old =
    ap (λ n. drop n text) (sym next) ∙ sym (drop_twice (from + 68 * count) 68 text) ∙ ap (drop 68) so.left ∙ drop_twice (from + 68 * count) 68 old ∙ ap (λ n. drop n old) next in
    record {
      within = omega (arith, rest, length-drop (from + 68 * count) text, so.same, so.within);
      same = over_length text (size + 16 * count) more new put ∙ so.same;
      kept = over_before text (size + 16 * count) more new size put (omega arith) ∙ so.kept;
      left = over_behind text (size + 16 * count) more new (from + 68 * (count + 1)) put (omega (arith, order, long)) ∙ gone;
      goes_on = λ front.
          let done : List ℕ = take (size + 16 * count) text in
          let done_long : length done ≡ size + 16 * count = omega (arith, length-take (size + 16 * count) text, put.within) in
          let place : drop (from + 68 * count) text ≡ drop (68 * count) (drop from old) = so.left ∙ sym (drop_twice from (68 * count) old) in
          let bytes : done ++ more ≡ take (size + 16 * (count + 1)) new = sym (over_front text (size + 16 * count) more new put) ∙ ap (λ n. take n new) end in
          subst (λ b. GoesOnBy len (drop from old) (with_last front at (take size old)) (with_last front at b) (count + 1)) bytes
          (one_goes_on len (drop from old) (drop (from + 68 * count) text) (with_last front at (take size old)) front at done more count place
          (subst (λ n. IsFullSaved len (at + n) (drop (from + 68 * count) text) more) (sym done_long) full) (so.goes_on front));
    }
