-- Blocks converted by themselves.
use Rattle.std.proofs.Common.{◌≡◌, ℕ, zero, suc, ◌+◌, ◌-◌, ◌*◌, ◌/◌, ◌%◌, ◌<◌, ◌≤◌, Bool, true, false, cond, List, [], ◌∷◌, ◌++◌, length, take, drop, map, replicate, refl, sym, ap, ◌∙◌, arith, append-nil, append_assoc, inl, inr, drop_of_length-le}
use Rattle.std.specs.Prelude.{◌||◌}
use Rattle.std.proofs.Math.Nat.{div-add-mod, mul-le-mul_left}
use Rattle.std.proofs.lemmas.Bool.{cases_lt}
use Rattle.std.proofs.lemmas.List.{length-append, length-drop, length-take-le, map-append, take-append-drop, take_all, drop-append-le, drop-drop, take-append-le}
use borrow.Rule.Slice.PartMut.{put_mid, post_of}
use Rattle.bx_text.specs.InPieces.{in_pieces}
use Rattle.bx_text.proofs.PiecesLemmas.{in_pieces-append, in_pieces-none, in_pieces-one}
use Rattle.bx_dd.specs.declared.form.Form.{Form}
use Rattle.bx_dd.specs.Output.{cased, filler, turned_blocks, swapped}
use Rattle.bx_dd.specs.private.Output.{block_of}
use Rattle.bx_dd.specs.private.Streaming.{unit_of}

full_is : (s : Bool) (fill n : ℕ) (b : List ℕ) → length b ≡ n → cond s (b ++ replicate (n - length b) fill) b ≡ b
full_is true fill n b e = let none : n - length b ≡ 0 = omega arith in ap (λ k. b ++ replicate k fill) none ∙ append-nil b
full_is false fill n b e = refl

-- a whole block
pub block_whole : (form : Form) (b : List ℕ) → length b ≡ form.ibs → map (cased form.letters) (cond form.swab (swapped b) b) ≡ block_of form b
unfolding block_of
block_whole form b e = ap (λ l. map (cased form.letters) (cond form.swab (swapped l) l)) (sym (full_is form.sync (filler form.shape) form.ibs b e))

-- a block without fill
pub block_plain : (form : Form) (b : List ℕ) → form.sync ≡ false → map (cased form.letters) (cond form.swab (swapped b) b) ≡ block_of form b
unfolding block_of
block_plain form b none = rw none refl

-- a block with its fill
pub block_full : (form : Form) (b : List ℕ) → form.sync ≡ true →
    map (cased form.letters) (cond form.swab (swapped (b ++ replicate (form.ibs - length b) (filler form.shape))) (b ++ replicate (form.ibs - length b) (filler form.shape))) ≡ block_of form b
unfolding block_of
block_full form b some = rw some refl

or_left : (a b : Bool) → (a || b) ≡ false → (a ≡ false) × (b ≡ false)
or_left true b e = absurd (cc e)
or_left false b e = (refl, e)

pub neither : (form : Form) → (form.swab || form.sync) ≡ false → (form.swab ≡ false) × (form.sync ≡ false)
neither form e = or_left form.swab form.sync e

-- where neither pairs nor the end of a block matter
pub block_letters : (form : Form) (b : List ℕ) → (form.swab || form.sync) ≡ false → block_of form b ≡ map (cased form.letters) b
unfolding block_of
block_letters form b e = let none = neither form e in rw (none.0, none.1) refl

letters_all : (form : Form) (k : ℕ) (xs : List ℕ) → (form.swab || form.sync) ≡ false → 0 < form.ibs → length xs ≤ k → turned_blocks form xs ≡ map (cased form.letters) xs
unfolding turned_blocks block_of
letters_all form k [] e pos few = in_pieces-none (block_of form) form.ibs pos
letters_all form zero (x ∷ xs) e pos few = absurd (omega arith)
letters_all form (suc k) (x ∷ xs) e pos few =
    let all = x ∷ xs in
    let f = block_of form in
    let n = form.ibs in
    elim (cases_lt n (length all)) [
      | inr short ↦ in_pieces-one f n all (omega arith) short ∙ block_letters form all e
      | inl long ↦
          let front = take n all in
          let back = drop n all in
          let front_len : length front ≡ n = length-take-le n all (omega arith) in
          let one : length front ≡ n * 1 = omega arith in
          let split : front ++ back ≡ all = take-append-drop n all in
          ap (in_pieces f n) (sym split) ∙ in_pieces-append f n 1 front back pos one
          ∙ ap (λ l. l ++ in_pieces f n back) (in_pieces-one f n front (omega arith) (omega arith) ∙ block_letters form front e)
          ∙ ap (λ l. map (cased form.letters) front ++ l) (letters_all form k back e pos (omega (arith, length-drop n all)))
          ∙ sym (map-append (cased form.letters) front back) ∙ ap (map (cased form.letters)) split
    ]

pub joined_letters : (form : Form) (xs : List ℕ) → (form.swab || form.sync) ≡ false → 0 < form.ibs → turned_blocks form xs ≡ map (cased form.letters) xs
joined_letters form xs e pos = letters_all form (length xs) xs e pos (omega arith)

blocks_joined : (form : Form) (a b : List ℕ) → 0 < form.ibs → length a % form.ibs ≡ 0 → turned_blocks form (a ++ b) ≡ turned_blocks form a ++ turned_blocks form b
unfolding turned_blocks block_of
blocks_joined form a b pos whole =
    let count : length a ≡ form.ibs * (length a / form.ibs) = omega (arith, div-add-mod (length a) form.ibs) in
    in_pieces-append (block_of form) form.ibs (length a / form.ibs) a b pos count

units_by : (form : Form) (w : Bool) (a b : List ℕ) → (form.swab || form.sync) ≡ w → 0 < form.ibs → length a % cond w form.ibs 1 ≡ 0 → turned_blocks form (a ++ b) ≡ turned_blocks form a ++ turned_blocks form b
units_by form true a b e pos whole = blocks_joined form a b pos whole
units_by form false a b e pos whole =
    joined_letters form (a ++ b) e pos ∙ map-append (cased form.letters) a b ∙ ap (λ l. l ++ map (cased form.letters) b) (sym (joined_letters form a e pos))
    ∙ ap (λ l. turned_blocks form a ++ l) (sym (joined_letters form b e pos))

-- whole units, and more
pub joined_units : (form : Form) (a b : List ℕ) → 0 < form.ibs → length a % unit_of form ≡ 0 → turned_blocks form (a ++ b) ≡ turned_blocks form a ++ turned_blocks form b
joined_units form a b pos whole = units_by form (form.swab || form.sync) a b refl pos whole

-- the next of whole blocks fits
pub whole_fits : (d n size : ℕ) → 0 < size → d % size ≡ 0 → n % size ≡ 0 → d < n → d + size ≤ n
whole_fits d n size pos whole all inside =
    elim (cases_lt (d / size) (n / size)) [
      | inl less ↦
          let next : size * (d / size + 1) ≤ size * (n / size) = mul-le-mul_left size (omega arith) in
          omega (arith, next, div-add-mod d size, div-add-mod n size)
      | inr more ↦
          let wrong : size * (n / size) ≤ size * (d / size) = mul-le-mul_left size more in
          absurd (omega (arith, wrong, div-add-mod d size, div-add-mod n size))
    ]

-- what lies behind a part stays
pub drop_behind : (buf part : List ℕ) (d k n : ℕ) → d ≤ length buf → length part ≡ n → k ≡ n → drop (d + n) (put_mid d k buf part) ≡ drop (d + n) buf
drop_behind buf part d k n within len same =
    let front = take d buf ++ part in
    let long : length front ≡ d + n = omega (arith, length-append (take d buf) part, length-take-le d buf within) in
    ap (drop (d + n)) (sym (append_assoc (take d buf) part (post_of d k buf))) ∙ ap (λ j. drop j (front ++ post_of d k buf)) (sym long)
    ∙ drop-append-le (length front) front (post_of d k buf) (omega arith) ∙ ap (λ l. l ++ post_of d k buf) (drop_of_length-le front (omega arith))
    ∙ drop-drop k d buf ∙ ap (λ j. drop (d + j) buf) same

-- one block
pub joined_one : (form : Form) (b : List ℕ) → 0 < length b → length b ≤ form.ibs → turned_blocks form b ≡ block_of form b
unfolding turned_blocks block_of
joined_one form b some fits = in_pieces-one (block_of form) form.ibs b some fits

-- letters alone
pub letters_turned : (form : Form) (b : List ℕ) → (form.swab || form.sync) ≡ false → 0 < form.ibs → map (cased form.letters) (cond form.swab (swapped b) b) ≡ turned_blocks form b
letters_turned form b e pos = ap (λ w. map (cased form.letters) (cond w (swapped b) b)) (neither form e).0 ∙ sym (joined_letters form b e pos)

unit_by : (w : Bool) (ibs h : ℕ) → h < cond w ibs 1 → (h ≡ 0 → ⊥) → h < ibs
unit_by true ibs h few some = few
unit_by false ibs h few some = absurd (some (omega arith))

-- some bytes that are no unit are fewer than a block
pub below_block : (form : Form) (h : ℕ) → h < unit_of form → (h ≡ 0 → ⊥) → h < form.ibs
below_block form h few some = unit_by (form.swab || form.sync) form.ibs h few some

or_true : (a b : Bool) → b ≡ true → (a || b) ≡ true
or_true true b e = refl
or_true false b e = e

pub unit_sync : (form : Form) → form.sync ≡ true → unit_of form ≡ form.ibs
unit_sync form e = ap (λ w. cond w form.ibs 1) (or_true form.swab form.sync e)

pub take_front : (n : ℕ) (xs ys : List ℕ) → length xs ≡ n → take n (xs ++ ys) ≡ xs
take_front n xs ys e = take-append-le n xs ys (omega arith) ∙ take_all n xs (omega arith)
