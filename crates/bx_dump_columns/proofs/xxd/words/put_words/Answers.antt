use Rattle.std.proofs.Common.{◌≡◌, ℕ, ◌+◌, ◌-◌, ◌*◌, ◌<◌, ◌≤◌, List, [], ◌++◌, length, take, drop, min, refl, arith, sym, ap, ◌∙◌, inl, inr}
use Rattle.std.proofs.lemmas.Bool.{cases_order}
use Rattle.std.proofs.lemmas.Slice.{take-put_mid}
use Rattle.std.proofs.lemmas.List.{length-take-le, length-drop, take_all, take_min, drop_all}
use Rattle.std.proofs.Math.Nat.{mul-le-mul_left}
use Rattle.bx_dump_columns.specs.Words.{word_text, words_text}
use Rattle.bx_dump_columns.proofs.CellsLemmas.{range_more}
use Rattle.bx_dump_columns.proofs.xxd.words.put_words.Goals as goal

-- the bytes of a number, as far as there are some
chunk : (g at from to : ℕ) (bytes : List ℕ) → from ≡ min at (length bytes) → to ≡ min (from + g) (length bytes) → take (to - from) (drop from bytes) ≡ take g (drop at bytes)
chunk g at from to bytes p q =
    elim (cases_order at (length bytes)) [
      | inl same ↦ inside (omega arith)
      | inr (inl below) ↦ inside (omega arith)
      | inr (inr above) ↦
          let none : to - from ≡ 0 = omega arith in
          let nothing : take (to - from) (drop from bytes) ≡ [] = ap (λ n. take n (drop from bytes)) none in
          let rest : drop at bytes ≡ [] = drop_all at bytes (omega arith) in
          let short : take g (drop at bytes) ≡ [] = ap (take g) rest ∙ take_all g [] (omega arith) in
          nothing ∙ sym short
    ]
  where
    inside : at ≤ length bytes → take (to - from) (drop from bytes) ≡ take g (drop at bytes)
    inside le =
        let start : from ≡ at = omega arith in
        let many : to - from ≡ min g (length (drop at bytes)) = omega (arith, length-drop at bytes) in
        rw (many, start) (take_min g (drop at bytes))

pub loop-k-preserved : goal.loop-k-preserved
loop-k-preserved c =
    let bytes = c.args.bytes.now in
    let g = c.args.group in
    let k = c.loop-k.k in
    let size = 2 * g + 1 in
    let a = size * k in
    let part = c.put_word.new.field in
    let next : size * (k + 1) ≤ size * c.args.count = mul-le-mul_left size (omega (arith, c.loop-k-test.true)) in
    let room : a + size ≤ length c.loop-k.field = omega (arith, c.loop-k.auto.field, c.requires.room) in
    let same : a + size - a ≡ size = omega arith in
    let len : length part ≡ size = c.put_word.auto.field ∙ length-take-le (a + size - a) (drop a c.loop-k.field) (omega (arith, length-drop a c.loop-k.field)) ∙ same in
    let more = take-put_mid a (a + size - a) c.loop-k.field part (size * (k + 1)) (omega arith) (omega arith) in
    let word = λ (j : ℕ). word_text c.args.upper g (take g (drop (g * j) bytes)) in
    let is = c.put_word.ensures ∙ ap (word_text c.args.upper g) (chunk g (g * k) c.min-begin.result c.min-end.result bytes c.min-begin.ensures c.min-end.ensures) in
    more ∙ ap (λ t. t ++ part) c.loop-k.invariant ∙ ap (λ t. words_text c.args.upper g k bytes ++ t) is ∙ sym (range_more word k)
