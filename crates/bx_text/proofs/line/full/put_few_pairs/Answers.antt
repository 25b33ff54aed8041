use Rattle.std.proofs.Common.{◌≡◌, ◌+◌, ◌<◌, length, get_or, arith, refl, ap, ◌∙◌, ◌∷◌, [], ℕ, false, List}
use Rattle.std.proofs.lemmas.List.{length-set}
use Rattle.std.proofs.lemmas.List.FromFn.{fill_by_all}
use Rattle.bx_text.proofs.FieldLemmas.{put_pair}
use Rattle.bx_text.specs.Field.{char_at}
use Rattle.bx_text.specs.Dump.{pair_of}
use Rattle.bx_text.specs.private.Dump.{hex_place}
use Rattle.bx_text.proofs.line.full.put_few_pairs.Goals as goal

both : (xs : List ℕ) (b : ℕ) → xs ≡ pair_of false b → pair_of false b ≡ get_or xs 0 0 ∷ get_or xs 1 0 ∷ []
both xs b e = rw e refl

pub loop-i-preserved : goal.loop-i-preserved
loop-i-preserved c p inside =
    let text = λ (i : ℕ). pair_of false (get_or c.args.bytes.now i 0) in
    let pair : text c.loop-i.i ≡ get_or c.digits_of-pair.result 0 0 ∷ get_or c.digits_of-pair.result 1 0 ∷ [] = both c.digits_of-pair.result _ c.digits_of-pair.ensures in
    let fits : hex_place 2 c.loop-i.i + 1 < length c.loop-i.field = omega arith in
    put_pair c.loop-i.field (hex_place 2) text c.loop-i.i (hex_place 2 c.loop-i.i) _ _ pair refl fits c.loop-i.invariant p
    (omega (arith, length-set {A = ℕ}, inside))

pub returns : goal.returns
returns c =
    let text = λ (i : ℕ). pair_of false (get_or c.args.bytes.now i 0) in
    let all : c.loop-i.i ≡ length c.args.bytes.now = omega arith in
    let width : length c.loop-i.field ≡ length c.args.field.now = omega (arith, c.loop-i.auto.field, c.blank.auto.field) in
    fill_by_all (char_at (hex_place 2) text (length c.args.bytes.now)) c.loop-i.field (length c.args.field.now) 0 width
    (λ p inside. c.loop-i.invariant p (omega arith) ∙ ap (λ n. char_at (hex_place 2) text n p) all)
