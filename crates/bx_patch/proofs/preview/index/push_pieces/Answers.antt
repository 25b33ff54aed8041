use Rattle.std.proofs.Common.{◌≡◌, inl, inr, get_or, length, ap, sym, subst, ◌∙◌, refl, arith}
use Rattle.std.proofs.lemmas.Bool.{cases_lt}
use Rattle.std.proofs.lemmas.List.{get_or_read_under}
use Rattle.bx_patch.specs.preview.Index.{Meets}
use Rattle.bx_patch.proofs.preview.index.push_pieces.Goals as goal

pub loop-i-init : goal.loop-i-init
loop-i-init g c = record { named = λ k d window low meets. absurd (omega (arith, low)) }

pub loop-i-preserved : goal.loop-i-preserved
loop-i-preserved g c =
    let pieces = c.args.pieces.now in
    let made = c.if-not-push_piece.false in
    record {
      named = λ k d window low meets. elim (cases_lt k c.loop-i.i) [
        | inl before ↦ c.push_piece.ensures.keeps made _ (c.loop-i.invariant.named k d window before meets)
        | inr last ↦
            let same : k ≡ c.loop-i.i = omega (arith, last, low) in
            let this = get_or_read_under pieces c.loop-i.i (length pieces) _ d c.index-pieces-i.is c.loop-i-test.true refl in
            rw same (c.push_piece.ensures.named made window (subst (λ p. Meets p window) (ap (λ m. get_or pieces m d) same ∙ sym this) meets))
      ];
    }

pub returns : goal.returns
returns g c _ k d window low meets = c.loop-i.invariant.named k d window (omega (arith, low, c.loop-i-test.false)) meets
