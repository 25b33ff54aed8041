use Rattle.std.proofs.Common.{◌++◌, ◌∷◌, [], replicate, ap, ◌∙◌}
use Rattle.bx_read.proofs.window.unfinished.wide_front.Goals as goal

pub returns-clause-text : goal.returns-clause-text
returns-clause-text g c =
    c.in_ok-extend_from_slice-3.ensures.items
    ∙ ap (λ t. t ++ c.args.rest.now) (c.in_ok-extend_from_slice-2.ensures.items ∙ ap (λ t. t ++ replicate 514 48) (c.in_ok-extend_from_slice.ensures.items ∙ ap (λ t. t ++ 48 ∷ 58 ∷ 32 ∷ []) c.in_ok-front.ensures.items))
