use Rattle.std.proofs.Common.{◌≡◌, ◌++◌, ◌-◌, length, true, take, arith, refl, sym, ap, ◌∙◌, inl, inr}
use Rattle.std.proofs.lemmas.List.{take_all}
use Rattle.bx_dd.proofs.RecordsLemmas.{Stands_text}
use Rattle.bx_dd.proofs.convert.records.hold.Goals as goal

pub returns-then-text-room-clause-next : goal.returns-then-text-room-clause-next
returns-then-text-room-clause-next g c z out cut text stands =
    Stands_text c.args.size z out c.args.held.now.items c.args.over cut stands c.args.text.now _ c.args.over text
    (c.keep.ensures.items ∙ ap (λ l. c.args.held.now.items ++ l) (sym (take_all _ c.args.text.now (omega arith)))) (inl (omega arith, refl))

pub returns-else-text-room-clause-next : goal.returns-else-text-room-clause-next
returns-else-text-room-clause-next g c z out cut text stands =
    let n : c.len.result ≡ length c.args.held.now.items = omega arith in
    Stands_text c.args.size z out c.args.held.now.items c.args.over cut stands c.args.text.now c.keep-else-text-room.new.kept.items true text
    (c.keep-else-text-room.ensures.items ∙ ap (λ k. c.args.held.now.items ++ take (c.args.size - k) c.args.text.now) n) (inr (omega arith, refl))
