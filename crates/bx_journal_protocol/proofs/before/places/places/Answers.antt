use Rattle.std.proofs.Common.{◌≡◌, ◌+◌, ◌∙◌, ◌++◌, ◌∷◌, [], List, map, take, refl, ap, subst, sym, arith}
use Rattle.std.proofs.lemmas.Grind.{common_steps}
use Rattle.std.proofs.lemmas.List.{take_all, take_more}
use Rattle.bx_journal_format.specs.declared.read.types.EntryRead.{EntryRead}
use Rattle.bx_journal_protocol.specs.declared.protocol.undo_entry.Placed.{Placed}
use Rattle.bx_journal_protocol.specs.before.Overwritten.{IsOrdered, place_in}
use Rattle.bx_journal_protocol.proofs.PlanLemmas.{ordered_at}
use Rattle.bx_journal_protocol.proofs.before.places.places.Goals as goal

map_append : {X Y : Type 0} (f : X → Y) (xs ys : List X) → map f (xs ++ ys) ≡ map f xs ++ map f ys
map_append f [] ys = refl
map_append f (x ∷ xs) ys = ap (λ zs. f x ∷ zs) (map_append f xs ys)

pub place_of-requires : goal.place_of-requires
place_of-requires g c =
    subst (λ (e : EntryRead g.row.A.Denot). IsOrdered e) (sym c.entry-item.is) (ordered_at c.args.entries.now c.loop-entry.entry-index c.entry-item.result c.loop-entry-test.true c.requires.order)

pub loop-entry-preserved : goal.loop-entry-preserved
loop-entry-preserved g c =
    let es = c.args.entries.now in
    let i = c.loop-entry.entry-index in
    let e : EntryRead g.row.A.Denot = c.entry-item.result in
    let f : EntryRead g.row.A.Denot → Placed = place_in in
    let p : Placed = c.place_of.result in
    let items : c.push.new.self.items ≡ c.loop-entry.placed.items ++ p ∷ [] = grind (arith, common_steps) in
    let more : take (i + 1) es ≡ take i es ++ e ∷ [] = take_more es i e c.loop-entry-test.true ∙ ap (λ u. take i es ++ u ∷ []) (sym c.entry-item.is) in
    items ∙ ap (λ ps. ps ++ p ∷ []) c.loop-entry.invariant ∙ ap (λ q. map f (take i es) ++ q ∷ []) c.place_of.ensures ∙ sym (map_append f (take i es) (e ∷ [])) ∙ ap (map f) (sym more)

pub returns-clause-places : goal.returns-clause-places
returns-clause-places g c = c.loop-entry.invariant ∙ ap (map place_in) (take_all c.loop-entry.entry-index c.args.entries.now (omega arith))
