use Rattle.std.proofs.Common.{◌≡◌, ◌≤◌, ◌-◌, ◌∙◌, ◌++◌, List, length, take, drop, map, ap, subst, sym, arith, length-drop}
use Rattle.std.proofs.lemmas.List.{reverse-append, take-append-drop}
use Rattle.std.specs.Prelude.{reverse, All}
use Rattle.bx_journal_format.specs.declared.read.types.EntryRead.{EntryRead}
use Rattle.bx_journal_protocol.specs.before.Overwritten.{AreOrdered, AreOverwrittenOf, place_in}
use Rattle.bx_journal_protocol.proofs.PlanLemmas.{ordered_drop, overwritten_more}
use Rattle.bx_journal_protocol.proofs.before.records.plan_last.Goals as goal
use Rattle.bx_journal_protocol.proofs.before.records.plan_last.Goals.{After-split_at}

-- the last k entries
last : (g : _) (c : After-split_at g) → c.split_at.result.1.now ≡ drop (length c.args.read.now.entries.items - c.args.k) c.args.read.now.entries.items
last g c =
    c.split_at.ensures.back ∙ ap (λ (es : List (EntryRead g.row.A.Denot)). drop (length es - c.args.k) es) c.as_slice-entries.ensures.value

pub places-requires : goal.places-requires
places-requires g c =
    let es : List (EntryRead g.row.A.Denot) = c.args.read.now.entries.items in
    record { order = subst AreOrdered (sym (last g (goal.at.places-requires g c).After-split_at)) (ordered_drop (length es - c.args.k) es c.requires.order) }

pub returns-clause-plan : goal.returns-clause-plan
returns-clause-plan g c =
    let es : List (EntryRead g.row.A.Denot) = c.args.read.now.entries.items in
    let is = last g (goal.at.returns-clause-plan g c).After-split_at in
    record {
      places = c.in_ok-placed.ensures.places ∙ ap (map place_in) is;
      within = c.in_ok-overwritten.ensures.within;
      count = c.in_ok-overwritten.ensures.count ∙ ap length is ∙ omega (arith, length-drop (length es - c.args.k) es, c.requires.few);
      longest = subst (All (λ (e : EntryRead g.row.A.Denot). e.kept.len ≤ c.longest_of.result)) is c.longest_of.ensures;
    }

pub returns-clause-overwritten : goal.returns-clause-overwritten
returns-clause-overwritten g c faithful =
    let es : List (EntryRead g.row.A.Denot) = c.args.read.now.entries.items in
    let n = length es - c.args.k in
    let os = c.in_ok-overwritten.overwritten.items in
    let x = g.D.Device.image c.args.image.now in
    let is = last g (goal.at.returns-clause-overwritten g c).After-split_at in
    let parts : reverse es ≡ reverse (drop n es) ++ reverse (take n es) = ap reverse (sym (take-append-drop n es)) ∙ reverse-append (take n es) (drop n es) in
    let here : AreOverwrittenOf x (reverse (drop n es)) (reverse os) = subst (λ fs. AreOverwrittenOf x (reverse fs) (reverse os)) is (c.in_ok-overwritten.ensures.overwritten faithful) in
    subst (λ fs. AreOverwrittenOf x fs (reverse os)) (sym parts) (overwritten_more x (reverse (drop n es)) (reverse (take n es)) (reverse os) here)
