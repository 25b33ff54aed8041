use Rattle.std.proofs.Common.{◌≡◌, ◌∙◌, ◌<◌, ◌≤◌, length, true, sym, rules}
use Rattle.std.specs.Str.{bytes_eq}
use Rattle.test_world.proofs.Entries.{leads_none, place_found, place_past}
use Rattle.test_world.proofs.memory.files.place_of.Goals as goal

pub returns-then-eq : goal.returns-then-eq
returns-then-eq c =
    let same : bytes_eq c.index-entries-place.result.name c.args.name.now ≡ true = search rules in
    let below : c.loop-place.place < length c.args.entries.now = search rules in
    place_found _ _ _ _ below c.index-entries-place.is same ∙ c.loop-place.invariant

pub returns : goal.returns
returns c =
    let past : length c.args.entries.now ≤ c.loop-place.place = search rules in
    leads_none c.args.entries.now ∙ sym (place_past _ c.args.name.now _ past) ∙ c.loop-place.invariant
