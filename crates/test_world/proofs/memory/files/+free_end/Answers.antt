use Rattle.std.proofs.Common.{◌≡◌, ◌∙◌, ◌<◌, Some, ap, refl, sym, rules, arith}
use Rattle.std.specs.Prelude.{slice_get}
use Rattle.std.proofs.lemmas.Bool.Decides.{nat_tests}
use Rattle.std.proofs.lemmas.Option.{slice_get_read}
use Rattle.test_world.specs.MemoryFiles.{entry_named}
use Rattle.test_world.specs.declared.memory.files.Leads.TheVariants.{Link}
use Rattle.test_world.proofs.Entries.{end_onward, leads_here}
use Rattle.test_world.proofs.memory.files.+free_end.Goals as goal

pub returns-in-Link : goal.returns-in-Link
returns-in-Link t c =
    let some : 0 < c.args.steps = grind (arith, nat_tests) in
    let at = c.in-Some.ensures.lookup in
    let got : slice_get c.args.entries.now c.place_of.result ≡ Some c.in-Some.entry.now = slice_get_read _ _ _ _ refl at.3.0 at.1 in
    let is : c.in-Some.entry.now.leads ≡ Link c.as_str.result.now = search rules in
    let leads : entry_named c.args.entries.now c.args.name.now ≡ Some (Link c.as_str.result.now) =
    sym c.place_of.ensures ∙ leads_here c.args.entries.now c.place_of.result _ got ∙ ap Some is in
    rw (end_onward _ _ _ _ _ some leads) c.free_end.ensures
