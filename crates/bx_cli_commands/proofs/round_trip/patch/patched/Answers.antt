use Rattle.bx_patch.specs.Read.{asked_of}
use Rattle.bx_cli_commands.proofs.PatchTrips.{look_rests, made_patched, other_patched}
use Rattle.bx_cli_commands.proofs.round_trip.patch.patched.Goals as goal

pub returns-in-Some : goal.returns-in-Some
returns-in-Some g c i rests =
    let e = c.in-Ok-None.ensures in
    let looked = look_rests g.D.Device g.T.TextStore c.args.session c.find_other.new.self i e.looks e.safe.faith rests in
    made_patched g.D.Device g.T.TextStore g.row.A.Denot (asked_of c.args.patch) c.args.session c.in-Some.session c.into_change.result i rests
    (rw c.in-Ok-None.field-0-is at e.found) c.into_change.ensures (c.in-Some.ensures.moves i looked).0

pub returns-in-Ok-Some : goal.returns-in-Ok-Some
returns-in-Ok-Some g c i rests =
    let e = c.in-Ok-Some.ensures in
    other_patched g.D.Device g.T.TextStore g.row.A.Denot (asked_of c.args.patch) c.args.session c.find_other.new.self c.in-Ok-Some.field-0-0 e.looks rests.image
    (rw c.in-Ok-Some.field-0-is at e.found)
