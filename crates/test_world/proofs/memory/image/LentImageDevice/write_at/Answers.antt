use Rattle.std.proofs.Common.{◌≡◌, ◌+◌, ◌<◌, length, rules, arith}
use Rattle.std.proofs.lemmas.List.{nil_from_length}
use Rattle.std.proofs.lemmas.Bool.Decides.{nat_tests}
use Rattle.std.proofs.lemmas.Grind.{common_steps}
use Rattle.bx_image.specs.Image.{place, cut}
use Rattle.bx_image.specs.Power.{KeepsOutside}
use Rattle.bx_image.proofs.Survivors.{KeepsOutside_refl, KeepsOutside-place}
use Rattle.test_world.proofs.Survivors.{follows_two}
use Rattle.bx_image.proofs.Edits.{resized_cut, place_none, place-cut}
use Rattle.test_world.proofs.memory.image.LentImageDevice.write_at.Goals as goal
use Rattle.test_world.proofs.memory.image.LentImageDevice.write_at.Goals.{then-len-end, else-len-end}

pub returns-then-is_empty-clause-ok : goal.returns-then-is_empty-clause-ok
returns-then-is_empty-clause-ok c _ = grind (arith, common_steps, place_none, nil_from_length)

pub returns-clause-ok : goal.returns-clause-ok
returns-clause-ok c _ = elim c.if-len-end.branch [
  | then-len-end w ↦
      let raised : c.if-len-end.self.contents.bytes.items ≡ cut c.args.self.now.contents.bytes.items (c.args.at + length c.args.bytes.now) = search (rules, resized_cut) in
      let some : 0 < length c.args.bytes.now = grind (arith, nat_tests) in
      let e : place (cut c.args.self.now.contents.bytes.items (c.args.at + length c.args.bytes.now)) c.args.at c.args.bytes.now ≡ _ = place-cut _ _ _ some (omega arith) in
      grind (arith, common_steps)
  | else-len-end w ↦ grind (arith, common_steps)
]

pub returns-clause-survives : goal.returns-clause-survives
returns-clause-survives c _ =
    let written = returns-clause-ok c tt in
    let same : c.if-len-end.self.contents.synced.items ≡ c.args.self.now.contents.synced.items = elim c.if-len-end.branch [
      | then-len-end w ↦ search rules
      | else-len-end w ↦ search rules
    ] in
    rw same (follows_two (KeepsOutside c.args.at (length c.args.bytes.now)) _ _ _ (KeepsOutside_refl _ _)
    (rw written (KeepsOutside-place c.args.self.now.contents.bytes.items c.args.at c.args.bytes.now)))
