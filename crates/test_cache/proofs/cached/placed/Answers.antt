use Rattle.std.proofs.Common.{◌≡◌, ◌+◌, ◌<◌, ◌≤◌, length, rules, arith}
use Rattle.std.proofs.lemmas.List.{nil_from_length}
use Rattle.std.proofs.lemmas.Bool.Decides.{nat_tests}
use Rattle.std.proofs.lemmas.Grind.{common_steps}
use Rattle.bx_image.specs.Image.{place, cut}
use Rattle.bx_image.proofs.Edits.{resized_cut, place_none, place-cut}
use Rattle.test_cache.proofs.cached.placed.Goals as goal
use Rattle.test_cache.proofs.cached.placed.Goals.{then-len-end+in_ok-resize, else-len-end}

pub returns-then-is_empty : goal.returns-then-is_empty
returns-then-is_empty c = grind (arith, common_steps, place_none, nil_from_length)

pub returns : goal.returns
returns c = elim c.if-len-end.branch [
  | then-len-end+in_ok-resize w ↦
      let raised : c.if-len-end.new.items ≡ cut c.args.old.now (c.args.at + length c.args.bytes.now) = search (rules, resized_cut) in
      let some : 0 < length c.args.bytes.now = grind (arith, nat_tests) in
      let longer : length c.args.old.now ≤ c.args.at + length c.args.bytes.now = grind (arith, nat_tests, common_steps) in
      let e : place (cut c.args.old.now (c.args.at + length c.args.bytes.now)) c.args.at c.args.bytes.now ≡ _ = place-cut _ _ _ some longer in
      grind (arith, common_steps)
  | else-len-end w ↦ grind (arith, common_steps)
]
