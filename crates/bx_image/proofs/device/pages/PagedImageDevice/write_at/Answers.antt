use Rattle.std.proofs.Common.{◌<◌, length, ◌∙◌, ap, arith}
use Rattle.std.proofs.lemmas.Bool.Decides.{nat_tests}
use Rattle.std.proofs.lemmas.Grind.{common_steps}
use Rattle.std.proofs.lemmas.List.{nil_from_length}
use Rattle.bx_image.specs.Image.{image_of}
use Rattle.bx_image.specs.Pages.{byte_at}
use Rattle.bx_image.proofs.Edits.{place_none}
use Rattle.bx_image.proofs.Paging.{image_written}
use Rattle.bx_image.proofs.Survivors.{Follows_place}
use Rattle.bx_image.proofs.device.pages.PagedImageDevice.write_at.Goals as goal

pub returns-then-is_empty-clause-ok : goal.returns-then-is_empty-clause-ok
returns-then-is_empty-clause-ok g c _ = grind (arith, common_steps, place_none, nil_from_length)

pub returns-clause-ok : goal.returns-clause-ok
returns-clause-ok g c _ =
    let some : 0 < length c.args.bytes.now = grind (arith, nat_tests) in
    ap (λ n. image_of n (byte_at c.write_over.new.pages.items (λ p. p.value))) c.max-self.ensures
    ∙ image_written c.args.self.now.len c.args.at c.args.bytes.now _ _ some c.args.self.now.zeros c.write_over.ensures.bytes

pub returns-clause-survives : goal.returns-clause-survives
returns-clause-survives g c _ = Follows_place _ _ c.args.at c.args.bytes.now (returns-clause-ok g c tt)
