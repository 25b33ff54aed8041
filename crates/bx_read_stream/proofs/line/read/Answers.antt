use Rattle.std.proofs.Common.{◌≡◌, ◌∙◌, ◌++◌, take, arith}
use borrow.Rule.Slice.PartMut.{post_of}
use Rattle.std.proofs.lemmas.List.{take-append-le, take_all}
use Rattle.bx_read_stream.proofs.ImageLemmas.{reads_full}
use Rattle.bx_read_stream.proofs.line.read.Goals as goal

pub returns-clause-read : goal.returns-clause-read
returns-clause-read c =
    let new = c.copy_from_slice.new.self in
    let full = c.in-Some.full in
    let same : take 16 (new ++ post_of 0 16 c.args.out.now) ≡ full.bytes =
    take-append-le 16 new (post_of 0 16 c.args.out.now) (omega (arith, c.copy_from_slice.ensures.len)) ∙ take_all 16 new (omega (arith, c.copy_from_slice.ensures.len)) ∙ c.copy_from_slice.ensures.after in
    rw same (reads_full c.args.number c.args.line.now full.at full.bytes c.in-Some.ensures)
