use Rattle.std.proofs.Common.{◌≡◌, false, ℕ, ◌+◌, List, ◌++◌, length, arith, ◌∙◌}
use Rattle.std.specs.Prelude.{codes}
use Rattle.std.specs.Fmt.{digits}
use Rattle.bx_dump_columns.specs.Names.{c_name}
use Rattle.bx_dump_columns.proofs.NamesLemmas.{emits_both, emits_first}
use Rattle.std.proofs.lemmas.List.{length-append}
use Rattle.bx_dump_columns.proofs.xxd.names.emit_tail.Goals as goal

abbrev named : List ℕ → List ℕ
named name = codes "};\nunsigned int " ++ c_name name ++ codes "_len = "

abbrev last : ℕ → List ℕ
last count = digits 10 false count ++ codes ";\n"

pub returns-in-Err : goal.returns-in-Err
returns-in-Err g c = emits_first c.args.before _ _ (named c.args.name.now) (last c.args.count) c.in-Err.fault c.in-Err.ensures.emits

named_len : (name : List ℕ) → length (named name) ≡ length (c_name name) + 23
named_len name = omega (arith, length-append (codes "};\nunsigned int " ++ c_name name) (codes "_len = "), length-append (codes "};\nunsigned int ") (c_name name))

pub emit_next-requires : goal.emit_next-requires
emit_next-requires g c =
    let n : c.in-Ok.n ≡ c.args.before + length (named c.args.name.now) = c.in-Ok.ensures.emits.0 in
    omega (arith, n, named_len c.args.name.now, c.in-Ok.ensures.most, c.as_bytes.ensures.fits, c.requires.name, c.requires.before)

pub returns : goal.returns
returns g c =
    let text = c.as_bytes.ensures.value ∙ c.count_line.ensures in
    let next = rw text at c.emit_next.ensures in
    emits_both c.args.before c.in-Ok.n _ _ _ (named c.args.name.now) (last c.args.count) c.emit_next.result c.in-Ok.ensures.emits next
