use Rattle.std.proofs.Common.{◌∷◌, length, arith, ap}
use Rattle.std.proofs.lemmas.List.{length-append}
use Rattle.bx_patch.specs.Read.{asked_of}
use Rattle.bx_patch.proofs.ReadLemmas.{read_none, read_on}
use Rattle.bx_patch.proofs.read.take_lines.Goals as goal

pub loop-line-init : goal.loop-line-init
loop-line-init g c = record { read = read_none c.args.text.now (asked_of c.args.patch.now) c.requires; small = omega arith }

pub loop-line-preserved : goal.loop-line-preserved
loop-line-preserved g c =
    let inv = c.loop-line.invariant in
    let line = c.in-Some.line.now in
    let later = c.in-Some.later.now in
    record {
      read = read_on c.args.text.now c.loop-line.rest.now later line c.loop-line.count (asked_of c.loop-line.patch) (asked_of c.take_line.new.patch)
          c.in-Some.ensures.1 c.in-Some.ensures.0 inv.read c.in-Ok.ensures.ok;
      small = omega (arith, inv.small, ap length c.in-Some.ensures.1, length-append line (10 ∷ later));
    }
