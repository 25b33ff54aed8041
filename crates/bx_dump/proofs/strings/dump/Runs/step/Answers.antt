use Rattle.std.proofs.Common.{◌≡◌, ◌≤◌, ℕ, length, take, sym, refl, inl, inr, ◌∙◌, arith}
use Rattle.std.proofs.lemmas.List.{length-take-le}
use Rattle.bx_dump_columns.specs.declared.od.options.Address.{Address}
use Rattle.bx_dump_columns.specs.declared.od.options.Address.TheVariants.{Octal, Decimal, Hexadecimal, Without}
use Rattle.bx_dump.specs.private.Scan.{pending, AllPrint, NonePrints}
use Rattle.bx_dump_columns.specs.Places.{cost_of}
use Rattle.bx_dump.proofs.ScanLemmas.{front_prints, front_none, front_some, scan_run-print, scan_run-none, scan_end, both}
use Rattle.std.specs.Prelude.{nat_lt}
use Rattle.bx_dump.proofs.strings.dump.Runs.step.Goals as goal

none_pending : (least : ℕ) → pending least 0 ≡ 0
none_pending least = elim (both (nat_lt 0 least)) [ inl e ↦ rw e refl | inr e ↦ rw e refl ]

some_cost : (o : Address) → 2 ≤ cost_of o
some_cost Octal = omega arith
some_cost Decimal = omega arith
some_cost Hexadecimal = omega arith
some_cost Without = omega arith

pub grow-used-requires-clause-printing : goal.grow-used-requires-clause-printing
grow-used-requires-clause-printing c = rw c.printable_len-run.ensures.value (front_prints c.args.bytes.now)

pub returns-then-run-gt0-clause-kept : goal.returns-then-run-gt0-clause-kept
returns-then-run-gt0-clause-kept c run kept =
    let prints : AllPrint (take c.printable_len-run.result c.args.bytes.now) = rw c.printable_len-run.ensures.value (front_prints c.args.bytes.now) in
    rw (scan_run-print run (take c.printable_len-run.result c.args.bytes.now) prints) (c.grow-used.ensures.kept run kept)

some_taken : goal.returns-clause-some
some_taken c =
    let none = sym c.printable_len-run.ensures.value ∙ omega (arith, c.if-run-gt0.false) in
    rw c.other_len-taken.ensures.value (front_some c.args.bytes.now c.requires.some none)

pub returns-clause-some : goal.returns-clause-some
returns-clause-some c = some_taken c

pub returns-clause-text : goal.returns-clause-text
returns-clause-text c run kept =
    let taken = c.other_len-taken.result in
    let bytes = c.args.bytes.now in
    let size : length (take taken bytes) ≡ taken = length-take-le taken bytes c.other_len-taken.ensures.within in
    let none : NonePrints (take taken bytes) = rw c.other_len-taken.ensures.value (front_none bytes) in
    c.end-used.ensures.text run kept
    ∙ sym (scan_end c.args.self.now.least c.args.self.now.offsets c.args.at run (take taken bytes) none (omega (arith, size, some_taken c)) c.requires.least)

pub returns-clause-kept : goal.returns-clause-kept
returns-clause-kept c run kept =
    let taken = c.other_len-taken.result in
    let bytes = c.args.bytes.now in
    let size : length (take taken bytes) ≡ taken = length-take-le taken bytes c.other_len-taken.ensures.within in
    let none : NonePrints (take taken bytes) = rw c.other_len-taken.ensures.value (front_none bytes) in
    rw (scan_run-none run (take taken bytes) none (omega (arith, size, some_taken c))) c.end-used.ensures.kept

pub returns-clause-cost : goal.returns-clause-cost
returns-clause-cost c =
    let self = c.end-used.new.self in
    let zero_left : pending self.least self.count ≡ 0 = rw c.end-used.ensures.count (none_pending self.least) in
    omega (arith, zero_left, c.end-used.ensures.cost, some_taken c, some_cost c.args.self.now.offsets)
