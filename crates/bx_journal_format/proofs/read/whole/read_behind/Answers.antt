use Rattle.std.proofs.Common.{◌≡◌, ℕ, suc, ◌+◌, ◌*◌, ◌<◌, ◌≤◌, List, length, take, drop, Some, ap, sym, ◌∙◌, subst, arith, true, false, length-drop, length-take}
use Rattle.bx_journal_format.specs.Text.{Entry}
use Rattle.bx_journal_format.specs.read.Journal.{IsBehind}
use Rattle.bx_journal_format.specs.read.Plain.{HasNoNewline}
use Rattle.bx_journal_format.specs.Parsed.{told_by, entries_onto, reading_onto, Leads, KeepsMarks, IsReadTo}
use Rattle.bx_journal_format.proofs.ReadLemmas.{length-onto}
use Rattle.bx_journal_format.proofs.ReadLoop.{drop_twice, start_read, marked_few, IsFound, read_on, read_stops, read_ends, rest_at_end, read_fails}
use Rattle.bx_journal_format.proofs.read.whole.read_behind.Goals as goal

pub loop-i-init : goal.loop-i-init
loop-i-init g c =
    let b = c.requires.2 in
    let none : length c.new-entries.result.items ≡ 0 = ap length c.new-entries.ensures.items in
    record {
      read = λ text older b. start_read text c.args.bytes.items older c.args.front c.new-entries.result.items b c.new-entries.ensures.items;
      left = λ text is. is;
      within = omega arith;
      few = omega (arith, b.lines);
      size = omega arith;
      countable = omega (arith, b.countable, b.mark.within, ap length b.rest, length-drop c.args.front.at c.requires.0);
      many = omega (arith, b.few, none);
    }

-- a line, and the full lines behind it, are within what is left of the text
lines_within : (at size i count : ℕ) (rest left behind : List ℕ) → rest ≡ left → i < length rest → at + length left ≡ size → behind ≡ drop (i + 1) left → 68 * count ≤ length behind → at + i + 1 + 68 * count ≤ size
lines_within at size i count rest left behind same below all is within = omega (arith, ap length same, ap length is, length-drop (i + 1) left)

pub overflow_add-after : goal.overflow_add-after
overflow_add-after g c = omega (arith, ap length c.rest_of.ensures, c.in-Some.ensures.found.0, c.loop-i.invariant.size, c.loop-i.invariant.countable)

pub overflow_add-after-in-Some : goal.overflow_add-after-in-Some
overflow_add-after-in-Some g c = omega (arith, ap length c.rest_of.ensures, c.in-Some.ensures.found.0, c.loop-i.invariant.size, c.loop-i.invariant.countable)

pub behind-requires : goal.behind-requires
behind-requires g c = omega (arith, ap length c.rest_of.ensures, c.in-Some.ensures.found.0)

pub overflow_mul-at : goal.overflow_mul-at
overflow_mul-at g c =
    let inv = c.loop-i.invariant in
    omega (arith, lines_within c.loop-i.at _ c.in-Some.i c.in-Ok-go_on.gone.count _ _ _ c.rest_of.ensures c.in-Some.ensures.found.0 inv.size c.behind.ensures c.in-Ok-go_on.ensures.within, inv.countable)

pub overflow_add-at : goal.overflow_add-at
overflow_add-at g c =
    let inv = c.loop-i.invariant in
    omega (arith, lines_within c.loop-i.at _ c.in-Some.i c.in-Ok-go_on.gone.count _ _ _ c.rest_of.ensures c.in-Some.ensures.found.0 inv.size c.behind.ensures c.in-Ok-go_on.ensures.within, inv.countable)

pub overflow_add-line-in-Some-2 : goal.overflow_add-line-in-Some-2
overflow_add-line-in-Some-2 g c =
    let inv = c.loop-i.invariant in
    omega (arith, lines_within c.loop-i.at _ c.in-Some.i c.in-Ok-go_on.gone.count _ _ _ c.rest_of.ensures c.in-Some.ensures.found.0 inv.size c.behind.ensures c.in-Ok-go_on.ensures.within, inv.countable, inv.few)

pub returns-in_default-taken-clause-fault : goal.returns-in_default-taken-clause-fault
returns-in_default-taken-clause-fault g c text older b =
    let rest = c.rest_of.result.now in
    let es = c.loop-i.entries.items in
    let f = c.in-Some.ensures.found in
    let found : IsFound rest c.in-Some.i = record { below = f.0; plain = f.1; is = f.2 } in
    let line : c.split_at.result.0.now ≡ take c.in-Some.i rest = c.split_at.ensures.front ∙ ap (take c.in-Some.i) (c.rest_of-in-Some.ensures ∙ sym c.rest_of.ensures) in
    read_stops text rest older es c.take_line.new.entries.items c.loop-i.stage c.loop-i.at c.loop-i.line c.in-Some.i (c.loop-i.invariant.read text older b) (c.rest_of.ensures ∙ c.loop-i.invariant.left text b.rest) found
    (subst (Leads (reading_onto older es c.loop-i.stage) (take c.in-Some.i rest) (entries_onto older c.take_line.new.entries.items)) c.in_default-taken.is
    (subst (λ l. Leads (reading_onto older es c.loop-i.stage) l (entries_onto older c.take_line.new.entries.items) c.in-Ok.taken) line (c.in-Ok.ensures older b.count b.told).leads))

pub loop-i-smaller : goal.loop-i-smaller
loop-i-smaller g c = omega (
  arith,
  ap length c.in-Ok-go_on.ensures.left,
  length-drop (68 * c.in-Ok-go_on.gone.count) (drop c.behind.result.from c.behind.result.bytes.items),
  ap length c.behind.ensures,
  length-drop (c.in-Some.i + 1) (drop c.loop-i.text.1.0 c.loop-i.text.0.items),
  ap length c.rest_of.ensures,
  c.in-Some.ensures.found.0,
)

pub loop-i-preserved : goal.loop-i-preserved
loop-i-preserved g c =
    let rest = c.rest_of.result.now in
    let i = c.in-Some.i in
    let at = c.loop-i.at in
    let es = c.loop-i.entries.items in
    let new = c.take_line.new.entries.items in
    let f = c.in-Some.ensures.found in
    let found : IsFound rest i = record { below = f.0; plain = f.1; is = f.2 } in
    let line : c.split_at.result.0.now ≡ take i rest = c.split_at.ensures.front ∙ ap (take i) (c.rest_of-in-Some.ensures ∙ sym c.rest_of.ensures) in
    let same : at + (i + 1) ≡ at + i + 1 = omega arith in
    let behind : (text : List ℕ) → c.args.bytes.items ≡ drop c.args.front.at text → drop c.behind.result.from c.behind.result.bytes.items ≡ drop (at + i + 1) text =
    λ text is. c.behind.ensures ∙ ap (drop (i + 1)) (c.loop-i.invariant.left text is) ∙ drop_twice at (i + 1) text ∙ ap (λ n. drop n text) same in
    let go : (text : List ℕ) (older : List Entry) → IsBehind text older c.args.front c.args.bytes.items
    → IsReadTo text older new c.in-Ok-go_on.gone.stage (at + i + 1 + 68 * c.in-Ok-go_on.gone.count) (c.loop-i.line + 1 + c.in-Ok-go_on.gone.count) = λ text older b.
    let read : IsReadTo text older es c.loop-i.stage at c.loop-i.line = c.loop-i.invariant.read text older b in
    let keeps : KeepsMarks text older new (at + i + 1) (Some c.in-Some-taken.next) = subst (KeepsMarks text older new (at + i + 1)) c.in-Some-taken.is ((c.in-Ok.ensures older b.count b.told).marked text (at + i + 1) read.marked read.mark (omega (arith, ap length line, length-take i rest, f.0))) in
    let one = read_on text rest older es new c.loop-i.stage c.in-Some-taken.next at c.loop-i.line i read (c.rest_of.ensures ∙ c.loop-i.invariant.left text b.rest) found
    (subst (Leads (reading_onto older es c.loop-i.stage) (take i rest) (entries_onto older new)) c.in-Some-taken.is
    (subst (λ l. Leads (reading_onto older es c.loop-i.stage) l (entries_onto older new) c.in-Ok.taken) line (c.in-Ok.ensures older b.count b.told).leads)) keeps in
    c.in-Ok-go_on.ensures.read text older new (at + i + 1) (c.loop-i.line + 1) one (behind text b.rest) in
    let b = c.requires.2 in
    let few = marked_few c.requires.0 c.requires.1 new c.in-Ok-go_on.gone.stage (at + i + 1 + 68 * c.in-Ok-go_on.gone.count) (go c.requires.0 c.requires.1 b).marked in
    record {
      read = go;
      left = λ text is. c.in-Ok-go_on.ensures.left ∙ ap (drop (68 * c.in-Ok-go_on.gone.count)) (behind text is) ∙ drop_twice (at + i + 1) (68 * c.in-Ok-go_on.gone.count) text;
      within = c.in-Ok-go_on.gone.text.within;
      few = omega arith;
      size = omega (
        arith,
        c.loop-i.invariant.size,
        ap length c.in-Ok-go_on.ensures.left,
        length-drop (68 * c.in-Ok-go_on.gone.count) (drop c.behind.result.from c.behind.result.bytes.items),
        c.in-Ok-go_on.ensures.within,
        ap length c.behind.ensures,
        length-drop (i + 1) (drop c.loop-i.text.1.0 c.loop-i.text.0.items),
        ap length c.rest_of.ensures,
        f.0,
      );
      countable = c.loop-i.invariant.countable;
      many = omega (arith, few, b.count);
    }

pub returns-then-not-rest_fits-clause-fault : goal.returns-then-not-rest_fits-clause-fault
returns-then-not-rest_fits-clause-fault g c text older b =
    let es = c.loop-i.entries.items in
    let counted : suc (length (entries_onto older es)) ≡ c.args.front.count + c.len.result + 1 = omega (arith, length-onto older es, b.count) in
    let told : c.told_behind-told.result ≡ told_by (entries_onto older es) = subst (λ fs. c.told_behind-told.result ≡ told_by (entries_onto older fs)) c.deref.ensures.value (c.told_behind-told.ensures older b.told) in
    let test = c.rest_fits.ensures (entries_onto older es) counted told in
    let plain : HasNoNewline c.rest_of-2.result.now = subst HasNoNewline (c.rest_of.ensures ∙ sym c.rest_of-2.ensures) c.in_default.ensures.none in
    read_fails text c.rest_of-2.result.now older es c.loop-i.stage c.loop-i.at c.loop-i.line (c.loop-i.invariant.read text older b) (c.rest_of-2.ensures ∙ c.loop-i.invariant.left text b.rest) plain
    (λ h. let clash : false ≡ true = sym c.if-not-rest_fits.true ∙ test.1 h in absurd (cc))

pub returns-clause-read : goal.returns-clause-read
returns-clause-read g c text older b =
    let es = c.loop-i.entries.items in
    let read = c.loop-i.invariant.read text older b in
    let counted : suc (length (entries_onto older es)) ≡ c.args.front.count + c.len.result + 1 = omega (arith, length-onto older es, b.count) in
    let told : c.told_behind-told.result ≡ told_by (entries_onto older es) = subst (λ fs. c.told_behind-told.result ≡ told_by (entries_onto older fs)) c.deref.ensures.value (c.told_behind-told.ensures older b.told) in
    let test = c.rest_fits.ensures (entries_onto older es) counted told in
    let left : c.rest_of-2.result.now ≡ drop c.loop-i.at text = c.rest_of-2.ensures ∙ c.loop-i.invariant.left text b.rest in
    let plain : HasNoNewline c.rest_of-2.result.now = subst HasNoNewline (c.rest_of.ensures ∙ sym c.rest_of-2.ensures) c.in_default.ensures.none in
    record {
      reads = read_ends text c.rest_of-2.result.now older es c.loop-i.stage c.loop-i.at c.loop-i.line read left plain (test.0 c.if-not-rest_fits.false);
      places = record {
        mark = read.mark;
        marked = read.marked;
        rest = rest_at_end text c.rest_of-2.result.now older es c.loop-i.stage c.loop-i.at c.loop-i.line read left plain;
      };
    }
