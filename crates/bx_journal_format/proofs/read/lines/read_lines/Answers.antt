use Rattle.std.proofs.Common.{◌≡◌, ℕ, ◌+◌, ◌*◌, ◌-◌, ◌<◌, ◌≤◌, ◌++◌, List, length, take, drop, Some, ap, sym, ◌∙◌, subst, arith, length-append, length-drop, length-take}
use Rattle.bx_journal_format.specs.Text.{Entry}
use Rattle.bx_journal_format.specs.read.Lines.{IsReadAt, IsReadUpTo}
use Rattle.bx_journal_format.specs.Parsed.{entries_onto, reading_onto, Leads, KeepsMarks}
use Rattle.bx_journal_format.proofs.LinesLemmas.{read_in_whole, read_of_whole, left_of_whole, read_one}
use Rattle.bx_journal_format.proofs.ReadLoop.{IsFound, drop_twice}
use Rattle.bx_journal_format.proofs.read.lines.read_lines.Goals as goal

pub loop-i-init : goal.loop-i-init
loop-i-init g c =
    let window : List ℕ = c.args.window.now in
    let r = c.args.read in
    let count = c.in_ok-first.first.gathered.count in
    let now = c.in_ok-first.ensures in
    let place : 0 + 68 * count ≡ 68 * count = omega arith in
    let start : r.at + 0 ≡ r.at = omega arith in
    let go : (text : List ℕ) (older : List Entry) → IsReadUpTo text older c.args.front r → IsReadAt (text ++ window) older r.entries.items c.in_ok-first.first.stage (r.at + 68 * count) = λ text older u.
    now.read (text ++ window) older r.entries.items r.at (read_in_whole text window older r.entries.items r.stage r.at u.long u.read)
    (left_of_whole text window r.at 0 u.long ∙ ap (λ n. drop n (text ++ window)) start) in
    record {
      read = go;
      left = subst (λ n. drop n c.go_on_in.new.window ≡ drop n window) place now.left;
      within = omega (arith, now.within);
      same = now.same_length;
    }

-- a line ends within the window
line_within : (from i : ℕ) (window rest : List ℕ) → rest ≡ drop from window → i < length rest → from + i + 1 ≤ length window
line_within from i window rest is below = omega (arith, ap length is, length-drop from window)

pub go_on_in-requires-in-Some : goal.go_on_in-requires-in-Some
go_on_in-requires-in-Some g c = record { within = line_within c.loop-i.from c.in-Some.i c.loop-i.window _ c.rest_at.ensures c.in-Some.ensures.found.0 }

pub loop-i-preserved : goal.loop-i-preserved
loop-i-preserved g c =
    let window : List ℕ = c.args.window.now in
    let r = c.args.read in
    let inv = c.loop-i.invariant in
    let from = c.loop-i.from in
    let i = c.in-Some.i in
    let at = r.at + from in
    let es = c.loop-i.entries.items in
    let new = c.take_line.new.entries.items in
    let rest : List ℕ = c.rest_at.result.now in
    let f = c.in-Some.ensures.found in
    let found : IsFound rest i = record { below = f.0; plain = f.1; is = f.2 } in
    let line : c.split_at.result.0.now ≡ take i rest = c.split_at.ensures.front ∙ ap (take i) (c.rest_at-in-Some.ensures ∙ sym c.rest_at.ensures) in
    let count = c.in_ok-gone.gone.gathered.count in
    let now = c.in_ok-gone.ensures in
    let left : drop from window ≡ rest = sym (c.rest_at.ensures ∙ inv.left) in
    let place : at + i + 1 ≡ r.at + (from + i + 1) = omega arith in
    let end : r.at + (from + i + 1) + 68 * count ≡ r.at + (from + i + 1 + 68 * count) = omega arith in
    let next : from + (i + 1) ≡ from + i + 1 = omega arith in
    let behind : drop (from + i + 1) c.loop-i.window ≡ drop (from + i + 1) window =
    ap (λ n. drop n c.loop-i.window) (sym next) ∙ sym (drop_twice from (i + 1) c.loop-i.window) ∙ ap (drop (i + 1)) inv.left ∙ drop_twice from (i + 1) window ∙ ap (λ n. drop n window) next in
    let go : (text : List ℕ) (older : List Entry) → IsReadUpTo text older c.args.front r → IsReadAt (text ++ window) older new c.in_ok-gone.gone.stage (r.at + (from + i + 1 + 68 * count)) = λ text older u.
    let whole : List ℕ = text ++ window in
    let read : IsReadAt whole older es c.in_ok-old.old at = c.in_ok-old.ensures whole older es at (inv.read text older u) in
    let keeps : KeepsMarks whole older new (at + i + 1) (Some c.in-Some-taken.next) = subst (KeepsMarks whole older new (at + i + 1)) c.in-Some-taken.is ((c.in_ok-taken.ensures older u.count u.told).marked whole (at + i + 1) read.marked read.mark (omega (arith, ap length line, length-take i rest, f.0))) in
    let one = read_one whole rest older es new c.in_ok-old.old c.in-Some-taken.next at i read (sym left ∙ left_of_whole text window r.at from u.long) found
    (subst (Leads (reading_onto older es c.in_ok-old.old) (take i rest) (entries_onto older new)) c.in-Some-taken.is
    (subst (λ l. Leads (reading_onto older es c.in_ok-old.old) l (entries_onto older new) c.in_ok-taken.taken) line (c.in_ok-taken.ensures older u.count u.told).leads)) keeps in
    let to : IsReadAt whole older new c.in-Some-taken.next (r.at + (from + i + 1)) = subst (IsReadAt whole older new c.in-Some-taken.next) place one in
    subst (IsReadAt whole older new c.in_ok-gone.gone.stage) end (now.read whole older new (r.at + (from + i + 1)) to (behind ∙ left_of_whole text window r.at (from + i + 1) u.long)) in
    let over : drop (from + i + 1 + 68 * count) c.loop-i.window ≡ drop (from + i + 1 + 68 * count) window =
    sym (drop_twice (from + i + 1) (68 * count) c.loop-i.window) ∙ ap (drop (68 * count)) behind ∙ drop_twice (from + i + 1) (68 * count) window in
    record {
      read = go;
      left = now.left ∙ over;
      within = omega (arith, now.within, inv.same);
      same = now.same_length ∙ inv.same;
    }

pub returns-clause-read : goal.returns-clause-read
returns-clause-read g c text older u =
    let window : List ℕ = c.args.window.now in
    let r = c.args.read in
    let inv = c.loop-i.invariant in
    let from = c.loop-i.from in
    let size : r.at + from - r.at ≡ from = omega arith in
    let read = read_of_whole text window older c.loop-i.entries.items c.loop-i.stage r.at from u.long inv.within (inv.read text older u) in
    record {
      count = u.count;
      told = u.told;
      long = omega (arith, length-append text (take (r.at + from - r.at) window), length-take (r.at + from - r.at) window, u.long, inv.within);
      read = subst (λ n. IsReadAt (text ++ take n window) older c.loop-i.entries.items c.loop-i.stage (r.at + from)) (sym size) read;
    }
