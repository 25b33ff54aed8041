-- A line that is surely too long, and what follows a reading that stops.
use Rattle.std.proofs.Common.{◌≡◌, ℕ, suc, ◌+◌, ◌≤◌, Bool, true, false, eqb, List, [], ◌∷◌, ◌++◌, length, length-append, take, drop, refl, ap, sym, ◌∙◌, inl, inr, ◌⊎◌, arith, append_assoc, Option, Some, None, Result, Ok, Err, not}
use Rattle.std.specs.Prelude.{◌&&◌, nat_le, if◌then◌else◌, codes}
use Rattle.std.specs.Option.{option_and_then}
use Rattle.std.specs.Str.{bytes_eq}
use Rattle.std.proofs.lemmas.Grind.{common_steps}
use Rattle.bx_read.specs.Grammar.{IsLine as IsDumpLine}
use Rattle.bx_read.specs.Line.{read_line}
use Rattle.bx_read.specs.declared.fault.ReadFault.{ReadFault}
use Rattle.bx_read.proofs.DataLemmas.{pairs_long}
use Rattle.bx_read.proofs.GrammarLemmas.{read_line-found, read_line-only}
use Rattle.bx_journal_format.specs.Hex.{hex_digits}
use Rattle.bx_journal_format.specs.Kept.{Run, with_run}
use Rattle.bx_journal_format.specs.declared.format.version.Version.{Version}
use Rattle.bx_journal_format.specs.declared.format.version.Version.TheVariants.{First, Second}
use Rattle.bx_journal_format.specs.DumpLine.{run_of_line}
use Rattle.bx_journal_format.specs.Line.{start_head, start_line, save_line, end_head, end_line, saved_in}
use Rattle.bx_journal_format.specs.Text.{Entry, Stage, Between, Saving, Ending, Reading, IsRest, IsDamagedAt, is_short, next, next_at, split}
use Rattle.bx_journal_format.specs.count.Mark.{IsMark}
use Rattle.bx_journal_format.specs.read.Plain.{HasNoNewline}
use Rattle.bx_journal_format.specs.read.Stops.{StopsAt}
use Rattle.bx_journal_format.proofs.Damage.{stops_at, rest_stops}
use Rattle.bx_journal_format.proofs.FrontLemmas.{prefix_long, short_prefix}
use Rattle.bx_journal_format.proofs.HexLemmas.{length-hex_digits}
use Rattle.bx_journal_format.proofs.Inverse.{bind_some, map_some, same_bytes, next_between, next_ending}
use Rattle.bx_journal_format.proofs.LineLemmas.{head_size}
use Rattle.bx_journal_format.proofs.Splits.{plain-append}

-- a text that stops the reading at a mark is damaged at its next line
pub stopped : (text : List ℕ) (at : ℕ) (r : Reading) → IsMark text at r → StopsAt r (drop at text) → IsDamagedAt text (suc (length (split (take at text)).lines))
stopped text at r mark (inl h) = stops_at text h.0 h.1 at r mark (record { plain = h.3; is = h.2 }) h.4
stopped text at r mark (inr h) = rest_stops text at r mark h.0 h.1

-- lines with a number are short
start_few : (v : Version) (n len : ℕ) → length (start_line v n len) ≤ 40
unfolding start_line
start_few First n len = omega (arith, length-append (start_head First n) (hex_digits 8 len), length-hex_digits 8 len, head_size First n)
start_few Second n len = omega (arith, length-append (start_head Second n) (hex_digits 16 len), length-hex_digits 16 len, head_size Second n)

pub save_few : (n : ℕ) → length (save_line n) ≤ 40
unfolding save_line
save_few n = omega (arith, length-append (codes "save ") (hex_digits 8 n), length-hex_digits 8 n)

end_few : (v : Version) (n after : ℕ) → length (end_line v n after) ≤ 40
unfolding end_line end_head
end_few First n after = omega (arith, length-append (codes "done ") (hex_digits 8 n), length-hex_digits 8 n)
end_few Second n after =
    omega (arith, length-append (codes "done2 " ++ hex_digits 8 n ++ codes " ") (hex_digits 16 after), length-append (codes "done2 " ++ hex_digits 8 n) (codes " "), length-append (codes "done2 ") (hex_digits 8 n), length-hex_digits 8 n, length-hex_digits 16 after)

short_few : (line : List ℕ) → is_short line ≡ true → length line ≤ 75
short_few line e = grind (arith, common_steps)

-- what may stand behind the last newline is short
rest_few : (es : List Entry) (stage : Stage) (rest : List ℕ) → IsRest es stage rest → length rest ≤ 75
rest_few es Between rest (inl none) = omega (arith, ap length none)
rest_few es Between rest (inr is) = omega (arith, prefix_long rest (start_line is.0 (suc (length es)) is.1) is.6, start_few is.0 (suc (length es)) is.1)
rest_few es (Saving v s) rest (inl is) = omega (arith, prefix_long rest (save_line (suc (length es))) is.1, save_few (suc (length es)))
rest_few es (Saving v s) rest (inr is) = short_few rest is.1
rest_few es (Ending v s) rest is = omega (arith, prefix_long rest (end_line v (suc (length es)) is.0) is.2, end_few v (suc (length es)) is.0)

-- a line of a dump that is long is one by its first bytes
read_front : (front more : List ℕ) (got : ℕ × List ℕ) → 1024 ≤ length front → read_line 1 (front ++ more) ≡ Ok got → read_line 1 front ≡ Ok got
read_front front more got long e =
    let found = read_line-found 1 (front ++ more) got.0 got.1 e in
    by found.0 found.1
  where
    by : (bytes : List ℕ) → IsDumpLine (front ++ more) got.0 got.1 bytes → read_line 1 front ≡ Ok got
    by bytes is =
        let whole : (digits tail : List ℕ) → length (digits ++ 58 ∷ 32 ∷ (got.1 ++ tail)) ≡ length digits + 2 + length got.1 + length tail =
        λ digits tail. omega (arith, length-append digits (58 ∷ 32 ∷ (got.1 ++ tail)), length-append got.1 tail) in
        let most = pairs_long got.1 bytes is.pairs in
        let size : length front + length more ≡ length is.digits + 2 + length got.1 + length is.tail = sym (length-append front more) ∙ ap length is.spelled ∙ whole is.digits is.tail in
        elim is.ends [
          | inl none ↦ absurd (omega (arith, long, size, most, is.few_digits, is.few_pairs, ap length none))
          | inr (inl one) ↦ absurd (omega (arith, long, size, most, is.few_digits, is.few_pairs, ap length one))
          | inr (inr two) ↦
              let body : List ℕ = is.digits ++ 58 ∷ 32 ∷ (got.1 ++ 32 ∷ 32 ∷ []) in
              let parts : (rest : List ℕ) → is.digits ++ 58 ∷ 32 ∷ (got.1 ++ 32 ∷ 32 ∷ rest) ≡ body ++ rest =
              λ rest. ap (λ t. is.digits ++ 58 ∷ 32 ∷ t) (sym (append_assoc got.1 (32 ∷ 32 ∷ []) rest)) ∙ sym (append_assoc is.digits (58 ∷ 32 ∷ (got.1 ++ 32 ∷ 32 ∷ [])) rest) in
              let spelled : front ++ more ≡ body ++ two.0 = is.spelled ∙ ap (λ t. is.digits ++ 58 ∷ 32 ∷ (got.1 ++ t)) two.1 ∙ parts two.0 in
              let f = short_prefix body front two.0 more spelled (omega (arith, whole is.digits (32 ∷ 32 ∷ []), long, most, is.few_digits, is.few_pairs)) in
              read_line-only 1 front got.0 got.1 bytes (record {
                digits = is.digits;
                tail = 32 ∷ 32 ∷ f.0;
                spelled = f.1 ∙ sym (parts f.0);
                address = is.address;
                some_digits = is.some_digits;
                few_digits = is.few_digits;
                value = is.value;
                small = is.small;
                pairs = is.pairs;
                few_pairs = is.few_pairs;
                ends = inr (inr (f.0, refl));
              })
        ]

piece_front : (front more : List ℕ) (p : Run) → 1024 ≤ length front → run_of_line (front ++ more) ≡ Some p → run_of_line front ≡ Some p
unfolding run_of_line
piece_front front more p long e = by (read_line 1 (front ++ more)) refl
  where
    by : (read : Result (ℕ × List ℕ) ReadFault) → read_line 1 (front ++ more) ≡ read → run_of_line front ≡ Some p
    by (Ok got) is = rw (read_front front more got long is) (rw is at e)
    by (Err fault) is = absurd (let none = rw is at e in cc)

-- and a line whose first bytes are one is, whatever follows them
read_more : (front more : List ℕ) (got : ℕ × List ℕ) → 1024 ≤ length front → read_line 1 front ≡ Ok got → read_line 1 (front ++ more) ≡ Ok got
read_more front more got long e =
    let found = read_line-found 1 front got.0 got.1 e in
    by found.0 found.1
  where
    by : (bytes : List ℕ) → IsDumpLine front got.0 got.1 bytes → read_line 1 (front ++ more) ≡ Ok got
    by bytes is =
        let whole : (digits tail : List ℕ) → length (digits ++ 58 ∷ 32 ∷ (got.1 ++ tail)) ≡ length digits + 2 + length got.1 + length tail =
        λ digits tail. omega (arith, length-append digits (58 ∷ 32 ∷ (got.1 ++ tail)), length-append got.1 tail) in
        let most = pairs_long got.1 bytes is.pairs in
        let size : length front ≡ length is.digits + 2 + length got.1 + length is.tail = ap length is.spelled ∙ whole is.digits is.tail in
        elim is.ends [
          | inl none ↦ absurd (omega (arith, long, size, most, is.few_digits, is.few_pairs, ap length none))
          | inr (inl one) ↦ absurd (omega (arith, long, size, most, is.few_digits, is.few_pairs, ap length one))
          | inr (inr two) ↦
              let tail : List ℕ = 32 ∷ 32 ∷ (two.0 ++ more) in
              let behind : is.tail ++ more ≡ tail = ap (λ t. t ++ more) two.1 in
              let parts : front ++ more ≡ is.digits ++ 58 ∷ 32 ∷ (got.1 ++ tail) =
              ap (λ t. t ++ more) is.spelled ∙ append_assoc is.digits (58 ∷ 32 ∷ (got.1 ++ is.tail)) more
              ∙ ap (λ t. is.digits ++ 58 ∷ 32 ∷ t) (append_assoc got.1 is.tail more ∙ ap (λ t. got.1 ++ t) behind) in
              read_line-only 1 (front ++ more) got.0 got.1 bytes (record {
                digits = is.digits;
                tail = tail;
                spelled = parts;
                address = is.address;
                some_digits = is.some_digits;
                few_digits = is.few_digits;
                value = is.value;
                small = is.small;
                pairs = is.pairs;
                few_pairs = is.few_pairs;
                ends = inr (inr (two.0 ++ more, refl));
              })
        ]

piece_more : (front more : List ℕ) (p : Run) → 1024 ≤ length front → run_of_line front ≡ Some p → run_of_line (front ++ more) ≡ Some p
unfolding run_of_line
piece_more front more p long e = by (read_line 1 front) refl
  where
    by : (read : Result (ℕ × List ℕ) ReadFault) → read_line 1 front ≡ read → run_of_line (front ++ more) ≡ Some p
    by (Ok got) is = rw (read_more front more got long is) (rw is at e)
    by (Err fault) is = absurd (let none = rw is at e in cc)

none_of : {A : Type 0} (o : Option A) → ((x : A) → o ≡ Some x → ⊥) → o ≡ None
none_of None h = refl
none_of (Some x) h = absurd (h x refl)

piece_same : (front more : List ℕ) → 1024 ≤ length front → run_of_line (front ++ more) ≡ run_of_line front
piece_same front more long = by (run_of_line front) refl
  where
    by : (o : Option Run) → run_of_line front ≡ o → run_of_line (front ++ more) ≡ run_of_line front
    by (Some p) is = piece_more front more p long is ∙ sym is
    by None is = none_of (run_of_line (front ++ more)) (λ p e. let clash = sym is ∙ piece_front front more p long e in cc) ∙ sym is

-- its first bytes say what a saved line gives
pub saved_same : (len : ℕ) (front more : List ℕ) → 1024 ≤ length front → saved_in len (front ++ more) ≡ saved_in len front
unfolding saved_in
saved_same len front more long =
    ap (λ (o : Option Run). option_and_then (λ (piece : Run). if nat_le (length piece.bytes) 16 && nat_le (piece.at + length piece.bytes) len then Some piece else None) o) (piece_same front more long)

-- a saved line too
next_front : (es : List Entry) (stage : Stage) (front more : List ℕ) (q : Reading) → 1024 ≤ length front → next_at es stage (front ++ more) ≡ Some q → next_at es stage front ≡ None → ⊥
unfolding next_at saved_in
next_front es Between front more q long e none =
    let b = next_between es (front ++ more) q e in
    omega (arith, long, length-append front more, ap length b.1.6, start_few b.1.0 (suc (length es)) b.1.1)
next_front es (Saving v s) front more q long e none = by (bytes_eq (front ++ more) (save_line (suc (length es)))) (bytes_eq front (save_line (suc (length es)))) refl refl
  where
    by : (b c : Bool) → bytes_eq (front ++ more) (save_line (suc (length es))) ≡ b → bytes_eq front (save_line (suc (length es))) ≡ c → ⊥
    by true c is same = omega (arith, long, length-append front more, ap length (same_bytes (front ++ more) (save_line (suc (length es))) is), save_few (suc (length es)))
    by false true is same = omega (arith, long, ap length (same_bytes front (save_line (suc (length es))) same), save_few (suc (length es)))
    by false false is same =
        let read = rw is at e in
        let some = map_some (λ (piece : Run). (record { entries = es; stage = Saving v (record { len = s.len; runs = with_run s.runs piece }) })) (saved_in s.len (front ++ more)) q read in
        let found = bind_some (λ (piece : Run). if nat_le (length piece.bytes) 16 && nat_le (piece.at + length piece.bytes) s.len then Some piece else None) (run_of_line (front ++ more)) some.0 some.1 in
        let here = piece_front front more found.0 long found.1 in
        let clash = rw (same, here, found.2) at none in
        cc
next_front es (Ending v s) front more q long e none =
    let n = next_ending es v s (front ++ more) q e in
    omega (arith, long, length-append front more, ap length n.2.2, end_few v (suc (length es)) n.2.0)

-- a line that is in place by its first bytes is, whatever follows them
pub next_more : (es : List Entry) (stage : Stage) (front more : List ℕ) (q : Reading) → 1024 ≤ length front → next_at es stage front ≡ Some q → next_at es stage (front ++ more) ≡ Some q
unfolding next_at
next_more es Between front more q long e =
    let b = next_between es front q e in
    absurd (omega (arith, long, ap length b.1.6, start_few b.1.0 (suc (length es)) b.1.1))
next_more es (Saving v s) front more q long e = by (bytes_eq (front ++ more) (save_line (suc (length es)))) (bytes_eq front (save_line (suc (length es)))) refl refl
  where
    by : (b c : Bool) → bytes_eq (front ++ more) (save_line (suc (length es))) ≡ b → bytes_eq front (save_line (suc (length es))) ≡ c → next_at es (Saving v s) (front ++ more) ≡ Some q
    by true c is same = absurd (omega (arith, long, length-append front more, ap length (same_bytes (front ++ more) (save_line (suc (length es))) is), save_few (suc (length es))))
    by false true is same = absurd (omega (arith, long, ap length (same_bytes front (save_line (suc (length es))) same), save_few (suc (length es))))
    by false false is same = rw (is, saved_same s.len front more long) (rw same at e)
next_more es (Ending v s) front more q long e =
    let n = next_ending es v s front q e in
    absurd (omega (arith, long, ap length n.2.2, end_few v (suc (length es)) n.2.0))

-- the first line of a text, if it has a newline
first_line : (t : List ℕ) → HasNoNewline t ⊎ ((line behind : List ℕ) × (t ≡ line ++ 10 ∷ behind) × HasNoNewline line)
first_line [] = inl tt
first_line (b ∷ t) = by (eqb b 10) refl (first_line t)
  where
    by : (is : Bool) → eqb b 10 ≡ is → HasNoNewline t ⊎ ((line behind : List ℕ) × (t ≡ line ++ 10 ∷ behind) × HasNoNewline line)
        → HasNoNewline (b ∷ t) ⊎ ((line behind : List ℕ) × (b ∷ t ≡ line ++ 10 ∷ behind) × HasNoNewline line)
    by true is later = inr ([], t, ap (λ c. c ∷ t) (ten b is), tt)
      where
        ten : (b : ℕ) → eqb b 10 ≡ true → b ≡ 10
        ten b e = grind (arith, common_steps)
    by false is (inl plain) = inl (is, plain)
    by false is (inr l) = inr (b ∷ l.0, l.1, ap (λ s. b ∷ s) l.2, (is, l.3))

-- where a line is surely too long and its first bytes are out of place, the reading stops whatever follows
pub long_stops : (r : Reading) (front more : List ℕ) → HasNoNewline front → 1024 ≤ length front → next r front ≡ None → StopsAt r (front ++ more)
long_stops r front more plain long none =
    elim (first_line more) [
      | inl rest ↦ inr (plain-append front more plain rest, λ is. omega (arith, long, length-append front more, rest_few r.entries r.stage (front ++ more) is))
      | inr l ↦ inl (
        front ++ l.0,
        l.1,
        ap (λ t. front ++ t) l.2 ∙ sym (append_assoc front l.0 (10 ∷ l.1)),
        plain-append front l.0 plain l.3,
        none_of (next r (front ++ l.0)) (λ q is. next_front r.entries r.stage front l.0 q long is none),
      )
    ]

-- a line that is surely too long has no end
pub endless_stops : (r : Reading) (text : List ℕ) → HasNoNewline text → 1024 ≤ length text → StopsAt r text
endless_stops r text plain long = inr (plain, λ is. omega (arith, long, rest_few r.entries r.stage text is))

pub not_so : (b : Bool) → not b ≡ true → b ≡ true → ⊥
not_so true h e = cc
not_so false h e = cc
