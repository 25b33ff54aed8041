-- What reads as a line is spelled so.
use Rattle.std.proofs.Common.{◌≡◌, ℕ, suc, ◌+◌, ◌*◌, ◌/◌, ◌%◌, ◌^◌, ◌<◌, ◌≤◌, Bool, true, false, eqb, List, [], ◌∷◌, ◌++◌, length, take, drop, refl, ap, sym, ◌∙◌, subst, inl, inr, ◌⊎◌, arith, append_assoc, append-nil, Option, Some, None}
use Rattle.std.specs.Prelude.{◌==◌, ◌&&◌, nat_le, nat_lt, if◌then◌else◌, option_and_then, option_map}
use Rattle.std.specs.Option.{option_or}
use Rattle.std.specs.Fmt.{digit_glyph}
use Rattle.std.specs.Str.{bytes_eq}
use Rattle.std.proofs.lemmas.Grind.{common_steps}
use Rattle.std.proofs.lemmas.List.{take-append-drop}
use Rattle.std.proofs.lemmas.Slice.Eq.{bytes_eq-Decides}
use Rattle.std.proofs.Math.Nat.{pow-suc, mul-le-mul_left}
use Rattle.bx_image.specs.declared.change.TheConstants.{MAX_LEN}
use Rattle.bx_journal_format.specs.Kept.{Run, Kept, with_run}
use Rattle.bx_journal_format.specs.declared.format.version.Version.{Version}
use Rattle.bx_journal_format.specs.declared.format.version.Version.TheVariants.{First, Second}
use Rattle.bx_journal_format.specs.Hex.{hex_digits, hex_nibble, number_after, number_of}
use Rattle.bx_journal_format.specs.DumpLine.{run_of_line}
use Rattle.bx_journal_format.specs.Line.{address_width, start_head, start_line, save_line, end_head, end_line, after_prefix, at_most, length_in, after_in, saved_in}
use Rattle.bx_journal_format.specs.Text.{IsPrefix, Reading, Entry, Stage, Between, Saving, Ending, IsRest, next_at, begins, may_begin, is_short, begins_with_s}
use Rattle.bx_journal_format.proofs.EntryRun.{save_rest, short_front}

pub bind_some : {A B : Type 0} (f : A → Option B) (o : Option A) (y : B) → option_and_then f o ≡ Some y → (x : A) × (o ≡ Some x) × (f x ≡ Some y)
bind_some f None y e = absurd (cc)
bind_some f (Some x) y e = (x, refl, e)

pub map_some : {A B : Type 0} (f : A → B) (o : Option A) (y : B) → option_map f o ≡ Some y → (x : A) × (o ≡ Some x) × (f x ≡ y)
map_some f None y e = absurd (cc)
map_some f (Some x) y e = (x, refl, cc)

pub test_some : {A : Type 0} (b : Bool) (x y : A) → (if b then Some x else None) ≡ Some y → (b ≡ true) × (x ≡ y)
test_some true x y e = (refl, cc)
test_some false x y e = absurd (cc)

pub digit_of : (c d : ℕ) → hex_nibble c ≡ Some d → (d < 16) × (digit_glyph false d ≡ c)
digit_of c d e = (small c d e, shown c d e)
  where
    small : (c d : ℕ) → hex_nibble c ≡ Some d → d < 16
    small c d e = grind (arith, common_steps)

    shown : (c d : ℕ) → hex_nibble c ≡ Some d → digit_glyph false d ≡ c
    shown c d e = grind (arith, common_steps)

pub digits_after : (t : List ℕ) (w a m : ℕ) → number_after a t ≡ Some m → hex_digits (length t + w) m ≡ hex_digits w a ++ t
unfolding number_after hex_digits
digits_after [] w a m e =
    let same : a ≡ m = cc in
    let none : 0 + w ≡ w = omega arith in
    ap (λ k. hex_digits k m) none ∙ ap (hex_digits w) (sym same) ∙ sym (append-nil (hex_digits w a))
digits_after (c ∷ t) w a m e =
    let d = bind_some (λ d. number_after (16 * a + d) t) (hex_nibble c) m e in
    let is : (d.0 < 16) × (digit_glyph false d.0 ≡ c) = digit_of c d.0 d.1 in
    let quotient : (16 * a + d.0) / 16 ≡ a = omega (arith, is.0) in
    let remainder : (16 * a + d.0) % 16 ≡ d.0 = omega (arith, is.0) in
    let more : hex_digits (length t + suc w) m ≡ hex_digits (suc w) (16 * a + d.0) ++ t = digits_after t (suc w) (16 * a + d.0) m d.2 in
    let last : hex_digits (suc w) (16 * a + d.0) ≡ hex_digits w a ++ c ∷ [] = rw (quotient, remainder, is.1) refl in
    let count : suc (length t) + w ≡ length t + suc w = omega arith in
    ap (λ k. hex_digits k m) count ∙ more ∙ ap (λ s. s ++ t) last ∙ append_assoc (hex_digits w a) (c ∷ []) t

pub below_after : (t : List ℕ) (a m : ℕ) → number_after a t ≡ Some m → m < (a + 1) * 16 ^ length t
unfolding number_after
below_after [] a m e = let same : a ≡ m = cc in omega arith
below_after (c ∷ t) a m e =
    let d = bind_some (λ d. number_after (16 * a + d) t) (hex_nibble c) m e in
    let is : (d.0 < 16) × (digit_glyph false d.0 ≡ c) = digit_of c d.0 d.1 in
    let below : m < (16 * a + d.0 + 1) * 16 ^ length t = below_after t (16 * a + d.0) m d.2 in
    let more : 16 * a + d.0 + 1 ≤ 16 * (a + 1) = omega (arith, is.0) in
    rw (pow-suc 16 (length t)) (times a (16 ^ length t) m (16 * a + d.0 + 1) below more)
  where
    times : (a p m k : ℕ) → m < k * p → k ≤ 16 * (a + 1) → m < (a + 1) * (p * 16)
    times a p m k below more = omega (arith, below, mul-le-mul_left p more)

test_length : (k w : ℕ) (o : Option ℕ) (m : ℕ) → (if k == w then o else None) ≡ Some m → (k ≡ w) × (o ≡ Some m)
test_length k w o m e = (equal k w o m e, given k w o m e)
  where
    equal : (k w : ℕ) (o : Option ℕ) (m : ℕ) → (if k == w then o else None) ≡ Some m → k ≡ w
    equal k w o m e = grind (arith, common_steps)

    given : (k w : ℕ) (o : Option ℕ) (m : ℕ) → (if k == w then o else None) ≡ Some m → o ≡ Some m
    given k w o m e = grind (arith, common_steps)

pub digits_back : (w : ℕ) (t : List ℕ) (m : ℕ) → number_of w t ≡ Some m → (t ≡ hex_digits w m) × (m < 16 ^ w)
unfolding hex_digits
digits_back w t m e =
    let test : (length t ≡ w) × (number_after 0 t ≡ Some m) = test_length (length t) w (number_after 0 t) m e in
    let count : length t + 0 ≡ w = omega (arith, test.0) in
    let below : m < (0 + 1) * 16 ^ length t = below_after t 0 m test.1 in
    (sym (digits_after t 0 0 m test.1) ∙ ap (λ k. hex_digits k m) count, subst (λ k. m < 16 ^ k) test.0 (omega (arith, below)))

pub same_bytes : (a b : List ℕ) → bytes_eq a b ≡ true → a ≡ b
same_bytes a b e = grind (arith, common_steps, bytes_eq-Decides a b)

-- a line that begins with a front is that front and what follows
behind_back : (front line rest : List ℕ) → after_prefix front line ≡ Some rest → line ≡ front ++ rest
behind_back front line rest e =
    let test = test_some (bytes_eq (take (length front) line) front) (drop (length front) line) rest e in
    let same : take (length front) line ≡ front = same_bytes (take (length front) line) front test.0 in
    sym (take-append-drop (length front) line) ∙ ap (λ s. s ++ drop (length front) line) same ∙ ap (λ s. front ++ s) test.1

most_back : (limit : ℕ) (o : Option ℕ) (m : ℕ) → at_most limit o ≡ Some m → (o ≡ Some m) × (m ≤ limit)
most_back limit o m e =
    let found = bind_some (λ n. if nat_le n limit then Some n else None) o m e in
    let test = test_some (nat_le found.0 limit) found.0 m found.2 in
    (found.1 ∙ ap Some test.1, subst (λ n. n ≤ limit) test.1 (le_of found.0 limit test.0))
  where
    le_of : (a b : ℕ) → nat_le a b ≡ true → a ≤ b
    le_of a b e = grind (arith, common_steps)

pub start_back : (v : Version) (n : ℕ) (line : List ℕ) (len : ℕ) → length_in v n line ≡ Some len → (line ≡ start_line v n len) × (len ≤ MAX_LEN) × (len < 16 ^ address_width v)
unfolding length_in start_line
start_back v n line len e =
    let most : (option_and_then (number_of (address_width v)) (after_prefix (start_head v n) line) ≡ Some len) × (len ≤ MAX_LEN) = most_back MAX_LEN (option_and_then (number_of (address_width v)) (after_prefix (start_head v n) line)) len e in
    let found = bind_some (number_of (address_width v)) (after_prefix (start_head v n) line) len most.0 in
    let digits = digits_back (address_width v) found.0 len found.2 in
    (behind_back (start_head v n) line found.0 found.1 ∙ ap (λ s. start_head v n ++ s) digits.0, most.1, digits.1)

second_back : (n : ℕ) (line : List ℕ) (told : Option ℕ) → option_map Some (at_most MAX_LEN (option_and_then (number_of 16) (after_prefix (end_head Second n) line))) ≡ Some told
    → (after : ℕ) × (after ≤ MAX_LEN) × (line ≡ end_line Second n after)
unfolding end_line
second_back n line told e =
    let some = map_some Some (at_most MAX_LEN (option_and_then (number_of 16) (after_prefix (end_head Second n) line))) told e in
    let most = most_back MAX_LEN (option_and_then (number_of 16) (after_prefix (end_head Second n) line)) some.0 some.1 in
    let found = bind_some (number_of 16) (after_prefix (end_head Second n) line) some.0 most.0 in
    let digits = digits_back 16 found.0 some.0 found.2 in
    (some.0, most.1, behind_back (end_head Second n) line found.0 found.1 ∙ ap (λ s. end_head Second n ++ s) digits.0)

pub end_back : (v : Version) (n : ℕ) (line : List ℕ) (told : Option ℕ) → after_in v n line ≡ Some told → (after : ℕ) × (after ≤ MAX_LEN) × (line ≡ end_line v n after)
unfolding after_in
end_back First n line told e =
    let test = test_some (bytes_eq line (end_line First n 0)) None told e in
    (0, omega arith, same_bytes line (end_line First n 0) test.0)
end_back Second n line told e = second_back n line told e

-- a line that gives a piece doesn't begin with an s
pub piece_apart : (line : List ℕ) (p : Run) → run_of_line line ≡ Some p → begins_with_s line ≡ false
unfolding run_of_line
piece_apart [] p e = refl
piece_apart (b ∷ bytes) p e = apart (eqb b 115) refl
  where
    apart : (is : Bool) → eqb b 115 ≡ is → is ≡ false
    apart false h = refl
    apart true h = absurd (let same : b ≡ 115 = grind (arith, common_steps) in let none = rw same at e in cc)

-- the stage that a line that begins an entry leads to
abbrev Begun : List Entry → List ℕ → Stage → Type 0
Begun es line stage = (v : Version) × (len : ℕ) × (length es < 65535) × (len ≤ MAX_LEN) × (len < 16 ^ address_width v) × (may_begin es len ≡ true)
    × (line ≡ start_line v (suc (length es)) len) × (stage ≡ Saving v (record { len = len; runs = [] }))

begins_back : (es : List Entry) (v : Version) (line : List ℕ) (stage : Stage) → length es < 65535 → begins es v line ≡ Some stage → Begun es line stage
begins_back es v line stage room e =
    let found = bind_some (λ len. if may_begin es len then Some (Saving v (record { len = len; runs = [] })) else None) (length_in v (suc (length es)) line) stage e in
    let test = test_some (may_begin es found.0) (Saving v (record { len = found.0; runs = [] })) stage found.2 in
    let is = start_back v (suc (length es)) line found.0 found.1 in
    (v, found.0, room, is.1, is.2, test.0, is.0, sym test.1)

begun : (es : List Entry) (line : List ℕ) (stage : Stage) → length es < 65535 → option_or (begins es First line) (begins es Second line) ≡ Some stage → Begun es line stage
begun es line stage room e = by_first (begins es First line) refl e
  where
    by_first : (o : Option Stage) → begins es First line ≡ o → option_or o (begins es Second line) ≡ Some stage → Begun es line stage
    by_first (Some s) is e = begins_back es First line stage room (is ∙ e)
    by_first None is e = begins_back es Second line stage room e

-- what each line does
pub next_between : (es : List Entry) (line : List ℕ) (q : Reading) → next_at es Between line ≡ Some q → (stage : Stage) × Begun es line stage × (q ≡ record { entries = es; stage = stage })
unfolding next_at
next_between es line q e = by_room (nat_lt (length es) 65535) (option_map (λ (s : Stage). (record { entries = es; stage = s })) (option_or (begins es First line) (begins es Second line))) refl refl e
  where
    by_room : (b : Bool) (o : Option Reading) → nat_lt (length es) 65535 ≡ b → o ≡ option_map (λ (s : Stage). (record { entries = es; stage = s })) (option_or (begins es First line) (begins es Second line)) → (if b then o else None) ≡ Some q
        → (stage : Stage) × Begun es line stage × (q ≡ record { entries = es; stage = stage })
    by_room false o is same e = absurd (cc)
    by_room true o is same e =
        let room : length es < 65535 = grind (arith, common_steps) in
        let some = map_some (λ (s : Stage). (record { entries = es; stage = s })) (option_or (begins es First line) (begins es Second line)) q (sym same ∙ e) in
        (some.0, begun es line some.0 room some.1, sym some.2)

abbrev Continues : List Entry → Version → Kept → List ℕ → Reading → Type 0
Continues es v s line q = ((line ≡ save_line (suc (length es))) × (q ≡ record { entries = es; stage = Ending v s }))
    ⊎ ((begins_with_s line ≡ false) × (piece : Run) × (q ≡ record { entries = es; stage = Saving v (record { len = s.len; runs = with_run s.runs piece }) }))

saved_apart : (len : ℕ) (line : List ℕ) (p : Run) → saved_in len line ≡ Some p → begins_with_s line ≡ false
unfolding saved_in
saved_apart len line p e =
    let found = bind_some (λ piece. if nat_le (length piece.bytes) 16 && nat_le (piece.at + length piece.bytes) len then Some piece else None) (run_of_line line) p e in
    piece_apart line found.0 found.1

pub next_saving : (es : List Entry) (v : Version) (s : Kept) (line : List ℕ) (q : Reading) → next_at es (Saving v s) line ≡ Some q → Continues es v s line q
unfolding next_at
next_saving es v s line q e = by_test (bytes_eq line (save_line (suc (length es)))) refl e
  where
    by_test : (b : Bool) → bytes_eq line (save_line (suc (length es))) ≡ b
        → (if b then Some (record { entries = es; stage = Ending v s }) else option_map (λ (piece : Run). (record { entries = es; stage = Saving v (record { len = s.len; runs = with_run s.runs piece }) })) (saved_in s.len line)) ≡ Some q
        → Continues es v s line q
    by_test true is e = inl (same_bytes line (save_line (suc (length es))) is, cc)
    by_test false is e =
        let some = map_some (λ (piece : Run). (record { entries = es; stage = Saving v (record { len = s.len; runs = with_run s.runs piece }) })) (saved_in s.len line) q e in
        inr (saved_apart s.len line some.0 some.1, some.0, sym some.2)

pub next_ending : (es : List Entry) (v : Version) (s : Kept) (line : List ℕ) (q : Reading) → next_at es (Ending v s) line ≡ Some q
    → (told : Option ℕ) × (q ≡ record { entries = record { saved = s; after = told } ∷ es; stage = Between }) × ((after : ℕ) × (after ≤ MAX_LEN) × (line ≡ end_line v (suc (length es)) after))
unfolding next_at
next_ending es v s line q e =
    let some = map_some (λ (after : Option ℕ). (record { entries = record { saved = s; after = after } ∷ es; stage = Between })) (after_in v (suc (length es)) line) q e in
    (some.0, sym some.2, end_back v (suc (length es)) line some.0 some.1)

pub front_moves : (t a b : List ℕ) → a ≡ b → IsPrefix t a → IsPrefix t b
front_moves t a b e front = (front.0, sym e ∙ front.1)

plain_start_front : (t line : List ℕ) → begins_with_s line ≡ false → IsPrefix t line → begins_with_s t ≡ false
plain_start_front [] line apart front = refl
plain_start_front (b ∷ t) line apart front = let e : line ≡ b ∷ (t ++ front.0) = front.1 in rw e at apart

-- each front of a line that may come may stand at the end
pub rest_of_next : (es : List Entry) (stage : Stage) (line : List ℕ) (q : Reading) → next_at es stage line ≡ Some q → is_short line ≡ true → (t : List ℕ) → IsPrefix t line → IsRest es stage t
rest_of_next es Between line q e short t front =
    let b = next_between es line q e in
    inr (b.1.0, b.1.1, b.1.2, b.1.3, b.1.4, b.1.5, front_moves t line (start_line b.1.0 (suc (length es)) b.1.1) b.1.6 front)
rest_of_next es (Saving v s) line q e short t front =
    elim (next_saving es v s line q e) [
      | inl is ↦ save_rest es v s t (front_moves t line (save_line (suc (length es))) is.0 front)
      | inr is ↦ inr (plain_start_front t line is.0 front, short_front t front.0 line front.1 short)
    ]
rest_of_next es (Ending v s) line q e short t front =
    let n = next_ending es v s line q e in
    (n.2.0, n.2.1, front_moves t line (end_line v (suc (length es)) n.2.0) n.2.2 front)
