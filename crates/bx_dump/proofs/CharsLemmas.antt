-- The runs of characters are what the bytes give one by one.
use Rattle.std.proofs.Common.{◌≡◌, ◌⊎◌, ℕ, slice_set, zero, suc, ◌+◌, ◌-◌, ◌*◌, ◌^◌, ◌<◌, ◌≤◌, Bool, true, false, List, [], ◌∷◌, ◌++◌, length, take, drop, refl, sym, ap, ◌∙◌, subst, arith, add-zero, append_assoc, append-nil, length-append, inl, inr}
use Rattle.std.specs.Prelude.{nat_lt, nat_le, ◌==◌, ◌&&◌, codes, if◌then◌else◌, Some, None, Option}
use Rattle.std.specs.Option.{option_map_or}
use Rattle.std.proofs.lemmas.Bool.{cases_lt, cases_eq, eq-eqb, ne_eqb}
use Rattle.std.proofs.lemmas.Bool.Decides.{nat_tests}
use Rattle.std.proofs.lemmas.List.{take_at, drop_at, length-drop, take_more_set}
use Rattle.std.proofs.lemmas.List.{take-append-le}
use Rattle.bx_text.specs.declared.fault.IoFault.{IoFault}
use Rattle.bx_dump.specs.private.Pages.{WritesFrontBut, streams}
use Rattle.bx_dump.specs.private.Dumped.{DumpsFrontBut}
use Rattle.bx_dump.proofs.DumpLemmas.{cause_longer, front_whole, keeps_along}
use Rattle.bx_dump.proofs.StringsLemmas.{end_few}
use Rattle.bx_dump.proofs.ScanLemmas.{both}
use Rattle.bx_dump_columns.specs.declared.od.options.Address.{Address}
use Rattle.bx_dump_columns.specs.Places.{place_text}
use Rattle.bx_dump.specs.declared.strings.options.Encoding.{Encoding}
use Rattle.bx_dump.specs.declared.strings.options.Encoding.TheVariants.{SevenBits, EightBits, SixteenBits, ThirtyTwoBits}
use Rattle.bx_dump.specs.Encodings.{char_byte, char_len, char_prints, front_chars, front_run, char_line, char_lines}
use Rattle.bx_dump.specs.private.Chars.{Between, behind_byte, byte_text, chars_left, chars_text, grown_run, nothing, held_with}
use Rattle.bx_dump.specs.private.Scan.{end_of_run, IsKept}

pub char_some : (e : Encoding) → 0 < char_len e
char_some SevenBits = omega arith
char_some EightBits = omega arith
char_some (SixteenBits big) = omega arith
char_some (ThirtyTwoBits big) = omega arith

pub chars_text-append : (e : Encoding) (least : ℕ) (o : Address) (at : ℕ) (now : Between) (xs ys : List ℕ) →
    chars_text e least o at now (xs ++ ys) ≡ chars_text e least o at now xs ++ chars_text e least o (at + length xs) (chars_left e now xs) ys
unfolding chars_text chars_left
chars_text-append e least o at now [] ys = rw (add-zero at) refl
chars_text-append e least o at now (b ∷ bs) ys =
    let place : at + 1 + length bs ≡ at + suc (length bs) = omega arith in
    let later = rw place at (chars_text-append e least o (at + 1) (behind_byte e now b) bs ys) in
    ap (λ t. byte_text e least o at now b ++ t) later ∙ sym (append_assoc (byte_text e least o at now b) (chars_text e least o (at + 1) (behind_byte e now b) bs) _)

pub chars_left-append : (e : Encoding) (now : Between) (xs ys : List ℕ) → chars_left e now (xs ++ ys) ≡ chars_left e (chars_left e now xs) ys
unfolding chars_left
chars_left-append e now [] ys = refl
chars_left-append e now (b ∷ bs) ys = chars_left-append e (behind_byte e now b) bs ys

-- fewer bytes than a character has begin no run
front_short : (e : Encoding) (n : ℕ) (x : List ℕ) → length x < char_len e → front_chars e n x ≡ []
front_short e zero x short = refl
front_short e (suc n) x short =
    let fails : nat_le (char_len e) (length x) ≡ false = grind (arith, nat_tests) in
    rw fails refl

-- more steps than bytes change nothing
front_enough : (e : Encoding) (n m : ℕ) (x : List ℕ) → length x ≤ n → length x ≤ m → front_chars e n x ≡ front_chars e m x
front_enough e zero zero x a b = refl
front_enough e zero (suc m) x a b = sym (front_short e (suc m) x (omega (arith, a, char_some e)))
front_enough e (suc n) zero x a b = front_short e (suc n) x (omega (arith, b, char_some e))
front_enough e (suc n) (suc m) x a b = elim (both (nat_le (char_len e) (length x) && char_prints e (take (char_len e) x))) [
  | inr fails ↦ rw fails refl
  | inl holds ↦
      let some = char_some e in
      let left = length-drop (char_len e) x in
      rw holds (ap (λ t. char_byte e (take (char_len e) x) ∷ t) (front_enough e n m (drop (char_len e) x) (omega (arith, left, a, some)) (omega (arith, left, b, some))))
]

-- a run that is written goes on
pub grown_long : (least : ℕ) (o : Address) (start : ℕ) (run : List ℕ) (b : ℕ) → least ≤ length run → grown_run least o start run b ≡ b ∷ []
grown_long least o start run b long =
    let fails : nat_lt (length run) least ≡ false = grind (arith, nat_tests) in
    rw fails refl

-- what a run leaves to be written where these characters follow
abbrev rest_with : ℕ → Address → ℕ → List ℕ → List ℕ → List ℕ
rest_with least o start run f =
    if nat_le least (length run) then f ++ codes "\n"
    else if nat_le least (length run + length f) then place_text o start ++ ((run ++ f) ++ codes "\n")
    else []

-- bytes that are passed
pub passed : (e : Encoding) (least : ℕ) (o : Address) (k at : ℕ) (u x : List ℕ) → char_lines e least o (length u + k) at (u ++ x) ≡ char_lines e least o k (at + length u) x
passed e least o k at [] x =
    let none : 0 + k ≡ k = omega arith in
    rw (none, add-zero at) refl
passed e least o k at (b ∷ u) x =
    let place : at + 1 + length u ≡ at + suc (length u) = omega arith in
    let more : suc (length u) + k ≡ suc (length u + k) = omega arith in
    rw more (passed e least o k (at + 1) u x ∙ ap (λ n. char_lines e least o k n x) place)

-- fewer bytes than a character has show nothing
pub none_short : (e : Encoding) (least : ℕ) (o : Address) (k at : ℕ) (x : List ℕ) → 0 < least → length x < char_len e → char_lines e least o k at x ≡ []
none_short e least o k at [] some short = refl
none_short e least o (suc k) at (b ∷ x) some short = none_short e least o k (at + 1) x some (omega arith)
none_short e least o zero at (b ∷ x) some short =
    let front = front_short e (length (b ∷ x)) (b ∷ x) short in
    let fails : nat_le least 0 ≡ false = grind (arith, nat_tests) in
    rw (front, fails) (none_short e least o (char_len e * 0 - 1) (at + 1) x some (omega arith))

-- a character in front that prints begins the run, and one that doesn't leaves none
pub front_more : (e : Encoding) (u x : List ℕ) → length u ≡ char_len e → char_prints e u ≡ true → front_run e (u ++ x) ≡ char_byte e u ∷ front_run e x
front_more e u x whole prints =
    let some = char_some e in
    let size : length (u ++ x) ≡ length u + length x = length-append u x in
    let fits : nat_le (char_len e) (length (u ++ x)) ≡ true = grind (arith, nat_tests) in
    let front : take (char_len e) (u ++ x) ≡ u = take_at u x (char_len e) whole in
    let behind : drop (char_len e) (u ++ x) ≡ x = drop_at u x (char_len e) whole in
    front_enough e (length (u ++ x)) (suc (length (u ++ x))) (u ++ x) (omega arith) (omega arith)
    ∙ rw (fits, front, behind, prints) (ap (λ t. char_byte e u ∷ t) (front_enough e (length (u ++ x)) (length x) x (omega (arith, size)) (omega arith)))

-- one in front that doesn't print leaves none
front_none : (e : Encoding) (u x : List ℕ) → length u ≡ char_len e → char_prints e u ≡ false → front_run e (u ++ x) ≡ []
front_none e u x whole fails =
    let front : take (char_len e) (u ++ x) ≡ u = take_at u x (char_len e) whole in
    front_enough e (length (u ++ x)) (suc (length (u ++ x))) (u ++ x) (omega arith) (omega arith)
    ∙ elim (both (nat_le (char_len e) (length (u ++ x)))) [
      | inl long ↦ rw (long, front, fails) refl
      | inr short ↦ rw short refl
    ]

-- one more character of a run
one_more : (least : ℕ) (o : Address) (start : ℕ) (run : List ℕ) (c : ℕ) (f : List ℕ) →
    grown_run least o start run c ++ rest_with least o start (run ++ c ∷ []) f ≡ rest_with least o start run (c ∷ f)
one_more least o start run c f =
    let size : length (run ++ c ∷ []) ≡ length run + 1 = length-append run (c ∷ []) in
    let move : length run + 1 + length f ≡ length run + suc (length f) = omega arith in
    let join : (run ++ c ∷ []) ++ f ≡ run ++ c ∷ f = append_assoc run (c ∷ []) f in
    elim (cases_lt (length run) least) [
      | inr long ↦
          let a : nat_lt (length run) least ≡ false = grind (arith, nat_tests) in
          let b : nat_le least (length run) ≡ true = grind (arith, nat_tests) in
          let d : nat_le least (length run + 1) ≡ true = grind (arith, nat_tests) in
          rw (a, b, size, d) refl
      | inl short ↦
          let a : nat_lt (length run) least ≡ true = grind (arith, nat_tests) in
          let b : nat_le least (length run) ≡ false = grind (arith, nat_tests) in
          elim (cases_eq (length run + 1) least) [
            | inl e ↦
                let s : (length run + 1 == least) ≡ true = eq-eqb (length run + 1) least e in
                let d : nat_le least (length run + 1) ≡ true = grind (arith, nat_tests) in
                let g : nat_le least (length run + suc (length f)) ≡ true = grind (arith, nat_tests) in
                rw (a, b, s, size, d, g)
                (append_assoc (place_text o start) (run ++ c ∷ []) (f ++ codes "\n")
                ∙ ap (λ t. place_text o start ++ t) (sym (append_assoc (run ++ c ∷ []) f (codes "\n")) ∙ ap (λ t. t ++ codes "\n") join))
            | inr n ↦
                let s : (length run + 1 == least) ≡ false = ne_eqb (length run + 1) least n in
                let d : nat_le least (length run + 1) ≡ false = grind (arith, nat_tests) in
                rw (a, b, s, size, d, move, join) refl
          ]
    ]

ends_run : (least : ℕ) (o : Address) (start : ℕ) (run : List ℕ) → rest_with least o start run [] ≡ end_of_run least run
ends_run least o start run =
    let none : length run + 0 ≡ length run = omega arith in
    elim (both (nat_le least (length run))) [
      | inl holds ↦ rw holds refl
      | inr fails ↦ rw (none, fails) refl
    ]

-- behind no run, what is left is the line of the run in front
rest_fresh : (least : ℕ) (o : Address) (start : ℕ) (f : List ℕ) → 0 < least → rest_with least o start [] f ≡ char_line least o start f
rest_fresh least o start f some =
    let short : nat_le least 0 ≡ false = grind (arith, nat_tests) in
    let none : 0 + length f ≡ length f = omega arith in
    rw (short, none) refl

len_more : (e : Encoding) (n : ℕ) → char_len e * suc n ≡ char_len e + char_len e * n
len_more SevenBits n = omega arith
len_more EightBits n = omega arith
len_more (SixteenBits big) n = omega arith
len_more (ThirtyTwoBits big) n = omega arith

len_none : (e : Encoding) → char_len e * 0 ≡ 0
len_none SevenBits = omega arith
len_none EightBits = omega arith
len_none (SixteenBits big) = omega arith
len_none (ThirtyTwoBits big) = omega arith

some_more : (a b c : ℕ) → a ≡ b + c → 0 < b → a ≡ suc (a - 1)
some_more a b c is some = omega arith

goes : (e : Encoding) (least : ℕ) (o : Address) (at b : ℕ) (bs f : List ℕ) → 0 < least →
    char_lines e least o 0 at (b ∷ bs) ≡ char_line least o at f ++ char_lines e least o (char_len e * length f - 1) (at + 1) bs →
    char_line least o at f ++ char_lines e least o (char_len e * length f) at (b ∷ bs) ≡ char_lines e least o 0 at (b ∷ bs)
goes e least o at b bs [] some is =
    let short : char_line least o at [] ≡ [] = (let fails : nat_le least 0 ≡ false = grind (arith, nat_tests) in rw fails refl) in
    ap (λ t. t ++ char_lines e least o (char_len e * 0) at (b ∷ bs)) short ∙ ap (λ n. char_lines e least o n at (b ∷ bs)) (len_none e)
goes e least o at b bs (c ∷ f) some is =
    let more = some_more (char_len e * suc (length f)) (char_len e) (char_len e * length f) (len_more e (length f)) (char_some e) in
    ap (λ n. char_line least o at (c ∷ f) ++ char_lines e least o n at (b ∷ bs)) more ∙ sym is

-- behind no run, the line of the run in front and those behind it are all
fresh : (e : Encoding) (least : ℕ) (o : Address) (at : ℕ) (x : List ℕ) → 0 < least →
    rest_with least o at [] (front_run e x) ++ char_lines e least o (char_len e * length (front_run e x)) at x ≡ char_lines e least o 0 at x
fresh e least o at [] some = let fails : nat_le least 0 ≡ false = grind (arith, nat_tests) in rw fails refl
fresh e least o at (b ∷ bs) some =
    ap (λ t. t ++ char_lines e least o (char_len e * length (front_run e (b ∷ bs))) at (b ∷ bs)) (rest_fresh least o at (front_run e (b ∷ bs)) some)
    ∙ goes e least o at b bs (front_run e (b ∷ bs)) some refl

-- where no run begins, a byte is passed
skip_one : (e : Encoding) (least : ℕ) (o : Address) (at : ℕ) (w x : List ℕ) → 0 < least → 0 < length w → front_run e (w ++ x) ≡ [] →
    char_lines e least o 0 at (w ++ x) ≡ char_lines e least o 0 (at + 1) (drop 1 w ++ x)
skip_one e least o at [] x some long none = absurd (omega arith)
skip_one e least o at (h ∷ w) x some long none =
    let fails : nat_le least 0 ≡ false = grind (arith, nat_tests) in
    let zero_left : char_len e * 0 - 1 ≡ 0 = omega (arith, len_none e) in
    ap (λ f. char_line least o at f ++ char_lines e least o (char_len e * length f - 1) (at + 1) (w ++ x)) none
    ∙ rw (fails, zero_left) refl

-- what is held and the run before it
abbrev between : List ℕ → List ℕ → Between
between u run = record { held = u; run = run }

-- The text of x, behind what is held and a run.
abbrev text_behind : Encoding → ℕ → Address → ℕ → Between → List ℕ → List ℕ
text_behind e least o at now x = chars_text e least o at now x ++ end_of_run least (chars_left e now x).run

abbrev runs_behind : Encoding → ℕ → Address → ℕ → List ℕ → List ℕ → List ℕ → List ℕ
runs_behind e least o at u run x =
    rest_with least o (at - (length u + char_len e * length run)) run (front_run e (u ++ x))
    ++ char_lines e least o (char_len e * length (front_run e (u ++ x))) (at - length u) (u ++ x)

shift : (at n m : ℕ) → at + 1 - (n + 1 + m) ≡ at - (n + m)
shift at n m = omega arith

behind_char : (at n l m k : ℕ) → l ≡ n + 1 → k ≡ l + m → at + 1 - k ≡ at - (n + m)
behind_char at n l m k a b = omega arith

none_held : (at k : ℕ) → at - (0 + k) ≡ at - k
none_held at k = omega arith

module _ (e : Encoding) (least : ℕ) (o : Address) (at : ℕ) (u run : List ℕ) (b : ℕ) (bs : List ℕ) (some : 0 < least) (before : length u ≤ at) (whole : length (u ++ b ∷ []) ≡ char_len e) where
  last_of : char_len e ≡ length u + 1
  last_of = sym whole ∙ length-append u (b ∷ [])

  -- the last byte of a character that prints
  prints_behind : char_prints e (u ++ b ∷ []) ≡ true → (later : List ℕ) →
      later ≡ runs_behind e least o (at + 1) [] (run ++ char_byte e (u ++ b ∷ []) ∷ []) bs →
      grown_run least o (at + 1 - char_len e * (length run + 1)) run (char_byte e (u ++ b ∷ [])) ++ later ≡ runs_behind e least o at u run (b ∷ bs)
  prints_behind holds later is =
      let w = u ++ b ∷ [] in
      let c = char_byte e w in
      let f = front_run e bs in
      let l = char_len e in
      let join : w ++ bs ≡ u ++ b ∷ bs = append_assoc u (b ∷ []) bs in
      let front : front_run e (u ++ b ∷ bs) ≡ c ∷ f = ap (front_run e) (sym join) ∙ front_more e w bs whole holds in
      let size : length (run ++ c ∷ []) ≡ length run + 1 = length-append run (c ∷ []) in
      let next : length run + 1 ≡ suc (length run) = omega arith in
      let long : l * (length run + 1) ≡ l + l * length run = ap (λ n. l * n) next ∙ len_more e (length run) in
      let start = at - (length u + l * length run) in
      let begins : at + 1 - (0 + l * length (run ++ c ∷ [])) ≡ start =
      ap (λ n. at + 1 - (0 + l * n)) size ∙ none_held (at + 1) (l * (length run + 1)) ∙ behind_char at (length u) l (l * length run) (l * (length run + 1)) last_of long in
      let grows : at + 1 - l * (length run + 1) ≡ start = behind_char at (length u) l (l * length run) (l * (length run + 1)) last_of long in
      let place : at + 1 - 0 ≡ at + 1 = omega arith in
      let after = char_lines e least o (l * length f) (at + 1) bs in
      let known : later ≡ rest_with least o start (run ++ c ∷ []) f ++ after =
      is ∙ ap (λ n. rest_with least o n (run ++ c ∷ []) f ++ char_lines e least o (l * length f) (at + 1 - 0) bs) begins
      ∙ ap (λ n. rest_with least o start (run ++ c ∷ []) f ++ char_lines e least o (l * length f) n bs) place in
      let behind : at - length u + length w ≡ at + 1 = omega (arith, whole, last_of, before) in
      let more : l * suc (length f) ≡ length w + l * length f = len_more e (length f) ∙ ap (λ n. n + l * length f) (sym whole) in
      let pass : char_lines e least o (l * suc (length f)) (at - length u) (u ++ b ∷ bs) ≡ after =
      ap (λ n. char_lines e least o n (at - length u) (u ++ b ∷ bs)) more
      ∙ ap (λ t. char_lines e least o (length w + l * length f) (at - length u) t) (sym join)
      ∙ passed e least o (l * length f) (at - length u) w bs
      ∙ ap (λ n. char_lines e least o (l * length f) n bs) behind in
      ap (λ n. grown_run least o n run c ++ later) grows
      ∙ ap (λ t. grown_run least o start run c ++ t) known
      ∙ sym (append_assoc (grown_run least o start run c) (rest_with least o start (run ++ c ∷ []) f) after)
      ∙ ap (λ t. t ++ after) (one_more least o start run c f)
      ∙ sym (ap (λ f. rest_with least o start run f ++ char_lines e least o (l * length f) (at - length u) (u ++ b ∷ bs)) front
      ∙ ap (λ t. rest_with least o start run (c ∷ f) ++ t) pass)

  -- the last byte of one that doesn't
  ends_behind : char_prints e (u ++ b ∷ []) ≡ false → (later : List ℕ) →
      later ≡ runs_behind e least o (at + 1) (drop 1 (u ++ b ∷ [])) [] bs →
      end_of_run least run ++ later ≡ runs_behind e least o at u run (b ∷ bs)
  ends_behind fails later is =
      let w = u ++ b ∷ [] in
      let v = drop 1 w in
      let l = char_len e in
      let join : w ++ bs ≡ u ++ b ∷ bs = append_assoc u (b ∷ []) bs in
      let none = front_none e w bs whole fails in
      let front : front_run e (u ++ b ∷ bs) ≡ [] = ap (front_run e) (sym join) ∙ none in
      let size : length v ≡ length w - 1 = length-drop 1 w in
      let begins : at + 1 - (length v + l * 0) ≡ at + 1 - length v = omega (arith, len_none e) in
      let known : later ≡ char_lines e least o 0 (at + 1 - length v) (v ++ bs) =
      is ∙ ap (λ n. rest_with least o n [] (front_run e (v ++ bs)) ++ char_lines e least o (l * length (front_run e (v ++ bs))) (at + 1 - length v) (v ++ bs)) begins
      ∙ fresh e least o (at + 1 - length v) (v ++ bs) some in
      let place : at - length u + 1 ≡ at + 1 - length v = omega (arith, size, whole, last_of, before) in
      let skip : char_lines e least o 0 (at - length u) (w ++ bs) ≡ char_lines e least o 0 (at + 1 - length v) (v ++ bs) =
      skip_one e least o (at - length u) w bs some (omega (arith, whole, char_some e)) none ∙ ap (λ n. char_lines e least o 0 n (v ++ bs)) place in
      let start = at - (length u + l * length run) in
      ap (λ t. end_of_run least run ++ t) known
      ∙ sym (ap (λ f. rest_with least o start run f ++ char_lines e least o (l * length f) (at - length u) (u ++ b ∷ bs)) front
      ∙ ap (λ t. t ++ char_lines e least o (l * 0) (at - length u) (u ++ b ∷ bs)) (ends_run least o start run)
      ∙ ap (λ n. end_of_run least run ++ char_lines e least o n (at - length u) (u ++ b ∷ bs)) (len_none e)
      ∙ ap (λ t. end_of_run least run ++ char_lines e least o 0 (at - length u) t) (sym join)
      ∙ ap (λ t. end_of_run least run ++ t) skip)

-- what one more byte makes known, and what comes behind it
along : (e : Encoding) (least : ℕ) (o : Address) (at : ℕ) (old now : Between) (b : ℕ) (bs text all : List ℕ) →
    behind_byte e old b ≡ now → byte_text e least o at old b ≡ text → text ++ text_behind e least o (at + 1) now bs ≡ all →
    text_behind e least o at old (b ∷ bs) ≡ all
unfolding chars_text chars_left
along e least o at old now b bs text all next known is =
    ap (λ n. (byte_text e least o at old b ++ chars_text e least o (at + 1) n bs) ++ end_of_run least (chars_left e n bs).run) next
    ∙ ap (λ t. (t ++ chars_text e least o (at + 1) now bs) ++ end_of_run least (chars_left e now bs).run) known
    ∙ append_assoc text (chars_text e least o (at + 1) now bs) (end_of_run least (chars_left e now bs).run)
    ∙ is

-- a byte that leaves a character open, one that ends one that prints, and one that ends one that doesn't
module _ (e : Encoding) (least : ℕ) (o : Address) (at : ℕ) (now : Between) (b : ℕ) where
  pub open_byte : length now.held + 1 < char_len e → (behind_byte e now b ≡ record { held = held_with now b; run = now.run }) × (byte_text e least o at now b ≡ [])
  open_byte short =
      let first : nat_lt (length now.held + 1) (char_len e) ≡ true = grind (arith, nat_tests) in
      (rw first refl, rw first refl)

  pub shown_byte : char_len e ≤ length now.held + 1 → char_prints e (held_with now b) ≡ true →
      (behind_byte e now b ≡ record { held = []; run = now.run ++ char_byte e (held_with now b) ∷ [] })
      × (byte_text e least o at now b ≡ grown_run least o (at + 1 - char_len e * (length now.run + 1)) now.run (char_byte e (held_with now b)))
  shown_byte long holds =
      let fails : nat_lt (length now.held + 1) (char_len e) ≡ false = grind (arith, nat_tests) in
      (rw (fails, holds) refl, rw (fails, holds) refl)

  pub other_byte : char_len e ≤ length now.held + 1 → char_prints e (held_with now b) ≡ false →
      (behind_byte e now b ≡ record { held = drop 1 (held_with now b); run = [] }) × (byte_text e least o at now b ≡ end_of_run least now.run)
  other_byte long wrong =
      let fails : nat_lt (length now.held + 1) (char_len e) ≡ false = grind (arith, nat_tests) in
      (rw (fails, wrong) refl, rw (fails, wrong) refl)

chars : (e : Encoding) (least : ℕ) (o : Address) (x : List ℕ) → 0 < least → (at : ℕ) (u run : List ℕ) → length u < char_len e → length u ≤ at →
    text_behind e least o at (between u run) x ≡ runs_behind e least o at u run x
unfolding chars_text chars_left
chars e least o [] some at u run short before =
    let start = at - (length u + char_len e * length run) in
    let front : front_run e u ≡ [] = front_short e (length u) u short in
    sym (ap (λ t. rest_with least o start run (front_run e t) ++ char_lines e least o (char_len e * length (front_run e t)) (at - length u) t) (append-nil u)
    ∙ ap (λ f. rest_with least o start run f ++ char_lines e least o (char_len e * length f) (at - length u) u) front
    ∙ ap (λ t. rest_with least o start run [] ++ t) (none_short e least o (char_len e * 0) (at - length u) u some short)
    ∙ append-nil (rest_with least o start run [])
    ∙ ends_run least o start run)
chars e least o (b ∷ bs) some at u run short before =
    let w = u ++ b ∷ [] in
    let now = between u run in
    let size : length w ≡ length u + 1 = length-append u (b ∷ []) in
    elim (cases_lt (length u + 1) (char_len e)) [
      | inl more ↦
          let is = open_byte e least o at now b more in
          let join : w ++ bs ≡ u ++ b ∷ bs = append_assoc u (b ∷ []) bs in
          let later = chars e least o bs some (at + 1) w run (omega (arith, size, more)) (omega (arith, size, before)) in
          let place : at + 1 - (length u + 1) ≡ at - length u = omega arith in
          let start = shift at (length u) (char_len e * length run) in
          along e least o at now (between w run) b bs [] (runs_behind e least o at u run (b ∷ bs)) is.0 is.1 (rw (join, size, place, start) at later)
      | inr all ↦
          let whole : length w ≡ char_len e = omega (arith, size, all, short) in
          elim (both (char_prints e w)) [
            | inl holds ↦
                let c = char_byte e w in
                let is = shown_byte e least o at now b all holds in
                let later = chars e least o bs some (at + 1) [] (run ++ c ∷ []) (char_some e) (omega arith) in
                along e least o at now (between [] (run ++ c ∷ [])) b bs (grown_run least o (at + 1 - char_len e * (length run + 1)) run c) (runs_behind e least o at u run (b ∷ bs)) is.0 is.1
                (prints_behind e least o at u run b bs some before whole holds (text_behind e least o (at + 1) (between [] (run ++ c ∷ [])) bs) later)
            | inr wrong ↦
                let is = other_byte e least o at now b all wrong in
                let left : length (drop 1 w) ≡ length w - 1 = length-drop 1 w in
                let later = chars e least o bs some (at + 1) (drop 1 w) [] (omega (arith, left, whole, char_some e)) (omega (arith, left, size, before)) in
                along e least o at now (between (drop 1 w) []) b bs (end_of_run least run) (runs_behind e least o at u run (b ∷ bs)) is.0 is.1
                (ends_behind e least o at u run b bs some before whole wrong (text_behind e least o (at + 1) (between (drop 1 w) []) bs) later)
          ]
    ]

-- The runs are what the bytes give one by one.
pub runs_is : (e : Encoding) (least : ℕ) (o : Address) (x : List ℕ) → 0 < least →
    char_lines e least o 0 0 x ≡ chars_text e least o 0 nothing x ++ end_of_run least (chars_left e nothing x).run
runs_is e least o x some =
    let start : 0 - (0 + char_len e * 0) ≡ 0 = omega (arith, len_none e) in
    sym (chars e least o x some 0 [] [] (char_some e) (omega arith)
    ∙ ap (λ n. rest_with least o n [] (front_run e x) ++ char_lines e least o (char_len e * length (front_run e x)) 0 x) start
    ∙ fresh e least o 0 x some)

-- what a test of a character says
test_some : (t : Bool) (x b : ℕ) → (if t then Some x else None) ≡ Some b → (t ≡ true) × (x ≡ b)
test_some true x b is = (refl, ap (λ m. option_map_or (λ x. x) m b) is)
test_some false x b is = let no : None ≡ Some b = is in absurd (cc)

test_none : (t : Bool) (x : ℕ) → (if t then Some x else None) ≡ None → t ≡ false
test_none true x is = let no : Some x ≡ None = is in absurd (cc)
test_none false x is = refl

pub shown_is : (e : Encoding) (bytes : List ℕ) (b : ℕ) → (if char_prints e bytes then Some (char_byte e bytes) else None) ≡ Some b →
    (char_prints e bytes ≡ true) × (char_byte e bytes ≡ b)
shown_is e bytes b is = test_some (char_prints e bytes) (char_byte e bytes) b is

pub other_is : (e : Encoding) (bytes : List ℕ) → (if char_prints e bytes then Some (char_byte e bytes) else None) ≡ None → char_prints e bytes ≡ false
other_is e bytes is = test_none (char_prints e bytes) (char_byte e bytes) is

-- where a run is long, its place doesn't count
pub grown_along : (least : ℕ) (o : Address) (start other : ℕ) (run : List ℕ) (c : ℕ) → (length run < least → start ≡ other) →
    grown_run least o start run c ≡ grown_run least o other run c
grown_along least o start other run c same = elim (cases_lt (length run) least) [
  | inl short ↦ ap (λ n. grown_run least o n run c) (same short)
  | inr long ↦ grown_long least o start run c long ∙ sym (grown_long least o other run c long)
]

-- one more byte is held
pub take_set : (n : ℕ) (held : List ℕ) (b : ℕ) → n < length held → take (n + 1) (slice_set held n b) ≡ take n held ++ b ∷ []
take_set n held b inside = take_more_set held n b inside

pub place_along : (at : ℕ) {l n m k : ℕ} → l ≡ n → m ≡ k → at - n * (k + 1) ≡ at - l * (m + 1)
place_along at e f = rw (e, f) refl

-- a short run has as many bytes as are kept
pub kept_short : (least count : ℕ) (kept run : List ℕ) → IsKept least count kept run → length run < least → length run ≡ count
kept_short least count kept run is short = elim (cases_lt count least) [
  | inl few ↦ (is.short few).0
  | inr long ↦ absurd (omega (arith, is.long long, short))
]

-- one more byte of xs
module _ (e : Encoding) (least : ℕ) (o : Address) (at done : ℕ) (now : Between) (xs : List ℕ) (b : ℕ) (size : length (take done xs) ≡ done) (join : take (done + 1) xs ≡ take done xs ++ b ∷ []) where
  pub chars_step : (before page : List ℕ) → before ≡ chars_text e least o at now (take done xs) → page ≡ byte_text e least o (at + done) (chars_left e now (take done xs)) b →
      before ++ page ≡ chars_text e least o at now (take (done + 1) xs)
  unfolding chars_text
  chars_step before page was is =
      let one : byte_text e least o (at + done) (chars_left e now (take done xs)) b ++ [] ≡ byte_text e least o (at + done) (chars_left e now (take done xs)) b = append-nil (byte_text e least o (at + done) (chars_left e now (take done xs)) b) in
      rw (was, is) (sym (ap (chars_text e least o at now) join ∙ chars_text-append e least o at now (take done xs) (b ∷ [])
      ∙ ap (λ n. chars_text e least o at now (take done xs) ++ chars_text e least o (at + n) (chars_left e now (take done xs)) (b ∷ [])) size
      ∙ ap (λ t. chars_text e least o at now (take done xs) ++ t) one))

  pub left_step : chars_left e now (take (done + 1) xs) ≡ behind_byte e (chars_left e now (take done xs)) b
  unfolding chars_left
  left_step = ap (chars_left e now) join ∙ chars_left-append e now (take done xs) (b ∷ [])

pub chars_text-none : (e : Encoding) (least : ℕ) (o : Address) (at : ℕ) (now : Between) → [] ≡ chars_text e least o at now []
unfolding chars_text
chars_text-none e least o at now = refl

pub chars_left-none : (e : Encoding) (now : Between) → now ≡ chars_left e now []
unfolding chars_left
chars_left-none e now = refl

-- what more bytes add to the text of all before
pub chars_go : (e : Encoding) (least : ℕ) (o : Address) (input chunk page : List ℕ) (at : ℕ) → length input ≡ at → page ≡ chars_text e least o at (chars_left e nothing input) chunk →
    chars_text e least o 0 nothing (input ++ chunk) ≡ chars_text e least o 0 nothing input ++ page
chars_go e least o input chunk page at size is =
    let place : 0 + length input ≡ at = omega (arith, size) in
    rw place at (chars_text-append e least o 0 nothing input chunk) ∙ ap (λ t. chars_text e least o 0 nothing input ++ t) (sym is)

pub chars_grow : (e : Encoding) (least : ℕ) (o : Address) (input more : List ℕ) → (rest : List ℕ) × (chars_text e least o 0 nothing (input ++ more) ≡ chars_text e least o 0 nothing input ++ rest)
chars_grow e least o input more = (chars_text e least o (0 + length input) (chars_left e nothing input) more, chars_text-append e least o 0 nothing input more)

-- what ends a run that is kept
pub end_long : (least count : ℕ) (kept run : List ℕ) → IsKept least count kept run → nat_lt count least ≡ false → end_of_run least run ≡ 10 ∷ []
end_long least count kept run is long =
    let more : least ≤ length run = is.long (grind (arith, nat_tests, long)) in
    let holds : nat_le least (length run) ≡ true = grind (arith, nat_tests) in
    rw holds refl

pub end_short : (least count : ℕ) (kept run : List ℕ) → IsKept least count kept run → nat_lt count least ≡ true → end_of_run least run ≡ []
end_short least count kept run is short =
    let few : count < least = grind (arith, nat_tests, short) in
    let same = (is.short few).0 in
    let fails : nat_le least (length run) ≡ false = grind (arith, nat_tests, same, few) in
    rw fails refl

pub runs_same : {e f : Encoding} {least more : ℕ} {o p : Address} → e ≡ f → least ≡ more → o ≡ p → (x : List ℕ) → char_lines f more p 0 0 x ≡ char_lines e least o 0 0 x
runs_same a b d x = rw (a, b, d) refl

-- a front of what is known is a front of the whole
pub chars_known : (e : Encoding) (least : ℕ) (o : Address) (r0 r1 w0 w1 : Option (List ℕ)) (fault : IoFault) → 0 < least →
    DumpsFrontBut 0 (chars_text e least o 0 nothing) r0 r1 w0 w1 fault → WritesFrontBut (2 ^ 7) (char_lines e least o 0 0) 0 None 0 0 (streams r0 r1 w0 w1) fault
chars_known e least o r0 r1 w0 w1 fault some d =
    let text = chars_text e least o 0 nothing d.0 in
    let tail = end_of_run least (chars_left e nothing d.0).run in
    let is = runs_is e least o d.0 some in
    let same : take d.1 (char_lines e least o 0 0 d.0) ≡ take d.1 text = ap (take d.1) is ∙ take-append-le d.1 text tail d.3 in
    let more : length text ≤ length (char_lines e least o 0 0 d.0) = omega (arith, ap length is, length-append text tail) in
    front_whole (2 ^ 7) (char_lines e least o 0 0) r0 r1 w0 w1 fault (
      d.0,
      d.1,
      d.2,
      omega (arith, d.3, more),
      rw same d.4,
      cause_longer fault (length d.0) d.1 _ _ more d.5,
      keeps_along fault 0 (2 ^ 7) d.1 d.1 (chars_text e least o 0 nothing) (char_lines e least o 0 0) d.0
          (λ xs few. omega (
            arith,
            few,
            ap length (runs_is e least o xs some),
            length-append (chars_text e least o 0 nothing xs) (end_of_run least (chars_left e nothing xs).run),
            end_few least (chars_left e nothing xs).run,
            ap length (runs_is e least o [] some),
            length-append (chars_text e least o 0 nothing []) (end_of_run least (chars_left e nothing []).run),
          )) d.6,
    )
