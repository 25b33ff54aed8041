-- A text that has the form of a full line begins with one.
use Rattle.std.proofs.Common.{◌≡◌, ℕ, zero, suc, ◌+◌, ◌-◌, ◌*◌, ◌^◌, ◌<◌, ◌≤◌, Bool, true, false, ◌&&◌, cond, ltb, eqb, Some, None, List, [], ◌∷◌, ◌++◌, length, get_or, take, drop, map, inl, inr, refl, arith, sym, ap, ◌∙◌, subst, length-take, length-drop}
use Rattle.std.specs.Prelude.{◌==◌, IsTrue, All, slice_index}
use Rattle.std.specs.List.{list_all}
use Rattle.std.specs.Option.{option_map}
use Rattle.std.specs.Str.Parse.{digits_value}
use Rattle.std.proofs.lemmas.Bool.{agree_below_at, cases_lt, eqb-true, ltb-true}
use Rattle.std.proofs.lemmas.Grind.{common_steps}
use Rattle.std.proofs.lemmas.List.{get_or-take, get_or-drop, take-take}
use Rattle.std.proofs.Math.Seq.{take-add}
use Rattle.bx_read.specs.Digits.{is_hex, pair_value, pairs_of}
use Rattle.bx_read.specs.Line.{line_piece}
use Rattle.bx_read.specs.Plain.{hex_bytes}
use Rattle.bx_read.specs.private.Lanes.{group_places}
use Rattle.bx_read.proofs.FullLemmas.{full_gives, in_parts, joined, two_of}
use Rattle.bx_read.proofs.GrammarLemmas.{and_true}
use Rattle.bx_read.proofs.LaneLemmas.{columns_are}
use Rattle.bx_journal_format.specs.DumpLine.{run_of_line}
use Rattle.bx_journal_format.specs.Form.{fits, full_form, HasColumns, HasForm, IsFullAt}
use Rattle.bx_journal_format.specs.read.Plain.{HasNoNewline}
use Rattle.bx_journal_format.proofs.ReadLoop.{parts_at, plain_to}
use Rattle.bx_journal_format.proofs.Splits.{plain-append}

-- sixteen bytes of the form
part : (text form : List ℕ) (o : ℕ) → form ≡ take 16 (drop o full_form) → HasForm (drop o text) form → (k : ℕ) → o ≤ k → k < o + 16 → fits (get_or text k 0) (get_or full_form k 0) ≡ true
part text form o is has k from to =
    let j : ℕ = k - o in
    let inside : j < 16 = omega (arith, from, to) in
    let place : o + j ≡ k = omega (arith, from) in
    let byte : get_or (drop o text) j 0 ≡ get_or text k 0 = get_or-drop o text j 0 ∙ ap (λ n. get_or text n 0) place in
    let own : get_or form j 0 ≡ get_or full_form k 0 =
    ap (λ l. get_or l j 0) is ∙ get_or-take 16 (drop o full_form) j 0 inside ∙ get_or-drop o full_form j 0 ∙ ap (λ n. get_or full_form n 0) place in
    subst (λ b. fits b (get_or full_form k 0) ≡ true) byte (subst (λ f. fits (get_or (drop o text) j 0) f ≡ true) own (has j inside))

pub four_forms : (text : List ℕ) → HasForm text (take 16 full_form) → HasForm (drop 16 text) (take 16 (drop 16 full_form)) → HasForm (drop 32 text) (take 16 (drop 32 full_form))
    → HasForm (drop 35 text) (take 16 (drop 35 full_form)) → HasColumns text
four_forms text a b c d k inside = elim (cases_lt k 16) [
  | inl below ↦ part text (take 16 full_form) 0 refl a k (omega arith) (omega (arith, below))
  | inr above ↦ elim (cases_lt k 32) [
    | inl below ↦ part text (take 16 (drop 16 full_form)) 16 refl b k (omega (arith, above)) (omega (arith, below))
    | inr more ↦ elim (cases_lt k 48) [
      | inl below ↦ part text (take 16 (drop 32 full_form)) 32 refl c k (omega (arith, more)) (omega (arith, below))
      | inr most ↦ part text (take 16 (drop 35 full_form)) 35 refl d k (omega (arith, most)) (omega (arith, inside))
    ]
  ]
]

-- digits in pairs are bytes

abbrev AllHex : List ℕ → Type 0
AllHex [] = Unit {0}
AllHex (c ∷ cs) = (is_hex c ≡ true) × AllHex cs

record SomePairs (n : ℕ) (text : List ℕ) : Type 0 where
  bytes : List ℕ
  are : hex_bytes text ≡ Some bytes
  long : length bytes ≡ n

some_pairs : (n : ℕ) (text : List ℕ) → length text ≡ 2 * n → AllHex text → SomePairs n text
some_pairs zero [] long all = record { bytes = []; are = refl; long = refl }
some_pairs zero (c ∷ text) long all = absurd (omega (arith, long))
some_pairs (suc n) [] long all = absurd (omega (arith, long))
some_pairs (suc n) (c ∷ []) long all = absurd (omega (arith, long))
some_pairs (suc n) (high ∷ low ∷ text) long all =
    let rest = some_pairs n text (omega (arith, long)) all.1.1 in
    record {
      bytes = pair_value high low ∷ rest.bytes;
      are = (λ i. cond (all.0 i && all.1.0 i) (option_map (λ bytes. pair_value high low ∷ bytes) (hex_bytes text)) None) ∙ ap (option_map (λ bytes. pair_value high low ∷ bytes)) rest.are;
      long = ap suc rest.long;
    }

module _ (text : List ℕ) (long : 68 ≤ length text) (has : HasColumns text) where
  abbrev line : List ℕ
  line = take 67 text

  abbrev columns : List ℕ
  columns = take 39 (drop 2 (drop 8 line))

  cell : (j : ℕ) → j < 39 → get_or columns j 0 ≡ get_or text (10 + j) 0
  cell j inside =
      let place : 8 + (2 + j) ≡ 10 + j = omega arith in
      get_or-take 39 (drop 2 (drop 8 line)) j 0 inside ∙ get_or-drop 2 (drop 8 line) j 0 ∙ get_or-drop 8 line (2 + j) 0 ∙ ap (λ n. get_or line n 0) place
      ∙ get_or-take 67 text (10 + j) 0 (omega (arith, inside))

  at_form : (q f : ℕ) → q < 51 → get_or full_form q 0 ≡ f → fits (get_or text q 0) f ≡ true
  at_form q f inside is = subst (λ x. fits (get_or text q 0) x ≡ true) is (has q inside)

  space : (k : ℕ) → k < 7 → get_or columns (5 * k + 4) 0 ≡ 32
  space k below =
      let place : 5 * k + 4 < 39 = omega (arith, below) in
      let form : get_or full_form (10 + (5 * k + 4)) 0 ≡ 32 = eqb-true _ _ (agree_below_at (λ x. eqb (get_or full_form (10 + (5 * x + 4)) 0) 32) (λ _. true) 7 k refl below) in
      cell (5 * k + 4) place ∙ eqb-true _ _ (at_form (10 + (5 * k + 4)) 32 (omega (arith, place)) form)

  abbrev is_place : ℕ → Bool
  is_place p = ltb p 39 && eqb (get_or full_form (10 + p) 0) 0

  digit : (p : ℕ) → is_place p ≡ true → is_hex (get_or columns p 0) ≡ true
  digit p is =
      let both = and_true (ltb p 39) (eqb (get_or full_form (10 + p) 0) 0) is in
      let inside : p < 39 = ltb-true p 39 both.0 in
      ap is_hex (cell p inside) ∙ at_form (10 + p) 0 (omega (arith, inside)) (eqb-true _ _ both.1)

  digits : (ps : List ℕ) → list_all is_place ps ≡ true → AllHex (map (λ p. get_or columns p 0) ps)
  digits [] all = tt
  digits (p ∷ ps) all = let both = and_true (is_place p) (list_all is_place ps) all in (digit p both.0, digits ps both.1)

  abbrev places : List ℕ
  places = group_places ++ map (λ k. 20 + k) group_places

  pairs : SomePairs 16 (map (λ p. get_or columns p 0) places)
  pairs = some_pairs 16 (map (λ p. get_or columns p 0) places) refl (digits places refl)

  -- no newline before the text of the bytes
  not_newline : (i : ℕ) → i < 51 → i < length text → slice_index text i == 10 ≡ true → ⊥
  not_newline i below inside is =
      let ten : get_or text i 0 ≡ 10 = eqb-true _ _ is in
      let none : fits 10 (get_or full_form i 0) ≡ false = agree_below_at (λ x. fits 10 (get_or full_form x 0)) (λ _. false) 51 i refl below in
      let one : fits 10 (get_or full_form i 0) ≡ true = subst (λ c. fits c (get_or full_form i 0) ≡ true) ten (has i below) in
      let clash : true ≡ false = sym one ∙ none in
      absurd (cc)

  piece_from : (at : ℕ) (bytes : List ℕ) → line_piece line ≡ Some (at, bytes) → run_of_line line ≡ Some (record { at = at; bytes = bytes })
  unfolding run_of_line
  piece_from at bytes is = rw is refl

  pub full_at : (at : ℕ) → get_or text 67 0 ≡ 10 → HasNoNewline (take 16 (drop 51 text)) → at ≡ digits_value 16 (take 8 text) → at < 2 ^ 32
      → All (λ c. IsTrue (is_hex c)) (take 8 text) → IsFullAt at text
  full_at at ended shown value small hex =
      let r1 : List ℕ = drop 8 line in
      let r2 : List ℕ = drop 2 r1 in
      let r3 : List ℕ = drop 39 r2 in
      let width : length line ≡ 67 = omega (arith, length-take 67 text, long) in
      let l1 : length r1 ≡ 59 = omega (arith, length-drop 8 line, width) in
      let l2 : length r2 ≡ 57 = omega (arith, length-drop 2 r1, l1) in
      let l3 : length r3 ≡ 18 = omega (arith, length-drop 39 r2, l2) in
      let address : take 8 line ≡ take 8 text = take-take 8 67 text (omega arith) in
      let byte_8 : get_or (take 2 r1) 0 0 ≡ 58 = get_or-take 2 r1 0 0 (omega arith) ∙ get_or-drop 8 line 0 0 ∙ get_or-take 67 text 8 0 (omega arith) ∙ eqb-true _ _ (has 8 (omega arith)) in
      let byte_9 : get_or (take 2 r1) 1 0 ≡ 32 = get_or-take 2 r1 1 0 (omega arith) ∙ get_or-drop 8 line 1 0 ∙ get_or-take 67 text 9 0 (omega arith) ∙ eqb-true _ _ (has 9 (omega arith)) in
      let byte_49 : get_or (take 2 r3) 0 0 ≡ 32 =
      get_or-take 2 r3 0 0 (omega arith) ∙ get_or-drop 39 r2 0 0 ∙ get_or-drop 2 r1 39 0 ∙ get_or-drop 8 line 41 0 ∙ get_or-take 67 text 49 0 (omega arith) ∙ eqb-true _ _ (has 49 (omega arith)) in
      let byte_50 : get_or (take 2 r3) 1 0 ≡ 32 =
      get_or-take 2 r3 1 0 (omega arith) ∙ get_or-drop 39 r2 1 0 ∙ get_or-drop 2 r1 40 0 ∙ get_or-drop 8 line 42 0 ∙ get_or-take 67 text 50 0 (omega arith) ∙ eqb-true _ _ (has 50 (omega arith)) in
      let spelled = in_parts line (take 8 line) (take 2 r1) columns (take 2 r3) (drop 2 r3) r1 r2 r3
      (joined 8 line (take 8 line) r1 refl refl) (joined 2 r1 (take 2 r1) r2 refl refl) (joined 39 r2 columns r3 refl refl) (joined 2 r3 (take 2 r3) (drop 2 r3) refl refl)
      (two_of (take 2 r1) 58 32 (omega (arith, length-take 2 r1, l1)) byte_8 byte_9) (two_of (take 2 r3) 32 32 (omega (arith, length-take 2 r3, l3)) byte_49 byte_50) in
      let ps = pairs in
      let wide : length columns ≡ 39 = omega (arith, length-take 39 r2, l2) in
      let are : pairs_of columns ≡ Some ps.bytes = columns_are columns space ps.bytes wide ps.are in
      let gives = full_gives line (take 8 line) columns (drop 2 r3) ps.bytes at (subst (λ l. All (λ c. IsTrue (is_hex c)) l) (sym address) hex)
      (omega (arith, length-take 8 line, width)) (value ∙ ap (digits_value 16) (sym address)) small are ps.long spelled in
      let front : take 67 text ≡ take 51 text ++ take 16 (drop 51 text) = take-add 51 16 text in
      let plain : HasNoNewline line = subst HasNoNewline (sym front) (plain-append (take 51 text) (take 16 (drop 51 text)) (plain_to text 51 not_newline) shown) in
      let newline : slice_index text 67 == 10 ≡ true = grind (arith, common_steps) in
      record {
        bytes = ps.bytes;
        sixteen = ps.long;
        long = long;
        plain = plain;
        ended = parts_at text 67 (omega (arith, long)) newline;
        gives = piece_from at ps.bytes gives;
      }
