-- The pieces of a text.
use Rattle.std.proofs.Common.{◌≡◌, ◌⊎◌, ℕ, zero, suc, ◌+◌, ◌*◌, ◌<◌, ◌≤◌, Bool, true, false, ◌||◌, cond, eqb, Some, Option, Result, Ok, Err, List, [], ◌∷◌, ◌++◌, length, refl, arith, sym, ap, subst, ◌∙◌, append_assoc, get_or, ◌&&◌, inl, inr, ⊎_elim}
use Rattle.std.specs.Prelude.{codes, bytes_eq}
use Rattle.std.specs.Option.{unwrap_or, option_map}
use Rattle.std.proofs.lemmas.Slice.Eq.{bytes_eq-Decides}
use Rattle.std.proofs.lemmas.Bool.{eqb-true, ltb-true}
use Rattle.std.specs.Char.{digit_value}
use Rattle.std.specs.List.{All, sum_by}
use Rattle.std.proofs.lemmas.List.Sums.{sum_by-cons}
use Rattle.std.proofs.lemmas.List.{get_or_append_left, length-append, length-map, map-append, get_or-map}
use Rattle.std.proofs.lemmas.List.Elements.{All-cons}
use Rattle.bx_read.proofs.PieceLemmas.{some_bytes}
use Rattle.bx_read.specs.Digits.{is_hex, pairs_of, pair_value}
use Rattle.bx_read.specs.Line.{read_line}
use Rattle.bx_read.specs.Grammar.{IsLine, GivesPieces, total_bytes}
use Rattle.bx_read.specs.private.Next.{IsNextPiece}
use Rattle.bx_read.specs.Text.{ReadLine, is_skipped, answer_then, answers, piece_then, gathered, lines_of, contents}
use Rattle.bx_read.proofs.Parts.{IsPiece, with_front}
use Rattle.bx_text.specs.declared.owned.pieces.Piece.{Piece}
use Rattle.bx_read.specs.declared.fault.ReadFault.{ReadFault}
use Rattle.bx_read.proofs.GrammarLemmas.{read_line-found, read_line-only, and_true, guard_some, unmap}
use Rattle.bx_read.proofs.LinesLemmas.{answers_read, answers_skip}

abbrev pub Pieces : Type 0
Pieces = List (ℕ × List ℕ)

-- pieces in front of others, where there is no fault
abbrev pub after : Pieces → Result Pieces ReadFault → Result Pieces ReadFault
after front (Ok pieces) = Ok (front ++ pieces)
after front (Err fault) = Err fault

pub after_piece : (front : Pieces) (piece : ℕ × List ℕ) (r : Result Pieces ReadFault) → after front (piece_then piece r) ≡ after (front ++ piece ∷ []) r
after_piece front piece (Ok pieces) = ap Ok (sym (append_assoc front (piece ∷ []) pieces))
after_piece front piece (Err fault) = refl

-- a line that was read, and one more in front
pub after_line : (front : Pieces) (at : ℕ) (hex bytes : List ℕ) (number : ℕ) (later : List (Result ReadLine ReadFault)) → pairs_of hex ≡ Some bytes →
    after front (gathered (Ok (at, hex, number) ∷ later)) ≡ after (front ++ (at, bytes) ∷ []) (gathered later)
after_line front at hex bytes number later e = rw e (after_piece front (at, bytes) (gathered later))

pub star : (line : List ℕ) → is_skipped line ≡ true → (line ≡ []) ⊎ (line ≡ codes "*")
star line h = go (eqb (length line) 0) refl h
  where
    go : (b : Bool) → eqb (length line) 0 ≡ b → (b || bytes_eq line (codes "*")) ≡ true → (line ≡ []) ⊎ (line ≡ codes "*")
    go true e k = inl (empty line (eqb-true (length line) 0 e))
      where
        empty : (xs : List ℕ) → length xs ≡ 0 → xs ≡ []
        empty [] e = refl
        empty (x ∷ xs) e = absurd (omega arith)
    go false e k = inr ((bytes_eq-Decides line (codes "*")).0 k)

ok_inv : (piece : ℕ × List ℕ) (r : Result Pieces ReadFault) (ps : Pieces) → piece_then piece r ≡ Ok ps → (rest : Pieces) × (r ≡ Ok rest) × (ps ≡ piece ∷ rest)
ok_inv piece (Ok rest) ps e = (rest, refl, ok_same e)
  where
    ok_same : ◌≡◌ {A = Result Pieces ReadFault} (Ok (piece ∷ rest)) (Ok ps) → ps ≡ piece ∷ rest
    ok_same e = cc
ok_inv piece (Err f) ps e = cc

-- What is read is what the grammar gives.
pub found : (lines : List (List ℕ)) (n : ℕ) (ps : Pieces) → gathered (answers n lines) ≡ Ok ps → GivesPieces lines ps
found [] n ps e = ok_nil e
  where
    ok_nil : ◌≡◌ {A = Result Pieces ReadFault} (Ok []) (Ok ps) → ps ≡ []
    ok_nil e = cc
found (line ∷ lines) n ps e = go (is_skipped line) refl (λ qs. found lines (n + 1) qs)
  where
    read : (r : Result (ℕ × List ℕ) ReadFault) → read_line n line ≡ r → gathered (answer_then n r (answers (n + 1) lines)) ≡ Ok ps →
        (at : ℕ) × (hex bytes : List ℕ) × (rest : Pieces) × IsLine line at hex bytes × (ps ≡ (at, bytes) ∷ rest) × (gathered (answers (n + 1) lines) ≡ Ok rest)
    read (Err f) is k = cc
    read (Ok r) is k =
        let line_is = read_line-found n line r.0 r.1 is in
        let value : unwrap_or (pairs_of r.1) [] ≡ line_is.0 = ap (λ o. unwrap_or o []) line_is.1.pairs in
        let parts = ok_inv (r.0, unwrap_or (pairs_of r.1) []) (gathered (answers (n + 1) lines)) ps k in
        (r.0, r.1, line_is.0, parts.0, line_is.1, parts.2 ∙ ap (λ b. (r.0, b) ∷ parts.0) value, parts.1)

    go : (b : Bool) → is_skipped line ≡ b → ((qs : Pieces) → gathered (answers (n + 1) lines) ≡ Ok qs → GivesPieces lines qs) → GivesPieces (line ∷ lines) ps
    go true is later = inl (star line is, later ps (ap gathered (sym (answers_skip n line lines is)) ∙ e))
    go false is later =
        let r = read (read_line n line) refl (ap gathered (sym (answers_read n line lines is)) ∙ e) in
        inr (r.0, r.1, r.2, r.3, r.4, r.5, later r.3 r.6)

-- a line of the grammar begins with a digit
pub first_is : (line : List ℕ) (at : ℕ) (hex bytes : List ℕ) → IsLine line at hex bytes → is_hex (get_or line 0 0) ≡ true
first_is line at hex bytes is =
    rw (is.spelled, get_or_append_left is.digits (58 ∷ 32 ∷ (hex ++ is.tail)) 0 0 is.some_digits) (is.address 0 0 is.some_digits)

pub not_skipped : (line : List ℕ) → is_hex (get_or line 0 0) ≡ true → is_skipped line ≡ false
not_skipped line digit = go (is_skipped line) refl
  where
    go : (b : Bool) → is_skipped line ≡ b → b ≡ false
    go false e = refl
    go true e = ⊎_elim
        (λ none. let k : is_hex 0 ≡ true = rw none at digit in cc)
        (λ one. let k : is_hex 42 ≡ true = rw one at digit in cc)
        (star line e)

-- What the grammar gives is read.
pub only : (lines : List (List ℕ)) (n : ℕ) (ps : Pieces) → GivesPieces lines ps → gathered (answers n lines) ≡ Ok ps
only [] n ps is = ap Ok (sym is)
only (line ∷ lines) n ps (inl skipped) =
    let none : is_skipped line ≡ true = ⊎_elim (λ e. rw e refl) (λ e. rw e refl) skipped.0 in
    ap gathered (answers_skip n line lines none) ∙ only lines (n + 1) ps skipped.1
only (line ∷ lines) n ps (inr read) =
    let at = read.0 in
    let hex = read.1 in
    let bytes = read.2 in
    let is = read.4 in
    let some = not_skipped line (first_is line at hex bytes is) in
    let step : gathered (answers n (line ∷ lines)) ≡ piece_then (at, unwrap_or (pairs_of hex) []) (gathered (answers (n + 1) lines)) =
    ap gathered (answers_read n line lines some ∙ ap (λ r. answer_then n r (answers (n + 1) lines)) (read_line-only n line at hex bytes is)) in
    let value : unwrap_or (pairs_of hex) [] ≡ bytes = ap (λ o. unwrap_or o []) is.pairs in
    step ∙ rw (value, only lines (n + 1) read.3 read.6) (ap Ok (sym read.5))

-- what lines give is one list
pub one_list : (lines : List (List ℕ)) (ps qs : Pieces) → GivesPieces lines ps → GivesPieces lines qs → ps ≡ qs
one_list lines ps qs a b = ok_same ps qs (sym (only lines 1 ps a) ∙ only lines 1 qs b)
  where
    ok_same : (x y : Pieces) → ◌≡◌ {A = Result Pieces ReadFault} (Ok x) (Ok y) → x ≡ y
    ok_same x y h = cc

some_back : {A : Type 0} (x y : A) → Some x ≡ Some y → x ≡ y
some_back x y h = cc

pair_below : (high low : ℕ) → (is_hex high && is_hex low) ≡ true → pair_value high low < 256
pair_below high low e =
    let both = and_true (is_hex high) (is_hex low) e in
    omega (arith, ltb-true (digit_value high) 16 both.0, ltb-true (digit_value low) 16 both.1)

below_one : (b : ℕ) → b < 256 → All (λ b. b < 256) (b ∷ [])
below_one b small zero d inside = small
below_one b small (suc k) d inside = absurd (omega arith)

-- two digits at least for each byte, which is below 256
pub pairs_are : (hex bytes : List ℕ) → pairs_of hex ≡ Some bytes → (2 * length bytes ≤ length hex) × All (λ b. b < 256) bytes
pairs_are [] bytes h = cc
pairs_are (c ∷ []) bytes h = cc
pairs_are (c ∷ d ∷ []) bytes h =
    let inner = guard_some (is_hex c && is_hex d) (Some (pair_value c d ∷ [])) bytes h in
    let same = some_back (pair_value c d ∷ []) bytes inner.1 in
    rw (← same) (omega arith, below_one (pair_value c d) (pair_below c d inner.0))
pairs_are (c ∷ d ∷ n ∷ rest) bytes h =
    let o = cond (eqb n 32) (pairs_of rest) (pairs_of (n ∷ rest)) in
    let inner = guard_some (is_hex c && is_hex d) (option_map (λ more. pair_value c d ∷ more) o) bytes h in
    let more = unmap (λ more. pair_value c d ∷ more) o bytes inner.1 in
    let same : pair_value c d ∷ more.0 ≡ bytes = some_back (pair_value c d ∷ more.0) bytes (sym (ap (option_map (λ more. pair_value c d ∷ more)) more.1) ∙ inner.1) in
    let later = either (eqb n 32) n rest more.0 more.1 (pairs_are rest more.0) (pairs_are (n ∷ rest) more.0) in
    rw (← same) (omega (arith, later.0), All-cons (λ b. b < 256) (pair_value c d) more.0 (pair_below c d inner.0) later.1)
  where
    either : (b : Bool) (n : ℕ) (rest more : List ℕ) → cond b (pairs_of rest) (pairs_of (n ∷ rest)) ≡ Some more →
        (pairs_of rest ≡ Some more → (2 * length more ≤ length rest) × All (λ b. b < 256) more) →
        (pairs_of (n ∷ rest) ≡ Some more → (2 * length more ≤ length (n ∷ rest)) × All (λ b. b < 256) more) →
        (2 * length more ≤ length (n ∷ rest)) × All (λ b. b < 256) more
    either true n rest more e spaced joined = let s = spaced e in (omega (arith, s.0), s.1)
    either false n rest more e spaced joined = joined e

-- the bytes of a line are no more than half of it
line_is : (line : List ℕ) (at : ℕ) (hex bytes : List ℕ) → IsLine line at hex bytes → IsPiece at bytes × (2 * length bytes ≤ length line)
line_is line at hex bytes is =
    let are = pairs_are hex bytes is.pairs in
    let len : length line ≡ length is.digits + length (58 ∷ 32 ∷ (hex ++ is.tail)) = ap length is.spelled ∙ length-append is.digits (58 ∷ 32 ∷ (hex ++ is.tail)) in (
      (some_bytes hex bytes is.pairs, is.few_pairs, is.small, are.1),
      omega (arith, are.0, len, length-append hex is.tail),
    )

total_length : List (List ℕ) → ℕ
total_length [] = 0
total_length (line ∷ lines) = length line + total_length lines

with_front-length : (c : ℕ) (lines : List (List ℕ)) → total_length (with_front c lines) ≡ total_length lines + 1
unfolding total_length
with_front-length c [] = refl
with_front-length c (line ∷ lines) = omega arith

lines_length : (text : List ℕ) → total_length (lines_of text) ≤ length text
unfolding total_length
lines_length [] = omega arith
lines_length (c ∷ text) = go (eqb c 10) (lines_length text)
  where
    go : (b : Bool) → total_length (lines_of text) ≤ length text → total_length (cond b ([] ∷ lines_of text) (with_front c (lines_of text))) ≤ suc (length text)
    go true h = omega (arith, h)
    go false h = omega (arith, h, with_front-length c (lines_of text))

pub small : (lines : List (List ℕ)) (ps : Pieces) → GivesPieces lines ps → All (λ p. IsPiece p.0 p.1) ps
small [] ps is = rw is (λ k d inside. absurd (omega arith))
small (line ∷ lines) ps (inl skipped) = small lines ps skipped.1
small (line ∷ lines) ps (inr read) =
    rw read.5 (All-cons (λ p. IsPiece p.0 p.1) (read.0, read.2) read.3 (line_is line read.0 read.1 read.2 read.4).0 (small lines read.3 read.6))

pub few_pieces : (lines : List (List ℕ)) (ps : Pieces) → GivesPieces lines ps → length ps ≤ length lines
few_pieces [] ps is = omega (arith, ap length is)
few_pieces (line ∷ lines) ps (inl skipped) = omega (arith, few_pieces lines ps skipped.1)
few_pieces (line ∷ lines) ps (inr read) = omega (arith, ap length read.5, few_pieces lines read.3 read.6)

few_in_lines : (lines : List (List ℕ)) (ps : Pieces) → GivesPieces lines ps → 2 * total_bytes ps ≤ total_length lines
unfolding total_length
few_in_lines [] ps is = omega (arith, ap total_bytes is)
few_in_lines (line ∷ lines) ps (inl skipped) = omega (arith, few_in_lines lines ps skipped.1)
few_in_lines (line ∷ lines) ps (inr read) =
    omega (arith, ap total_bytes read.5, few_in_lines lines read.3 read.6, (line_is line read.0 read.1 read.2 read.4).1)

pub few_bytes : (text : List ℕ) (ps : Pieces) → GivesPieces (lines_of text) ps → 2 * total_bytes ps ≤ length text
few_bytes text ps is = omega (arith, few_in_lines (lines_of text) ps is, lines_length text)

total_is : {A : Type 0} (pieces : List (Piece A)) → total_bytes (contents pieces) ≡ sum_by (λ p. length p.bytes) pieces
total_is [] = refl
total_is (piece ∷ pieces) = ap (λ n. length piece.bytes + n) (total_is pieces) ∙ sym (sum_by-cons (λ p. length p.bytes) piece pieces)

-- the answer of one line, in front of those of the others
pub one_more : {A : Type 0} (whole : Result Pieces ReadFault) (old new : List (Piece A)) (piece : Piece A) (before later : List (Result ReadLine ReadFault)) (at number : ℕ) (hex : List ℕ) →
    whole ≡ after (contents old) (gathered before) → before ≡ Ok (at, hex, number) ∷ later → piece.at ≡ at → pairs_of hex ≡ Some piece.bytes → new ≡ old ++ piece ∷ [] →
    whole ≡ after (contents new) (gathered later)
one_more whole old new piece before later at number hex inv step place pairs pushed =
    inv ∙ ap (λ b. after (contents old) (gathered b)) step ∙ after_line (contents old) at hex piece.bytes number later pairs
    ∙ ap (λ a. after (contents old ++ (a, piece.bytes) ∷ []) (gathered later)) (sym place)
    ∙ ap (λ f. after f (gathered later)) (sym (map-append (λ p. (p.at, p.bytes)) old (piece ∷ [])) ∙ ap contents (sym pushed))

-- what follows of an exact answer
module _ {A : Type 0} (text : List ℕ) (pieces : List (Piece A)) (exact : gathered (answers 1 (lines_of text)) ≡ Ok (contents pieces)) where
  gives : GivesPieces (lines_of text) (contents pieces)
  gives = found (lines_of text) 1 (contents pieces) exact

  pub all_small : All (λ p. IsPiece p.at p.bytes) pieces
  all_small k d inside =
      let is = small (lines_of text) (contents pieces) gives k (d.at, d.bytes) (omega (arith, inside, length-map {B = ℕ × List ℕ} pieces (λ p. (p.at, p.bytes)))) in
      let P : (ℕ × List ℕ) → Type 0 = λ p. IsPiece p.0 p.1 in
      let f : Piece A → (ℕ × List ℕ) = λ p. (p.at, p.bytes) in
      subst P (get_or-map f pieces k d (d.at, d.bytes) inside) is

  pub count_small : length pieces ≤ length (lines_of text)
  count_small = omega (arith, few_pieces (lines_of text) (contents pieces) gives, length-map {B = ℕ × List ℕ} pieces (λ p. (p.at, p.bytes)))

  pub bytes_small : 2 * sum_by (λ p. length p.bytes) pieces ≤ length text
  bytes_small = omega (arith, few_bytes text (contents pieces) gives, total_is pieces)

-- the next piece, where there is one
pub next_is : {A : Type 0} (old new : List (Result ReadLine ReadFault)) (o : Option (Piece A)) (piece : Piece A) → o ≡ Some piece → IsNextPiece old new o →
    (hex : List ℕ) × (number : ℕ) × (pairs_of hex ≡ Some piece.bytes) × (old ≡ Ok (piece.at, hex, number) ∷ new)
next_is {A} old new o piece e is = subst (IsNextPiece old new) e is
