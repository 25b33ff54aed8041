-- The address and the bytes of a line.
use Rattle.std.proofs.Common.{◌≡◌, ℕ, ◌+◌, ◌<◌, ◌≤◌, true, false, Option, None, Some, Result, Ok, Err, List, [], ◌∷◌, ◌++◌, length, refl, arith, sym, ap, ◌∙◌, leb, ◌&&◌, cond, eqb, ⊎_elim}
use Rattle.std.specs.Option.{option_map, option_map_or, option_and_then}
use Rattle.std.specs.Result.{MatchResult, result_ok}
use Rattle.std.proofs.lemmas.Bool.{leb-true, cases_lt}
use Rattle.std.proofs.lemmas.List.{length-append}
use Rattle.bx_read.specs.Digits.{is_hex, pairs_of, pair_value}
use Rattle.bx_read.specs.private.Digits.{few_pairs}
use Rattle.bx_read.specs.Line.{read_line, line_piece}
use Rattle.bx_read.specs.Grammar.{IsLine}
use Rattle.bx_read.specs.declared.fault.ReadFault.{ReadFault}
use Rattle.bx_read.proofs.GrammarLemmas.{read_line-found, read_line-only, ok_same, guard_some, unmap}
use Rattle.bx_read.proofs.PairsLemmas.{pairs_of-short}

-- what is read doesn't hang on the number of the line
read_same : (m n : ℕ) (text : List ℕ) (x : ℕ × List ℕ) → read_line m text ≡ Ok x → read_line n text ≡ Ok x
read_same m n text x e =
    let found = read_line-found m text x.0 x.1 e in
    read_line-only n text x.0 x.1 found.0 found.1

piece_of_read : (r : Result (ℕ × List ℕ) ReadFault) → Option (ℕ × List ℕ)
piece_of_read r = option_and_then (λ read. option_map (λ bytes. (read.0, bytes)) (pairs_of read.1)) (result_ok r)

pub piece_ok : (n : ℕ) (text : List ℕ) (at : ℕ) (hex : List ℕ) → read_line n text ≡ Ok (at, hex) → line_piece text ≡ option_map (λ bytes. (at, bytes)) (pairs_of hex)
unfolding piece_of_read
piece_ok n text at hex e = ap piece_of_read (read_same n 1 text (at, hex) e)

pub piece_err : (n : ℕ) (text : List ℕ) (fault : ReadFault) → read_line n text ≡ Err fault → line_piece text ≡ None
unfolding piece_of_read
piece_err n text fault e = go (read_line 1 text) refl
  where
    go : (r : Result (ℕ × List ℕ) ReadFault) → read_line 1 text ≡ r → piece_of_read r ≡ None
    go (Err f) is = refl
    go (Ok x) is = let other = read_same 1 n text x is in cc

pub piece_same : {X : Type 0} (f : X → ℕ) (g : X → List ℕ) (n : ℕ) (text : List ℕ) (r : Result X ReadFault) →
    MatchResult r (λ l. read_line n text ≡ Ok (f l, g l)) (λ e. read_line n text ≡ Err e) →
    MatchResult r (λ l. line_piece text ≡ option_map (λ bytes. (f l, bytes)) (pairs_of (g l))) (λ e. line_piece text ≡ None)
piece_same f g n text (Ok l) is = piece_ok n text (f l) (g l) is
piece_same f g n text (Err e) is = piece_err n text e is

-- a line gives its piece
pub piece_of : (text : List ℕ) (at : ℕ) (hex bytes : List ℕ) → IsLine text at hex bytes → line_piece text ≡ Some (at, bytes)
piece_of text at hex bytes is = piece_ok 1 text at hex (read_line-only 1 text at hex bytes is) ∙ ap (option_map (λ bytes. (at, bytes))) is.pairs

some_same : {A : Type 0} (x y : A) → Some x ≡ Some y → x ≡ y
some_same x y h = cc

pub unique : (text hex other_hex bytes other_bytes : List ℕ) (at other_at : ℕ) → IsLine text at hex bytes → IsLine text other_at other_hex other_bytes →
    (at ≡ other_at) × (hex ≡ other_hex) × (bytes ≡ other_bytes)
unique text hex other_hex bytes other_bytes at other_at a b =
    let same = ok_same (at, hex) (other_at, other_hex) (sym (read_line-only 1 text at hex bytes a) ∙ read_line-only 1 text other_at other_hex other_bytes b) in
    let hexes : hex ≡ other_hex = ap (λ p. p.1) same in
    (ap (λ p. p.0) same, hexes, some_same bytes other_bytes (sym a.pairs ∙ ap pairs_of hexes ∙ b.pairs))

-- pairs are at least one byte
pub some_bytes : (hex bytes : List ℕ) → pairs_of hex ≡ Some bytes → 0 < length bytes
some_bytes [] bytes h = cc
some_bytes (c ∷ []) bytes h = cc
some_bytes (c ∷ d ∷ []) bytes h =
    let inner = guard_some (is_hex c && is_hex d) (Some (pair_value c d ∷ [])) bytes h in
    omega (arith, ap length (some_same (pair_value c d ∷ []) bytes inner.1))
some_bytes (c ∷ d ∷ n ∷ rest) bytes h =
    let o = cond (eqb n 32) (pairs_of rest) (pairs_of (n ∷ rest)) in
    let inner = guard_some (is_hex c && is_hex d) (option_map (λ more. pair_value c d ∷ more) o) bytes h in
    let more = unmap (λ more. pair_value c d ∷ more) o bytes inner.1 in
    let same : bytes ≡ pair_value c d ∷ more.0 = sym (some_same (pair_value c d ∷ more.0) bytes (sym (ap (option_map (λ more. pair_value c d ∷ more)) more.1) ∙ inner.1)) in
    omega (arith, ap length same)

-- the bytes of at most 256 pairs
pub few_some : (hex : List ℕ) → few_pairs hex ≡ true → (bytes : List ℕ) × (pairs_of hex ≡ Some bytes) × (length bytes ≤ 256)
few_some hex h = go (pairs_of hex) refl h
  where
    go : (o : Option (List ℕ)) → pairs_of hex ≡ o → option_map_or (λ count. leb count 256) (option_map length o) false ≡ true →
        (bytes : List ℕ) × (pairs_of hex ≡ Some bytes) × (length bytes ≤ 256)
    go None e k = cc
    go (Some bytes) e k = (bytes, e, leb-true (length bytes) 256 k)

-- the bytes of the rest, where those in front are known
pub rest_of : (hex rest front : List ℕ) → few_pairs hex ≡ true → pairs_of hex ≡ option_map (λ more. front ++ more) (pairs_of rest) →
    (more : List ℕ) × (pairs_of rest ≡ Some more) × (0 < length more) × (length front + length more ≤ 256)
rest_of hex rest front few all =
    let bytes = few_some hex few in
    let more = unmap (λ more. front ++ more) (pairs_of rest) bytes.0 (sym all ∙ bytes.1) in
    let same : front ++ more.0 ≡ bytes.0 = some_same (front ++ more.0) bytes.0 (sym (all ∙ ap (option_map (λ more. front ++ more)) more.1) ∙ bytes.1) in
    (more.0, more.1, some_bytes rest more.0 more.1, omega (arith, bytes.2, ap length same, length-append front more.0))

-- and so there are two digits at least
pub long_enough : (rest more : List ℕ) → pairs_of rest ≡ Some more → 2 ≤ length rest
long_enough rest more e = ⊎_elim (λ short. let none = pairs_of-short rest (omega arith) in cc) (λ h. h) (cases_lt (length rest) 2)
