-- A line that has a fault is none of a patch.
use Rattle.std.proofs.Common.{◌≡◌, ◌⊎◌, ℕ, ◌-◌, ◌<◌, Bool, true, false, cond, Result, Ok, Err, Some, None, Option, List, [], ◌∷◌, ◌++◌, length, drop, get_or, inl, inr, refl, sym, ap, subst, ◌∙◌, arith}
use Rattle.std.specs.List.{All}
use Rattle.std.proofs.lemmas.List.{length-append, get_or-append_right}
use Rattle.bx_read.specs.FaultTable.{IsFaultOf}
use Rattle.bx_read.specs.Grammar.{IsLine}
use Rattle.bx_read.specs.Line.{read_line}
use Rattle.bx_read.specs.declared.fault.ReadFault.{ReadFault}
use Rattle.bx_read.proofs.FaultLemmas.{fault_is_of_line}
use Rattle.bx_read.proofs.GrammarLemmas.{read_line-only}
use Rattle.bx_patch.specs.declared.read.fault.PatchFault.{PatchFault}
use Rattle.bx_patch.specs.declared.read.fault.PatchFault.TheVariants.{NoMemory, NoEnd, Line, OfNoKind, BadLength, PastLength, BadCount}
use Rattle.bx_patch.specs.Fault.{HasNoSign, IsFaultOfLine, IsNoLength, IsPast, IsToTell, TellsLines}
use Rattle.bx_patch.specs.Grammar.{EndsWithin, IsInLengths, GivesPatch, GivesSigned, IsRemark, IsSigned}
use Rattle.bx_patch.specs.Patch.{Asked, nothing_asked, Pieces}
use Rattle.bx_patch.specs.Text.{sign_of}
use Rattle.bx_patch.proofs.UniqueLemmas.{first_of, length_first, no_remark, one_piece, one_sign, remark_first, signed_first}

-- signed lines in two parts
SignedFront : List (List ℕ) → List (List ℕ) → Pieces → Pieces → Type 0
SignedFront before rest e w =
    (first second later more : Pieces) × GivesSigned before first second × GivesSigned rest later more × (e ≡ first ++ later) × (w ≡ second ++ more)

signed_front : (before rest : List (List ℕ)) (e w : Pieces) → GivesSigned (before ++ rest) e w → SignedFront before rest e w
unfolding SignedFront
signed_front [] rest e w given = ([], [], e, w, (refl, refl), given, refl, refl)
signed_front (l ∷ before) rest e w (inl a) =
    let r = signed_front before rest e w a.1 in
    (r.0, r.1, r.2, r.3, inl (a.0, r.4), r.5, r.6, r.7)
signed_front (l ∷ before) rest e w (inr (inl a)) =
    let r = signed_front before rest a.1 w a.4 in
    (a.0 ∷ r.0, r.1, r.2, r.3, inr (inl (a.0, r.0, a.2, refl, r.4)), r.5, a.3 ∙ ap (λ t. a.0 ∷ t) r.6, r.7)
signed_front (l ∷ before) rest e w (inr (inr a)) =
    let r = signed_front before rest e a.1 a.4 in
    (r.0, a.0 ∷ r.1, r.2, r.3, inr (inr (a.0, r.1, a.2, refl, r.4)), r.5, r.6, a.3 ∙ ap (λ t. a.0 ∷ t) r.7)

-- what the rest of a patch is: a patch, behind lines that count for nothing, or signed lines
abbrev pub Rest : Asked → Asked → List (List ℕ) → Type 0
Rest q p rest = ((q ≡ nothing_asked) × GivesPatch rest p)
    ⊎ ((later more : Pieces) × (p.lengths ≡ q.lengths) × (p.expected ≡ q.expected ++ later) × (p.written ≡ q.written ++ more) × GivesSigned rest later more)

pub front : (before rest : List (List ℕ)) (p : Asked) → GivesPatch (before ++ rest) p → (q : Asked) × GivesPatch before q × Rest q p rest
unfolding SignedFront
front [] rest p given = (nothing_asked, (refl, (refl, refl)), inl (refl, given))
front (l ∷ before) rest p (inl a) = let r = front before rest p a.1 in (r.0, inl (a.0, r.1), r.2)
front (l ∷ before) rest p (inr (inl a)) =
    let s = signed_front before rest p.expected p.written a.4 in
    (record { lengths = Some (a.0, a.1); expected = s.0; written = s.1 }, inr (inl (a.0, a.1, a.2, refl, s.4)), inr (s.2, s.3, a.3, s.6, s.7, s.5))
front (l ∷ before) rest p (inr (inr a)) =
    let s = signed_front (l ∷ before) rest p.expected p.written a.1 in
    (record { lengths = None; expected = s.0; written = s.1 }, inr (inr (refl, s.4)), inr (s.2, s.3, a.0, s.6, s.7, s.5))

-- no patch goes on with the line
pub record Bars (q : Asked) (line : List ℕ) : Type 0 where
  pub no_remark : IsRemark line → ⊥
  pub no_sign : (new : Bool) (piece : ℕ × List ℕ) → IsSigned new line piece → ⊥
  pub no_length : q ≡ nothing_asked → IsNoLength line

bars_signed : (q : Asked) (line : List ℕ) (after : List (List ℕ)) (e w : Pieces) → Bars q line → GivesSigned (line ∷ after) e w → ⊥
bars_signed q line after e w bars (inl a) = bars.no_remark a.0
bars_signed q line after e w bars (inr (inl a)) = bars.no_sign false a.0 a.2
bars_signed q line after e w bars (inr (inr a)) = bars.no_sign true a.0 a.2

bars_patch : (q p : Asked) (line : List ℕ) (after : List (List ℕ)) → Bars q line → q ≡ nothing_asked → GivesPatch (line ∷ after) p → ⊥
bars_patch q p line after bars none (inl a) = bars.no_remark a.0
bars_patch q p line after bars none (inr (inl a)) = bars.no_length none a.0 a.1 a.2
bars_patch q p line after bars none (inr (inr a)) = bars_signed q line after p.expected p.written bars a.1

pub bars_rest : (q p : Asked) (line : List ℕ) (after : List (List ℕ)) → Bars q line → Rest q p (line ∷ after) → ⊥
bars_rest q p line after bars (inl a) = bars_patch q p line after bars a.0 a.1
bars_rest q p line after bars (inr a) = bars_signed q line after a.0 a.1 bars a.5

-- a fault behind a sign
pub clash : {A : Type 0} (r : Result A ReadFault) (x : A) (e : ReadFault) → r ≡ Ok x → r ≡ Err e → ⊥
clash {A = A} r x e ok err = let h : ◌≡◌ {A = Result A ReadFault} (Ok x) (Err e) = sym ok ∙ err in cc

pub sign_first : (new : Bool) (line text : List ℕ) → line ≡ sign_of new ∷ text → first_of line ≡ sign_of new
sign_first new line text e = ap first_of e

pub sign_range : (new : Bool) → (42 < sign_of new) × (sign_of new < 46)
sign_range true = (omega arith, omega arith)
sign_range false = (omega arith, omega arith)

pub bars_fault : (q : Asked) (number : ℕ) (line text : List ℕ) (new : Bool) (fault : ReadFault) → line ≡ sign_of new ∷ text → IsFaultOf number text fault → Bars q line
bars_fault q number line text new fault spelled is =
    let first = sign_first new line text spelled in
    let range = sign_range new in
    record {
      no_remark = λ remark. absurd (omega (arith, first, range, remark_first line remark));
      no_sign = λ sign piece signed.
          let same : text ≡ signed.text = sym (ap (drop 1) spelled) ∙ ap (drop 1) signed.spelled in
          let line_is : IsLine text piece.0 signed.hex piece.1 = subst (λ (t : List ℕ). IsLine t piece.0 signed.hex piece.1) (sym same) signed.is in
          clash (read_line number text) (piece.0, signed.hex) fault (read_line-only number text piece.0 signed.hex piece.1 line_is) ((fault_is_of_line number text fault).1 is);
      no_length = λ none o n long. absurd (omega (arith, first, range, length_first line o n long));
    }

bars_length : (q : Asked) (line : List ℕ) → IsToTell q line → IsNoLength line → Bars q line
bars_length q line tells none =
    let first : first_of line ≡ 108 = ap first_of tells.1.1 in
    record {
      no_remark = λ remark. absurd (omega (arith, first, remark_first line remark));
      no_sign = λ new piece is. absurd (omega (arith, first, sign_range new, signed_first new line piece is));
      no_length = λ e. none;
    }

-- a word in whose place none of the others stands
pub bars_end : (q : Asked) (line : List ℕ) → first_of line ≡ 101 → Bars q line
bars_end q line first =
    record {
      no_remark = λ remark. absurd (omega (arith, first, remark_first line remark));
      no_sign = λ new piece is. absurd (omega (arith, first, sign_range new, signed_first new line piece is));
      no_length = λ none o n long. absurd (omega (arith, first, length_first line o n long));
    }

pub count_first : (line : List ℕ) → TellsLines line → first_of line ≡ 101
count_first line tells = ap first_of tells.1

bars_kind : (q : Asked) (line : List ℕ) → HasNoSign line → (IsRemark line → ⊥) → (IsToTell q line → ⊥) → Bars q line
bars_kind q line no_sign remark tells =
    record {
      no_remark = remark;
      no_sign = by;
      no_length = λ none o n long. tells (none, (_, long.spelled));
    }
  where
    by : (new : Bool) (piece : ℕ × List ℕ) → IsSigned new line piece → ⊥
    by true piece is = no_sign.0 (signed_first true line piece is)
    by false piece is = no_sign.1 (signed_first false line piece is)

-- a piece that ends behind its length isn't one of those that fit
past_fits : (l : ℕ × ℕ) (new : Bool) (piece : ℕ × List ℕ) → IsPast (Some l) new piece → EndsWithin (cond new l.1 l.0) piece → ⊥
past_fits l true piece past fits = omega (arith, past, fits)
past_fits l false piece past fits = omega (arith, past, fits)

has_piece : (n : ℕ) (first rest all : Pieces) (piece : ℕ × List ℕ) → all ≡ first ++ piece ∷ rest → All (EndsWithin n) all → EndsWithin n piece
has_piece n first rest all piece e fits =
    let k : ℕ = length first in
    let inside : k < length all = omega (arith, ap length e, length-append first (piece ∷ rest)) in
    let is : get_or all k piece ≡ piece = ap (λ ps. get_or ps k piece) e ∙ get_or-append_right first (piece ∷ rest) k k piece refl (omega arith) ∙ ap (λ j. get_or (piece ∷ rest) j piece) (let z : k - k ≡ 0 = omega arith in z) in
    subst (EndsWithin n) is (fits k piece inside)

past_signed : (l : ℕ × ℕ) (q p : Asked) (line : List ℕ) (after : List (List ℕ)) (later more : Pieces) (new : Bool) (piece : ℕ × List ℕ) →
    IsSigned new line piece → IsPast (Some l) new piece → All (EndsWithin l.0) p.expected → All (EndsWithin l.1) p.written →
    p.expected ≡ q.expected ++ later → p.written ≡ q.written ++ more → GivesSigned (line ∷ after) later more → ⊥
past_signed l q p line after later more new piece is past old others e w (inl a) = no_remark new line piece is a.0
past_signed l q p line after later more true piece is past old others e w (inr (inl a)) = one_sign line a.0 piece a.2 is
past_signed l q p line after later more false piece is past old others e w (inr (inr a)) = one_sign line piece a.0 is a.2
past_signed l q p line after later more false piece is past old others e w (inr (inl a)) =
    let same : a.0 ≡ piece = one_piece false line a.0 piece a.2 is in
    let all : p.expected ≡ q.expected ++ piece ∷ a.1 = e ∙ ap (λ ps. q.expected ++ ps) a.3 ∙ ap (λ b. q.expected ++ b ∷ a.1) same in
    past_fits l false piece past (has_piece l.0 q.expected a.1 p.expected piece all old)
past_signed l q p line after later more true piece is past old others e w (inr (inr a)) =
    let same : a.0 ≡ piece = one_piece true line a.0 piece a.2 is in
    let all : p.written ≡ q.written ++ piece ∷ a.1 = w ∙ ap (λ ps. q.written ++ ps) a.3 ∙ ap (λ b. q.written ++ b ∷ a.1) same in
    past_fits l true piece past (has_piece l.1 q.written a.1 p.written piece all others)

past_rest : (l m : Option (ℕ × ℕ)) (q p : Asked) (line : List ℕ) (after : List (List ℕ)) (new : Bool) (piece : ℕ × List ℕ) → l ≡ q.lengths → m ≡ p.lengths →
    IsSigned new line piece → IsPast l new piece → IsInLengths (record { lengths = m; expected = p.expected; written = p.written }) → Rest q p (line ∷ after) → ⊥
past_rest None m q p line after new piece e f is past fits rest = past
past_rest (Some l) m q p line after new piece e f is past fits (inl a) = let h : ◌≡◌ {A = Option (ℕ × ℕ)} (Some l) None = e ∙ ap Asked.lengths a.0 in cc
past_rest (Some l) None q p line after new piece e f is past fits (inr a) = let h : ◌≡◌ {A = Option (ℕ × ℕ)} (Some l) None = e ∙ sym a.2 ∙ sym f in cc
past_rest (Some l) (Some m) q p line after new piece e f is past fits (inr a) =
    let same : m ≡ l = some_same (f ∙ a.2 ∙ sym e) in
    let P : ℕ × ℕ → Type 0 = λ k. All (EndsWithin k.0) p.expected × All (EndsWithin k.1) p.written in
    let within : P l = subst P same fits in
    past_signed l q p line after a.0 a.1 new piece is past within.0 within.1 a.3 a.4 a.5
  where
    some_same : Some m ≡ Some l → m ≡ l
    some_same e = cc

-- a line with a fault behind lines that ask q
pub no_rest : (fault : PatchFault) (q p : Asked) (number : ℕ) (line : List ℕ) (after : List (List ℕ)) → IsFaultOfLine q number line fault → IsInLengths p → Rest q p (line ∷ after) → ⊥
no_rest NoMemory q p number line after is fits rest = is
no_rest NoEnd q p number line after is fits rest = is
no_rest (Line fault) q p number line after is fits rest = bars_rest q p line after (bars_fault q number line is.1 is.0 fault is.2 is.3) rest
no_rest (OfNoKind n) q p number line after is fits rest = bars_rest q p line after (bars_kind q line is.1 is.2 is.3) rest
no_rest (BadLength n) q p number line after is fits rest = bars_rest q p line after (bars_length q line is.1 is.2) rest
no_rest (BadCount n) q p number line after is fits rest = bars_rest q p line after (bars_end q line (count_first line is.1)) rest
no_rest (PastLength n) q p number line after is fits rest = past_rest q.lengths p.lengths q p line after is.1.0 is.1.1 refl refl is.1.2 is.1.3 fits rest
