-- A text that is read line by line.
use Rattle.std.proofs.Common.{◌≡◌, ◌≢◌, ℕ, ◌+◌, ◌<◌, ◌≤◌, ◌^◌, Bool, true, false, Result, OnOk, Ok, Err, Some, None, Option, List, [], ◌∷◌, ◌++◌, length, drop, inl, inr, refl, sym, ap, subst, ◌∙◌, append_assoc, arith}
use Rattle.std.specs.List.{All}
use Rattle.std.specs.Prelude.{IfOk, IfSome, codes}
use Rattle.std.proofs.lemmas.Bool.{cases_lt}
use Rattle.std.proofs.lemmas.List.{length-append, map-append}
use Rattle.std.proofs.lemmas.List.Elements.{All-nil, All-push}
use Rattle.bx_text.specs.declared.owned.pieces.Piece.{Piece}
use Rattle.bx_read.specs.Digits.{pairs_of}
use Rattle.bx_read.specs.Grammar.{IsLine}
use Rattle.bx_read.specs.Line.{line_piece, read_line}
use Rattle.bx_read.specs.Text.{lines_of, contents}
use Rattle.bx_read.specs.Window.{AreWholeLines}
use Rattle.bx_read.specs.declared.fault.ReadFault.{ReadFault}
use Rattle.bx_read.proofs.FullLines.{first_line}
use Rattle.bx_read.proofs.GrammarLemmas.{read_line-found}
use Rattle.bx_read.proofs.PieceLemmas.{piece_err, piece_of as line_gives}
use Rattle.bx_read.proofs.WindowLemmas.{lines_behind}
use Rattle.bx_patch.specs.declared.read.fault.PatchFault.{PatchFault}
use Rattle.bx_patch.specs.declared.read.fault.PatchFault.TheVariants.{NoEnd, OfNoKind}
use Rattle.bx_patch.specs.Fault.{IsFaultOfLine, IsFaultOfPatch, IsFaultOfRest, IsPast}
use Rattle.bx_patch.specs.Grammar.{AsksBefore, EndsWithin, IsInLengths, GivesPatch, GivesSigned, IsPatchEnd, IsLength, IsPatch, IsRemark, IsSigned}
use Rattle.bx_patch.specs.Patch.{Asked, nothing_asked, Pieces}
use Rattle.bx_patch.specs.Text.{sign_of}
use Rattle.bx_patch.specs.private.Read.{Adds, Gives, HasReadLines, HasSign}
use Rattle.bx_patch.proofs.EndLemmas.{whole_both}
use Rattle.bx_patch.proofs.LengthLemmas.{true_false}

some_same : {A : Type 0} (x y : A) → Some x ≡ Some y → x ≡ y
some_same x y h = cc

pub gives : (n : ℕ) (line : List ℕ) (at : ℕ) (hex bytes : List ℕ) → read_line n line ≡ Ok (at, hex) → pairs_of hex ≡ Some bytes → Gives line at bytes
gives n line at hex bytes read pairs =
    let is = read_line-found n line at hex read in
    (hex, subst (λ (b : List ℕ). IsLine line at hex b) (some_same is.0 bytes (sym is.1.pairs ∙ pairs)) is.1)

pub gives_same : {line bytes other : List ℕ} {at place : ℕ} → Gives line at bytes → place ≡ at → other ≡ bytes → Gives line place other
gives_same {line} {bytes} {other} {at} {place} is there same =
    subst (λ (b : List ℕ). Gives line place b) (sym same) (subst (λ (a : ℕ). Gives line a bytes) (sym there) is)

no_piece : {A : Type 0} (x : A) (o : Option A) → o ≡ None → o ≡ Some x → ⊥
no_piece x o none some = let e : None ≡ Some x = sym none ∙ some in cc

-- the same of what is known as its piece
pub gives_piece : (line : List ℕ) (at : ℕ) (bytes : List ℕ) → line_piece line ≡ Some (at, bytes) → Gives line at bytes
gives_piece line at bytes is = by (read_line 1 line) refl
  where
    by : (r : Result (ℕ × List ℕ) ReadFault) → read_line 1 line ≡ r → Gives line at bytes
    by (Err fault) e = absurd (no_piece (at, bytes) (line_piece line) (piece_err 1 line fault e) is)
    by (Ok v) e =
        let found = read_line-found 1 line v.0 v.1 e in
        let same = some_same (v.0, found.0) (at, bytes) (sym (line_gives line v.0 v.1 found.0 found.1) ∙ is) in
        gives_same (v.1, found.1) (ap (λ (p : ℕ × List ℕ). p.0) (sym same)) (ap (λ (p : ℕ × List ℕ). p.1) (sym same))

pub signed : (new : Bool) (line text : List ℕ) (at : ℕ) (bytes : List ℕ) → HasSign new line → text ≡ drop 1 line → Gives text at bytes → IsSigned new line (at, bytes)
signed new line text at bytes sign rest is =
    record { text = text; hex = is.0; spelled = sign ∙ ap (λ t. sign_of new ∷ t) (sym rest); is = is.1 }

pub small_end : (text : List ℕ) (at : ℕ) (bytes : List ℕ) → Gives text at bytes → at + length bytes < 2 ^ 63
small_end text at bytes is = omega (arith, is.1.small, is.1.few_pairs)

-- one line more behind signed ones
signed_remark : (lines : List (List ℕ)) (line : List ℕ) (e w : Pieces) → IsRemark line → GivesSigned lines e w → GivesSigned (lines ++ line ∷ []) e w
signed_remark [] line e w is given = inl (is, given)
signed_remark (l ∷ lines) line e w is (inl a) = inl (a.0, signed_remark lines line e w is a.1)
signed_remark (l ∷ lines) line e w is (inr (inl a)) = inr (inl (a.0, a.1, a.2, a.3, signed_remark lines line a.1 w is a.4))
signed_remark (l ∷ lines) line e w is (inr (inr a)) = inr (inr (a.0, a.1, a.2, a.3, signed_remark lines line e a.1 is a.4))

signed_old : (lines : List (List ℕ)) (line : List ℕ) (e w : Pieces) (piece : ℕ × List ℕ) → IsSigned false line piece → GivesSigned lines e w →
    GivesSigned (lines ++ line ∷ []) (e ++ piece ∷ []) w
signed_old [] line e w piece is given = inr (inl (piece, [], is, ap (λ t. t ++ piece ∷ []) given.0, (refl, given.1)))
signed_old (l ∷ lines) line e w piece is (inl a) = inl (a.0, signed_old lines line e w piece is a.1)
signed_old (l ∷ lines) line e w piece is (inr (inl a)) =
    inr (inl (a.0, a.1 ++ piece ∷ [], a.2, ap (λ t. t ++ piece ∷ []) a.3, signed_old lines line a.1 w piece is a.4))
signed_old (l ∷ lines) line e w piece is (inr (inr a)) = inr (inr (a.0, a.1, a.2, a.3, signed_old lines line e a.1 piece is a.4))

signed_new : (lines : List (List ℕ)) (line : List ℕ) (e w : Pieces) (piece : ℕ × List ℕ) → IsSigned true line piece → GivesSigned lines e w →
    GivesSigned (lines ++ line ∷ []) e (w ++ piece ∷ [])
signed_new [] line e w piece is given = inr (inr (piece, [], is, ap (λ t. t ++ piece ∷ []) given.1, (given.0, refl)))
signed_new (l ∷ lines) line e w piece is (inl a) = inl (a.0, signed_new lines line e w piece is a.1)
signed_new (l ∷ lines) line e w piece is (inr (inl a)) = inr (inl (a.0, a.1, a.2, a.3, signed_new lines line a.1 w piece is a.4))
signed_new (l ∷ lines) line e w piece is (inr (inr a)) =
    inr (inr (a.0, a.1 ++ piece ∷ [], a.2, ap (λ t. t ++ piece ∷ []) a.3, signed_new lines line e a.1 piece is a.4))

-- the same behind lines that may tell the lengths
patch_remark : (lines : List (List ℕ)) (line : List ℕ) (p : Asked) → IsRemark line → GivesPatch lines p → GivesPatch (lines ++ line ∷ []) p
patch_remark [] line p is given = inl (is, given)
patch_remark (l ∷ lines) line p is (inl a) = inl (a.0, patch_remark lines line p is a.1)
patch_remark (l ∷ lines) line p is (inr (inl a)) = inr (inl (a.0, a.1, a.2, a.3, signed_remark lines line p.expected p.written is a.4))
patch_remark (l ∷ lines) line p is (inr (inr a)) = inr (inr (a.0, signed_remark (l ∷ lines) line p.expected p.written is a.1))

-- with a piece more
abbrev expects : Asked → ℕ × List ℕ → Asked
expects p piece = record { lengths = p.lengths; expected = p.expected ++ piece ∷ []; written = p.written }

abbrev writes : Asked → ℕ × List ℕ → Asked
writes p piece = record { lengths = p.lengths; expected = p.expected; written = p.written ++ piece ∷ [] }

patch_old : (lines : List (List ℕ)) (line : List ℕ) (p : Asked) (piece : ℕ × List ℕ) → IsSigned false line piece → GivesPatch lines p →
    GivesPatch (lines ++ line ∷ []) (expects p piece)
patch_old [] line p piece is given = inr (inr (given.0, signed_old [] line p.expected p.written piece is given.1))
patch_old (l ∷ lines) line p piece is (inl a) = inl (a.0, patch_old lines line p piece is a.1)
patch_old (l ∷ lines) line p piece is (inr (inl a)) = inr (inl (a.0, a.1, a.2, a.3, signed_old lines line p.expected p.written piece is a.4))
patch_old (l ∷ lines) line p piece is (inr (inr a)) = inr (inr (a.0, signed_old (l ∷ lines) line p.expected p.written piece is a.1))

patch_new : (lines : List (List ℕ)) (line : List ℕ) (p : Asked) (piece : ℕ × List ℕ) → IsSigned true line piece → GivesPatch lines p →
    GivesPatch (lines ++ line ∷ []) (writes p piece)
patch_new [] line p piece is given = inr (inr (given.0, signed_new [] line p.expected p.written piece is given.1))
patch_new (l ∷ lines) line p piece is (inl a) = inl (a.0, patch_new lines line p piece is a.1)
patch_new (l ∷ lines) line p piece is (inr (inl a)) = inr (inl (a.0, a.1, a.2, a.3, signed_new lines line p.expected p.written piece is a.4))
patch_new (l ∷ lines) line p piece is (inr (inr a)) = inr (inr (a.0, signed_new (l ∷ lines) line p.expected p.written piece is a.1))

-- the lengths, behind lines that count for nothing
abbrev told : ℕ → ℕ → Asked
told old new = record { lengths = Some (old, new); expected = []; written = [] }

signed_lengths : (lines : List (List ℕ)) (line : List ℕ) (o n : ℕ) → IsLength line o n → GivesSigned lines [] [] → GivesPatch (lines ++ line ∷ []) (told o n)
signed_lengths [] line o n is given = inr (inl (o, n, is, refl, (refl, refl)))
signed_lengths (l ∷ lines) line o n is (inl a) = inl (a.0, signed_lengths lines line o n is a.1)
signed_lengths (l ∷ lines) line o n is (inr (inl a)) = absurd (omega (arith, ap length a.3))
signed_lengths (l ∷ lines) line o n is (inr (inr a)) = absurd (omega (arith, ap length a.3))

none_some : (l : ℕ × ℕ) → ◌≡◌ {A = Option (ℕ × ℕ)} None (Some l) → ⊥
none_some l e = cc

patch_lengths : (lines : List (List ℕ)) (line : List ℕ) (o n : ℕ) → IsLength line o n → GivesPatch lines nothing_asked → GivesPatch (lines ++ line ∷ []) (told o n)
patch_lengths [] line o n is given = inr (inl (o, n, is, refl, (refl, refl)))
patch_lengths (l ∷ lines) line o n is (inl a) = inl (a.0, patch_lengths lines line o n is a.1)
patch_lengths (l ∷ lines) line o n is (inr (inl a)) = absurd (none_some (a.0, a.1) a.3)
patch_lengths (l ∷ lines) line o n is (inr (inr a)) = signed_lengths (l ∷ lines) line o n is a.1

-- what a line adds
pub adds_remark : (line : List ℕ) (p : Asked) → IsRemark line → Adds p line p
adds_remark line p is = λ before given fits. (patch_remark before line p is given, fits)

pub adds_lengths : (line : List ℕ) (p : Asked) (o n : ℕ) → p ≡ nothing_asked → IsLength line o n →
    Adds p line (record { lengths = Some (o, n); expected = p.expected; written = p.written })
adds_lengths line p o n e is =
    subst (λ (q : Asked). Adds q line (record { lengths = Some (o, n); expected = q.expected; written = q.written })) (sym e)
    (λ before given fits. (patch_lengths before line o n is given, (All-nil (EndsWithin o), All-nil (EndsWithin n))))

not_past : (a b : ℕ) → (a < b → ⊥) → b ≤ a
not_past a b apart = elim (cases_lt a b) [ inl past ↦ absurd (apart past) | inr fits ↦ fits ]

fits_old : (l : Option (ℕ × ℕ)) (e w : Pieces) (piece : ℕ × List ℕ) → (IsPast l false piece → ⊥) → IsInLengths (record { lengths = l; expected = e; written = w }) →
    IsInLengths (record { lengths = l; expected = e ++ piece ∷ []; written = w })
fits_old None e w piece apart fits = tt
fits_old (Some l) e w piece apart fits = (All-push (EndsWithin l.0) e piece fits.0 (not_past l.0 (piece.0 + length piece.1) apart), fits.1)

fits_new : (l : Option (ℕ × ℕ)) (e w : Pieces) (piece : ℕ × List ℕ) → (IsPast l true piece → ⊥) → IsInLengths (record { lengths = l; expected = e; written = w }) →
    IsInLengths (record { lengths = l; expected = e; written = w ++ piece ∷ [] })
fits_new None e w piece apart fits = tt
fits_new (Some l) e w piece apart fits = (fits.0, All-push (EndsWithin l.1) w piece fits.1 (not_past l.1 (piece.0 + length piece.1) apart))

pub adds_old : (line : List ℕ) (p : Asked) (piece : ℕ × List ℕ) (e : Pieces) → IsSigned false line piece → (IsPast p.lengths false piece → ⊥) → e ≡ p.expected ++ piece ∷ [] →
    Adds p line (record { lengths = p.lengths; expected = e; written = p.written })
adds_old line p piece e is apart more =
    subst (λ (ps : Pieces). Adds p line (record { lengths = p.lengths; expected = ps; written = p.written })) (sym more)
    (λ before given fits. (patch_old before line p piece is given, fits_old p.lengths p.expected p.written piece apart fits))

pub adds_new : (line : List ℕ) (p : Asked) (piece : ℕ × List ℕ) (w : Pieces) → IsSigned true line piece → (IsPast p.lengths true piece → ⊥) → w ≡ p.written ++ piece ∷ [] →
    Adds p line (record { lengths = p.lengths; expected = p.expected; written = w })
adds_new line p piece w is apart more =
    subst (λ (ps : Pieces). Adds p line (record { lengths = p.lengths; expected = p.expected; written = ps })) (sym more)
    (λ before given fits. (patch_new before line p piece is given, fits_new p.lengths p.expected p.written piece apart fits))

pub contents_more : {A : Type 0} (old new : List (Piece A)) (piece : Piece A) → new ≡ old ++ piece ∷ [] → contents new ≡ contents old ++ (piece.at, piece.bytes) ∷ []
contents_more old new piece e = ap contents e ∙ map-append (λ piece. (piece.at, piece.bytes)) old (piece ∷ [])

pub OnOk-map : {T E P Q : Type 0} (r : Result T E) → (P → Q) → OnOk r P → OnOk r Q
OnOk-map (Ok t) f p = f p
OnOk-map (Err e) f p = tt

pub IfOk-map : {T E : Type 0} {P Q : T → Type 0} (r : Result T E) → ((t : T) → P t → Q t) → IfOk r P → IfOk r Q
IfOk-map (Ok t) f p = f t p
IfOk-map (Err e) f p = tt

pub IfSome-map : {T : Type 0} {P Q : T → Type 0} (o : Option T) → ((t : T) → P t → Q t) → IfSome o P → IfSome o Q
IfSome-map (Some t) f p = f t p
IfSome-map None f p = tt

-- a text before its first line is read
pub read_none : (text : List ℕ) (p : Asked) → p ≡ nothing_asked → HasReadLines text text 0 p
read_none text p e =
    let first : AsksBefore text [] text nothing_asked = record { spelled = refl; whole = inl refl; gives = (refl, (refl, refl)); fits = tt } in
    record { lines = []; before = subst (λ (q : Asked). AsksBefore text [] text q) (sym e) first; count = refl }

-- a piece that doesn't end behind the length of its image
pub within : (past : Bool) (l : Option (ℕ × ℕ)) (new side : Bool) (piece : ℕ × List ℕ) → new ≡ side → past ≡ false → (IsPast l new piece → past ≡ true) →
    IsPast l side piece → ⊥
within past l new side piece same fits is ends =
    true_false past (is (subst (λ (b : Bool). IsPast l b piece) (sym same) ends)) fits

-- a line further
pub read_on : (text rest later line : List ℕ) (n : ℕ) (old new : Asked) → rest ≡ line ++ 10 ∷ later → All (λ c. c ≢ 10) line → HasReadLines text rest n old →
    Adds old line new → HasReadLines text later (n + 1) new
read_on text rest later line n old new step one have adds =
    let next = adds (lines_of have.lines) have.before.gives have.before.fits in
    let whole : AreWholeLines (line ++ 10 ∷ []) = inr (line, refl) in
    let all : lines_of (have.lines ++ (line ++ 10 ∷ [])) ≡ lines_of have.lines ++ line ∷ [] =
    lines_behind have.lines (line ++ 10 ∷ []) have.before.whole ∙ ap (λ ls. lines_of have.lines ++ ls) (first_line line [] one) in
    let spelled : text ≡ (have.lines ++ (line ++ 10 ∷ [])) ++ later =
    have.before.spelled ∙ ap (λ t. have.lines ++ t) (step ∙ sym (append_assoc line (10 ∷ []) later)) ∙ sym (append_assoc have.lines (line ++ 10 ∷ []) later) in
    record {
      lines = have.lines ++ (line ++ 10 ∷ []);
      before = record {
        spelled = spelled;
        whole = whole_both have.lines (line ++ 10 ∷ []) have.before.whole whole;
        gives = subst (λ (ls : List (List ℕ)). GivesPatch ls new) (sym all) next.0;
        fits = next.1;
      };
      count = omega (arith, have.count, ap length all, length-append (lines_of have.lines) (line ∷ []));
    }

-- to the end
pub read_end : (text rest later line : List ℕ) (n : ℕ) (p : Asked) → rest ≡ line ++ 10 ∷ later → IsPatchEnd n line → later ≡ [] → HasReadLines text rest n p → IsPatch text p
read_end text rest later line n p step end none have =
    let all : rest ≡ line ++ codes "\n" = step ∙ ap (λ t. line ++ 10 ∷ t) none in
    record {
      lines = have.lines;
      last = line;
      before = subst (λ (t : List ℕ). AsksBefore text have.lines t p) all have.before;
      ends = subst (λ (k : ℕ). IsPatchEnd k line) have.count end;
    }

-- a rest that has a fault
pub refused : (text rest : List ℕ) (n : ℕ) (p : Asked) (fault : PatchFault) → HasReadLines text rest n p → IsFaultOfRest p n rest fault → IsFaultOfPatch text fault
refused text rest n p fault have is =
    record { lines = have.lines; rest = rest; asked = p; before = have.before; is = subst (λ (k : ℕ). IsFaultOfRest p k rest fault) have.count is }

pub refused_line : (text rest later line : List ℕ) (n : ℕ) (p : Asked) (fault : PatchFault) → rest ≡ line ++ 10 ∷ later → All (λ c. c ≢ 10) line → (IsPatchEnd n line → ⊥) →
    HasReadLines text rest n p → IsFaultOfLine p (n + 1) line fault → IsFaultOfPatch text fault
refused_line text rest later line n p fault step one other have is =
    refused text rest n p fault have (inr (inr (record { line = line; later = later; spelled = step; one = one; no_end = other; is = is })))

pub refused_behind : (text rest later line : List ℕ) (n : ℕ) (p : Asked) (fault : PatchFault) → rest ≡ line ++ 10 ∷ later → IsPatchEnd n line →
    HasReadLines text rest n p → (fault ≡ OfNoKind (n + 2)) × (0 < length later) → IsFaultOfPatch text fault
refused_behind text rest later line n p fault step end have is =
    subst (λ (f : PatchFault). IsFaultOfPatch text f) (sym is.0) (refused text rest n p (OfNoKind (n + 2)) have (inr (inl (refl, (line, later, end, step, is.1)))))

pub refused_cut : (text rest : List ℕ) (n : ℕ) (p : Asked) → All (λ c. c ≢ 10) rest → HasReadLines text rest n p → IsFaultOfPatch text NoEnd
refused_cut text rest n p none have = refused text rest n p NoEnd have (inl none)
