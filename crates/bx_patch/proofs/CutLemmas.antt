-- A text has one fault at most, one that has a fault is no patch, and no front of a patch is one.
use Rattle.std.proofs.Common.{◌≡◌, ◌≢◌, ◌⊎◌, ℕ, ◌+◌, ◌<◌, ◌≤◌, Bool, true, false, Result, Err, Some, None, Option, List, [], ◌∷◌, ◌++◌, length, drop, inl, inr, refl, sym, ap, subst, ◌∙◌, append_assoc, append-nil, arith}
use Rattle.std.specs.List.{All}
use Rattle.std.specs.Prelude.{codes}
use Rattle.std.proofs.lemmas.Bool.{cases_lt}
use Rattle.std.proofs.lemmas.List.{length-append}
use Rattle.std.proofs.lemmas.List.Elements.{All-cons, All-head, All-nil, All-tail}
use Rattle.bx_read.specs.FaultTable.{IsFaultOf}
use Rattle.bx_read.specs.Text.{lines_of}
use Rattle.bx_read.specs.Window.{AreWholeLines}
use Rattle.bx_read.specs.declared.fault.ReadFault.{ReadFault}
use Rattle.bx_read.proofs.FaultLemmas.{fault_is_of_line}
use Rattle.bx_read.proofs.FullLines.{first_line}
use Rattle.bx_read.proofs.WindowLemmas.{lines_behind}
use Rattle.bx_patch.specs.declared.read.fault.PatchFault.{PatchFault}
use Rattle.bx_patch.specs.declared.read.fault.PatchFault.TheVariants.{NoMemory, NoEnd, Line, OfNoKind, BadLength, PastLength, BadCount}
use Rattle.bx_patch.specs.Fault.{BeginsWrong, FaultIsOfPatch, GoesOnBehind, HasNoSign, IsCutOff, IsFaultOfLine, IsFaultOfPatch, IsFaultOfRest, IsToTell, PatchFaultIsUnique}
use Rattle.bx_patch.specs.Grammar.{AsksBefore, EndsWithin, IsPatchEnd, GivesPatch, IsInLengths, IsPatch}
use Rattle.bx_patch.specs.Laws.{FrontOfAnyIsRefused}
use Rattle.bx_patch.specs.Patch.{Asked, Pieces}
use Rattle.bx_patch.specs.Text.{sign_of}
use Rattle.bx_patch.proofs.EndLemmas.{Parted, first_whole, longer_front, no_newline, parted, same_line, whole_behind}
use Rattle.bx_patch.proofs.LineLemmas.{end_one}
use Rattle.bx_patch.proofs.RefusalLemmas.{Rest, bars_end, bars_fault, bars_rest, count_first, front as front_lines, no_rest, sign_first, sign_range}
use Rattle.bx_patch.proofs.UniqueLemmas.{first_of, one_patch, signed_first}

-- the last line is none of those before it
end_first : (n : ℕ) (line : List ℕ) → IsPatchEnd n line → first_of line ≡ 101
end_first n line (inl is) = ap first_of is
end_first n line (inr is) = ap first_of is

-- a text that is read up to a rest, and further on
pub record GoesFurther (p q : Asked) (rest later : List ℕ) : Type 0 where
  pub more : List ℕ
  pub some : 0 < length more
  pub whole : AreWholeLines more
  pub spelled : rest ≡ more ++ later
  pub goes : Rest p q (lines_of more)
  pub fits : IsInLengths q

further : (text a rest b later : List ℕ) (p q : Asked) → AsksBefore text a rest p → AsksBefore text b later q → length a < length b → GoesFurther p q rest later
further text a rest b later p q one two less =
    let m = longer_front a rest b later (sym one.spelled ∙ two.spelled) (omega (arith, less)) in
    let all : lines_of b ≡ lines_of a ++ lines_of m.0 = ap lines_of m.1 ∙ lines_behind a m.0 one.whole in
    let given : GivesPatch (lines_of a ++ lines_of m.0) q = subst (λ (ls : List (List ℕ)). GivesPatch ls q) all two.gives in
    let cut = front_lines (lines_of a) (lines_of m.0) q given in
    let same : cut.0 ≡ p = one_patch (lines_of a) cut.0 p cut.1 one.gives in
    record {
      more = m.0;
      some = omega (arith, less, ap length m.1, length-append a m.0);
      whole = whole_behind a m.0 (subst AreWholeLines m.1 two.whole);
      spelled = m.2;
      goes = subst (λ (r : Asked). Rest r q (lines_of m.0)) same cut.2;
      fits = two.fits;
    }

end_further : (p q : Asked) (n : ℕ) (rest later last more : List ℕ) → GoesFurther p q rest later → IsPatchEnd n last → rest ≡ last ++ 10 ∷ more → ⊥
end_further p q n rest later last more go ends e =
    let one = end_one n last ends in
    let first = first_whole go.more later last more go.whole go.some one (sym go.spelled ∙ e) in
    let lines : lines_of go.more ≡ last ∷ lines_of first.0 = ap lines_of first.1 ∙ first_line last first.0 one in
    bars_rest p q last (lines_of first.0) (bars_end p last (end_first n last ends)) (subst (λ (ls : List (List ℕ)). Rest p q ls) lines go.goes)

cut_further : (p q : Asked) (rest later : List ℕ) → GoesFurther p q rest later → All (λ c. c ≢ 10) rest → ⊥
cut_further p q rest later go none = by go.whole
  where
    by : AreWholeLines go.more → ⊥
    by (inl empty) = absurd (omega (arith, go.some, ap length empty))
    by (inr (front, is)) =
        let e : rest ≡ front ++ 10 ∷ later = go.spelled ∙ ap (λ t. t ++ later) is ∙ append_assoc front (10 ∷ []) later in
        no_newline front later (subst (λ (t : List ℕ). All (λ c. c ≢ 10) t) e none)

wrong_further : (p q : Asked) (count : ℕ) (rest later : List ℕ) (fault : PatchFault) → GoesFurther p q rest later → BeginsWrong p count rest fault → ⊥
wrong_further p q count rest later fault go wrong =
    let first = first_whole go.more later wrong.line wrong.later go.whole go.some wrong.one (sym go.spelled ∙ wrong.spelled) in
    let lines : lines_of go.more ≡ wrong.line ∷ lines_of first.0 = ap lines_of first.1 ∙ first_line wrong.line first.0 wrong.one in
    no_rest fault p q (count + 1) wrong.line (lines_of first.0) wrong.is go.fits (subst (λ (ls : List (List ℕ)). Rest p q ls) lines go.goes)

cut_is : (rest : List ℕ) (fault : PatchFault) → IsCutOff rest fault → (fault ≡ NoEnd) × All (λ c. c ≢ 10) rest
cut_is rest NoEnd is = (refl, is)
cut_is rest NoMemory is = absurd is
cut_is rest (Line f) is = absurd is
cut_is rest (OfNoKind n) is = absurd is
cut_is rest (BadLength n) is = absurd is
cut_is rest (PastLength n) is = absurd is
cut_is rest (BadCount n) is = absurd is

-- what stands behind the last line
record GoesOn (count : ℕ) (rest : List ℕ) (fault : PatchFault) : Type 0 where
  last : List ℕ
  more : List ℕ
  is : fault ≡ OfNoKind (count + 2)
  ends : IsPatchEnd count last
  spelled : rest ≡ last ++ 10 ∷ more
  some : 0 < length more

behind_is : (count : ℕ) (rest : List ℕ) (fault : PatchFault) → GoesOnBehind count rest fault → GoesOn count rest fault
behind_is count rest (OfNoKind n) is = record { last = is.1.0; more = is.1.1; is = ap (λ k. OfNoKind k) is.0; ends = is.1.2; spelled = is.1.3; some = is.1.4 }
behind_is count rest NoEnd is = absurd is
behind_is count rest NoMemory is = absurd is
behind_is count rest (Line f) is = absurd is
behind_is count rest (BadLength n) is = absurd is
behind_is count rest (PastLength n) is = absurd is
behind_is count rest (BadCount n) is = absurd is

-- no text is read further than to its fault
fault_further : (p q : Asked) (count : ℕ) (rest later : List ℕ) (fault : PatchFault) → GoesFurther p q rest later → IsFaultOfRest p count rest fault → ⊥
fault_further p q count rest later fault go (inl is) = cut_further p q rest later go (cut_is rest fault is).1
fault_further p q count rest later fault go (inr (inl is)) =
    let on = behind_is count rest fault is in
    end_further p q count rest later on.last on.more go on.ends on.spelled
fault_further p q count rest later fault go (inr (inr is)) = wrong_further p q count rest later fault go is

-- the last line alone has no fault
fault_end : (p : Asked) (count : ℕ) (rest last : List ℕ) (fault : PatchFault) → IsPatchEnd count last → rest ≡ last ++ 10 ∷ [] → IsFaultOfRest p count rest fault → ⊥
fault_end p count rest last fault ends e (inl is) = no_newline last [] (subst (λ (t : List ℕ). All (λ c. c ≢ 10) t) e (cut_is rest fault is).1)
fault_end p count rest last fault ends e (inr (inl is)) =
    let on = behind_is count rest fault is in
    let same = same_line last on.last [] on.more (end_one count last ends) (end_one count on.last on.ends) (sym e ∙ on.spelled) in
    absurd (omega (arith, ap length same.1, on.some))
fault_end p count rest last fault ends e (inr (inr is)) =
    let same = same_line last is.line [] is.later (end_one count last ends) is.one (sym e ∙ is.spelled) in
    is.no_end (subst (IsPatchEnd count) same.0 ends)

pub no_bytes : (t : List ℕ) → length t ≡ 0 → t ≡ []
no_bytes [] e = refl
no_bytes (c ∷ t) e = absurd (omega arith)

-- two fronts of a text that are as long are the same
same_front : (a rest b later : List ℕ) → a ++ rest ≡ b ++ later → length a ≤ length b → length b ≤ length a → (a ≡ b) × (rest ≡ later)
same_front a rest b later e most least =
    let m = longer_front a rest b later e most in
    let none : m.0 ≡ [] = no_bytes m.0 (omega (arith, least, ap length m.1, length-append a m.0)) in
    (sym (append-nil a) ∙ ap (λ t. a ++ t) (sym none) ∙ sym m.1, m.2 ∙ ap (λ t. t ++ later) none)

pub fault_is_of_patch : FaultIsOfPatch
fault_is_of_patch text fault p of is =
    let one = of.before in
    let two = is.before in
    let count : ℕ = length (lines_of of.lines) in
    let last = is.last ++ codes "\n" in
    elim (cases_lt (length of.lines) (length is.lines)) [
      | inl less ↦ fault_further of.asked p count of.rest last fault (further text of.lines of.rest is.lines last of.asked p one two less) of.is
      | inr most ↦ elim (cases_lt (length is.lines) (length of.lines)) [
        | inl more ↦ end_further p of.asked (length (lines_of is.lines)) last of.rest is.last [] (further text is.lines last of.lines of.rest p of.asked two one more) is.ends refl
        | inr least ↦
            let same = same_front of.lines of.rest is.lines last (sym one.spelled ∙ two.spelled) least most in
            let ends = subst (λ (t : List ℕ). IsPatchEnd (length (lines_of t)) is.last) (sym same.0) is.ends in
            fault_end of.asked count of.rest is.last fault ends same.1 of.is
      ]
    ]

-- a text is the patch of one request
pub one_request : (text : List ℕ) (p q : Asked) → IsPatch text p → IsPatch text q → p ≡ q
one_request text p q a b =
    let one = a.before in
    let two = b.before in
    let first = a.last ++ codes "\n" in
    let second = b.last ++ codes "\n" in
    elim (cases_lt (length a.lines) (length b.lines)) [
      | inl less ↦ absurd (end_further p q (length (lines_of a.lines)) first second a.last [] (further text a.lines first b.lines second p q one two less) a.ends refl)
      | inr most ↦ elim (cases_lt (length b.lines) (length a.lines)) [
        | inl more ↦ absurd (end_further q p (length (lines_of b.lines)) second first b.last [] (further text b.lines second a.lines first q p two one more) b.ends refl)
        | inr least ↦
            let same = same_front a.lines first b.lines second (sym one.spelled ∙ two.spelled) least most in
            one_patch (lines_of b.lines) p q (subst (λ (t : List ℕ). GivesPatch (lines_of t) p) same.0 one.gives) two.gives
      ]
    ]

-- a line has one fault at most
err_same : (n : ℕ) (text : List ℕ) (a b : ReadFault) → IsFaultOf n text a → IsFaultOf n text b → a ≡ b
err_same n text a b one two = same (sym ((fault_is_of_line n text a).1 one) ∙ (fault_is_of_line n text b).1 two)
  where
    same : ◌≡◌ {A = Result (ℕ × List ℕ) ReadFault} (Err a) (Err b) → a ≡ b
    same e = cc

to_tell_first : (q : Asked) (line : List ℕ) → IsToTell q line → first_of line ≡ 108
to_tell_first q line tells = ap first_of tells.1.1

sign_bars : (line text : List ℕ) (new : Bool) → line ≡ sign_of new ∷ text → HasNoSign line → ⊥
sign_bars line text true e none = none.0 (sign_first true line text e)
sign_bars line text false e none = none.1 (sign_first false line text e)

line_fault : (q : Asked) (n : ℕ) (line : List ℕ) (a b : PatchFault) → IsFaultOfLine q n line a → IsFaultOfLine q n line b → a ≡ b
line_fault q n line NoMemory b one two = absurd one
line_fault q n line NoEnd b one two = absurd one
line_fault q n line a NoMemory one two = absurd two
line_fault q n line a NoEnd one two = absurd two
line_fault q n line (Line a) (Line b) one two =
    let text : two.1 ≡ one.1 = sym (ap (drop 1) two.2) ∙ ap (drop 1) one.2 in
    ap Line (err_same n one.1 a b one.3 (subst (λ (t : List ℕ). IsFaultOf n t b) text two.3))
line_fault q n line (Line a) (BadCount b) one two =
    absurd (omega (arith, count_first line two.1, sign_first one.0 line one.1 one.2, sign_range one.0))
line_fault q n line (OfNoKind a) (BadCount b) one two = absurd (one.4 two.1)
line_fault q n line (BadLength a) (BadCount b) one two = absurd (omega (arith, count_first line two.1, to_tell_first q line one.1))
line_fault q n line (PastLength a) (BadCount b) one two =
    absurd (omega (arith, count_first line two.1, signed_first one.1.0 line one.1.1 one.1.2, sign_range one.1.0))
line_fault q n line (BadCount a) (Line b) one two =
    absurd (omega (arith, count_first line one.1, sign_first two.0 line two.1 two.2, sign_range two.0))
line_fault q n line (BadCount a) (OfNoKind b) one two = absurd (two.4 one.1)
line_fault q n line (BadCount a) (BadLength b) one two = absurd (omega (arith, count_first line one.1, to_tell_first q line two.1))
line_fault q n line (BadCount a) (PastLength b) one two =
    absurd (omega (arith, count_first line one.1, signed_first two.1.0 line two.1.1 two.1.2, sign_range two.1.0))
line_fault q n line (BadCount a) (BadCount b) one two = ap (λ k. BadCount k) (one.0 ∙ sym two.0)
line_fault q n line (Line a) (OfNoKind b) one two = absurd (sign_bars line one.1 one.0 one.2 two.1)
line_fault q n line (Line a) (BadLength b) one two =
    absurd (omega (arith, to_tell_first q line two.1, sign_first one.0 line one.1 one.2, sign_range one.0))
line_fault q n line (Line a) (PastLength b) one two =
    let bars = bars_fault q n line one.1 one.0 a one.2 one.3 in absurd (bars.no_sign two.1.0 two.1.1 two.1.2)
line_fault q n line (OfNoKind a) (Line b) one two = absurd (sign_bars line two.1 two.0 two.2 one.1)
line_fault q n line (OfNoKind a) (OfNoKind b) one two = ap (λ k. OfNoKind k) (one.0 ∙ sym two.0)
line_fault q n line (OfNoKind a) (BadLength b) one two = absurd (one.3 two.1)
line_fault q n line (OfNoKind a) (PastLength b) one two = absurd (sign_bars line two.1.2.text two.1.0 two.1.2.spelled one.1)
line_fault q n line (BadLength a) (Line b) one two =
    absurd (omega (arith, to_tell_first q line one.1, sign_first two.0 line two.1 two.2, sign_range two.0))
line_fault q n line (BadLength a) (OfNoKind b) one two = absurd (two.3 one.1)
line_fault q n line (BadLength a) (BadLength b) one two = ap (λ k. BadLength k) (one.0 ∙ sym two.0)
line_fault q n line (BadLength a) (PastLength b) one two =
    absurd (omega (arith, to_tell_first q line one.1, signed_first two.1.0 line two.1.1 two.1.2, sign_range two.1.0))
line_fault q n line (PastLength a) (Line b) one two =
    let bars = bars_fault q n line two.1 two.0 b two.2 two.3 in absurd (bars.no_sign one.1.0 one.1.1 one.1.2)
line_fault q n line (PastLength a) (OfNoKind b) one two = absurd (sign_bars line one.1.2.text one.1.0 one.1.2.spelled two.1)
line_fault q n line (PastLength a) (BadLength b) one two =
    absurd (omega (arith, to_tell_first q line two.1, signed_first one.1.0 line one.1.1 one.1.2, sign_range one.1.0))
line_fault q n line (PastLength a) (PastLength b) one two = ap (λ k. PastLength k) (one.0 ∙ sym two.0)

-- and so has a rest
cut_other : (q : Asked) (n : ℕ) (rest : List ℕ) (b : PatchFault) → All (λ c. c ≢ 10) rest → GoesOnBehind n rest b ⊎ BeginsWrong q n rest b → ⊥
cut_other q n rest b none (inl is) =
    let on = behind_is n rest b is in
    no_newline on.last on.more (subst (λ (t : List ℕ). All (λ c. c ≢ 10) t) on.spelled none)
cut_other q n rest b none (inr is) = no_newline is.line is.later (subst (λ (t : List ℕ). All (λ c. c ≢ 10) t) is.spelled none)

behind_wrong : (q : Asked) (n : ℕ) (rest : List ℕ) (a b : PatchFault) → GoesOnBehind n rest a → BeginsWrong q n rest b → ⊥
behind_wrong q n rest a b is wrong =
    let on = behind_is n rest a is in
    let same = same_line on.last wrong.line on.more wrong.later (end_one n on.last on.ends) wrong.one (sym on.spelled ∙ wrong.spelled) in
    wrong.no_end (subst (IsPatchEnd n) same.0 on.ends)

rest_fault : (q : Asked) (n : ℕ) (rest : List ℕ) (a b : PatchFault) → IsFaultOfRest q n rest a → IsFaultOfRest q n rest b → a ≡ b
rest_fault q n rest a b (inl one) (inl two) = (cut_is rest a one).0 ∙ sym (cut_is rest b two).0
rest_fault q n rest a b (inl one) (inr two) = absurd (cut_other q n rest b (cut_is rest a one).1 two)
rest_fault q n rest a b (inr one) (inl two) = absurd (cut_other q n rest a (cut_is rest b two).1 one)
rest_fault q n rest a b (inr (inl one)) (inr (inl two)) = (behind_is n rest a one).is ∙ sym (behind_is n rest b two).is
rest_fault q n rest a b (inr (inl one)) (inr (inr two)) = absurd (behind_wrong q n rest a b one two)
rest_fault q n rest a b (inr (inr one)) (inr (inl two)) = absurd (behind_wrong q n rest b a two one)
rest_fault q n rest a b (inr (inr one)) (inr (inr two)) =
    let same = (same_line one.line two.line one.later two.later one.one two.one (sym one.spelled ∙ two.spelled)).0 in
    line_fault q (n + 1) two.line a b (subst (λ (l : List ℕ). IsFaultOfLine q (n + 1) l a) same one.is) two.is

pub patch_fault_is_unique : PatchFaultIsUnique
patch_fault_is_unique text a b one two =
    elim (cases_lt (length one.lines) (length two.lines)) [
      | inl less ↦ absurd (fault_further one.asked two.asked (length (lines_of one.lines)) one.rest two.rest a (further text one.lines one.rest two.lines two.rest one.asked two.asked one.before two.before less) one.is)
      | inr most ↦ elim (cases_lt (length two.lines) (length one.lines)) [
        | inl more ↦ absurd (fault_further two.asked one.asked (length (lines_of two.lines)) two.rest one.rest b (further text two.lines two.rest one.lines one.rest two.asked one.asked two.before one.before more) two.is)
        | inr least ↦
            let m = longer_front one.lines one.rest two.lines two.rest (sym one.before.spelled ∙ two.before.spelled) least in
            let none : m.0 ≡ [] = no_bytes m.0 (omega (arith, most, ap length m.1, length-append one.lines m.0)) in
            let lines : two.lines ≡ one.lines = m.1 ∙ ap (λ t. one.lines ++ t) none ∙ append-nil one.lines in
            let rest : two.rest ≡ one.rest = sym (m.2 ∙ ap (λ t. t ++ two.rest) none) in
            let asked : two.asked ≡ one.asked =
            one_patch (lines_of one.lines) two.asked one.asked (subst (λ (t : List ℕ). GivesPatch (lines_of t) two.asked) lines two.before.gives) one.before.gives in
            let is : IsFaultOfRest one.asked (length (lines_of one.lines)) one.rest b =
            subst (λ (t : List ℕ). IsFaultOfRest one.asked (length (lines_of t)) one.rest b) lines
            (subst (λ (t : List ℕ). IsFaultOfRest one.asked (length (lines_of two.lines)) t b) rest
            (subst (λ (q : Asked). IsFaultOfRest q (length (lines_of two.lines)) two.rest b) asked two.is)) in
            rest_fault one.asked (length (lines_of one.lines)) one.rest a b one.is is
      ]
    ]

-- a front of lines that fit
all_front : (P : ℕ × List ℕ → Type 0) (ps more all : Pieces) → all ≡ ps ++ more → All P all → All P ps
all_front P [] more all e holds = All-nil P
all_front P (p ∷ ps) more all e holds =
    let here = subst (λ (l : Pieces). All P l) e holds in
    All-cons P p ps (All-head P p (ps ++ more) here) (all_front P ps more (ps ++ more) refl (All-tail P p (ps ++ more) here))

front_fits : (q p : Asked) (rest : List (List ℕ)) → Rest q p rest → IsInLengths p → IsInLengths q
front_fits q p rest (inl a) fits = subst IsInLengths (sym a.0) tt
front_fits q p rest (inr a) fits = by q.lengths p.lengths a.2 fits
  where
    by : (l m : Option (ℕ × ℕ)) → m ≡ l → IsInLengths (record { lengths = m; expected = p.expected; written = p.written }) →
        IsInLengths (record { lengths = l; expected = q.expected; written = q.written })
    by None m e fits = tt
    by (Some l) m e fits =
        let P : Option (ℕ × ℕ) → Type 0 = λ m. IsInLengths (record { lengths = m; expected = p.expected; written = p.written }) in
        let here : P (Some l) = subst P e fits in
        (all_front (EndsWithin l.0) q.expected a.0 p.expected a.3 here.0, all_front (EndsWithin l.1) q.written a.1 p.written a.4 here.1)

-- nothing stands behind whole lines at the front of the last one
end_whole : (n : ℕ) (last more rest : List ℕ) → IsPatchEnd n last → AreWholeLines more → 0 < length more → last ++ 10 ∷ [] ≡ more ++ rest → length rest ≡ 0
end_whole n last more rest ends whole some e =
    let first = first_whole more rest last [] whole some (end_one n last ends) (sym e) in
    omega (arith, ap length e, length-append last (10 ∷ []), length-append more rest, ap length first.1, length-append last (10 ∷ first.0))

cut_off : (text front rest : List ℕ) (p : Asked) → IsPatch text p → text ≡ front ++ rest → 0 < length rest → IsFaultOfPatch front NoEnd
cut_off text front rest p is e some = elim (cases_lt (length is.lines) (length own.lines)) [
  | inl more ↦
      let m = longer_front is.lines (is.last ++ codes "\n") own.lines (own.left ++ rest) (sym is.before.spelled ∙ spelled) (omega (arith, more)) in
      let long : 0 < length m.0 = omega (arith, more, ap length m.1, length-append is.lines m.0) in
      let whole = whole_behind is.lines m.0 (subst AreWholeLines m.1 own.whole) in
      let none = end_whole (length (lines_of is.lines)) is.last m.0 (own.left ++ rest) is.ends whole long m.2 in
      absurd (omega (arith, some, none, length-append own.left rest))
  | inr most ↦
      let m = longer_front own.lines (own.left ++ rest) is.lines (is.last ++ codes "\n") (sym spelled ∙ is.before.spelled) most in
      let all : lines_of is.lines ≡ lines_of own.lines ++ lines_of m.0 = ap lines_of m.1 ∙ lines_behind own.lines m.0 own.whole in
      let cut = front_lines (lines_of own.lines) (lines_of m.0) p (subst (λ (ls : List (List ℕ)). GivesPatch ls p) all is.before.gives) in
      record {
        lines = own.lines;
        rest = own.left;
        asked = cut.0;
        before = record { spelled = own.spelled; whole = own.whole; gives = cut.1; fits = front_fits cut.0 p (lines_of m.0) cut.2 is.before.fits };
        is = inl own.none;
      }
]
  where
    own : Parted front
    own = parted front

    spelled : text ≡ own.lines ++ (own.left ++ rest)
    spelled = e ∙ ap (λ t. t ++ rest) own.spelled ∙ append_assoc own.lines own.left rest

pub front_of_any_is_refused : FrontOfAnyIsRefused
front_of_any_is_refused text front rest p is e some =
    let fault = cut_off text front rest p is e some in
    (fault, λ q other. fault_is_of_patch front NoEnd q fault other)
