-- Pairs of digits are what their form says.
use Rattle.std.proofs.Common.{◌≡◌, ◌⊎◌, ℕ, zero, suc, Bool, true, false, ◌&&◌, cond, eqb, Option, Some, List, [], ◌∷◌, ◌++◌, All, refl, arith, sym, ap, subst, ◌∙◌, inl, inr, ⊎_elim, append-nil}
use Rattle.std.specs.Option.{option_map}
use Rattle.std.proofs.lemmas.Bool.{eqb-true, false≢true}
use Rattle.bx_read.specs.Digits.{is_hex, pairs_of, pair_value}
use Rattle.bx_read.specs.Plain.{is_space, hex_bytes}
use Rattle.bx_read.proofs.Parts.{plain_bytes, without_space, bytes_or_fault}
use Rattle.bx_read.specs.PairGrammar.{WritesByte, ArePairs, PairsHaveForm, IsBlank, IsPlain, PlainHasForm}
use Rattle.bx_read.proofs.GrammarLemmas.{and_true, guard_some, first_digit}
use Rattle.bx_read.proofs.PairsLemmas.{pairs_of-last, pairs_of-space, pairs_of-next}
use Rattle.bx_read.proofs.PlainLemmas.{hex-space, keep, leave, hex_bytes-some, unmapped, byte_of, answered}

some_same : {A : Type 0} (x y : A) → ◌≡◌ {A = Option A} (Some x) (Some y) → x ≡ y
some_same x y h = cc

both : (a b : Bool) → a ≡ true → b ≡ true → (a && b) ≡ true
both a b p q = rw (p, q) refl

writes : (high low : ℕ) → (is_hex high && is_hex low) ≡ true → WritesByte high low (pair_value high low)
writes high low h = let two = and_true (is_hex high) (is_hex low) h in (two.0, two.1, refl)

-- ---- pairs of a line

put : (high low : ℕ) (gap rest more : List ℕ) → (is_hex high && is_hex low) ≡ true → (gap ≡ []) ⊎ (gap ≡ 32 ∷ []) → ArePairs more rest →
    ArePairs (pair_value high low ∷ more) (high ∷ low ∷ (gap ++ rest))
put high low gap rest [] digits is are = absurd are
put high low gap rest (next ∷ more) digits is are = (high, low, gap, rest, refl, writes high low digits, is, are)

pairs_form : (text bytes : List ℕ) → pairs_of text ≡ Some bytes → ArePairs bytes text
pairs_form [] bytes h = cc h
pairs_form (c ∷ []) bytes h = cc h
pairs_form (high ∷ low ∷ []) bytes h =
    let inner = guard_some (is_hex high && is_hex low) (Some (pair_value high low ∷ [])) bytes h in
    subst (λ b. ArePairs b (high ∷ low ∷ [])) (some_same (pair_value high low ∷ []) bytes inner.1) (high, low, refl, writes high low inner.0)
pairs_form (high ∷ low ∷ next ∷ rest) bytes h =
    let later = cond (eqb next 32) (pairs_of rest) (pairs_of (next ∷ rest)) in
    let inner = guard_some (is_hex high && is_hex low) (option_map (λ more. pair_value high low ∷ more) later) bytes h in
    let more = unmapped (λ more. pair_value high low ∷ more) later bytes inner.1 in
    subst (λ b. ArePairs b (high ∷ low ∷ next ∷ rest)) more.2 (go (eqb next 32) refl more.0 inner.0 more.1 (pairs_form rest more.0) (pairs_form (next ∷ rest) more.0))
  where
    go : (b : Bool) → eqb next 32 ≡ b → (more : List ℕ) → (is_hex high && is_hex low) ≡ true → cond b (pairs_of rest) (pairs_of (next ∷ rest)) ≡ Some more →
        (pairs_of rest ≡ Some more → ArePairs more rest) → (pairs_of (next ∷ rest) ≡ Some more → ArePairs more (next ∷ rest)) →
        ArePairs (pair_value high low ∷ more) (high ∷ low ∷ next ∷ rest)
    go true e more digits read spaced joined =
        subst (λ c. ArePairs (pair_value high low ∷ more) (high ∷ low ∷ c ∷ rest)) (sym (eqb-true next 32 e))
        (put high low (32 ∷ []) rest more digits (inr refl) (spaced read))
    go false e more digits read spaced joined = put high low [] (next ∷ rest) more digits (inl refl) (joined read)

pub digit_no_space : (c : ℕ) → is_hex c ≡ true → c ≡ 32 → ⊥
digit_no_space c is e = false≢true (subst (λ d. is_hex d ≡ true) e is)

pairs_read : (bytes text : List ℕ) → ArePairs bytes text → pairs_of text ≡ Some bytes
pairs_read [] text are = absurd are
pairs_read (byte ∷ []) text are =
    rw (are.2, are.3.2) (pairs_of-last are.0 are.1 (both (is_hex are.0) (is_hex are.1) are.3.0 are.3.1))
pairs_read (byte ∷ next ∷ bytes) text are =
    let high = are.0 in
    let low = are.1 in
    let rest = are.3 in
    let digits = both (is_hex high) (is_hex low) are.5.0 are.5.1 in
    let later : pairs_of rest ≡ Some (next ∷ bytes) = pairs_read (next ∷ bytes) rest are.7 in
    let here : pairs_of (high ∷ low ∷ (are.2 ++ rest)) ≡ option_map (λ more. pair_value high low ∷ more) (pairs_of rest) =
    ⊎_elim (λ none. rw none (joined high low rest (next ∷ bytes) digits later)) (λ one. rw one (pairs_of-space high low rest digits)) are.6 in
    ap pairs_of are.4 ∙ here ∙ ap (option_map (λ more. pair_value high low ∷ more)) later ∙ ap (λ b. Some (b ∷ next ∷ bytes)) (sym are.5.2)
  where
    joined : (high low : ℕ) (rest more : List ℕ) → (is_hex high && is_hex low) ≡ true → pairs_of rest ≡ Some more →
        pairs_of (high ∷ low ∷ rest) ≡ option_map (λ more. pair_value high low ∷ more) (pairs_of rest)
    joined high low rest more digits read =
        let first = first_digit rest more read in
        let range : first.0 ≡ 32 → ⊥ = λ e. digit_no_space first.0 first.3 e in
        rw first.2 (pairs_of-next high low first.0 first.1 digits range)

pub pairs_have_form : PairsHaveForm
pairs_have_form text bytes = (pairs_form text bytes, pairs_read bytes text)

-- ---- plain text

pub all_cons : (P : ℕ → Type 0) (c : ℕ) (xs : List ℕ) → P c → All P xs → All P (c ∷ xs)
all_cons P c xs p ps zero d inside = p
all_cons P c xs p ps (suc k) d inside = ps k d (omega arith)

-- the white space in front, and what follows it
record Front (text : List ℕ) : Type 0 where
  blank : List ℕ
  rest : List ℕ
  spelled : text ≡ blank ++ rest
  is_blank : IsBlank blank
  ends : (rest ≡ []) ⊎ ((c : ℕ) × (more : List ℕ) × (rest ≡ c ∷ more) × (is_space c ≡ false))

front_of : (text : List ℕ) → Front text
front_of [] = record { blank = []; rest = []; spelled = refl; is_blank = λ k d inside. absurd (omega arith); ends = inl refl }
front_of (c ∷ text) = go (is_space c) refl (front_of text)
  where
    go : (b : Bool) → is_space c ≡ b → Front text → Front (c ∷ text)
    go true e later = record {
      blank = c ∷ later.blank;
      rest = later.rest;
      spelled = ap (λ t. c ∷ t) later.spelled;
      is_blank = all_cons (λ d. is_space d ≡ true) c later.blank e later.is_blank;
      ends = later.ends;
    }
    go false e later = record { blank = []; rest = c ∷ text; spelled = refl; is_blank = λ k d inside. absurd (omega arith); ends = inr (c, text, refl, e) }

-- white space is left out
blank_out : (blank rest : List ℕ) → IsBlank blank → without_space (blank ++ rest) ≡ without_space rest
blank_out [] rest is = refl
blank_out (c ∷ blank) rest is = leave c (blank ++ rest) (is 0 0 (omega arith)) ∙ blank_out blank rest (λ k d inside. is (suc k) d (omega arith))

-- behind white space comes a byte that stays
stays : (text blank more : List ℕ) (c : ℕ) → text ≡ blank ++ c ∷ more → IsBlank blank → is_space c ≡ false → without_space text ≡ c ∷ without_space more
stays text blank more c spelled is e = ap without_space spelled ∙ blank_out blank (c ∷ more) is ∙ keep c more e

none_out : (text : List ℕ) → IsBlank text → without_space text ≡ []
none_out text is = ap without_space (sym (append-nil text)) ∙ blank_out text [] is

-- digits are no more than one
one_digit : (c : ℕ) (text bytes : List ℕ) → hex_bytes (c ∷ text) ≡ Some bytes → (d : ℕ) × (rest : List ℕ) × (text ≡ d ∷ rest)
one_digit c [] bytes h = cc h
one_digit c (d ∷ rest) bytes h = (d, rest, refl)

-- the first pair of a text, its bytes and what follows
record FirstPair (text bytes : List ℕ) : Type 0 where
  before : List ℕ
  between : List ℕ
  rest : List ℕ
  high : ℕ
  low : ℕ
  more : List ℕ
  spelled : text ≡ before ++ high ∷ (between ++ low ∷ rest)
  is_before : IsBlank before
  is_between : IsBlank between
  digits : (is_hex high && is_hex low) ≡ true
  later : hex_bytes (without_space rest) ≡ Some more
  are : pair_value high low ∷ more ≡ bytes

second_digit : (text bytes before after : List ℕ) (c : ℕ) → text ≡ before ++ c ∷ after → IsBlank before → is_space c ≡ false → hex_bytes (without_space text) ≡ Some bytes →
    FirstPair text bytes
second_digit text bytes before after c spelled is e h =
    let now : hex_bytes (c ∷ without_space after) ≡ Some bytes = ap hex_bytes (sym (stays text before after c spelled is e)) ∙ h in
    let next = front_of after in
    ⊎_elim (λ none. ends next none now) (λ more. found next more now) next.ends
  where
    ends : (next : Front after) → next.rest ≡ [] → hex_bytes (c ∷ without_space after) ≡ Some bytes → FirstPair text bytes
    ends next none now =
        let blank : without_space after ≡ [] = ap without_space (next.spelled ∙ ap (λ r. next.blank ++ r) none) ∙ blank_out next.blank [] next.is_blank in
        absurd (cc (ap (λ w. hex_bytes (c ∷ w)) (sym blank) ∙ now))

    found : (next : Front after) → ((d : ℕ) × (rest : List ℕ) × (next.rest ≡ d ∷ rest) × (is_space d ≡ false)) → hex_bytes (c ∷ without_space after) ≡ Some bytes →
        FirstPair text bytes
    found next more now =
        let d = more.0 in
        let rest = more.1 in
        let after_is : after ≡ next.blank ++ d ∷ rest = next.spelled ∙ ap (λ r. next.blank ++ r) more.2 in
        let kept = stays after next.blank rest d after_is next.is_blank more.3 in
        let pair = byte_of c d (without_space rest) bytes (ap (λ w. hex_bytes (c ∷ w)) (sym kept) ∙ now) in record {
          before = before;
          between = next.blank;
          rest = rest;
          high = c;
          low = d;
          more = pair.1.0;
          spelled = spelled ∙ ap (λ a. before ++ c ∷ a) after_is;
          is_before = is;
          is_between = next.is_blank;
          digits = pair.0;
          later = pair.1.1;
          are = pair.1.2;
        }

pair_or_none : (text bytes : List ℕ) → hex_bytes (without_space text) ≡ Some bytes → ((bytes ≡ []) × IsBlank text) ⊎ FirstPair text bytes
pair_or_none text bytes h = let front = front_of text in ⊎_elim (λ none. inl (ends front none)) (λ more. inr (found front more)) front.ends
  where
    ends : (front : Front text) → front.rest ≡ [] → (bytes ≡ []) × IsBlank text
    ends front none =
        let whole : text ≡ front.blank = front.spelled ∙ ap (λ r. front.blank ++ r) none ∙ append-nil front.blank in
        let blank : IsBlank text = subst IsBlank (sym whole) front.is_blank in
        (sym (some_same [] bytes (ap hex_bytes (sym (none_out text blank)) ∙ h)), blank)

    found : (front : Front text) → ((c : ℕ) × (more : List ℕ) × (front.rest ≡ c ∷ more) × (is_space c ≡ false)) → FirstPair text bytes
    found front more = second_digit text bytes front.blank more.1 more.0 (front.spelled ∙ ap (λ r. front.blank ++ r) more.2) front.is_blank more.3 h

not_empty : (b : ℕ) (bs : List ℕ) → b ∷ bs ≡ [] → ⊥
not_empty b bs e = cc e

tail_same : (a b : ℕ) (some others : List ℕ) → a ∷ some ≡ b ∷ others → (a ≡ b) × (some ≡ others)
tail_same a b some others e = (cc e, cc e)

plain_form : (bytes text : List ℕ) → hex_bytes (without_space text) ≡ Some bytes → IsPlain bytes text
plain_form [] text h = ⊎_elim (λ none. none.1) (λ pair. absurd (not_empty (pair_value pair.high pair.low) pair.more pair.are)) (pair_or_none text [] h)
plain_form (byte ∷ bytes) text h =
    ⊎_elim (λ none. absurd (not_empty byte bytes none.0)) (λ pair. found pair (λ rest e. plain_form bytes rest e)) (pair_or_none text (byte ∷ bytes) h)
  where
    found : FirstPair text (byte ∷ bytes) → ((rest : List ℕ) → hex_bytes (without_space rest) ≡ Some bytes → IsPlain bytes rest) → IsPlain (byte ∷ bytes) text
    found pair later =
        let same = tail_same (pair_value pair.high pair.low) byte pair.more bytes pair.are in
        let two = and_true (is_hex pair.high) (is_hex pair.low) pair.digits in
        (pair.before, pair.between, pair.rest, pair.high, pair.low, pair.spelled, pair.is_before, pair.is_between, (two.0, two.1, sym same.0), later pair.rest (pair.later ∙ ap Some same.1))

plain_read : (bytes text : List ℕ) → IsPlain bytes text → hex_bytes (without_space text) ≡ Some bytes
plain_read [] text is = ap hex_bytes (none_out text is)
plain_read (byte ∷ bytes) text (before, between, rest, high, low, spelled, is_before, is_between, byte_is, later) =
    let one = stays text before (between ++ low ∷ rest) high spelled is_before (hex-space high byte_is.0) in
    let two = stays (between ++ low ∷ rest) between rest low refl is_between (hex-space low byte_is.1) in
    ap hex_bytes (one ∙ ap (λ w. high ∷ w) two) ∙ hex_bytes-some high low (without_space rest) (both (is_hex high) (is_hex low) byte_is.0 byte_is.1)
    ∙ ap (option_map (λ more. pair_value high low ∷ more)) (plain_read bytes rest later) ∙ ap (λ b. Some (b ∷ bytes)) (sym byte_is.2)

pub plain_has_form : PlainHasForm
plain_has_form text bytes = (λ h. plain_form bytes text (answered text bytes (plain_bytes text) h), λ is. ap (bytes_or_fault text) (plain_read bytes text is))
