-- A span that the lines of a text widen, a line and a window more.
use Rattle.std.proofs.Common.{◌≡◌, ◌⊎◌, ◌∙◌, inl, inr, ℕ, ◌+◌, ◌-◌, ◌^◌, ◌<◌, ◌≤◌, min, max, List, [], ◌∷◌, ◌++◌, length, take, drop, Some, refl, ap, sym, subst, arith, codes, take-append-drop, length-append}
use Rattle.std.proofs.lemmas.Bool.{cases_lt}
use Rattle.bx_journal_format.specs.Hex.{hex_digits}
use Rattle.bx_journal_format.specs.Text.{ended, split}
use Rattle.bx_journal_format.specs.read.Plain.{HasNoNewline}
use Rattle.bx_journal_format.proofs.HexLemmas.{length-hex_digits}
use Rattle.bx_journal_format.proofs.Splits.{split-append, split-plain}
use Rattle.bx_journal_read.specs.scan.Windows.{rest_to}
use Rattle.bx_journal_image.specs.declared.sealing.seal.Span.{Span}
use Rattle.bx_journal_image.specs.Blocks.{HasLongLine}
use Rattle.bx_journal_image.specs.Entry.{HasLine, HasOlder, IsBeginning, IsOlderBeginning, LinesTell, beginning_line}
use Rattle.bx_journal_image.specs.Line.{field}
use Rattle.bx_journal_image.specs.Seal.{HasAll, HasUntold, IsStepsSpan, IsInSpan, Widens, any_length}
use Rattle.bx_journal_image.proofs.BlockLemmas.{seam}
use Rattle.bx_journal_image.proofs.EntryLemmas.{begin_fields}
use Rattle.bx_journal_image.proofs.LineLemmas.{fronts, number_is}
use Rattle.bx_journal_image.proofs.RangeLemmas.{lines_behind}
use Rattle.bx_journal_image.proofs.SealLemmas.{whole_text}

-- a line of one of two lists
line_left : (Is : List ℕ → Type 0) (a b : List (List ℕ)) → HasLine Is a → HasLine Is (a ++ b)
unfolding HasLine
line_left Is [] b has = absurd has
line_left Is (line ∷ a) b (inl is) = inl is
line_left Is (line ∷ a) b (inr has) = inr (line_left Is a b has)

line_right : (Is : List ℕ → Type 0) (a b : List (List ℕ)) → HasLine Is b → HasLine Is (a ++ b)
unfolding HasLine
line_right Is [] b has = has
line_right Is (line ∷ a) b has = inr (line_right Is a b has)

line_either : (Is : List ℕ → Type 0) (a b : List (List ℕ)) → HasLine Is (a ++ b) → HasLine Is a ⊎ HasLine Is b
unfolding HasLine
line_either Is [] b has = inr has
line_either Is (line ∷ a) b (inl is) = inl (inl is)
line_either Is (line ∷ a) b (inr has) = at (line_either Is a b has)
  where
    at : HasLine Is a ⊎ HasLine Is b → HasLine Is (line ∷ a) ⊎ HasLine Is b
    at (inl first) = inl (inr first)
    at (inr second) = inr second

-- the only line of a list
line_one : (Is : List ℕ → Type 0) (line : List ℕ) → Is (ended line) → HasLine Is (line ∷ [])
unfolding HasLine
line_one Is line is = inl is

one_line : (Is : List ℕ → Type 0) (line : List ℕ) → HasLine Is (line ∷ []) → Is (ended line)
unfolding HasLine
one_line Is line (inl is) = is
one_line Is line (inr has) = absurd has

no_line : (Is : List ℕ → Type 0) → HasLine Is [] → ⊥
unfolding HasLine
no_line Is has = has

-- an end of a span that two lists of lines widen
edge_then : (a b : List (List ℕ)) (old mid new : ℕ) → (mid ≡ old) ⊎ LinesTell a mid ⊎ HasOlder a → (new ≡ mid) ⊎ LinesTell b new ⊎ HasOlder b
    → (new ≡ old) ⊎ LinesTell (a ++ b) new ⊎ HasOlder (a ++ b)
edge_then a b old mid new first (inl same) = from first
  where
    from : (mid ≡ old) ⊎ LinesTell a mid ⊎ HasOlder a → (new ≡ old) ⊎ LinesTell (a ++ b) new ⊎ HasOlder (a ++ b)
    from (inl is) = inl (same ∙ is)
    from (inr (inl tells)) = inr (inl (subst (λ l. LinesTell (a ++ b) l) (sym same) (line_left (λ line. IsBeginning line mid) a b tells)))
    from (inr (inr older)) = inr (inr (line_left IsOlderBeginning a b older))
edge_then a b old mid new first (inr (inl tells)) = inr (inl (line_right (λ line. IsBeginning line new) a b tells))
edge_then a b old mid new first (inr (inr older)) = inr (inr (line_right IsOlderBeginning a b older))

-- lines widen a span, and more of them what it was widened to
pub widens_both : (a b : List (List ℕ)) (old mid new : Span) → Widens a old mid → Widens b mid new → Widens (a ++ b) old new
widens_both a b old mid new one two = record {
  low = omega (arith, one.low, two.low);
  high = omega (arith, one.high, two.high);
  each = λ l tells. each_at l (line_either (λ line. IsBeginning line l) a b tells);
  older = λ has. older_at (line_either IsOlderBeginning a b has);
  least = edge_then a b old.least mid.least new.least one.least two.least;
  most = edge_then a b old.most mid.most new.most one.most two.most;
}
  where
    each_at : (l : ℕ) → LinesTell a l ⊎ LinesTell b l → IsInSpan new l
    each_at l (inl tells) = let within = one.each l tells in (omega (arith, within.0, two.low), omega (arith, within.1, two.high))
    each_at l (inr tells) = two.each l tells

    older_at : HasOlder a ⊎ HasOlder b → HasAll new
    older_at (inl has) = let all = one.older has in (omega (arith, all.0, two.low), omega (arith, all.1, two.high))
    older_at (inr has) = two.older has

pub widens_same : (a b : List (List ℕ)) (old new : Span) → a ≡ b → Widens a old new → Widens b old new
widens_same a b old new is widens = subst (λ lines. Widens lines old new) is widens

-- no line
pub widens_nothing : (span : Span) → Widens [] span span
widens_nothing span = record {
  low = omega arith;
  high = omega arith;
  each = λ l tells. absurd (no_line (λ line. IsBeginning line l) tells);
  older = λ has. absurd (no_line IsOlderBeginning has);
  least = inl refl;
  most = inl refl;
}

-- a line that tells nothing
pub widens_none : (line : List ℕ) (span : Span) → ((l : ℕ) → IsBeginning (ended line) l → ⊥) → (IsOlderBeginning (ended line) → ⊥) → Widens (line ∷ []) span span
widens_none line span none newer = record {
  low = omega arith;
  high = omega arith;
  each = λ l tells. absurd (none l (one_line (λ line. IsBeginning line l) line tells));
  older = λ has. absurd (newer (one_line IsOlderBeginning line has));
  least = inl refl;
  most = inl refl;
}

field_size : (word : List ℕ) (width n : ℕ) → length (field word width n) ≡ length word + width
field_size word width n = omega (arith, length-append word (hex_digits width n), length-hex_digits width n)

-- a line tells one length alone
told_once : (line : List ℕ) (k l : ℕ) → IsBeginning line k → IsBeginning line l → k ≡ l
told_once line k l one two =
    let behind = (fronts (field (codes "change2 ") 8 one.n) (field (codes "change2 ") 8 two.n) (field (codes " ") 16 k ++ codes "\n") (field (codes " ") 16 l ++ codes "\n")
    (field_size (codes "change2 ") 8 one.n ∙ sym (field_size (codes "change2 ") 8 two.n)) (sym (begin_fields line one.n k one.is) ∙ begin_fields line two.n l two.is)).1 in
    let told = (fronts (field (codes " ") 16 k) (field (codes " ") 16 l) (codes "\n") (codes "\n") (field_size (codes " ") 16 k ∙ sym (field_size (codes " ") 16 l)) behind).0 in
    let digits = (fronts (codes " ") (codes " ") (hex_digits 16 k) (hex_digits 16 l) refl told).1 in
    let same : Some k ≡ Some l = sym (number_is (hex_digits 16 k) 16 k one.fits refl) ∙ number_is (hex_digits 16 k) 16 l two.fits digits in
    cc

-- a length that a line tells has at most 64 bits
told_fits : (lines : List (List ℕ)) (l : ℕ) → LinesTell lines l → l ≤ 2 ^ 64 - 1
unfolding HasLine
told_fits [] l has = absurd has
told_fits (line ∷ lines) l (inl tells) = omega (arith, tells.fits)
told_fits (line ∷ lines) l (inr has) = told_fits lines l has

-- a line that tells a length
pub widens_told : (line : List ℕ) (span : Span) (l : ℕ) → IsBeginning (ended line) l → (IsOlderBeginning (ended line) → ⊥)
    → Widens (line ∷ []) span (record { least = min span.least l; most = max span.most l })
widens_told line span l tells newer = record {
  low = omega arith;
  high = omega arith;
  each = λ k told.
      let same : k ≡ l = told_once (ended line) k l (one_line (λ line. IsBeginning line k) line told) tells in
      (omega (arith, same), omega (arith, same));
  older = λ has. absurd (newer (one_line IsOlderBeginning line has));
  least = low_at (cases_lt l span.least);
  most = high_at (cases_lt span.most l);
}
  where
    told_at : (k : ℕ) → k ≡ l → LinesTell (line ∷ []) k
    told_at k is = subst (λ n. LinesTell (line ∷ []) n) (sym is) (line_one (λ line. IsBeginning line l) line tells)

    low_at : (l < span.least) ⊎ (span.least ≤ l) → (min span.least l ≡ span.least) ⊎ LinesTell (line ∷ []) (min span.least l) ⊎ HasOlder (line ∷ [])
    low_at (inl below) = inr (inl (told_at (min span.least l) (omega (arith, below))))
    low_at (inr above) = inl (omega (arith, above))

    high_at : (span.most < l) ⊎ (l ≤ span.most) → (max span.most l ≡ span.most) ⊎ LinesTell (line ∷ []) (max span.most l) ⊎ HasOlder (line ∷ [])
    high_at (inl above) = inr (inl (told_at (max span.most l) (omega (arith, above))))
    high_at (inr below) = inl (omega (arith, below))

-- one that begins an entry of the older form
pub widens_older : (line : List ℕ) (span : Span) → span.most < 2 ^ 64 → IsOlderBeginning (ended line) → Widens (line ∷ []) span any_length
widens_older line span fits older = record {
  low = omega arith;
  high = omega (arith, fits);
  each = λ l tells. let told = (one_line (λ line. IsBeginning line l) line tells).fits in (omega arith, omega (arith, told));
  older = λ has. (refl, omega arith);
  least = inr (inr (line_one IsOlderBeginning line older));
  most = inr (inr (line_one IsOlderBeginning line older));
}

-- a line more
pub widens_on : (rest behind : List ℕ) (i : ℕ) (old mid new : Span) → HasNoNewline (take i rest) → rest ≡ take i rest ++ 10 ∷ drop (i + 1) rest → behind ≡ drop (i + 1) rest
    → Widens (take i rest ∷ []) old mid → Widens (split behind).lines mid new → Widens (split rest).lines old new
widens_on rest behind i old mid new plain is left one more =
    widens_same (take i rest ∷ (split behind).lines) (split rest).lines old new (sym (lines_behind rest behind i plain is left))
    (widens_both (take i rest ∷ []) (split behind).lines old mid new one more)

-- no more lines
pub widens_end : (rest : List ℕ) (span : Span) → HasNoNewline rest → Widens (split rest).lines span span
widens_end rest span plain = widens_same [] (split rest).lines span span (sym (ap (λ s. s.lines) (split-plain rest plain))) (widens_nothing span)

-- nothing of a text
pub widens_start : (text : List ℕ) (span : Span) → Widens (split (rest_to 0 0 text)).lines span span
unfolding split
widens_start text span = widens_nothing span

-- a window more
pub widens_window : (text buf : List ℕ) (at size taken : ℕ) (old mid new : Span) → buf ≡ take size (drop at text) → taken ≤ size → (split (rest_to at 0 text)).rest ≡ []
    → (split (take taken buf)).lines ≡ (split buf).lines → Widens (split (rest_to at 0 text)).lines old mid → Widens (split buf).lines mid new
    → Widens (split (rest_to (at + taken) 0 text)).lines old new
widens_window text buf at size taken old mid new is few whole lines one more =
    let both : (split (rest_to (at + taken) 0 text)).lines ≡ (split (rest_to at 0 text)).lines ++ (split (take taken buf)).lines =
    ap (λ t. (split t).lines) (seam text buf 0 at size taken (omega arith) is few) ∙ ap (λ s. s.lines) (split-append (rest_to at 0 text) (take taken buf) whole) in
    widens_same ((split (rest_to at 0 text)).lines ++ (split (take taken buf)).lines) (split (rest_to (at + taken) 0 text)).lines old new (sym both)
    (widens_both (split (rest_to at 0 text)).lines (split (take taken buf)).lines old mid new one (widens_same (split buf).lines (split (take taken buf)).lines mid new (sym lines) more))

-- where all lengths are known
either_known : (text : List ℕ) (n l : ℕ) → (l ≡ n) ⊎ LinesTell (split text).lines l ⊎ HasOlder (split text).lines → (l ≡ n) ⊎ LinesTell (split text).lines l ⊎ HasUntold text
either_known text n l (inl is) = inl is
either_known text n l (inr (inl tells)) = inr (inl tells)
either_known text n l (inr (inr older)) = inr (inr (inl older))

-- all of a text
pub steps_all : (text : List ℕ) (n to : ℕ) (span : Span) → to ≡ length text → Widens (split (rest_to to 0 text)).lines (record { least = n; most = n }) span → IsStepsSpan n text span
steps_all text n to span end part = record {
  own = (all.low, all.high);
  each = all.each;
  older = all.older;
  least = either_known text n span.least all.least;
  most = either_known text n span.most all.most;
}
  where
    all : Widens (split text).lines (record { least = n; most = n }) span
    all = widens_same (split (rest_to to 0 text)).lines (split text).lines (record { least = n; most = n }) span (ap (λ t. (split t).lines) (whole_text text to end)) part

-- where a line is too long the lengths are any
pub steps_any : (text : List ℕ) (n to : ℕ) → n < 2 ^ 64 → to ≡ length text → HasLongLine 65536 0 to text → IsStepsSpan n text any_length
steps_any text n to fits end long = record {
  own = (omega arith, omega (arith, fits));
  each = λ l tells. (omega arith, told_fits (split text).lines l tells);
  older = λ has. (refl, omega arith);
  least = inr (inr (inr (subst (λ k. HasLongLine 65536 0 k text) end long)));
  most = inr (inr (inr (subst (λ k. HasLongLine 65536 0 k text) end long)));
}

-- the span of one length
pub one_length : (n : ℕ) (span : Span) (lines : List (List ℕ)) → span ≡ record { least = min n n; most = max n n } → Widens lines (record { least = n; most = n }) (record { least = n; most = n })
    → Widens lines (record { least = n; most = n }) span
one_length n span lines is widens =
    let low : min n n ≡ n = omega arith in
    let high : max n n ≡ n = omega arith in
    subst (Widens lines (record { least = n; most = n })) (sym (is ∙ ap (λ k. record { least = k; most = max n n }) low ∙ ap (λ k. record { least = n; most = k }) high)) widens
