-- What is left of text that goes to a store page by page.
use Rattle.std.proofs.Common.{◌≡◌, ℕ, List, [], ◌++◌, ap, sym, ◌∙◌, append_assoc, append-nil, subst}
use Rattle.bx_image.specs.Power.{AllFade, FadesBehind}
use Rattle.bx_journal_protocol.specs.write.Page.{IsPaged}

-- bytes with others behind them
pub fades_front : (x a b : List ℕ) (P Q : List ℕ → Type 0) → FadesBehind x a P Q → FadesBehind x (a ++ b) P Q
fades_front x a b P Q first = record {
  fade = λ n rest.
      let whole : x ++ a ++ (b ++ rest) ≡ x ++ (a ++ b) ++ rest = sym (append_assoc (x ++ a) b rest) ∙ ap (λ (l : List ℕ). l ++ rest) (append_assoc x a b) in
      let T : List ℕ → Type 0 = λ w. AllFade n w P → AllFade n w Q in
      subst T whole (first.fade n (b ++ rest));
}

pub fades_is : (x a b : List ℕ) (P Q : List ℕ → Type 0) → a ≡ b → FadesBehind x a P Q → FadesBehind x b P Q
fades_is x a b P Q is first = let T : List ℕ → Type 0 = λ w. FadesBehind x w P Q in subst T is first

-- what was put behind bytes that were put
pub fades_behind : (b c old mid p : List ℕ) (P Q R : List ℕ → Type 0) → IsPaged b old mid p → FadesBehind old b P Q → FadesBehind mid (p ++ c) Q R
    → FadesBehind old (b ++ c) P R
fades_behind b c old mid p P Q R paged first next =
    let before = fades_front old b c P Q first in
    record {
      fade = λ n rest.
          let whole : mid ++ (p ++ c) ≡ old ++ (b ++ c) =
          ap (λ (l : List ℕ). l ++ (p ++ c)) paged.text_is
          ∙ append_assoc old paged.added (p ++ c)
          ∙ ap (λ (l : List ℕ). old ++ l) (sym (append_assoc paged.added p c) ∙ ap (λ (l : List ℕ). l ++ c) paged.bytes_are) in
          let T : List ℕ → Type 0 = λ w. AllFade n (w ++ rest) Q → AllFade n (w ++ rest) R in
          let after = subst T whole (next.fade n rest) in
          λ old. after (before.fade n rest old);
    }

pub fades_step : (b c d whole rest old mid p : List ℕ) (P Q R : List ℕ → Type 0) → IsPaged b old mid p → FadesBehind old b P Q → FadesBehind mid (p ++ c) Q R
    → b ++ c ≡ d → whole ≡ d ++ rest → FadesBehind old whole P R
fades_step b c d whole rest old mid p P Q R paged first next is more =
    fades_is old (d ++ rest) whole P R (sym more) (fades_front old d rest P R (fades_is old (b ++ c) d P R is (fades_behind b c old mid p P Q R paged first next)))

pub fades_last : (b old mid p : List ℕ) (P Q R : List ℕ → Type 0) → IsPaged b old mid p → FadesBehind old b P Q → FadesBehind mid p Q R → FadesBehind old b P R
fades_last b old mid p P Q R paged first next =
    fades_is old (b ++ []) b P R (append-nil b) (fades_behind b [] old mid p P Q R paged first (fades_is mid p (p ++ []) Q R (sym (append-nil p)) next))

-- one page more, where it was known what all of the text is
pub fades_within : (b rest whole old mid p : List ℕ) (P Q R : List ℕ → Type 0) → b ++ rest ≡ whole → IsPaged b old mid p → FadesBehind old whole P Q → FadesBehind mid p Q R
    → FadesBehind old whole P R
fades_within b rest whole old mid p P Q R is paged first next =
    let put : mid ++ p ≡ old ++ b = ap (λ (l : List ℕ). l ++ p) paged.text_is ∙ append_assoc old paged.added p ∙ ap (λ (l : List ℕ). old ++ l) paged.bytes_are in
    let all : mid ++ p ++ rest ≡ old ++ whole = ap (λ (l : List ℕ). l ++ rest) put ∙ append_assoc old b rest ∙ ap (λ (l : List ℕ). old ++ l) is in
    record {
      fade = λ n more.
          let same : mid ++ p ++ (rest ++ more) ≡ old ++ whole ++ more = sym (append_assoc (mid ++ p) rest more) ∙ ap (λ (l : List ℕ). l ++ more) all in
          let T : List ℕ → Type 0 = λ w. AllFade n w Q → AllFade n w R in
          let after = subst T same (next.fade n (rest ++ more)) in
          λ before. after (first.fade n more before);
    }
