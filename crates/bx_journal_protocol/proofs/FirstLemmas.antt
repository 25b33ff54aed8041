-- The first byte of a text, which a loss of power leaves.
use Rattle.std.proofs.Common.{◌≡◌, ℕ, zero, suc, ◌+◌, ◌<◌, ◌≤◌, ◌⊎◌, inl, inr, List, [], ◌∷◌, ◌++◌, length, take, drop, get_or, slice_index, refl, ap, sym, subst, ◌∙◌, arith, length-take, append_assoc}
use Rattle.std.proofs.lemmas.List.{take-take}
use Rattle.bx_image.specs.Power.{AllFade, FadesBehind, FadesFrom, IsFaded, NoMore, Only}
use Rattle.bx_image.specs.declared.record.spans.Span.{Span}
use Rattle.bx_journal_store.specs.Store.{IsPartlyAppended, IsCutInPart}
use Rattle.bx_journal_format.specs.read.Faded.{HasFirst}
use Rattle.bx_journal_format.specs.Line.{save_line}
use Rattle.bx_journal_format.specs.Text.{ended}
use Rattle.bx_journal_protocol.specs.declared.write.head.Place.{Place}
use Rattle.bx_journal_protocol.specs.write.First.{AllHaveFirst, AllKeptOrShort, AllLeft}
use Rattle.bx_journal_protocol.specs.write.Page.{IsPaged}
use Rattle.bx_journal_protocol.specs.write.Ranges.{head_from, rest_text}
use Rattle.bx_journal_protocol.proofs.FadeLemmas.{fades_front, fades_is}
use Rattle.bx_journal_protocol.proofs.StepSurvivors.{left_behind, left_of, sure_front}

-- of what is left fewer bytes are sure too
pub faded_less : (m n : ℕ) (text c : List ℕ) → n ≤ m → IsFaded m text c → IsFaded n text c
faded_less m n text c less fades = record {
  kept = omega (arith, less, fades.kept);
  no_longer = fades.no_longer;
  front = λ i h. fades.front i (omega (arith, h, less));
  bytes = fades.bytes;
}

-- what is left of a text that has a sure byte, or no more than one
pub first_or : (n : ℕ) (text c : List ℕ) → (n ≡ 0 → length text ≤ 1) → IsFaded n text c → HasFirst text c
first_or zero text c short fades = inr (omega (arith, short refl, fades.no_longer))
first_or (suc n) text c short fades = inl (faded_less (suc n) 1 text c (omega arith) fades)

index_take : (k : ℕ) (t : List ℕ) (i : ℕ) → i < k → slice_index (take k t) i ≡ slice_index t i
index_take zero t i h = absurd (omega (arith, h))
index_take (suc k) [] i h = refl
index_take (suc k) (b ∷ t) zero h = refl
index_take (suc k) (b ∷ t) (suc i) h = index_take k t i (omega (arith, h))

-- what is left of a front of a text
pub front_faded : (n : ℕ) (text mid c : List ℕ) → IsCutInPart n text mid → IsFaded n mid c → IsFaded n text c
front_faded n text mid c part fades =
    let short : length mid ≤ length text = omega (arith, ap length part.front ∙ length-take (length mid) text) in
    let same : (i : ℕ) → i < length mid → slice_index mid i ≡ slice_index text i = λ i h. ap (λ t. slice_index t i) part.front ∙ index_take (length mid) text i h in
    record {
      kept = fades.kept;
      no_longer = omega (arith, fades.no_longer, short);
      front = λ i h. fades.front i h ∙ same i (omega (arith, h, part.no_shorter));
      bytes = λ i h. either (same i (omega (arith, h, fades.no_longer))) (fades.bytes i h);
    }
  where
    either : {a b d : ℕ} → b ≡ d → (a ≡ b) ⊎ (a ≡ 0) → (a ≡ d) ⊎ (a ≡ 0)
    either is (inl same) = inl (same ∙ is)
    either is (inr none) = inr none

pub first_behind : (n : ℕ) (text mid c : List ℕ) → IsCutInPart n text mid → (n ≡ 0 → length mid ≤ 1) → IsFaded n mid c → HasFirst text c
first_behind zero text mid c part short fades = inr (omega (arith, short refl, fades.no_longer))
first_behind (suc n) text mid c part short fades = inl (faded_less (suc n) 1 text c (omega arith) (front_faded (suc n) text mid c part fades))

-- a text that is cut twice
pub cut_twice : (n : ℕ) (text mid new : List ℕ) → IsCutInPart n text mid → IsCutInPart n mid new → IsCutInPart n text new
cut_twice n text mid new first next =
    let less : length new ≤ length mid = omega (arith, ap length next.front ∙ length-take (length new) mid) in
    record {
      no_shorter = next.no_shorter;
      front = next.front ∙ ap (take (length new)) first.front ∙ take-take (length new) (length mid) text less;
    }

pub take_part : (n : ℕ) (text mid : List ℕ) → IsCutInPart n text mid → take n mid ≡ take n text
take_part n text mid part = ap (take n) part.front ∙ take-take n (length mid) text part.no_shorter

-- a text that is to be empty, and is cut to its first byte
pub left_first : (n : ℕ) (text mid : List ℕ) (P Q R : List ℕ → Type 0) → n ≤ 1 → mid ≡ text → 1 ≤ length mid → Only text P → NoMore P Q → FadesFrom 1 Q R → AllLeft n text R
left_first n text mid P Q R few is some only less fades c there =
    let left : IsFaded 1 text c = left_of text 1 Q R (omega (arith, some, ap length is)) (λ d now. only d (less d now)) fades c there in
    (faded_less 1 n text c few left, inl left)

-- the first byte of a text that an empty one is to have
pub first_of : (page : List ℕ) (b : ℕ) → 0 < length page → (b ≡ get_or page 0 b) → b ∷ drop 1 page ≡ page
first_of [] b some is = absurd (omega (arith, some))
first_of (d ∷ page) b some is = ap (λ x. x ∷ page) is

pub fades_first : (page old text : List ℕ) (b : ℕ) (P Q R : List ℕ → Type 0) → text ≡ old → b ∷ drop 1 page ≡ page → NoMore P Q → FadesBehind text (b ∷ []) Q R → FadesBehind old page P R
fades_first page old text b P Q R same is less fades =
    let T : List ℕ → Type 0 = λ w. FadesBehind w (b ∷ []) Q R in
    let here : FadesBehind old (b ∷ []) P R = record { fade = λ n rest all. (subst T same fades).fade n rest (λ c now. all c (less c now)) } in
    fades_is old (b ∷ drop 1 page) page P R is (fades_front old (b ∷ []) (drop 1 page) P R here)

pub part_first : (page old text new : List ℕ) (b : ℕ) → text ≡ old → b ∷ drop 1 page ≡ page → IsPartlyAppended (b ∷ []) text new → IsPartlyAppended page old new
part_first page old text new b same is (zero, put) = (0, put ∙ ap (λ t. t ++ []) same)
part_first page old text new b same is (suc k, put) = (1, put ∙ ap (λ t. t ++ take (suc k) (b ∷ [])) same ∙ ap (λ t. old ++ t) (one k ∙ ap (take 1) is))
  where
    one : (k : ℕ) → take (suc k) (b ∷ []) ≡ take 1 (b ∷ drop 1 page)
    one zero = refl
    one (suc k) = refl

-- whatever is found of an empty text that gets a byte is no longer than that
pub short_first : (old text : List ℕ) (b : ℕ) (P Q R : List ℕ → Type 0) → text ≡ old → length old ≡ 0 → Only old P → NoMore P Q → FadesBehind text (b ∷ []) Q R → AllKeptOrShort old R
short_first old text b P Q R same none only less fades c there =
    let empty : text ≡ [] = nothing text (ap length same ∙ none) in
    let left = left_behind text (b ∷ []) Q R (λ d now. only d (less d now) ∙ sym same) fades c there in
    inr (omega (arith, left.no_longer, ap (λ t. length (t ++ b ∷ [])) empty))
  where
    nothing : (t : List ℕ) → length t ≡ 0 → t ≡ []
    nothing [] e = refl
    nothing (d ∷ t) e = absurd (omega (arith, e))

-- a text that is on the disk has its own first byte
pub own_first : (text more : List ℕ) → HasFirst (text ++ more) text
own_first [] more = inr (omega arith)
own_first (b ∷ text) more = inl (faded_less (length (b ∷ text)) 1 ((b ∷ text) ++ more) (b ∷ text) (omega arith) (sure_front (b ∷ text) more))

-- a head whose first byte was taken from its page
pub head_split : (x : List ℕ) (ranges : List Span) (p : Place) (number : ℕ) (added page whole : List ℕ) → added ++ page ≡ whole → added ++ head_from x ranges p page number ≡ head_from x ranges p whole number
head_split x ranges p number added page whole is =
    sym (append_assoc added (page ++ rest_text x ranges p) (ended (save_line number)))
    ∙ ap (λ t. t ++ ended (save_line number)) (sym (append_assoc added page (rest_text x ranges p)) ∙ ap (λ t. t ++ rest_text x ranges p) is)

-- what was put behind it
pub put_behind : (old mid added more whole new : List ℕ) → mid ≡ old ++ added → added ++ more ≡ whole → new ≡ mid ++ more → new ≡ old ++ whole
put_behind old mid added more whole new is joined put = put ∙ ap (λ t. t ++ more) is ∙ append_assoc old added more ∙ ap (λ t. old ++ t) joined

pub part_behind_first : (old mid added more whole new : List ℕ) → mid ≡ old ++ added → added ++ more ≡ whole → IsPartlyAppended more mid new → IsPartlyAppended whole old new
part_behind_first old mid added more whole new is joined (k, put) =
    (length added + k, put_behind old mid added (take k more) (take (length added + k) whole) new is (taken added more k ∙ ap (take (length added + k)) joined) put)
  where
    taken : (added more : List ℕ) (k : ℕ) → added ++ take k more ≡ take (length added + k) (added ++ more)
    taken [] more k = ap (λ m. take m more) (let e : k ≡ 0 + k = omega arith in e)
    taken (b ∷ added) more k =
        ap (λ t. b ∷ t) (taken added more k) ∙ ap (λ m. take m (b ∷ (added ++ more))) (let e : suc (length added + k) ≡ suc (length added) + k = omega arith in e)

-- behind a first byte that is on the disk, whatever is found has it
pub all_have_first : (text more : List ℕ) (survives : List ℕ → Type 0) → 0 < length text → AllFade (length text) (text ++ more) survives → AllHaveFirst (text ++ more) survives
all_have_first text more survives some fades c there = inl (faded_less (length text) 1 (text ++ more) c some (fades c there))

pub short_have_first : (text more : List ℕ) (survives : List ℕ → Type 0) → AllKeptOrShort text survives → AllHaveFirst (text ++ more) survives
short_have_first text more survives all c there = by (all c there)
  where
    by : (c ≡ text) ⊎ (length c ≤ 1) → HasFirst (text ++ more) c
    by (inl same) = subst (HasFirst (text ++ more)) (sym same) (own_first text more)
    by (inr few) = inr few
