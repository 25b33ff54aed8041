-- Text that goes to a store page by page.
use Rattle.std.proofs.Common.{◌≡◌, ℕ, ◌+◌, ◌≤◌, min, List, [], ◌++◌, length, map, take, drop, refl, ap, sym, ◌∙◌, arith, append_assoc, append-nil, length-append, subst, Result, Ok, Err}
use Rattle.std.specs.Prelude.{OnErr}
use Rattle.std.specs.List.{range_with_len}
use Rattle.std.proofs.lemmas.List.{take-append-drop, take-append-le, take_all, take_min, take_at}
use Rattle.bx_journal_store.specs.Store.{IsPartlyAppended}
use Rattle.bx_journal_format.specs.Kept.{Run}
use Rattle.bx_journal_format.specs.Entry.{rows_text, row}
use Rattle.bx_journal_format.proofs.WriterLemmas.{rows_split}
use Rattle.bx_journal_protocol.specs.write.Page.{IsPaged}

-- where nothing was appended
pub paged_here : (bytes text page : List ℕ) → page ≡ bytes → IsPaged bytes text text page
paged_here bytes text page is = record { added = []; text_is = sym (append-nil text); bytes_are = is }

-- and then more
pub paged_more : (b c old mid new p q : List ℕ) → IsPaged b old mid p → IsPaged (p ++ c) mid new q → IsPaged (b ++ c) old new q
paged_more b c old mid new p q first next = record {
  added = first.added ++ next.added;
  text_is = next.text_is ∙ ap (λ t. t ++ next.added) first.text_is ∙ append_assoc old first.added next.added;
  bytes_are = append_assoc first.added next.added q ∙ ap (λ t. first.added ++ t) next.bytes_are ∙ sym (append_assoc first.added p c) ∙ ap (λ t. t ++ c) first.bytes_are;
}

-- where more waits in the page
pub paged_grown : (b c old new p q : List ℕ) → IsPaged b old new p → q ≡ p ++ c → IsPaged (b ++ c) old new q
paged_grown b c old new p q first is = record {
  added = first.added;
  text_is = first.text_is;
  bytes_are = ap (λ t. first.added ++ t) is ∙ sym (append_assoc first.added p c) ∙ ap (λ t. t ++ c) first.bytes_are;
}

-- a front of some bytes is one of more
pub part_front : (a b old new : List ℕ) → IsPartlyAppended a old new → IsPartlyAppended (a ++ b) old new
part_front a b old new part =
    let few : min part.0 (length a) ≤ length a = omega arith in
    (min part.0 (length a), part.1 ∙ ap (λ t. old ++ t) (sym (take-append-le (min part.0 (length a)) a b few ∙ take_min part.0 a)))

-- what failed behind bytes that were put
pub part_behind : (b c old mid new p : List ℕ) → IsPaged b old mid p → IsPartlyAppended (p ++ c) mid new → IsPartlyAppended (b ++ c) old new
part_behind b c old mid new p first part =
    let front : List ℕ = take part.0 (p ++ c) in
    let rest : List ℕ = drop part.0 (p ++ c) in
    let whole : (first.added ++ front) ++ rest ≡ b ++ c =
    append_assoc first.added front rest ∙ ap (λ t. first.added ++ t) (take-append-drop part.0 (p ++ c)) ∙ sym (append_assoc first.added p c) ∙ ap (λ t. t ++ c) first.bytes_are in
    let cut : take (length (first.added ++ front)) (b ++ c) ≡ first.added ++ front =
    ap (take (length (first.added ++ front))) (sym whole) ∙ take_at (first.added ++ front) rest (length (first.added ++ front)) refl in
    (length (first.added ++ front), part.1 ∙ ap (λ t. t ++ front) first.text_is ∙ append_assoc old first.added front ∙ ap (λ t. old ++ t) (sym cut))

-- when the last page was appended
pub paged_all : (b old mid new p : List ℕ) → IsPaged b old mid p → new ≡ mid ++ p → new ≡ old ++ b
paged_all b old mid new p first is =
    is ∙ ap (λ t. t ++ p) first.text_is ∙ append_assoc old first.added p ∙ ap (λ t. old ++ t) first.bytes_are

pub paged_length : (b old new p : List ℕ) → IsPaged b old new p → length new + length p ≡ length old + length b
paged_length b old new p is =
    omega (arith, ap length is.text_is, ap length is.bytes_are, length-append old is.added, length-append is.added p)

-- the same of other words for the bytes
pub paged_step : (b c d old mid new p q : List ℕ) → IsPaged b old mid p → IsPaged (p ++ c) mid new q → b ++ c ≡ d → IsPaged d old new q
paged_step b c d old mid new p q first next is = subst (λ t. IsPaged t old new q) is (paged_more b c old mid new p q first next)

pub part_step : (b c d whole rest old mid new p : List ℕ) → IsPaged b old mid p → IsPartlyAppended (p ++ c) mid new → b ++ c ≡ d → whole ≡ d ++ rest → IsPartlyAppended whole old new
part_step b c d whole rest old mid new p first part is more =
    subst (λ t. IsPartlyAppended t old new) (ap (λ t. t ++ rest) is ∙ sym more) (part_front (b ++ c) rest old new (part_behind b c old mid new p first part))

pub part_last : (b old mid new p : List ℕ) → IsPaged b old mid p → IsPartlyAppended p mid new → IsPartlyAppended b old new
part_last b old mid new p first part =
    subst (λ t. IsPartlyAppended t old new) (append-nil b) (part_behind b [] old mid new p first (subst (λ t. IsPartlyAppended t mid new) (sym (append-nil p)) part))

pub at_err : {T E P : Type 0} (r : Result T E) → P → OnErr r P
at_err (Ok x) p = tt
at_err (Err e) p = p

pub paged_is : (b d old new p : List ℕ) → b ≡ d → IsPaged b old new p → IsPaged d old new p
paged_is b d old new p is paged = subst (λ t. IsPaged t old new p) is paged

pub part_is : (b d old new : List ℕ) → b ≡ d → IsPartlyAppended b old new → IsPartlyAppended d old new
part_is b d old new is part = subst (λ t. IsPartlyAppended t old new) is part

-- where rows stand behind what waited in a page
pub rows_grown : (text bytes : List ℕ) (run : Run) (k n : ℕ) (old new p q : List ℕ) → bytes ≡ run.bytes
    → q ≡ p ++ rows_text (map (row (record { at = run.at; bytes = bytes })) (range_with_len k n))
    → IsPaged (text ++ rows_text (map (row run) (range_with_len 0 k))) old new p
    → IsPaged (text ++ rows_text (map (row run) (range_with_len 0 (k + n)))) old new q
rows_grown text bytes run k n old new p q same is paged =
    let done : List ℕ = rows_text (map (row run) (range_with_len 0 k)) in
    let more : List ℕ = rows_text (map (row run) (range_with_len k n)) in
    let all : q ≡ p ++ more = is ∙ ap (λ b. p ++ rows_text (map (row (record { at = run.at; bytes = b })) (range_with_len k n))) same in
    paged_is _ _ _ _ _ (append_assoc text done more ∙ ap (λ t. text ++ t) (sym (rows_split run k n))) (paged_grown (text ++ done) more old new p q paged all)

-- what was appended whole is a front of itself
pub part_all : (b old new : List ℕ) → new ≡ old ++ b → IsPartlyAppended b old new
part_all b old new is = (length b, is ∙ ap (λ t. old ++ t) (sym (take_all (length b) b (omega arith))))
