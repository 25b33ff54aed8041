-- Reading a front of lines that may be cut anywhere.
use Rattle.std.proofs.Common.{◌≡◌, ℕ, true, List, [], ◌∷◌, ◌++◌, refl, ap, subst, inl, inr, arith, append_assoc, Option, Some, None}
use Rattle.std.specs.Prelude.{option_and_then}
use Rattle.std.specs.List.{list_all}
use Rattle.bx_journal_format.specs.Text.{split, Split, text_of_lines, IsPrefix, Reading, Entry, Stage, Between, Saving, Ending, IsRest, after_lines, is_short, next}
use Rattle.bx_journal_format.specs.read.Plain.{HasNoNewline}
use Rattle.bx_journal_format.proofs.Splits.{plain_front, split-ended, split-plain, front_cases}

pub after_lines-append : (r q : Reading) (a b : List (List ℕ)) → after_lines r a ≡ Some q → after_lines r (a ++ b) ≡ after_lines q b
unfolding after_lines
after_lines-append r q [] b e = let same : r ≡ q = cc in ap (λ s. after_lines s b) same
after_lines-append r q (l ∷ a) b e = step (next r l) q a b (λ s. after_lines-append s q a b) e
  where
    step : (o : Option Reading) (q : Reading) (a b : List (List ℕ)) → ((s : Reading) → after_lines s a ≡ Some q → after_lines s (a ++ b) ≡ after_lines q b)
        → option_and_then (λ s. after_lines s a) o ≡ Some q → option_and_then (λ s. after_lines s (a ++ b)) o ≡ after_lines q b
    step None q a b ih e = cc
    step (Some s) q a b ih e = ih s e

-- nothing may stand behind a newline
pub empty_rest : (entries : List Entry) (stage : Stage) → IsRest entries stage []
empty_rest entries Between = inl refl
empty_rest entries (Saving v s) = inr (refl, refl)
empty_rest entries (Ending v s) = (0, omega arith, (_, refl))

-- Each line may follow those before it, each front of it may stand at the end, and after each line the reading has Q, and after the last E
abbrev pub SafeRun : (Reading → Type 0) → (Reading → Type 0) → Reading → List (List ℕ) → Type 0
SafeRun Q E r [] = Q r × E r
SafeRun Q E r (l ∷ ls) = Q r × ((t : List ℕ) → IsPrefix t l → IsRest r.entries r.stage t) × HasNoNewline l × (is_short l ≡ true)
    × ((q : Reading) × (next r l ≡ Some q) × SafeRun Q E q ls)

-- lines and a rest that go on from a reading
pub record GoesBy (Q : Reading → Type 0) (r : Reading) (s : Split) : Type 0 where
  pub reading : Reading
  pub lines : after_lines r s.lines ≡ Some reading
  pub rest : IsRest reading.entries reading.stage s.rest
  pub has : Q reading
  pub short : list_all is_short s.lines ≡ true

-- a text that goes on from a reading
abbrev pub Goes : (Reading → Type 0) → Reading → List ℕ → Type 0
Goes Q r p = GoesBy Q r (split p)

safe_front : (Q : Reading → Type 0) (r : Reading) (l p : List ℕ) → Q r → ((t : List ℕ) → IsPrefix t l → IsRest r.entries r.stage t) → HasNoNewline l → IsPrefix p l → Goes Q r p
unfolding after_lines
safe_front Q r l p q fits plain front =
    let plain_p : HasNoNewline p = plain_front p front.0 (subst HasNoNewline front.1 plain) in
    rw (split-plain p plain_p) (record { reading = r; lines = refl; rest = fits p front; has = q; short = refl })

goes_on : (Q : Reading → Type 0) (r q : Reading) (l p : List ℕ) → HasNoNewline l → is_short l ≡ true → next r l ≡ Some q → Goes Q q p → Goes Q r (l ++ 10 ∷ p)
unfolding after_lines
goes_on Q r q l p plain short is g =
    rw (split-ended l p plain) (record {
      reading = g.reading;
      lines = rw is g.lines;
      rest = g.rest;
      has = g.has;
      short = rw short g.short;
    })

-- all of the lines
pub record GoesAllBy (Q E : Reading → Type 0) (r : Reading) (s : Split) : Type 0 where
  pub reading : Reading
  pub lines : after_lines r s.lines ≡ Some reading
  pub whole : s.rest ≡ []
  pub has : Q reading
  pub ends : E reading
  pub short : list_all is_short s.lines ≡ true

all_on : (Q E : Reading → Type 0) (r q : Reading) (l : List ℕ) (ls : List (List ℕ)) → HasNoNewline l → is_short l ≡ true → next r l ≡ Some q → GoesAllBy Q E q (split (text_of_lines ls)) → GoesAllBy Q E r (split (text_of_lines (l ∷ ls)))
unfolding after_lines
all_on Q E r q l ls plain short is g =
    rw (append_assoc l (10 ∷ []) (text_of_lines ls), split-ended l (text_of_lines ls) plain) (record { reading = g.reading; lines = rw is g.lines; whole = g.whole; has = g.has; ends = g.ends; short = rw short g.short })

pub safe_prefix : (Q E : Reading → Type 0) (r : Reading) (ls : List (List ℕ)) → SafeRun Q E r ls → (p : List ℕ) → IsPrefix p (text_of_lines ls) → Goes Q r p
unfolding after_lines split
safe_prefix Q E r [] run [] front = record { reading = r; lines = refl; rest = empty_rest r.entries r.stage; has = run.0; short = refl }
safe_prefix Q E r [] run (b ∷ p) front = absurd (let e : [] ≡ b ∷ (p ++ front.0) = front.1 in cc)
safe_prefix Q E r (l ∷ ls) run p front =
    let whole : l ++ 10 ∷ text_of_lines ls ≡ p ++ front.0 = rw append_assoc at front.1 in
    elim (front_cases l (text_of_lines ls) p front.0 whole) [
      | inl h ↦ safe_front Q r l p run.0 run.1 run.2 h
      | inr h ↦ rw (h.1) (goes_on Q r run.4.0 l h.0 run.2 run.3 run.4.1 (safe_prefix Q E run.4.0 ls run.4.2 h.0 (front.0, h.2)))
    ]

pub safe_all : (Q E : Reading → Type 0) (r : Reading) (ls : List (List ℕ)) → SafeRun Q E r ls → GoesAllBy Q E r (split (text_of_lines ls))
unfolding after_lines split
safe_all Q E r [] run = record { reading = r; lines = refl; whole = refl; has = run.0; ends = run.1; short = refl }
safe_all Q E r (l ∷ ls) run =
    let g : GoesAllBy Q E run.4.0 (split (text_of_lines ls)) = safe_all Q E run.4.0 ls run.4.2 in
    all_on Q E r run.4.0 l ls run.2 run.3 run.4.1 g
