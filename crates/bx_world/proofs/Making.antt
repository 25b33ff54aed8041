-- Files that a run made.
use Rattle.std.proofs.Common.{◌≡◌, ◌⊎◌, ◌∙◌, ◌<◌, ◌≤◌, ℕ, Bool, true, false, cond, List, [], Option, Some, None, refl, sym, ap, subst, inl, inr, arith}
use Rattle.std.specs.Option.{unwrap_or}
use Rattle.bx_world.specs.World.{KeepsStreams, Makes, SystemState}
use Rattle.bx_world.specs.files.Files.{HasMade, IsFileOpened, IsOpenUnder, IsThere, LeadsToMade}

pub some_one : {m n : ℕ} → Some m ≡ Some n → m ≡ n
some_one {m} {n} is = ap (λ o. unwrap_or o m) is

pub none_some : (n : ℕ) → None ≡ Some n → ⊥
none_some n wrong = cc

pub false_true : false ≡ true → ⊥
false_true wrong = cc

-- nothing is written by two calls that write nothing
pub streams_then : (a b c : SystemState) → KeepsStreams a b → KeepsStreams b c → KeepsStreams a c
streams_then a b c one two = record {
  is_link = λ m. two.is_link m ∙ one.is_link m;
  caller = two.caller ∙ one.caller;
  output = two.output ∙ one.output;
  errors = two.errors ∙ one.errors;
  before = two.before ∙ one.before;
  lent = two.lent ∙ one.lent;
}

pub streams_same : (w : SystemState) → KeepsStreams w w
streams_same w = record {
  is_link = λ m. refl;
  caller = refl;
  output = refl;
  errors = refl;
  before = refl;
  lent = refl;
}

-- where nothing happened nothing was made
pub made_none : (P : ℕ → Type 0) (w : SystemState) → ((n : ℕ) → P n → ⊥) → HasMade P w w
made_none P w none = record {
  named = λ m. inl refl;
  bytes = λ i below. refl;
  stat = λ i below. refl;
  fresh = λ n is. absurd (none n is);
  there = omega arith;
  stuck = refl;
  streams = streams_same w;
}

leads_then : (P Q : ℕ → Type 0) (a b c : Option ℕ) → LeadsToMade P a b → LeadsToMade Q b c → LeadsToMade (λ n. P n ⊎ Q n) a c
leads_then P Q a b c one two = elim two [
  | inl same ↦ elim one [
    | inl before ↦ inl (same ∙ before)
    | inr first ↦ inr (first.0, first.1, inl first.2, same ∙ first.3)
  ]
  | inr then ↦ elim one [
    | inl before ↦ inr (then.0, sym before ∙ then.1, inr then.2, then.3)
    | inr first ↦ inr (then.0, first.1, inr then.2, then.3)
  ]
]

-- what was made by two calls
pub made_then : (P Q : ℕ → Type 0) (a b c : SystemState) → HasMade P a b → HasMade Q b c → HasMade (λ n. P n ⊎ Q n) a c
made_then P Q a b c one two =
    let least = one.there in
    let more = two.there in
    record {
      named = λ m. leads_then P Q (a.named m) (b.named m) (c.named m) (one.named m) (two.named m);
      bytes = λ i below. two.bytes i (omega (arith, least, below)) ∙ one.bytes i below;
      stat = λ i below. two.stat i (omega (arith, least, below)) ∙ one.stat i below;
      fresh = λ n is. elim is [
        | inl first ↦
            let fresh = one.fresh n first in
            let within = fresh.1 in
            (fresh.0, omega (arith, within, more), two.bytes n fresh.1 ∙ fresh.2)
        | inr then ↦
            let fresh = two.fresh n then in
            let after = fresh.0 in
            (omega (arith, least, after), fresh.1, fresh.2)
      ];
      there = omega (arith, least, more);
      stuck = two.stuck ∙ one.stuck;
      streams = streams_then a b c one.streams two.streams;
    }

-- a name that leads to a file leads to it still, when files were made
pub made_still : (P : ℕ → Type 0) (old new : SystemState) (m : List ℕ) (n : ℕ) → HasMade P old new → old.named m ≡ Some n → new.named m ≡ Some n
made_still P old new m n has named = elim (has.named m) [
  | inl same ↦ same ∙ named
  | inr is_new ↦ absurd (none_some n (sym is_new.1 ∙ named))
]

-- a file that was there is open
pub opened_there : (name : List ℕ) (makes : Bool) (n : ℕ) (w : SystemState) → IsThere name n w → IsFileOpened name makes false n w w
opened_there name makes n w there = record {
  files = made_none _ w (λ m is. false_true is.0);
  under = record { was = there.named; named = there.named; empty = λ wrong. absurd (false_true wrong) };
  there = there.there;
  asked = λ wrong. absurd (false_true wrong);
}

-- a file that was made is open
pub opened_made : (old new : SystemState) (name : List ℕ) (n : ℕ) → Makes old new name n → IsFileOpened name true true n old new
opened_made old new name n made =
    let number = made.number in
    let there = made.there in
    record {
      files = record {
        named = λ m. elim (made.others m) [
          | inl same ↦ inl same
          | inr is_new ↦ inr (n, is_new.0, (refl, refl), is_new.1)
        ];
        bytes = made.bytes;
        stat = made.stat;
        fresh = λ k is. subst (λ (i : ℕ). (old.there ≤ i) × (i < new.there) × (new.bytes i ≡ [])) (sym is.1)
            (omega (arith, number), omega (arith, number, there), made.empty);
        there = omega (arith, there);
        stuck = made.stuck;
        streams = made.streams;
      };
      under = record { was = made.missing; named = made.named; empty = λ _. made.empty };
      there = omega (arith, number, there);
      asked = λ _. refl;
    }

-- a file that was made is a later one
pub made_later : (old new : SystemState) (name : List ℕ) (n : ℕ) → Makes old new name n → old.before ≤ old.there → new.before ≤ n
made_later old new name n m begun = let number = m.number in let before = m.streams.before in grind (arith, number, before, begun)

-- a file that was made since then is a later one, of whatever was made
pub fresh_later : (P : ℕ → Type 0) (n : ℕ) (old new : SystemState) → HasMade P old new → P n → old.before ≤ old.there → new.before ≤ n
fresh_later P n old new has is begun =
    let fresh = (has.fresh n is).0 in let before = has.streams.before in grind (arith, fresh, before, begun)

-- a file that is open is so still, when more files were made
pub under_later : (P : ℕ → Type 0) (name : List ℕ) (made : Bool) (n : ℕ) (a b c : SystemState) → IsOpenUnder name made n a b → n < b.there
    → HasMade P b c → IsOpenUnder name made n a c
under_later P name made n a b c under there has = record {
  was = under.was;
  named = made_still P b c name n has under.named;
  empty = λ is. has.bytes n there ∙ under.empty is;
}

was_before : (P : ℕ → Type 0) (made : Bool) (n : ℕ) (a b : Option ℕ) → LeadsToMade P a b → b ≡ cond made None (Some n) → (P n → ⊥)
    → a ≡ cond made None (Some n)
was_before P true n a b leads is apart = elim leads [
  | inl same ↦ sym same ∙ is
  | inr made ↦ absurd (none_some made.0 (sym is ∙ made.3))
]
was_before P false n a b leads is apart = elim leads [
  | inl same ↦ sym same ∙ is
  | inr made ↦ absurd (apart (subst P (some_one (sym made.3 ∙ is)) made.2))
]

-- a name that led to a file when it was opened led to it before other files were made
pub under_earlier : (P : ℕ → Type 0) (name : List ℕ) (made : Bool) (n : ℕ) (a b c : SystemState) → HasMade P a b → IsOpenUnder name made n b c
    → (P n → ⊥) → IsOpenUnder name made n a c
under_earlier P name made n a b c has under apart = record {
  was = was_before P made n (a.named name) (b.named name) (has.named name) under.was apart;
  named = under.named;
  empty = under.empty;
}
