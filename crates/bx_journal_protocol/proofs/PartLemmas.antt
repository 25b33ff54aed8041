-- A record that is restored part by part.
use Rattle.std.proofs.Common.{◌≡◌, ℕ, ◌+◌, List, length, min, inl, inr, refl, ◌∙◌, subst, sym, arith, Result, Ok, Err}
use Rattle.std.specs.Prelude.{OnOk, OnErr}
use Rattle.std.proofs.lemmas.Bool.{cases_lt}
use Rattle.bx_image.specs.Change.{KeepsUnmapped}
use Rattle.bx_image.specs.Device.{IsPartlyWritten, IsPartlyCut}
use Rattle.bx_image.specs.Image.{place, cut}
use Rattle.bx_image.specs.Power.{Only, Follows, KeepsOutside, KeepsBelow}
use Rattle.bx_image.proofs.Records.{IsAsGood-unmapped}
use Rattle.bx_image.proofs.Images.{IsPartlyCut-cut, IsPartlyWritten-place}
use Rattle.bx_journal_format.specs.Kept.{Kept}
use Rattle.bx_journal_protocol.specs.protocol.Fading.{AllKeepUnmapped}
use Rattle.bx_journal_model.specs.Phase.{IsCutOf, IsPartOf, StaysOpen}
use Rattle.bx_journal_model.proofs.Phases.{open_moves}

-- what keeps all that a record leaves out keeps a pair open on it
pub unmapped_moves : (s : Kept) (x y : List ℕ) → KeepsUnmapped s x y → StaysOpen s x y
unmapped_moves s x y kept v text stack o = open_moves v s text x y stack o (IsAsGood-unmapped s x y kept o.sound.unfinished)

part_kept : (s : Kept) (x y : List ℕ) (at n : ℕ) → IsPartOf s at n → IsPartlyWritten at n x y → KeepsUnmapped s x y
part_kept s x y at n named part = record {
  there = λ i old below none. omega (arith, part.no_shorter, old);
  same = λ i old below none. elim (cases_lt i at) [
    | inl before ↦ part.below i before
    | inr from ↦ elim (cases_lt i (at + n)) [
      | inl inside ↦ absurd (named i from inside below none)
      | inr behind ↦ part.above i behind
    ]
  ];
}

cut_kept : (s : Kept) (x y : List ℕ) (n : ℕ) → IsCutOf s n → IsPartlyCut n x y → KeepsUnmapped s x y
cut_kept s x y n named part = record {
  there = λ i old below none. elim (cases_lt i n) [
    | inl before ↦ omega (arith, part.no_shorter, old, before)
    | inr from ↦ absurd (named i from below none)
  ];
  same = λ i old below none. elim (cases_lt i n) [
    | inl before ↦ part.front i old before
    | inr from ↦ absurd (named i from below none)
  ];
}

pub part_keeps : {E : Type 0} (r : Result (Unit {0}) E) (s : Kept) (x y bytes : List ℕ) (at : ℕ) → IsPartOf s at (length bytes)
    → OnOk r (y ≡ place x at bytes) → OnErr r (IsPartlyWritten at (length bytes) x y) → KeepsUnmapped s x y
part_keeps (Ok v) s x y bytes at named is part =
    part_kept s x y at (length bytes) named (subst (IsPartlyWritten at (length bytes) x) (sym is) (IsPartlyWritten-place x at bytes))
part_keeps (Err e) s x y bytes at named is part = part_kept s x y at (length bytes) named part

pub cut_keeps : {E : Type 0} (r : Result (Unit {0}) E) (s : Kept) (x y : List ℕ) (n : ℕ) → IsCutOf s n
    → OnOk r (y ≡ cut x n) → OnErr r (IsPartlyCut n x y) → KeepsUnmapped s x y
cut_keeps (Ok v) s x y n same is part = cut_kept s x y n same (subst (IsPartlyCut n x) (sym is) (IsPartlyCut-cut x n))
cut_keeps (Err e) s x y n same is part = cut_kept s x y n same part

outside_kept : (s : Kept) (x y : List ℕ) (at n : ℕ) → IsPartOf s at n → KeepsOutside at n x y → KeepsUnmapped s x y
outside_kept s x y at n named keeps = record {
  there = λ i old below none. elim (cases_lt i at) [
    | inl before ↦ (keeps i old (inl before)).0
    | inr from ↦ elim (cases_lt i (at + n)) [
      | inl inside ↦ absurd (named i from inside below none)
      | inr behind ↦ (keeps i old (inr behind)).0
    ]
  ];
  same = λ i old below none. elim (cases_lt i at) [
    | inl before ↦ (keeps i old (inl before)).1
    | inr from ↦ elim (cases_lt i (at + n)) [
      | inl inside ↦ absurd (named i from inside below none)
      | inr behind ↦ (keeps i old (inr behind)).1
    ]
  ];
}

below_kept : (s : Kept) (x y : List ℕ) (n : ℕ) → IsCutOf s n → KeepsBelow (min n (length x)) x y → KeepsUnmapped s x y
below_kept s x y n named keeps = record {
  there = λ i old below none. elim (cases_lt i n) [
    | inl before ↦ (keeps i old (omega (arith, old, before))).0
    | inr from ↦ absurd (named i from below none)
  ];
  same = λ i old below none. elim (cases_lt i n) [
    | inl before ↦ (keeps i old (omega (arith, old, before))).1
    | inr from ↦ absurd (named i from below none)
  ];
}

-- whatever is found comes from what was found before, and has what a record leaves out
pub part_follows : (s : Kept) (at n : ℕ) (P Q : List ℕ → Type 0) → IsPartOf s at n → Follows (KeepsOutside at n) P Q → Follows (KeepsUnmapped s) P Q
part_follows s at n P Q named follows = λ c there. on c (follows c there)
  where
    on : (c : List ℕ) → (d : List ℕ) × P d × KeepsOutside at n d c → (d : List ℕ) × P d × KeepsUnmapped s d c
    on c (d, old, keeps) = (d, old, outside_kept s d c at n named keeps)

pub cut_follows : (s : Kept) (x : List ℕ) (n : ℕ) (P Q : List ℕ → Type 0) → IsCutOf s n → Only x P → Follows (KeepsBelow (min n (length x))) P Q → AllKeepUnmapped s x Q
cut_follows s x n P Q named only follows = λ c there. on c (follows c there)
  where
    on : (c : List ℕ) → (d : List ℕ) × P d × KeepsBelow (min n (length x)) d c → KeepsUnmapped s x c
    on c (d, old, keeps) =
        let T : List ℕ → Type 0 = λ w. KeepsBelow (min n (length x)) w c in
        below_kept s x c n named (subst T (only d old) keeps)

-- one part behind others
pub keeps_on : (s : Kept) (x y z : List ℕ) → KeepsUnmapped s x y → KeepsUnmapped s y z → KeepsUnmapped s x z
keeps_on s x y z first next = record {
  there = λ i old below none. next.there i (first.there i old below none) below none;
  same = λ i old below none. next.same i (first.there i old below none) below none ∙ first.same i old below none;
}

pub keeps_same : (s : Kept) (x : List ℕ) → KeepsUnmapped s x x
keeps_same s x = record { there = λ i old below none. old; same = λ i old below none. refl }

pub all_keep_on : (s : Kept) (x : List ℕ) (P Q : List ℕ → Type 0) → AllKeepUnmapped s x P → Follows (KeepsUnmapped s) P Q → AllKeepUnmapped s x Q
all_keep_on s x P Q first follows = λ c there. on c (follows c there)
  where
    on : (c : List ℕ) → (d : List ℕ) × P d × KeepsUnmapped s d c → KeepsUnmapped s x c
    on c (d, old, keeps) = keeps_on s x d c (first d old) keeps
