-- What an undo of a change takes, and a redo of it: the redo saves again what the change saved.
use Rattle.std.proofs.Common.{◌≡◌, ℕ, zero, suc, ◌+◌, ◌<◌, ◌≤◌, ◌||◌, Bool, true, false, Option, None, Some, List, [], ◌∷◌, length, refl, ap, sym, ◌∙◌, inl, inr, arith, slice_index}
use Rattle.std.specs.Prelude.{nat_le, nat_lt, is_some, ◌&&◌, ◌==◌, if◌then◌else◌}
use Rattle.std.specs.Option.{option_map_or}
use Rattle.std.proofs.lemmas.Bool.{cases_Bool}
use Rattle.std.proofs.lemmas.Bool.Decides.{nat_tests}
use Rattle.bx_text.specs.declared.owned.pieces.Piece.{Piece}
use Rattle.bx_image.specs.declared.change.Change.{Change}
use Rattle.bx_image.specs.Change.{byte_in, effect, kept_byte, runs_from, saved, touches, with_byte, AllWithin, AreBytes, HaveBytes, IsOf}
use Rattle.bx_image.specs.Image.{end_of}
use Rattle.bx_image.proofs.Changes.{KeepsUntouched_refl}
use Rattle.bx_image.proofs.Records.{is_some-byte_in, KeepsUntouched-effect, len-saved, restore-saved, saved-maximal, saved-same}
use Rattle.bx_journal_format.specs.Kept.{Kept, kept_of}
use Rattle.bx_journal_model.specs.Taken.{taken}
use Rattle.bx_journal_protocol.proofs.Restored.{back_of}
use Rattle.bx_journal_protocol.proofs.TakenText.{kept_byte_in, plain, saved_in}

-- what is saved of bytes is a record of them
with_within : {A : Type 0} (limit at b : ℕ) (runs : List (Piece A)) → at < limit → AllWithin limit runs → AllWithin limit (with_byte at b runs)
unfolding with_byte
with_within limit at b [] low all = (omega arith, tt)
with_within {A = A} limit at b (run ∷ runs) low all = by_test (run.at == suc at) (λ is. grind (arith, nat_tests))
  where
    ends : (bytes : List ℕ) → run.at ≡ suc at → end_of run.at bytes ≤ limit → at + suc (length bytes) ≤ limit
    ends [] is within = omega (arith, low)
    ends (c ∷ bytes) is within = omega (arith, is, within)

    by_test : (t : Bool) → (t ≡ true → run.at ≡ suc at)
        → AllWithin {A = A} limit (if t then record { at = at; bytes = b ∷ run.bytes } ∷ runs else record { at = at; bytes = b ∷ [] } ∷ run ∷ runs)
    by_test true next = (ends run.bytes (next refl) all.0, all.1)
    by_test false next = (omega arith, all)

runs_within : (A : Type 0) (f : ℕ → Option ℕ) (limit at n : ℕ) → at + n ≤ limit → AllWithin {A = A} limit (runs_from f at n)
unfolding runs_from
runs_within A f limit at zero low = tt
runs_within A f limit at (suc n) low = by_byte (runs_within A f limit (suc at) n (omega arith)) (f at)
  where
    by_byte : AllWithin {A = A} limit (runs_from f (suc at) n) → (o : Option ℕ) → AllWithin {A = A} limit (option_map_or (λ b. with_byte at b (runs_from f (suc at) n)) o (runs_from f (suc at) n))
    by_byte rest None = rest
    by_byte rest (Some b) = with_within limit at b (runs_from f (suc at) n) (omega arith) rest

with_bytes : {A : Type 0} (at b : ℕ) (runs : List (Piece A)) → b < 256 → HaveBytes runs → HaveBytes (with_byte at b runs)
unfolding with_byte
with_bytes at b [] low all = ((low, tt), tt)
with_bytes {A = A} at b (run ∷ runs) low all = by_test (run.at == suc at)
  where
    by_test : (t : Bool) → HaveBytes {A = A} (if t then record { at = at; bytes = b ∷ run.bytes } ∷ runs else record { at = at; bytes = b ∷ [] } ∷ run ∷ runs)
    by_test true = ((low, all.0), all.1)
    by_test false = ((low, tt), all)

runs_bytes : (A : Type 0) (f : ℕ → Option ℕ) (at n : ℕ) → ((i b : ℕ) → f i ≡ Some b → b < 256) → HaveBytes {A = A} (runs_from f at n)
unfolding runs_from
runs_bytes A f at zero low = tt
runs_bytes A f at (suc n) low = by_byte (runs_bytes A f (suc at) n low) (f at) refl
  where
    by_byte : HaveBytes {A = A} (runs_from f (suc at) n) → (o : Option ℕ) → f at ≡ o → HaveBytes {A = A} (option_map_or (λ b. with_byte at b (runs_from f (suc at) n)) o (runs_from f (suc at) n))
    by_byte rest None is = rest
    by_byte rest (Some b) is = with_bytes at b (runs_from f (suc at) n) (low at b is) rest

byte_at : (x : List ℕ) (i : ℕ) → AreBytes x → slice_index x i < 256
byte_at [] i all = omega arith
byte_at (b ∷ x) zero all = all.0
byte_at (b ∷ x) (suc i) all = byte_at x i all.1

some_byte : (t : Bool) (v b : ℕ) → v < 256 → (if t then Some v else None) ≡ Some b → b < 256
some_byte true v b low is = let same : v ≡ b = cc in omega (arith, same, low)
some_byte false v b low is = cc

pub saved_is_of : {A : Type 0} (c : Change A) (x : List ℕ) → AreBytes x → IsOf (saved c x) x
unfolding saved
saved_is_of {A = A} c x bytes = record {
  len = refl;
  within = runs_within A (kept_byte c x) (length x) 0 (length x) (omega arith);
  bytes = runs_bytes A (kept_byte c x) 0 (length x) (λ i b is. some_byte (nat_lt i (length x) && touches c i) (slice_index x i) b (byte_at x i bytes) is);
  back = restore-saved c x x (KeepsUntouched_refl c x);
  covers = λ i below none. below;
}

-- which bytes are saved
is_some_if : (t : Bool) (v : ℕ) → is_some (if t then Some v else None) ≡ t
is_some_if true v = refl
is_some_if false v = refl

touches_back : (s : Kept) (i : ℕ) → touches (back_of s) i ≡ (nat_le s.len i || is_some (byte_in s.runs i))
unfolding touches
touches_back s i = ap (λ b. nat_le s.len i || b) (sym (is_some-byte_in s.runs i))

-- below the old length a redo touches what the change touched: f tells what the undo took of the changed image, e what the change saved
module _ {A : Type 0} (c : Change A) (x : List ℕ) (e f : Kept) (e_len : e.len ≡ length x) (e_is : (i : ℕ) → byte_in e.runs i ≡ kept_byte c x i) (f_len : f.len ≡ length (effect c x))
    (f_is : (i : ℕ) → i < length x → byte_in f.runs i ≡ byte_in (taken e (effect c x)).runs i) where
  abbrev y : List ℕ
  y = effect c x

  some_e : (i : ℕ) → i < length x → is_some (byte_in e.runs i) ≡ touches c i
  some_e i low =
      let is : nat_lt i (length x) ≡ true = grind (arith, nat_tests) in
      ap (λ (o : Option ℕ). is_some o) (e_is i) ∙ is_some_if (nat_lt i (length x) && touches c i) (slice_index x i) ∙ ap (λ b. b && touches c i) is

  touched_e : (i : ℕ) → i < length x → touches (back_of e) i ≡ touches c i
  touched_e i low =
      let below : nat_le e.len i ≡ false = grind (arith, nat_tests) in
      touches_back e i ∙ ap (λ b. b || is_some (byte_in e.runs i)) below ∙ some_e i low

  some_f : (i : ℕ) → i < length x → is_some (byte_in f.runs i) ≡ (nat_lt i (length y) && touches c i)
  some_f i low =
      ap (λ (o : Option ℕ). is_some o) (f_is i low ∙ (saved-maximal (back_of e) y).same i)
      ∙ is_some_if (nat_lt i (length y) && touches (back_of e) i) (slice_index y i) ∙ ap (λ b. nat_lt i (length y) && b) (touched_e i low)

  touched_f : (i : ℕ) → i < length x → touches (back_of f) i ≡ touches c i
  touched_f i low =
      touches_back f i ∙ ap (λ b. nat_le f.len i || b) (some_f i low) ∙ ap (λ (n : ℕ). nat_le n i || (nat_lt i (length y) && touches c i)) f_len ∙ by_test (touches c i) refl
    where
      either : (a : Bool) → (nat_lt i (length y) ≡ true → a ≡ false) → (nat_lt i (length y) ≡ false → a ≡ true) → (a || (nat_lt i (length y) && true)) ≡ true
      either true one two = refl
      either false one two = elim (cases_Bool (nat_lt i (length y))) [
        | inl is ↦ rw is refl
        | inr not ↦ let no = two not in cc
      ]

      by_test : (b : Bool) → touches c i ≡ b → (nat_le (length y) i || (nat_lt i (length y) && b)) ≡ b
      by_test true is = either (nat_le (length y) i) (λ is. grind (arith, nat_tests)) (λ is. grind (arith, nat_tests))
      by_test false is =
          let there : i < length y = (KeepsUntouched-effect c x).there i low is in
          let below : nat_le (length y) i ≡ false = grind (arith, nat_tests) in
          let under : nat_lt i (length y) ≡ true = grind (arith, nat_tests) in
          rw (below, under) refl

  same_byte : (i : ℕ) → kept_byte (back_of f) x i ≡ kept_byte c x i
  same_byte i = by_test (nat_lt i (length x)) refl
    where
      by_test : (b : Bool) → nat_lt i (length x) ≡ b → kept_byte (back_of f) x i ≡ kept_byte c x i
      by_test true is = let low : i < length x = grind (arith, nat_tests) in ap (λ b. if nat_lt i (length x) && b then Some (slice_index x i) else None) (touched_f i low)
      by_test false is = rw is refl

  pub same_bytes : (i : ℕ) → byte_in (taken f x).runs i ≡ kept_byte c x i
  same_bytes i = (saved-maximal (back_of f) x).same i ∙ same_byte i

-- a redo saves what the change saved
pub taken_again : {A : Type 0} (c : Change A) (x : List ℕ) (e f : Kept) → e.len ≡ length x → ((i : ℕ) → byte_in e.runs i ≡ kept_byte c x i) → f.len ≡ length (effect c x)
    → ((i : ℕ) → i < length x → byte_in f.runs i ≡ byte_in (taken e (effect c x)).runs i) → taken f x ≡ kept_of (saved c x)
taken_again c x e f e_len e_is f_len f_is =
    let max = saved-maximal (back_of f) x in
    saved-same (plain c) x (taken f x) (len-saved (back_of f) x) (record { same = λ i. same_bytes c x e f e_len e_is f_len f_is i ∙ kept_byte_in c x i; some = max.some; gaps = max.gaps }) ∙ sym (saved_in c x)
