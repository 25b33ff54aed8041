-- The text that undos, or redos, write, one turn after another.
use Rattle.std.proofs.Common.{◌≡◌, ℕ, zero, suc, ◌+◌, ◌≤◌, ◌||◌, Bool, true, false, Option, None, Some, List, [], ◌∷◌, ◌++◌, length, map, refl, ap, sym, ◌∙◌, subst, arith}
use Rattle.std.specs.Prelude.{nat_le, nat_lt, slice_index, ◌==◌, ◌&&◌, if◌then◌else◌}
use Rattle.std.specs.Option.{option_map_or}
use Rattle.std.specs.List.{list_any}
use Rattle.std.proofs.lemmas.Bool.Decides.{nat_tests}
use Rattle.bx_text.specs.declared.owned.pieces.Piece.{Piece}
use Rattle.bx_image.specs.declared.change.Change.{Change}
use Rattle.bx_image.specs.declared.change.TheConstants.{MAX_LEN}
use Rattle.bx_image.specs.declared.record.Saved.{Saved}
use Rattle.bx_image.specs.Change.{kept_byte, restore, runs_from, saved, touches, with_byte, Restores}
use Rattle.bx_image.specs.Image.{is_within}
use Rattle.bx_journal_format.specs.Entry.{entry_text}
use Rattle.bx_journal_format.specs.Kept.{Run, Kept, run_of, kept_of}
use Rattle.bx_journal_format.specs.Text.{Entry}
use Rattle.bx_journal_format.specs.declared.read.types.EntryRead.{EntryRead}
use Rattle.bx_journal_format.specs.Parsed.{entry_of}
use Rattle.bx_journal_model.specs.Taken.{taken, taken_by, AreKept}
use Rattle.bx_journal_protocol.specs.protocol.Takens.{IsTakenBy}
use Rattle.bx_journal_protocol.specs.protocol.Turns.{kept_text}

-- What is saved is the same whatever memory holds the change
with_byte_in : {A : Type 0} (at b : ℕ) (runs : List (Piece A)) → map run_of (with_byte at b runs) ≡ with_byte at b (map run_of runs)
unfolding with_byte
with_byte_in at b [] = refl
with_byte_in {A = A} at b (run ∷ runs) = by_test (run.at == suc at)
  where
    by_test : (t : Bool) → map run_of (if t then record { at = at; bytes = b ∷ run.bytes } ∷ runs else record { at = at; bytes = b ∷ [] } ∷ run ∷ runs)
        ≡ (if t then record { at = at; bytes = b ∷ run.bytes } ∷ map run_of runs else record { at = at; bytes = b ∷ [] } ∷ run_of run ∷ map run_of runs)
    by_test true = refl
    by_test false = refl

runs_in : (A : Type 0) (f g : ℕ → Option ℕ) (at n : ℕ) → ((i : ℕ) → f i ≡ g i) → map run_of (runs_from {A = A} f at n) ≡ runs_from g at n
unfolding runs_from
runs_in A f g at zero same = refl
runs_in A f g at (suc n) same =
    by_byte (f at) (runs_from f (suc at) n) (runs_from g (suc at) n) (runs_in A f g (suc at) n same) ∙ ap (λ o. option_map_or (λ b. with_byte at b (runs_from g (suc at) n)) o (runs_from g (suc at) n)) (same at)
  where
    by_byte : (o : Option ℕ) (rs : List (Piece A)) (ss : List Run) → map run_of rs ≡ ss → map run_of (option_map_or (λ b. with_byte at b rs) o rs) ≡ option_map_or (λ b. with_byte at b ss) o ss
    by_byte None rs ss is = is
    by_byte (Some b) rs ss is = with_byte_in at b rs ∙ ap (with_byte at b) is

-- the change with no allocator
abbrev pub plain : {A : Type 0} → Change A → Change (Unit {0})
plain c = record { base = c.base; writes = map run_of c.writes }

any_in : {A : Type 0} (ws : List (Piece A)) (i : ℕ) → list_any (λ (w : Piece A). is_within w.at w.bytes i) ws ≡ list_any (λ (w : Run). is_within w.at w.bytes i) (map run_of ws)
any_in [] i = refl
any_in (w ∷ ws) i = ap (λ b. is_within w.at w.bytes i || b) (any_in ws i)

touches_in : {A : Type 0} (c : Change A) (i : ℕ) → touches c i ≡ touches (plain c) i
unfolding touches
touches_in c i = ap (λ b. option_map_or (λ n. nat_le n i) c.base false || b) (any_in c.writes i)

pub kept_byte_in : {A : Type 0} (c : Change A) (x : List ℕ) (i : ℕ) → kept_byte c x i ≡ kept_byte (plain c) x i
kept_byte_in c x i = ap (λ b. if nat_lt i (length x) && b then Some (slice_index x i) else None) (touches_in c i)

pub saved_in : {A : Type 0} (c : Change A) (x : List ℕ) → kept_of (saved c x) ≡ saved (plain c) x
unfolding saved
saved_in {A = A} c x =
    let with_runs : List Run → Kept = λ rs. record { len = length x; runs = rs } in
    ap with_runs (runs_in A (kept_byte c x) (kept_byte (plain c) x) 0 (length x) (kept_byte_in c x))

-- a turn of the undos: what is kept of x is in the entry that is written
pub kept_turned : {A : Type 0} (k : ℕ) (e : EntryRead A) (t : Saved A) (es : List Entry) (x text new : List ℕ) (n : ℕ) → IsTakenBy x e t
    → AreKept k es (restore (kept_of e.kept) x) (if nat_le t.len MAX_LEN then n + 1 else 0) (kept_text text (kept_of t) (n + 1) e.kept.len) new
    → AreKept (suc k) (entry_of e ∷ es) x n text new
kept_turned k e t es x text new n by turned = (kept_of t, by.is, subst (λ m. Behind (length x) m) count (subst (λ l. Behind l (n + 1)) by.len turned))
  where
    count : n + 1 ≡ suc n
    count = omega arith

    Behind : ℕ → ℕ → Type 0
    Behind l m = AreKept k es (restore (kept_of e.kept) x) (if nat_le l MAX_LEN then m else 0) (if nat_le l MAX_LEN then text ++ entry_text m (kept_of t) e.kept.len else []) new

-- a turn of the redos: what is kept of x is in the entry that is written
pub kept_turn : {A : Type 0} (k : ℕ) (e : EntryRead A) (s : Kept) (es : List Entry) (x text : List ℕ) (n : ℕ) → length x ≤ MAX_LEN → ((c : Change A) → Restores c e.kept → s ≡ kept_of (saved c x))
    → taken_by (suc k) (entry_of e ∷ es) x n text ≡ taken_by k es (restore (kept_of e.kept) x) (n + 1) (text ++ entry_text (n + 1) s e.kept.len)
kept_turn {A = A} k e s es x text n short is =
    let told : nat_le (length x) MAX_LEN ≡ true = grind (arith, nat_tests) in
    let back : Change A = record { base = Some e.kept.len; writes = e.kept.runs } in
    let kept_is : s ≡ taken (kept_of e.kept) x = is back (record { base = refl; writes = refl }) ∙ saved_in back x in
    let count : n + 1 ≡ suc n = omega arith in
    let below : List ℕ = restore (kept_of e.kept) x in
    let behind : ℕ → Kept → List ℕ = λ m r. taken_by k es below m (text ++ entry_text m r e.kept.len) in
    ap (λ b. if b then behind (suc n) (taken (kept_of e.kept) x) else taken_by k es below 0 []) told
    ∙ ap (λ m. behind m (taken (kept_of e.kept) x)) (sym count) ∙ ap (behind (n + 1)) (sym kept_is)
