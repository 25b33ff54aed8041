-- What stands behind a length in the images that undos lead through: zeros, but where the image has others now, or a record of a newer entry has bytes.
use Rattle.std.proofs.Common.{◌≡◌, ℕ, zero, suc, ◌+◌, ◌<◌, ◌≤◌, inl, inr, min, Bool, true, false, ◌||◌, ◌&&◌, Option, None, Some, List, [], ◌∷◌, ◌++◌, length, map, take, drop, slice_index, if◌then◌else◌, refl, ap, ◌∙◌, sym, subst, arith, get_or}
use Rattle.std.specs.Prelude.{nat_lt, nat_le, ◌⊎◌, All}
use Rattle.std.specs.Option.{unwrap_or, option_map_or}
use Rattle.std.specs.List.{list_any}
use Rattle.std.proofs.lemmas.Bool.{cases_lt}
use Rattle.std.proofs.lemmas.Bool.Decides.{nat_tests}
use Rattle.std.proofs.lemmas.List.{take_more}
use Rattle.std.proofs.lemmas.Option.{none-some}
use Rattle.std.proofs.lemmas.List.Elements.{All-nil, All-cons, All-weaker, All-append}
use Rattle.bx_text.specs.declared.owned.pieces.Piece.{Piece}
use Rattle.bx_image.specs.declared.change.Change.{Change}
use Rattle.bx_image.specs.declared.record.Saved.{Saved}
use Rattle.bx_image.specs.declared.record.spans.Span.{Span}
use Rattle.bx_image.specs.Change.{byte_in, kept_byte, restore, saved, touches}
use Rattle.bx_image.specs.Image.{zeros}
use Rattle.bx_image.specs.Over.{run_over, saved_over, LeavesZerosOut, LieWithin}
use Rattle.bx_image.specs.private.Change.{is_covered}
use Rattle.bx_image.specs.private.Spans.{are_over, is_between, HasAllButZero}
use Rattle.bx_image.proofs.FillLemmas.{covered-saved, length-zeros}
use Rattle.bx_image.proofs.Images.{slice_index_past}
use Rattle.bx_image.proofs.OverLemmas.{runs_over, stand_over}
use Rattle.bx_image.proofs.Records.{is_some-byte_in, length-restore, None-from_is_some, saved-maximal, slice_index-restore}
use Rattle.bx_image.proofs.Runs.{byte_in_runs}
use Rattle.bx_image.proofs.SpanLemmas.{covered-StandOver}
use Rattle.bx_image.proofs.ZeroLemmas.{zeros_left}
use Rattle.bx_journal_format.specs.declared.read.types.EntryRead.{EntryRead}
use Rattle.bx_journal_protocol.specs.before.Overwritten.{are_written, image_below, HasZerosBesides, HasZerosBut}
use Rattle.bx_journal_protocol.specs.protocol.Takens.{length_at}

-- the least length so far, and that of one more entry
pub least_more : {A : Type 0} (es : List (EntryRead A)) (i : ℕ) (e : EntryRead A) (old new : ℕ) → i < length es → e ≡ get_or es i e → All (λ (f : EntryRead A). old ≤ f.kept.len) (take i es) → new ≤ old → new ≤ e.kept.len
    → All (λ (f : EntryRead A). new ≤ f.kept.len) (take (i + 1) es)
least_more {A = A} es i e old new within is above less here =
    let taken : take (i + 1) es ≡ take i es ++ e ∷ [] = take_more es i e within ∙ ap (λ f. take i es ++ f ∷ []) (sym is) in
    let before : All (λ (f : EntryRead A). new ≤ f.kept.len) (take i es) = All-weaker (λ (f : EntryRead A). old ≤ f.kept.len) (λ (f : EntryRead A). new ≤ f.kept.len) (λ f h. omega (arith, h, less)) (take i es) above in
    let last : All (λ (f : EntryRead A). new ≤ f.kept.len) (e ∷ []) = All-cons (λ (f : EntryRead A). new ≤ f.kept.len) e [] here (All-nil (λ (f : EntryRead A). new ≤ f.kept.len)) in
    subst (All (λ (f : EntryRead A). new ≤ f.kept.len)) (sym taken) (All-append (λ (f : EntryRead A). new ≤ f.kept.len) (take i es) (e ∷ []) before last)

-- the image that entries leave has their length
pub length-image_below : {A : Type 0} (es : List (EntryRead A)) (x : List ℕ) → length (image_below es x) ≡ length_at es (length x)
length-image_below [] x = refl
length-image_below (e ∷ es) x = length-restore e.kept (image_below es x)

or_first : (b c : Bool) → (b || c) ≡ false → b ≡ false
or_first true c is = absurd (let wrong : true ≡ false = is in cc)
or_first false c is = refl

or_rest : (b c : Bool) → (b || c) ≡ false → c ≡ false
or_rest true c is = absurd (let wrong : true ≡ false = is in cc)
or_rest false c is = is

-- where none of their records has a byte, an address has a zero if it had one
still_zero : {A : Type 0} (es : List (EntryRead A)) (x : List ℕ) (i : ℕ) → are_written es i ≡ false → slice_index x i ≡ 0 → slice_index (image_below es x) i ≡ 0
still_zero [] x i none is = is
still_zero (e ∷ es) x i none is = elim (cases_lt i e.kept.len) [
  | inl low ↦
      let first : is_covered e.kept.runs i ≡ false = or_first (is_covered e.kept.runs i) (are_written es i) none in
      let out : byte_in e.kept.runs i ≡ None = None-from_is_some (byte_in e.kept.runs i) (is_some-byte_in e.kept.runs i ∙ first) in
      slice_index-restore e.kept (image_below es x) i low ∙ ap (λ o. unwrap_or o (slice_index (image_below es x) i)) out
      ∙ still_zero es x i (or_rest (is_covered e.kept.runs i) (are_written es i) none) is
  | inr behind ↦ slice_index_past (image_below (e ∷ es) x) i (omega (arith, behind, length-restore e.kept (image_below es x)))
]

pub zeros_besides : {A : Type 0} (base least : ℕ) (es : List (EntryRead A)) (x : List ℕ) (blocks : List Span) → least ≤ base → HasZerosBut least x blocks → HasZerosBesides base (image_below es x) blocks es
zeros_besides base least es x blocks low zeros i behind out none = still_zero es x i none (zeros i (omega (arith, low, behind)) out)

-- blocks that leave zeros out of what a record without bytes would cut off
some_byte : (o : Option ℕ) (d : ℕ) {b : ℕ} → o ≡ Some b → unwrap_or o d ≡ b
some_byte o d is = ap (λ p. unwrap_or p d) is

pub zeros_between : {A : Type 0} (base : ℕ) (x : List ℕ) (blocks : List Span) (none : Saved A) → none ≡ saved_over (zeros base) [] → LieWithin (length x) blocks
    → ((c : Change A) → c.base ≡ Some none.len → c.writes ≡ none.runs → LeavesZerosOut none.len (saved c x) (saved_over {A = A} x blocks)) → HasZerosBut base x blocks
unfolding touches
zeros_between {A = A} base x blocks none is within left i low out = elim (cases_lt i (length x)) [
  | inl inside ↦ by_case inside ((left c refl refl).bytes i)
  | inr past ↦ slice_index_past x i past
]
  where
    c : Change A
    c = record { base = Some none.len; writes = none.runs }

    len : none.len ≡ base
    len = ap (λ (s : Saved A). s.len) is ∙ length-zeros base

    here : byte_in (map (run_over {A = A} x) blocks) i ≡ None
    here =
        byte_in_runs x (map (run_over x) blocks) i (runs_over A x blocks within)
        ∙ ap (λ b. if b then Some (slice_index x i) else None) (covered-StandOver blocks (map (run_over {A = A} x) blocks) i (stand_over A x blocks within) ∙ out)

    touched : touches c i ≡ true
    touched = let yes : nat_le none.len i ≡ true = reach (omega (arith, len, low)) in rw yes refl
      where
        reach : none.len ≤ i → nat_le none.len i ≡ true
        reach le = grind (arith, nat_tests)

    there : i < length x → byte_in (saved c x).runs i ≡ Some (slice_index x i)
    there inside =
        let yes : nat_lt i (length x) ≡ true = grind (arith, nat_tests) in
        (saved-maximal c x).same i ∙ ap (λ b. if b && touches c i then Some (slice_index x i) else None) yes ∙ ap (λ b. if b then Some (slice_index x i) else None) touched

    by_case : i < length x → (byte_in (map (run_over {A = A} x) blocks) i ≡ byte_in (saved c x).runs i) ⊎ ((none.len ≤ i) × (byte_in (map (run_over {A = A} x) blocks) i ≡ None) × (byte_in (saved c x).runs i ≡ Some 0)) → slice_index x i ≡ 0
    by_case inside (inl same) = absurd (none-some (slice_index x i) (sym here ∙ same ∙ there inside))
    by_case inside (inr zero_there) = some_byte (Some (slice_index x i)) 0 (sym (there inside) ∙ zero_there.2)

-- the ranges of what is touched below the length that is left
pub over_below : {A : Type 0} (c : Change A) (z : List ℕ) (spans : List Span) → LieWithin (length z) spans → saved_over {A = A} z spans ≡ saved c z → (i : ℕ) → are_over spans i ≡ (nat_lt i (length z) && touches c i)
over_below {A = A} c z spans within is i =
    sym (covered-StandOver spans (map (run_over {A = A} z) spans) i (stand_over A z spans within)) ∙ ap (λ (s : Saved A). is_covered s.runs i) is ∙ covered-saved c z i

-- with the blocks and the newer records behind it they leave nothing but zeros out
pub ranges_leave : {A : Type 0} (c : Change A) (base : ℕ) (x : List ℕ) (below new blocks : List Span) (newer : List (EntryRead A)) → c.base ≡ Some base → LieWithin (length x) new
    → ((i : ℕ) → are_over below i ≡ (nat_lt i (min (length x) base) && touches c i))
    → ((i : ℕ) → are_over new i ≡ ((are_over below i || (is_between base (length x) i && are_over blocks i)) || (is_between base (length x) i && are_written newer i)))
    → HasZerosBesides base x blocks newer → LeavesZerosOut base (saved c x) (saved_over {A = A} x new)
ranges_leave c base x below new blocks newer base_is within front over zeros = zeros_left c base x below new base_is within front (λ i. added i (is_between base (length x) i) (are_over blocks i) (are_written newer i) refl refl refl)
  where
    low_end : (at end i : ℕ) → is_between at end i ≡ true → at ≤ i
    low_end at end i is = elim (cases_lt i at) [
      | inl less ↦ let no : nat_le at i ≡ false = grind (arith, nat_tests) in absurd (let wrong : false ≡ true = subst (λ b. (b && nat_lt i end) ≡ true) no is in cc)
      | inr hi ↦ hi
    ]

    out_of : (o m s : Bool) → ((o || (false && m)) || (false && s)) ≡ (o || false)
    out_of true m s = refl
    out_of false m s = refl

    in_blocks : (o s : Bool) → ((o || (true && true)) || (true && s)) ≡ (o || true)
    in_blocks true s = refl
    in_blocks false s = refl

    in_records : (o : Bool) → ((o || (true && false)) || (true && true)) ≡ (o || true)
    in_records true = refl
    in_records false = refl

    in_none : (o : Bool) → ((o || (true && false)) || (true && false)) ≡ o
    in_none true = refl
    in_none false = refl

    added : (i : ℕ) (w m s : Bool) → is_between base (length x) i ≡ w → are_over blocks i ≡ m → are_written newer i ≡ s → HasAllButZero x base (length x) i (are_over below i) (are_over new i)
    added i false m s w_is m_is s_is = inl (over i ∙ ap (λ w. (are_over below i || (w && are_over blocks i)) || (w && are_written newer i)) w_is ∙ out_of (are_over below i) (are_over blocks i) (are_written newer i) ∙ ap (λ w. are_over below i || w) (sym w_is))
    added i true true s w_is m_is s_is =
        inl (over i ∙ ap (λ w. (are_over below i || (w && are_over blocks i)) || (w && are_written newer i)) w_is ∙ ap (λ m. (are_over below i || (true && m)) || (true && are_written newer i)) m_is ∙ in_blocks (are_over below i) (are_written newer i) ∙ ap (λ w. are_over below i || w) (sym w_is))
    added i true false true w_is m_is s_is =
        inl (over i ∙ ap (λ w. (are_over below i || (w && are_over blocks i)) || (w && are_written newer i)) w_is ∙ ap (λ m. (are_over below i || (true && m)) || (true && are_written newer i)) m_is ∙ ap (λ s. (are_over below i || (true && false)) || (true && s)) s_is ∙ in_records (are_over below i) ∙ ap (λ w. are_over below i || w) (sym w_is))
    added i true false false w_is m_is s_is = inr (
      w_is,
      over i ∙ ap (λ w. (are_over below i || (w && are_over blocks i)) || (w && are_written newer i)) w_is ∙ ap (λ m. (are_over below i || (true && m)) || (true && are_written newer i)) m_is ∙ ap (λ s. (are_over below i || (true && false)) || (true && s)) s_is ∙ in_none (are_over below i),
      zeros i (low_end base (length x) i w_is) m_is s_is,
    )

-- the very record leaves none out
pub leaves_same : {A : Type 0} (base : ℕ) (full s : Saved A) → s ≡ full → LeavesZerosOut base full s
leaves_same base full s is = record { len = ap (λ (r : Saved _). r.len) is; bytes = λ i. inl (ap (λ (r : Saved _). byte_in r.runs i) is) }
