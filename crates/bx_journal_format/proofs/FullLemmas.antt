-- Full saved lines leave a tally where it is.
use Rattle.std.proofs.Common.{◌≡◌, ℕ, Bool, true, false, zero, suc, ◌+◌, ◌*◌, ◌<◌, ◌≤◌, List, ◌++◌, length, take, drop, refl, ap, sym, ◌∙◌, subst, arith, append_assoc, append-nil, length-take, length-drop, Some}
use Rattle.std.specs.Prelude.{nat_lt}
use Rattle.std.proofs.lemmas.Grind.{common_steps}
use Rattle.bx_journal_format.specs.declared.format.version.Version.{Version}
use Rattle.bx_journal_format.specs.declared.read.count.Place.{Place}
use Rattle.bx_journal_format.specs.declared.read.count.Place.TheVariants.{Between as BetweenPlace, Saving as SavingPlace, Ending as EndingPlace}
use Rattle.bx_journal_format.specs.declared.read.count.Tally.{Tally}
use Rattle.bx_journal_format.specs.declared.read.rows.Summed.{Summed}
use Rattle.bx_journal_format.specs.Kept.{Kept}
use Rattle.bx_journal_format.specs.Text.{Saving, Reading, ended, next_at}
use Rattle.bx_journal_format.specs.read.Followed.{AreFullSaved, BeginsFull, IsFullSaved}
use Rattle.bx_journal_format.specs.Form.{IsFullAt}
use Rattle.bx_journal_format.specs.read.Event.{kept_with}
use Rattle.bx_journal_format.specs.count.Rows.{SumsTo, summed_of, with_more}
use Rattle.bx_journal_format.specs.count.Tally.{AreFullAt, IsTallied, LeadsTo, tally_of}
use Rattle.bx_journal_format.proofs.FollowLemmas.{not_save}
use Rattle.bx_journal_format.proofs.SavedLines.{saved_reads}
use Rattle.bx_journal_format.proofs.StepLemmas.{adds}
use Rattle.bx_journal_format.proofs.SumLemmas.{sum_saved}
use Rattle.bx_journal_format.proofs.TallyLemmas.{HasForm, IsFirstLine, has_form, line_taken, take_sum, tallied_on}

-- a line that is full, where its bytes lie within the length
pub begins_full : (len at : ℕ) (text : List ℕ) → IsFullAt at text → at + 16 ≤ len → BeginsFull len text
begins_full len at text full within = (
  at,
  full.bytes,
  full.sixteen,
  record {
    long = full.long;
    plain = full.plain;
    ended = full.ended;
    saved = saved_reads len (take 67 text) (record { at = at; bytes = full.bytes }) full.gives (omega (arith, full.sixteen)) (omega (arith, full.sixteen, within));
  },
)

-- no line yet
pub none_full : (len : ℕ) (text : List ℕ) → AreFullSaved len text 0
none_full len text = record { within = omega arith; each = λ k below. absurd (omega (arith, below)) }

-- one more
pub one_full : (len count : ℕ) (text : List ℕ) → AreFullSaved len text count → BeginsFull len (drop (68 * count) text) → AreFullSaved len text (count + 1)
one_full len count text so more = record {
  within = omega (arith, more.3.long, length-drop (68 * count) text, so.within);
  each = λ k below. by k below (nat_lt k count) refl;
}
  where
    before : (k : ℕ) → nat_lt k count ≡ true → k < count
    before k is = grind (arith, common_steps)

    last_one : (k : ℕ) → k < count + 1 → nat_lt k count ≡ false → count ≡ k
    last_one k below is = let most : count ≤ k = grind (arith, common_steps) in omega (arith, below)

    by : (k : ℕ) → k < count + 1 → (b : Bool) → nat_lt k count ≡ b → BeginsFull len (drop (68 * k) text)
    by k below true is = so.each k (before k is)
    by k below false is = subst (λ n. BeginsFull len (drop (68 * n) text)) (last_one k below is) more

-- the first line of a text that begins with a full one
pub full_first : (len at : ℕ) (text bytes : List ℕ) → IsFullSaved len at text bytes → IsFirstLine text 67
full_first len at text bytes full = record { below = omega (arith, full.long); plain = full.plain; is = full.ended }

-- a full line adds its bytes to what an entry keeps
pub full_adds : (r : Reading) (v : Version) (s : Kept) (text : List ℕ) → r.stage ≡ Saving v s → (f : BeginsFull s.len text)
    → next_at r.entries r.stage (take 67 text) ≡ Some (record { entries = r.entries; stage = Saving v (kept_with s (record { at = f.0; bytes = f.1 })) })
full_adds r v s text stage f =
    let line : List ℕ = take 67 text in
    let long : length line ≡ 67 = omega (arith, length-take 67 text, f.3.long) in
    let number : ℕ = suc (length r.entries) in
    ap (λ z. next_at r.entries z line) stage ∙ adds r.entries number v s line refl (record { at = f.0; bytes = f.1 }) (not_save number line long) f.3.saved

-- so it leads from a tally to itself
full_leads : (only_second : Bool) (r : Reading) (t : Tally) (v : Version) (len : ℕ) (text : List ℕ) → tally_of r ≡ t → t.place ≡ SavingPlace v len → BeginsFull len text
    → LeadsTo only_second r (take 67 text) t
full_leads only_second r t v len text is place begins =
    let was : HasForm r.stage (SavingPlace v len) = has_form r.stage (SavingPlace v len) (ap (λ (u : Tally). u.place) is ∙ place) in
    let full : BeginsFull was.0.len text = subst (λ n. BeginsFull n text) (sym was.2) begins in
    record {
      reading = record { entries = r.entries; stage = Saving v (kept_with was.0 (record { at = full.0; bytes = full.1 })) };
      leads = full_adds r v was.0 text was.1 full;
      is = ap (λ z. tally_of (record { entries = r.entries; stage = z })) (sym was.1) ∙ is;
      tell = λ only tell. tell;
    }

-- the first lines of those, one after another
full_counts : (only_second : Bool) (front text : List ℕ) (t : Tally) (v : Version) (len n count k : ℕ) → t.place ≡ SavingPlace v len → AreFullSaved len text count → k ≤ count
    → IsTallied only_second front t n → IsTallied only_second (front ++ take (68 * k) text) t (n + k)
full_counts only_second front text t v len n count zero place so below h =
    let number : n ≡ n + 0 = omega arith in
    subst (λ l. IsTallied only_second l t (n + 0)) (sym (append-nil front)) (subst (λ m. IsTallied only_second front t m) number h)
full_counts only_second front text t v len n count (suc k) place so below h =
    let rest : List ℕ = drop (68 * k) text in
    let begins = so.each k (omega (arith, below)) in
    let before = full_counts only_second front text t v len n count k place so (omega (arith, below)) h in
    let line = tallied_on only_second (front ++ take (68 * k) text) (take 67 rest) t t (n + k) before begins.3.plain (λ r is. full_leads only_second r t v len rest is place begins) in
    let size : 68 * suc k ≡ 68 * k + 68 = omega arith in
    let number : (n + k) + 1 ≡ n + suc k = omega arith in
    let end : take (68 * k) text ++ ended (take 67 rest) ≡ take (68 * suc k) text =
    sym (ap (λ m. take m text) size ∙ take_sum (68 * k) 68 text ∙ ap (λ l. take (68 * k) text ++ l) (line_taken rest 67 (full_first len begins.0 rest begins.1 begins.3))) in
    let whole : (front ++ take (68 * k) text) ++ ended (take 67 rest) ≡ front ++ take (68 * suc k) text = append_assoc front (take (68 * k) text) (ended (take 67 rest)) ∙ ap (λ l. front ++ l) end in
    subst (λ m. IsTallied only_second (front ++ take (68 * suc k) text) t m) number (subst (λ l. IsTallied only_second l t ((n + k) + 1)) whole line)

-- full lines at a place leave a tally as it is, and are counted
pub full_tallied : (only_second : Bool) (front text : List ℕ) (t : Tally) (n count : ℕ) → AreFullAt t.place text count → IsTallied only_second front t n
    → IsTallied only_second (front ++ take (68 * count) text) t (n + count)
full_tallied only_second front text t n count so h = by t.place refl so
  where
    none : count ≡ 0 → IsTallied only_second (front ++ take (68 * count) text) t (n + count)
    none is =
        let number : n ≡ n + 0 = omega arith in
        subst (λ c. IsTallied only_second (front ++ take (68 * c) text) t (n + c)) (sym is)
        (subst (λ l. IsTallied only_second l t (n + 0)) (sym (append-nil front)) (subst (λ m. IsTallied only_second front t m) number h))

    by : (p : Place) → t.place ≡ p → AreFullAt p text count → IsTallied only_second (front ++ take (68 * count) text) t (n + count)
    by BetweenPlace place so = none so
    by (SavingPlace v len) place so = full_counts only_second front text t v len n count count place so (omega arith) h
    by (EndingPlace v) place so = none so

-- the same behind a part of a window
pub tallied_full : (only_second : Bool) (front window rest : List ℕ) (t : Tally) (taken n m count : ℕ) → rest ≡ drop taken window → AreFullAt t.place rest count
    → IsTallied only_second (front ++ take taken window) t (n + m) → IsTallied only_second (front ++ take (taken + 68 * count) window) t (n + (m + count))
tallied_full only_second front window rest t taken n m count left so h =
    let number : (n + m) + count ≡ n + (m + count) = omega arith in
    let end : take taken window ++ take (68 * count) rest ≡ take (taken + 68 * count) window = ap (λ l. take taken window ++ take (68 * count) l) left ∙ sym (take_sum taken (68 * count) window) in
    let whole : (front ++ take taken window) ++ take (68 * count) rest ≡ front ++ take (taken + 68 * count) window = append_assoc front (take taken window) (take (68 * count) rest) ∙ ap (λ l. front ++ l) end in
    subst (λ k. IsTallied only_second (front ++ take (taken + 68 * count) window) t k) number
    (subst (λ l. IsTallied only_second l t ((n + m) + count)) whole (full_tallied only_second (front ++ take taken window) rest t (n + m) count so h))

-- a full line adds its bytes to sums
abbrev pub full_sums_at : (r : Reading) (now : Summed) (v : Version) (s : Kept) (text : List ℕ) → summed_of r ≡ now → r.stage ≡ Saving v s → BeginsFull s.len text → SumsTo r (take 67 text) (with_more now 16)
full_sums_at r now v s text is stage full = record {
  reading = record { entries = r.entries; stage = Saving v (kept_with s (record { at = full.0; bytes = full.1 })) };
  leads = full_adds r v s text stage full;
  is = sum_saved r.entries v s (record { at = full.0; bytes = full.1 }) ∙ ap (with_more (summed_of (record { entries = r.entries; stage = Saving v s }))) full.2
      ∙ ap (λ z. with_more (summed_of (record { entries = r.entries; stage = z })) 16) (sym stage) ∙ ap (λ n. with_more n 16) is;
}

pub full_sums : (r : Reading) (now : Summed) (v : Version) (len : ℕ) (text : List ℕ) → summed_of r ≡ now → now.tally.place ≡ SavingPlace v len → BeginsFull len text
    → SumsTo r (take 67 text) (with_more now 16)
full_sums r now v len text is place begins =
    let was : HasForm r.stage (SavingPlace v len) = has_form r.stage (SavingPlace v len) (ap (λ (s : Summed). s.tally.place) is ∙ place) in
    full_sums_at r now v was.0 text is was.1 (subst (λ n. BeginsFull n text) (sym was.2) begins)
