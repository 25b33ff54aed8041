-- What opening finds in a text whose entries were counted.
use Rattle.std.proofs.Common.{◌≡◌, ℕ, suc, List, [], ◌++◌, length, drop, arith, ap, sym, ◌∙◌, subst, inl, inr, ◌⊎◌, Option, Some, Result, Ok, Err}
use Rattle.std.specs.Prelude.{IfSome, OnOk}
use Rattle.bx_journal_model.specs.declared.answers.RecoveryOutcome.TheVariants.{Clean}
use Rattle.bx_journal_model.specs.declared.fault.SessionFault.{SessionFault}
use Rattle.bx_journal_format.specs.Text.{Between, Reading, Reads, split}
use Rattle.bx_journal_model.specs.Stack.{HaveLengths, IsSound, Recovers, image_at, recovered, stack_of}
use Rattle.bx_journal_model.specs.Phase.{IsAtRest}
use Rattle.bx_journal_model.specs.declared.fault.SessionFault.TheVariants.{DeviceFailed, LengthDiffers}
use Rattle.bx_journal_model.specs.Calls.{how_of, Differs, OpenFault}
use Rattle.bx_journal_model.specs.Opening.{IsOpened, RefusesLength, left_over}
use Rattle.bx_journal_format.specs.Shown.{shown}
use Rattle.bx_journal_format.proofs.CleanLemmas.{clean_shown}
use Rattle.std.proofs.Math.ListN.{drop_of_length-le}
use Rattle.bx_journal_format.specs.count.Tally.{IsCounted}
use Rattle.bx_journal_read.proofs.OpenLemmas.{begins_told, differs_of, one_told, same_lengths, some_same}
use Rattle.bx_journal_model.proofs.Phases.{length-stack_of}
use Rattle.bx_journal_model.proofs.ReadingLemmas.{read_sane, have_lengths}

pub left_none : (text : List ℕ) → shown text ≡ text → (split text).rest ≡ [] → left_over text ≡ []
left_none text same whole = ap (λ t. (split t).rest ++ drop (length t) text) same ∙ ap (λ r. r ++ drop (length text) text) whole ∙ drop_of_length-le text (omega arith)

-- what opening finds in such a text
module _ (text x : List ℕ) (count : ℕ) (told : Option ℕ) (c : IsCounted text count told) where
  pub counted_once : (r : Reading) → Reads text r → record { entries = c.entries; stage = Between } ≡ r
  counted_once r reads = some_same (record { entries = c.entries; stage = Between }) r (sym c.finished.reads.lines ∙ reads.lines)

  pub counted_lengths : IfSome told (λ n. length x ≡ n) → HaveLengths c.entries x
  counted_lengths h =
      let sane = read_sane (split text).lines (record { entries = c.entries; stage = Between }) c.finished.reads.lines in
      have_lengths c.entries x sane.0 (begins_told c.entries (length x) (subst (λ t. IfSome t (λ n. length x ≡ n)) c.told_is h))

  pub counted_opened : (r : Reading) (y : List ℕ) → Reads text r → y ≡ x → IfSome told (λ n. length x ≡ n) → IsOpened text x r text y Clean count
  counted_opened r y reads same h =
      subst (λ q. IsOpened text x q text y Clean count) (counted_once r reads)
      (record {
        stands = record {
          entries = c.entries;
          reads = c.finished.reads;
          whole = c.finished.whole;
          lengths = subst (HaveLengths c.entries) (sym same) (counted_lengths h);
          stack_is = ap (stack_of c.entries) (sym same);
        };
        changes_are = c.counted;
        how_is = ap (how_of (record { entries = c.entries; stage = Between })) (sym (left_none text (clean_shown text c.entries c.finished) c.finished.whole));
      })

  pub counted_differs : (r : Reading) (n : ℕ) → Reads text r → told ≡ Some n → (length x ≡ n → ⊥) → Differs r.entries (image_at r.stage x) n
  counted_differs r n reads is apart =
      subst (λ (q : Reading). Differs q.entries (image_at q.stage x) n) (counted_once r reads) (differs_of c.entries x n (sym c.told_is ∙ is) apart)

  pub counted_same : (r : Reading) (n : ℕ) → Reads text r → IfSome told (λ m. length x ≡ m) → Differs r.entries (image_at r.stage x) n → ⊥
  counted_same r n reads h differs =
      same_lengths c.entries x n (counted_lengths h) (subst (λ (q : Reading). Differs q.entries (image_at q.stage x) n) (sym (counted_once r reads)) differs)

  pub counted_rest : (y : List ℕ) (stack : List (List ℕ)) → Recovers text x stack → y ≡ x → IsAtRest text y stack
  counted_rest y stack rec same =
      let once : record { entries = c.entries; stage = Between } ≡ rec.reading = counted_once rec.reading rec.reads in
      subst (λ z. IsAtRest text z stack) (sym same)
      (record {
        stands = record {
          entries = c.entries;
          reads = c.finished.reads;
          whole = c.finished.whole;
          lengths = subst (λ (q : Reading). HaveLengths q.entries (image_at q.stage x)) (sym once) rec.lengths;
          stack_is = sym (subst (λ q. recovered q x ≡ stack) (sym once) rec.stack_is);
        };
        sound = subst (IsSound text x) (sym once) rec.sound;
      })

  pub counted_stack : (stack : List (List ℕ)) → Recovers text x stack → length stack ≡ suc count
  counted_stack stack rec =
      let once : record { entries = c.entries; stage = Between } ≡ rec.reading = counted_once rec.reading rec.reads in
      ap length (sym (subst (λ q. recovered q x ≡ stack) (sym once) rec.stack_is)) ∙ length-stack_of c.entries x ∙ ap suc (sym c.counted)

  -- what comparing the image's length may answer
  abbrev pub LengthFault : Type 0 → SessionFault → Type 0
  LengthFault faithful e = (e ≡ DeviceFailed) ⊎ ((n : ℕ) × (e ≡ LengthDiffers n) × (faithful → (told ≡ Some n) × (length x ≡ n → ⊥)))

  pub length_opens : (H : Type 0) (r : Reading) (e : SessionFault) → Reads text r → H → LengthFault H e → OpenFault r x e
  length_opens H r e reads h fault = elim fault [
    | inl is ↦ subst (OpenFault r x) (sym is) tt
    | inr f ↦ subst (OpenFault r x) (sym f.1) (counted_differs r f.0 reads (f.2 h).0 (f.2 h).1)
  ]

  pub length_refuses : (H : Type 0) (r : Reading) (n : ℕ) (e : SessionFault) → Reads text r → H → Differs r.entries (image_at r.stage x) n → LengthFault H e → RefusesLength n e
  length_refuses H r n e reads h differs fault = elim fault [
    | inl is ↦ subst (RefusesLength n) (sym is) tt
    | inr f ↦ subst (RefusesLength n) (sym f.1) (one_told r.entries (image_at r.stage x) f.0 n (counted_differs r f.0 reads (f.2 h).0 (f.2 h).1) differs)
  ]

-- facts of either answer
pub ok_always : {T E P : Type 0} (r : Result T E) → P → OnOk r P
ok_always (Ok v) p = p
ok_always (Err e) p = tt
