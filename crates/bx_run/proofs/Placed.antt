-- Files that are lent, as the texts that are emptied: where the redo text stands in the place of the journal, the two change places.
use Rattle.std.specs.Prelude.{if◌then◌else◌}
use Rattle.std.proofs.Common.{◌≡◌, ◌∙◌, ℕ, Bool, true, false, List, Option, Some, refl, sym, ap, subst, arith}
use Rattle.bx_image.specs.Power.{NoMore}
use Rattle.bx_image.specs.declared.device.Device.{Ghosts as DeviceViews}
use Rattle.bx_journal_store.specs.declared.store.TextStore.{Ghosts as StoreViews}
use Rattle.bx_journal.specs.Devices.{Devices}
use Rattle.bx_world.specs.World.{ClosesTexts, IsNoText, IsNoneRead, NothingNewSpared, ReadFiles, SystemState, Spares, bytes_if}
use Rattle.bx_world.specs.files.Reading.{LeadToRead}
use Rattle.bx_world.specs.declared.files.names.Names.{Names}
use Rattle.bx_run_report.specs.report.Devices.{HoldBytes}
use Rattle.bx_run.specs.forget.Forgetting.{LeadToTexts, TextFiles, in_places, texts_of}
use Rattle.bx_run.proofs.Emptied.{IsNeither, spares_bytes}

some_is : {X : Type 0} {x y : X} → Some x ≡ Some y → x ≡ y
some_is e = grind (arith, e)

same_record : (i j : ℕ) (k l r s : Option ℕ) → i ≡ j → k ≡ l → r ≡ s
    → ◌≡◌ {A = TextFiles} (record { image = i; journal = k; redo = r }) (record { image = j; journal = l; redo = s })
same_record i j k l r s image journal redo = rw (image, journal, redo) refl

-- names lead to one image and its texts
pub same_texts : (names : Names) (w : SystemState) (f g : TextFiles) → LeadToTexts names f w → LeadToTexts names g w → f ≡ g
same_texts names w f g p q =
    same_record f.image g.image f.journal g.journal f.redo g.redo (some_is (sym p.image ∙ q.image)) (sym p.journal ∙ q.journal) (sym p.redo ∙ q.redo)

-- files that are read are files whose texts are emptied
pub leads_texts : (names : Names) (f : ReadFiles) (w : SystemState) → LeadToRead names f w → LeadToTexts names (texts_of false f) w
leads_texts names f w leads = record { image = leads.image; journal = leads.journal; redo = leads.redo }

-- Of files that are lent.
module _ (exchanged : Bool) (f : ReadFiles) where
  pub no_text : (n : ℕ) → IsNeither (texts_of exchanged f) n → IsNoText f n
  no_text n = by exchanged
    where
      by : (e : Bool) → IsNeither (texts_of e f) n → IsNoText f n
      by false (journal, redo) = ((λ is. journal (ap Some (sym is))), redo)
      by true (redo, journal) = ((λ is. journal (ap Some (sym is))), redo)

  pub neither : (n : ℕ) → IsNoText f n → IsNeither (texts_of exchanged f) n
  neither n (journal, redo) = by exchanged
    where
      by : (e : Bool) → IsNeither (texts_of e f) n
      by false = ((λ is. journal (sym (some_is is))), redo)
      by true = (redo, (λ is. journal (sym (some_is is))))

  pub as_texts : (old new : SystemState) → Spares (IsNoText f) old new → Spares (IsNeither (texts_of exchanged f)) old new
  as_texts old new p = spares_bytes (IsNoText f) (IsNeither (texts_of exchanged f)) old new p (λ i q. p.bytes i (no_text i q))

  pub lets_texts : (found left : ℕ → List ℕ → Type 0) → NothingNewSpared (IsNoText f) found left
      → NothingNewSpared (IsNeither (texts_of exchanged f)) found left
  lets_texts found left p n q = p n (no_text n q)

  pub others_texts : (found left : ℕ → List ℕ → Type 0) → NothingNewSpared (IsNoneRead f) found left
      → NothingNewSpared (λ n. (n ≡ f.image → ⊥) × IsNeither (texts_of exchanged f) n) found left
  others_texts found left p n (other, q) = p n (other, no_text n q)

-- Of devices that are put from the places of the files into their own.
module _ {D T : Type 0} (exchanged : Bool) (f : ReadFiles) (y : Devices D T) (i : D) (j r : T)
    (is : y ≡ in_places exchanged (record { image = i; journal = j; redo = r })) where
  -- what is said of each text and of its file
  pub to_places : (P : Option ℕ → T → Type 0) → P (Some f.journal) j → P f.redo r
      → P (texts_of exchanged f).journal y.journal × P (texts_of exchanged f).redo y.redo
  to_places P journal redo = rw is (by exchanged)
    where
      by : (e : Bool) → P (texts_of e f).journal (if e then r else j) × P (texts_of e f).redo (if e then j else r)
      by false = (journal, redo)
      by true = (redo, journal)

  -- and of devices in their own places
  pub from_places : (P : Option ℕ → T → Type 0) → P (Some f.journal) y.journal → P f.redo y.redo
      → P (texts_of exchanged f).journal j × P (texts_of exchanged f).redo r
  from_places P journal redo = by exchanged (rw is at journal) (rw is at redo)
    where
      by : (e : Bool) → P (Some f.journal) (if e then r else j) → P f.redo (if e then j else r)
          → P (texts_of e f).journal j × P (texts_of e f).redo r
      by false journal redo = (journal, redo)
      by true journal redo = (redo, journal)

  -- and what they hold
  pub holds_placed : (d : DeviceViews D) (t : StoreViews T) (w : SystemState) → d.faithful i → d.image i ≡ w.bytes f.image
      → t.faithful j × (t.text j ≡ w.bytes f.journal) → t.faithful r × (t.text r ≡ bytes_if w f.redo)
      → HoldBytes d t (w.bytes f.image) (bytes_if w (texts_of exchanged f).journal) (bytes_if w (texts_of exchanged f).redo) y
  holds_placed d t w faithful image journal redo =
      let texts = to_places (λ o x. t.faithful x × (t.text x ≡ bytes_if w o)) journal redo in
      record {
        image_faithful = rw is faithful;
        journal_faithful = texts.0.0;
        redo_faithful = texts.1.0;
        image_is = rw is image;
        journal_is = texts.0.1;
        redo_is = texts.1.1;
      }

-- The text in the place of the journal.
module _ (f : ReadFiles) where
  pub placed : (journal redo : List ℕ) (mid new : SystemState) → ClosesTexts f journal redo mid new → (n : ℕ) → Some f.journal ≡ Some n
      → new.bytes n ≡ journal
  placed journal redo mid new closed n e = ap new.bytes (sym (some_is e)) ∙ closed.journal_bytes

  pub placed_left : (found : List ℕ → Type 0) (left : ℕ → List ℕ → Type 0) → NoMore found (left f.journal) → (n : ℕ)
      → Some f.journal ≡ Some n → NoMore found (left n)
  placed_left found left more n e = subst (λ k. NoMore found (left k)) (some_is e) more

  pub placed_first : (found : ℕ → List ℕ → Type 0) (left : List ℕ → Type 0) → NoMore (found f.journal) left → (n : ℕ)
      → Some f.journal ≡ Some n → NoMore (found n) left
  placed_first found left more n e = subst (λ k. NoMore (found k) left) (some_is e) more
