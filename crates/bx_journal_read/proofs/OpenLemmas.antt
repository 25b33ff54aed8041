-- What opening finds, from what was read.
use Rattle.std.proofs.Common.{◌≡◌, ℕ, true, List, [], ◌∷◌, length, refl, sym, ◌∙◌, subst, arith, Option, Some, None}
use Rattle.std.specs.Prelude.{IfSome}
use Rattle.std.proofs.lemmas.Grind.{common_steps}
use Rattle.bx_journal_model.specs.declared.fault.SessionFault.{SessionFault}
use Rattle.bx_journal_model.specs.declared.fault.SessionFault.TheVariants.{NoMemory, TooLarge, DeviceFailed, Damaged, TooFew, JournalFull, Interrupted, Broken, LengthDiffers, NothingToRedo, RedoDamaged}
use Rattle.bx_journal_format.specs.declared.read.whole.JournalRead.{JournalRead}
use Rattle.bx_journal_format.specs.Text.{Entry, Reading, Reads, may_begin}
use Rattle.bx_journal_model.specs.Stack.{HaveLengths, Recovers, image_at}
use Rattle.bx_journal_format.specs.read.Journal.{HasRead}
use Rattle.bx_journal_format.specs.Parsed.{told_by, reading_of}
use Rattle.bx_journal_model.specs.Calls.{Differs, OpenFault, AfterFault}
use Rattle.bx_journal_model.specs.Opening.{RefusesLength}
use Rattle.bx_journal_model.specs.Looking.{LookFault}

pub some_same : {A : Type 0} (x y : A) → Some x ≡ Some y → x ≡ y
some_same x y e = cc

-- a text is read in one way
pub read_once : {A : Type 0} → (text bytes : List ℕ) (j : JournalRead A) (r : Reading) → HasRead bytes j → text ≡ bytes → Reads text r → reading_of j.entries.items j.stage ≡ r
read_once text bytes j r read same reads =
    let here : Reads bytes r = subst (λ t. Reads t r) same reads in
    some_same (reading_of j.entries.items j.stage) r (sym read.reads.lines ∙ here.lines)

pub begins_told : (es : List Entry) (n : ℕ) → IfSome (told_by es) (λ told. n ≡ told) → may_begin es n ≡ true
begins_told [] n h = refl
begins_told (e ∷ es) n h = by_after e.after h
  where
    by_after : (after : Option ℕ) → IfSome after (λ told. n ≡ told) → may_begin (record { saved = e.saved; after = after } ∷ es) n ≡ true
    by_after None h = refl
    by_after (Some told) h = grind (arith, common_steps)

pub differs_of : (es : List Entry) (x : List ℕ) (n : ℕ) → told_by es ≡ Some n → (length x ≡ n → ⊥) → Differs es x n
differs_of [] x n told apart = absurd (cc)
differs_of (e ∷ es) x n told apart = (told, apart)

-- an entry that has its lengths tells none that differs
pub same_lengths : (es : List Entry) (x : List ℕ) (n : ℕ) → HaveLengths es x → Differs es x n → ⊥
same_lengths [] x n lengths differs = differs
same_lengths (e ∷ es) x n lengths differs = differs.1 (by_after e.after lengths.0 differs.0)
  where
    by_after : (after : Option ℕ) → IfSome after (λ told. length x ≡ told) → after ≡ Some n → length x ≡ n
    by_after None h is = absurd (cc)
    by_after (Some told) h is = let same : told ≡ n = cc in h ∙ same

-- a fault between reading and the first write is one of opening
pub look_opens : (H : Type 0) (es : List Entry) (x y : List ℕ) (r : Reading) (e : SessionFault) → H → r.entries ≡ es → image_at r.stage x ≡ y → LookFault H es y e → OpenFault r x e
look_opens H es x y r NoMemory h same image look = tt
look_opens H es x y r DeviceFailed h same image look = tt
look_opens H es x y r (LengthDiffers n) h same image look =
    subst (λ fs. Differs fs (image_at r.stage x) n) (sym same) (subst (λ z. Differs es z n) (sym image) (look h))
look_opens H es x y r TooLarge h same image look = absurd look
look_opens H es x y r (Damaged line) h same image look = absurd look
look_opens H es x y r (TooFew have) h same image look = absurd look
look_opens H es x y r JournalFull h same image look = absurd look
look_opens H es x y r Interrupted h same image look = absurd look
look_opens H es x y r Broken h same image look = absurd look
look_opens H es x y r (NothingToRedo have) h same image look = absurd look
look_opens H es x y r (RedoDamaged line) h same image look = absurd look

pub one_told : (es : List Entry) (x : List ℕ) (m n : ℕ) → Differs es x m → Differs es x n → m ≡ n
one_told [] x m n d e = absurd d
one_told (entry ∷ es) x m n d e = some_same m n (sym d.0 ∙ e.0)

pub look_refuses : (H : Type 0) (es : List Entry) (x : List ℕ) (n : ℕ) (e : SessionFault) → H → Differs es x n → LookFault H es x e → RefusesLength n e
look_refuses H es x n NoMemory h differs look = tt
look_refuses H es x n DeviceFailed h differs look = tt
look_refuses H es x n (LengthDiffers m) h differs look = one_told es x m n (look h) differs
look_refuses H es x n TooLarge h differs look = look
look_refuses H es x n (Damaged line) h differs look = look
look_refuses H es x n (TooFew have) h differs look = look
look_refuses H es x n JournalFull h differs look = look
look_refuses H es x n Interrupted h differs look = look
look_refuses H es x n Broken h differs look = look
look_refuses H es x n (NothingToRedo have) h differs look = look
look_refuses H es x n (RedoDamaged line) h differs look = look

pub after_same : (e : SessionFault) (P : Type 0) → P → AfterFault e (Unit {0}) P
after_same Interrupted P p = tt
after_same DeviceFailed P p = p
after_same NoMemory P p = p
after_same TooLarge P p = p
after_same (Damaged line) P p = p
after_same (TooFew have) P p = p
after_same JournalFull P p = p
after_same Broken P p = p
after_same (LengthDiffers n) P p = p
after_same (NothingToRedo have) P p = p
after_same (RedoDamaged line) P p = p

-- a pair that recovers has its lengths
pub recovers_same : (text x : List ℕ) (stack : List (List ℕ)) (e : SessionFault) (n : ℕ) (rec : Recovers text x stack) → OpenFault rec.reading x e → e ≡ LengthDiffers n → ⊥
recovers_same text x stack e n rec fault is =
    same_lengths rec.reading.entries (image_at rec.reading.stage x) n rec.lengths (subst (OpenFault rec.reading x) is fault)
