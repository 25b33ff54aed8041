-- Three files, opened one after another.
use Rattle.std.proofs.Common.{◌≡◌, ◌∙◌, ◌<◌, ℕ, Bool, true, false, List, Option, Some, None, refl, sym, ap, subst, inl, inr, arith}
use Rattle.std.specs.Option.{option_map_or}
use Rattle.bx_world.specs.Rule.{image_unfit, text_unfit}
use Rattle.bx_world.specs.World.{AreThreeFiles, MayBeText, SystemState, Trio, stat_named}
use Rattle.bx_world.specs.declared.rule.Unfit.{Unfit}
use Rattle.bx_world.specs.declared.rule.Unfit.TheVariants.{Link}
use Rattle.bx_world.specs.declared.stat.Stat.{Stat}
use Rattle.bx_world.specs.files.Files.{AreAllThere, AreOpened, AreTextsOpened, HasMade, IsImageOpened, IsOpenUnder, IsOwn, IsTextOpened}
use Rattle.bx_world.specs.files.Fit.{AreFit, AreFitBeside, IsFitImage, found_unfit, unfit_beside}
use Rattle.bx_world.specs.files.Reasons.{AreFitFiles, IsOneOf, LeadsToOther}
use Rattle.bx_world.specs.declared.files.made.Made.{Made}
use Rattle.bx_world.specs.declared.files.names.Names.{Names}
use Rattle.bx_world.specs.declared.files.unopened.FileRole.{FileRole}
use Rattle.bx_world.specs.declared.files.unopened.FileRole.TheVariants.{Image, Journal, Redo}
use Rattle.bx_world.proofs.Making.{made_then, some_one, under_earlier, under_later}

-- what a name leads to is judged so
abbrev pub Judged : ℕ → SystemState → List ℕ → Option ℕ → Option Unfit → Type 0
Judged image w name led unfit = found_unfit w.caller (Some (w.stat image)) (w.is_link name) (option_map_or (λ k. Some (w.stat k)) led None) ≡ unfit

-- what may stand beside an image may be opened as its text
pub may_be_text : (image : ℕ) (name : List ℕ) (w : SystemState) → unfit_beside (Some (w.stat image)) w name ≡ None → MayBeText image w name
may_be_text image name w fit n named = subst (λ (led : Option ℕ). Judged image w name led None) named fit

no_link : (caller : ℕ) (image : Option Stat) (is_link : Bool) → found_unfit caller image is_link None ≡ None → is_link ≡ false
no_link caller image true wrong = absurd (let no : Some Link ≡ None = wrong in cc)
no_link caller image false fit = refl

-- a text that may be opened by its name may be so by its number
pub unlinked_fit : (caller : ℕ) (image : Stat) (is_link : Bool) (text : Stat) → text_unfit caller image is_link text ≡ None
    → text_unfit caller image false text ≡ None
unlinked_fit caller image true text e = absurd (let wrong : Some Link ≡ None = e in cc)
unlinked_fit caller image false text e = e

-- a text that was opened may be one of the image, by its number
pub text_fit : (name : List ℕ) (image n : ℕ) (makes made : Bool) (old new : SystemState) → IsTextOpened name image n makes made old new
    → text_unfit new.caller (new.stat image) false (new.stat n) ≡ None
text_fit name image n makes made old new opened = unlinked_fit new.caller (new.stat image) (new.is_link name) (new.stat n) opened.own

-- what may stand beside an image may be opened as its text, when another one was opened or made
pub text_later : (journal name : List ℕ) (image n : ℕ) (makes made : Bool) (old new : SystemState) → AreAllThere old → image < old.there
    → unfit_beside (Some (old.stat image)) old name ≡ None → IsTextOpened journal image n makes made old new → MayBeText image new name
text_later journal name image n makes made old new within there fit opened k named =
    let has = opened.file.files in
    elim (has.named name) [
      | inl same ↦
          let was = sym same ∙ named in
          rw (has.streams.caller, has.stat image there, has.streams.is_link name, has.stat k (within name k was))
          (may_be_text image name old fit k was)
      | inr is_new ↦
          let is : k ≡ n = some_one (sym named ∙ is_new.3) ∙ is_new.2.1 in
          let no : old.is_link name ≡ false = no_link old.caller (Some (old.stat image)) (old.is_link name)
          (subst (λ (led : Option ℕ). Judged image old name led None) is_new.1 fit) in
          rw (has.streams.is_link name, no, is) (unlinked_fit new.caller (new.stat image) (new.is_link journal) (new.stat n) opened.own)
    ]

own_later : (P : ℕ → Type 0) (name : List ℕ) (image n : ℕ) (a b : SystemState) → HasMade P a b → image < a.there → n < a.there → IsOwn name image n a
    → IsOwn name image n b
own_later P name image n a b has one two own = rw (has.streams.caller, has.stat image one, has.streams.is_link name, has.stat n two) own

-- the texts were opened, one after another
pub texts_opened : (names : Names) (makes : Bool) (t : Trio) (made : Made) (a b c : SystemState) → t.image < a.there
    → IsTextOpened names.journal t.image t.journal makes made.journal a b → IsTextOpened names.redo t.image t.redo true made.redo b c
    → AreThreeFiles c.there t → AreTextsOpened names makes t made a c
texts_opened names makes t made a b c there journal redo apart =
    let least = journal.file.files.there in
    record {
      files = made_then _ _ a b c journal.file.files redo.file.files;
      journal = under_later _ names.journal made.journal t.journal a b c journal.file.under journal.file.there redo.file.files;
      redo = under_earlier _ names.redo made.redo t.redo a b c journal.file.files redo.file.under (λ is. apart.redo_of_journal is.1);
      asked = journal.file.asked;
      apart = apart;
      journal_own = own_later _ names.journal t.image t.journal b c redo.file.files (omega (arith, there, least)) journal.file.there journal.own;
      redo_own = redo.own;
    }

-- the image was opened, and then the texts
pub all_opened : (names : Names) (mounted makes : Bool) (t : Trio) (made : Made) (a b c : SystemState)
    → IsImageOpened names.image mounted makes made.image t.image a b → AreTextsOpened names makes t made b c → AreFit names mounted a
    → AreOpened names mounted makes t made a c
all_opened names mounted makes t made a b c image texts fit = record {
  files = made_then _ _ a b c image.file.files texts.files;
  image = under_later _ names.image made.image t.image a b c image.file.under image.file.there texts.files;
  journal = under_earlier _ names.journal made.journal t.journal a b c image.file.files texts.journal (λ is. texts.apart.journal_apart is.1);
  redo = under_earlier _ names.redo made.redo t.redo a b c image.file.files texts.redo (λ is. texts.apart.redo_of_image is.1);
  image_asked = image.file.asked;
  journal_asked = texts.asked;
  apart = texts.apart;
  fit = fit;
  image_fit = rw (texts.files.stat t.image image.file.there) image.fit;
  journal_own = texts.journal_own;
  redo_own = texts.redo_own;
}

-- texts that were looked at beside an image that was there may be opened beside it, once it is open
pub fit_there : (names : Names) (mounted made : Bool) (image : ℕ) (a b : SystemState) → AreFit names mounted a → IsOpenUnder names.image made image a b
    → (made ≡ false → b ≡ a) → made ≡ false → AreFitBeside names (b.stat image) b
fit_there names mounted true image a b fit under stays wrong = absurd (let no : true ≡ false = wrong in cc)
fit_there names mounted false image a b fit under stays is =
    subst (λ (w : SystemState). AreFitBeside names (w.stat image) w) (sym (stays is)) (fit.texts image under.was)

-- three files that may be changed may be so when the last was opened or made
pub files_fit : (name : List ℕ) (mounted makes made : Bool) (t : Trio) (old new : SystemState) → t.image < old.there → t.journal < old.there
    → image_unfit mounted (old.stat t.image) ≡ None → text_unfit old.caller (old.stat t.image) false (old.stat t.journal) ≡ None
    → IsTextOpened name t.image t.redo makes made old new → AreFitFiles mounted t new
files_fit name mounted makes made t old new one two image journal redo =
    let has = redo.file.files in
    record {
      image = rw (has.stat t.image one) image;
      journal = rw (has.streams.caller, has.stat t.image one, has.stat t.journal two) journal;
      redo = unlinked_fit new.caller (new.stat t.image) (new.is_link name) (new.stat t.redo) redo.own;
    }

one_before : (name : List ℕ) (image n other : ℕ) (makes made : Bool) (old new : SystemState) → other < old.there
    → IsTextOpened name image n makes made old new → n ≡ other → old.named name ≡ Some other
one_before name image n other makes true old new there opened is =
    let fresh = (opened.file.files.fresh n (refl, refl)).0 in absurd (omega (arith, there, fresh, is))
one_before name image n other makes false old new there opened is = opened.file.under.was ∙ ap Some is

-- a redo text that is another file was led to before
pub other_before : (names : Names) (makes made : Bool) (t : Trio) (old new : SystemState) → t.image < old.there → t.journal < old.there
    → IsTextOpened names.redo t.image t.redo makes made old new → (which : FileRole) → IsOneOf t which → LeadsToOther names t.image t.journal old which
other_before names makes made t old new one two redo Image is = is
other_before names makes made t old new one two redo Journal is = is
other_before names makes made t old new one two redo Redo is = elim is [
  | inl same ↦ inl (one_before names.redo t.image t.redo t.image makes made old new one redo same)
  | inr same ↦ inr (one_before names.redo t.image t.redo t.journal makes made old new two redo same)
]

-- what was looked at may be opened
pub looked_fit : (names : Names) (mounted makes : Bool) (image : Option Stat) (w : SystemState) → IsFitImage names.image mounted makes image w
    → unfit_beside image w names.journal ≡ None → unfit_beside image w names.redo ≡ None → AreFit names mounted w
looked_fit names mounted makes image w fit journal redo = record {
  image = fit.fit;
  texts = λ n named.
      let told : stat_named w names.image ≡ Some (w.stat n) = ap (λ (led : Option ℕ). option_map_or (λ k. Some (w.stat k)) led None) named in
      let is : image ≡ Some (w.stat n) = sym fit.found ∙ told in
      record {
        journal = subst (λ (i : Option Stat). unfit_beside i w names.journal ≡ None) is journal;
        redo = subst (λ (i : Option Stat). unfit_beside i w names.redo ≡ None) is redo;
      };
}
