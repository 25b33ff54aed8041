-- Files that are lent to be read, before their texts are changed.
use Rattle.std.proofs.Common.{◌≡◌, ◌∙◌, ◌<◌, ℕ, List, Option, Some, None, refl, sym, subst, arith}
use Rattle.bx_world.specs.World.{AreOwnFiles, ReadFiles, SystemState}
use Rattle.bx_world.specs.files.Reading.{AreOpenToRead}
use Rattle.bx_world.specs.declared.files.names.Names.{Names}
use Rattle.bx_run.specs.forget.Forgetting.{IsAlone}

some_is : {X : Type 0} {x y : X} → Some x ≡ Some y → x ≡ y
some_is e = grind (arith, e)

-- each of the files is there, and a file of its own
pub apart : (names : Names) (f : ReadFiles) (w : SystemState) → AreOpenToRead names f w
    → ((name : List ℕ) (n : ℕ) → w.named name ≡ Some n → n < w.there) → AreOwnFiles w.there f
apart names f w opens within = record {
  image_there = within names.image f.image opens.named.image;
  journal_there = within names.journal f.journal opens.named.journal;
  redo_there = λ n is. within names.redo n (opens.named.redo ∙ is);
  journal_apart = opens.journal_apart;
  redo_apart = λ n is. rw is at opens.redo_apart;
}

-- and the image is neither of its texts
pub is_alone : (there : ℕ) (f : ReadFiles) → AreOwnFiles there f → IsAlone f
is_alone there f p = (λ e. p.journal_apart (sym e), λ e. (p.redo_apart f.image e).0 refl)

-- the image and its journal are files of their own
pub pair_apart : (there : ℕ) (f : ReadFiles) → AreOwnFiles there f → AreOwnFiles there (record { image = f.image; journal = f.journal; redo = None })
pair_apart there f p = record {
  image_there = p.image_there;
  journal_there = p.journal_there;
  redo_there = λ n is. absurd (let wrong : None ≡ Some n = is in cc);
  journal_apart = p.journal_apart;
  redo_apart = λ n is. absurd (let wrong : None ≡ Some n = is in cc);
}

-- and so is the redo text, beside those that were lent before it
pub whole_apart : (there : ℕ) (f g : ReadFiles) (n : ℕ) (o : Option ReadFiles) → AreOwnFiles there f
    → o ≡ Some (record { image = f.image; journal = f.journal; redo = None }) → o ≡ Some g → f.redo ≡ Some n
    → AreOwnFiles there (record { image = g.image; journal = g.journal; redo = Some n })
whole_apart there f g n o p first is redo =
    let pair : record { image = f.image; journal = f.journal; redo = None } ≡ g = some_is (sym first ∙ is) in
    subst (λ (h : ReadFiles). AreOwnFiles there (record { image = h.image; journal = h.journal; redo = Some n })) pair
    (record {
      image_there = p.image_there;
      journal_there = p.journal_there;
      redo_there = λ m same. p.redo_there m (redo ∙ same);
      journal_apart = p.journal_apart;
      redo_apart = λ m same. p.redo_apart m (redo ∙ same);
    })
