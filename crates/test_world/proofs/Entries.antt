-- Entries, and what names lead to.
use Rattle.std.proofs.Common.{◌≡◌, ◌⊎◌, ◌<◌, ◌≤◌, ◌-◌, ℕ, zero, suc, Bool, true, false, not, cond, Option, Some, None, List, [], ◌∷◌, length, get_or, drop, refl, sym, subst, inl, inr, arith, ◌∙◌}
use Rattle.std.specs.Prelude.{slice_get}
use Rattle.std.specs.Str.{bytes_eq}
use Rattle.std.proofs.lemmas.Slice.Eq.{bytes_eq-Decides}
use Rattle.test_world.specs.MemoryFiles.{end_led, entry_named, follow, free_end, is_gone_at, is_link_of, is_link_to, is_taken, is_taken_by, leads_at, led, unless_gone}
use Rattle.test_world.specs.declared.memory.files.Entry.{Entry}
use Rattle.test_world.specs.declared.memory.files.Leads.{Leads}
use Rattle.test_world.specs.declared.memory.files.Leads.TheVariants.{File, Link}
use Rattle.test_world.specs.declared.memory.files.Stored.{Stored}

-- an entry of the name is the first one
pub place_found : (entries : List Entry) (name : List ℕ) (i : ℕ) (e : Entry) → i < length entries → e ≡ get_or entries i e → bytes_eq e.name name ≡ true
    → leads_at entries i ≡ entry_named (drop i entries) name
place_found [] name i e below is eq = absurd (omega arith)
place_found (x ∷ xs) name zero e below is eq =
    let same : bytes_eq x.name name ≡ true = subst (λ (y : Entry). bytes_eq y.name name ≡ true) is eq in
    rw same refl
place_found (x ∷ xs) name (suc i) e below is eq = place_found xs name i e (omega arith) is eq

-- behind the last entry is none
pub place_past : (entries : List Entry) (name : List ℕ) (i : ℕ) → length entries ≤ i → entry_named (drop i entries) name ≡ None
place_past [] name zero past = refl
place_past [] name (suc i) past = refl
place_past (x ∷ xs) name zero past = absurd (omega arith)
place_past (x ∷ xs) name (suc i) past = place_past xs name i (omega arith)

pub leads_none : (entries : List Entry) → leads_at entries (length entries) ≡ None
leads_none [] = refl
leads_none (x ∷ xs) = leads_none xs

some_same : {X : Type 0} {x y : X} → Some x ≡ Some y → x ≡ y
some_same e = grind (arith, e)

module _ (files : List Stored) (entries : List Entry) (name : List ℕ) (n : ℕ) where
  apart : (m : List ℕ) → bytes_eq name m ≡ false → m ≡ name → ⊥
  apart m eq is = let same : bytes_eq name m ≡ true = (bytes_eq-Decides name m).1 (sym is) in let wrong : true ≡ false = sym same ∙ eq in absurd (cc)

  abbrev new_entry : Entry
  new_entry = record { name = name; leads = File n }

  abbrev Grows : Option ℕ → Option ℕ → Type 0
  Grows old new = (new ≡ old) ⊎ ((unless_gone files old ≡ None) × (new ≡ Some n))

  free_leads : (o : Option Leads) → is_taken_by files o ≡ false → (onward : List ℕ → Option ℕ) → unless_gone files (led onward o) ≡ None
  free_leads None free onward = refl
  free_leads (Some (File g)) free onward = gone (is_gone_at files g) free
    where
      gone : (b : Bool) → not b ≡ false → cond b None (Some g) ≡ None
      gone true e = refl
      gone false e = absurd (let wrong : true ≡ false = e in cc)
  free_leads (Some (Link target)) free onward = absurd (let wrong : true ≡ false = free in cc)

  onward_grows : (old new : List ℕ → Option ℕ) → ((m : List ℕ) → Grows (old m) (new m)) → (o : Option Leads) → Grows (led old o) (led new o)
  onward_grows old new step None = inl refl
  onward_grows old new step (Some (File g)) = inl refl
  onward_grows old new step (Some (Link target)) = step target

  step_grows : is_taken files entries name ≡ false → (old new : List ℕ → Option ℕ) → ((m : List ℕ) → Grows (old m) (new m)) → (m : List ℕ)
      → (b : Bool) → bytes_eq name m ≡ b → Grows (led old (entry_named entries m)) (led new (cond b (Some (File n)) (entry_named entries m)))
  step_grows free old new step m true eq =
      let is : name ≡ m = (bytes_eq-Decides name m).0 eq in
      inr (subst (λ x. unless_gone files (led old (entry_named entries x)) ≡ None) is (free_leads (entry_named entries name) free old), refl)
  step_grows free old new step m false eq = onward_grows old new step (entry_named entries m)

  -- with an entry in front of a name that was free, each name leads where it led, or to the new file
  pub follow_grows : is_taken files entries name ≡ false → (steps : ℕ) (m : List ℕ) → Grows (follow entries steps m) (follow (new_entry ∷ entries) steps m)
  unfolding follow
  follow_grows free zero m = inl refl
  follow_grows free (suc steps) m =
      step_grows free (λ t. follow entries steps t) (λ t. follow (new_entry ∷ entries) steps t) (λ t. follow_grows free steps t) m (bytes_eq name m) refl

  -- and the name to the new file
  pub follow_new : (steps : ℕ) → follow (new_entry ∷ entries) (suc steps) name ≡ Some n
  unfolding follow
  follow_new steps = let same : bytes_eq name name ≡ true = (bytes_eq-Decides name name).1 refl in rw same refl

  -- a name that is free leads nowhere, and is no link
  pub follow_free : is_taken files entries name ≡ false → (steps : ℕ) → unless_gone files (follow entries steps name) ≡ None
  unfolding follow
  follow_free free zero = refl
  follow_free free (suc steps) = free_leads (entry_named entries name) free (λ t. follow entries steps t)

  unlinked : (o : Option Leads) → is_taken_by files o ≡ false → is_link_to o ≡ false
  unlinked None free = refl
  unlinked (Some (File g)) free = refl
  unlinked (Some (Link target)) free = free

  pub free_no_link : is_taken files entries name ≡ false → is_link_of entries name ≡ false
  free_no_link free = unlinked (entry_named entries name) free

  -- where the new name is the one that a name leads to, a file or a link has it not
  end_free_at : (onward : List ℕ → Option (List ℕ)) (m : List ℕ) (o : Option Leads) → entry_named entries m ≡ o → end_led files onward m o ≡ Some name
      → ((target : List ℕ) → onward target ≡ Some name → is_taken files entries name ≡ false) → is_taken files entries name ≡ false
  end_free_at onward m None leads e on =
      let is : m ≡ name = some_same e in
      subst (λ x. is_taken files entries x ≡ false) is (rw leads refl)
  end_free_at onward m (Some (File g)) leads e on = unless_there (is_gone_at files g) refl e
    where
      unless_there : (b : Bool) → is_gone_at files g ≡ b → cond b (Some m) None ≡ Some name → is_taken files entries name ≡ false
      unless_there true gone same =
          let is : m ≡ name = some_same same in
          subst (λ x. is_taken files entries x ≡ false) is (rw (leads, gone) refl)
      unless_there false gone same = absurd (let wrong : None ≡ Some name = same in cc)
  end_free_at onward m (Some (Link target)) leads e on = on target e

  pub end_free : (steps : ℕ) (m : List ℕ) → free_end files entries steps m ≡ Some name → is_taken files entries name ≡ false
  unfolding free_end
  end_free zero m e = absurd (let wrong : None ≡ Some name = e in cc)
  end_free (suc steps) m e = end_free_at (λ t. free_end files entries steps t) m (entry_named entries m) refl e (λ t more. end_free steps t more)

  end_none_at : (onward : List ℕ → Option (List ℕ)) (before : List ℕ → Option ℕ) (m : List ℕ) (o : Option Leads) → end_led files onward m o ≡ Some name
      → ((target : List ℕ) → onward target ≡ Some name → unless_gone files (before target) ≡ None) → unless_gone files (led before o) ≡ None
  end_none_at onward before m None e on = refl
  end_none_at onward before m (Some (File g)) e on = unless_there (is_gone_at files g) e
    where
      unless_there : (b : Bool) → cond b (Some m) None ≡ Some name → cond b None (Some g) ≡ None
      unless_there true same = refl
      unless_there false same = absurd (let wrong : None ≡ Some name = same in cc)
  end_none_at onward before m (Some (Link target)) e on = on target e

  -- a name that leads to a free one leads to no file
  pub end_none : (steps : ℕ) (m : List ℕ) → free_end files entries steps m ≡ Some name → unless_gone files (follow entries steps m) ≡ None
  unfolding follow free_end
  end_none zero m e = refl
  end_none (suc steps) m e =
      end_none_at (λ t. free_end files entries steps t) (λ t. follow entries steps t) m (entry_named entries m) e (λ t more. end_none steps t more)

  end_new_at : (onward : List ℕ → Option (List ℕ)) (after : List ℕ → Option ℕ) (m : List ℕ) (o : Option Leads) → end_led files onward m o ≡ Some name
      → ((target : List ℕ) → onward target ≡ Some name → after target ≡ Some n)
      → (b : Bool) → bytes_eq name m ≡ b → led after (cond b (Some (File n)) o) ≡ Some n
  end_new_at onward after m o e on true eq = refl
  end_new_at onward after m None e on false eq = absurd (apart m eq (some_same e))
  end_new_at onward after m (Some (File g)) e on false eq = unless_there (is_gone_at files g) e
    where
      unless_there : (b : Bool) → cond b (Some m) None ≡ Some name → Some g ≡ Some n
      unless_there true same = absurd (apart m eq (some_same same))
      unless_there false same = absurd (let wrong : None ≡ Some name = same in cc)
  end_new_at onward after m (Some (Link target)) e on false eq = on target e

  -- and to the new file, once an entry leads there from the free name
  pub end_new : (steps : ℕ) (m : List ℕ) → free_end files entries steps m ≡ Some name → follow (new_entry ∷ entries) steps m ≡ Some n
  unfolding follow free_end
  end_new zero m e = absurd (let wrong : None ≡ Some name = e in cc)
  end_new (suc steps) m e =
      end_new_at (λ t. free_end files entries steps t) (λ t. follow (new_entry ∷ entries) steps t) m (entry_named entries m) e (λ t more. end_new steps t more)
      (bytes_eq name m) refl

-- what an entry leads to
pub leads_here : (entries : List Entry) (i : ℕ) (e : Entry) → slice_get entries i ≡ Some e → leads_at entries i ≡ Some e.leads
leads_here entries i e got = rw got refl

-- from a link it goes on with one step less
pub end_onward : (files : List Stored) (entries : List Entry) (steps : ℕ) (name target : List ℕ) → 0 < steps → entry_named entries name ≡ Some (Link target)
    → free_end files entries steps name ≡ free_end files entries (steps - 1) target
unfolding free_end
end_onward files entries zero name target some leads = absurd (omega arith)
end_onward files entries (suc steps) name target some leads = let e : suc steps - 1 ≡ steps = omega arith in rw (e, leads) refl
