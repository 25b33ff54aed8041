-- What an image is by its blocks, a block more.
use Rattle.std.proofs.Common.{◌≡◌, ◌≢◌, ◌⊎◌, inl, inr, ℕ, ◌+◌, ◌<◌, Option, None, Some, List, arith, subst, sym, ◌∙◌, refl}
use Rattle.std.proofs.lemmas.Bool.{cases_eq}
use Rattle.bx_journal_image.specs.Blocks.{AreRead, HasNoOther, IsBlockRead, IsBlockThere, block_digest, mark_at}
use Rattle.bx_journal_image.specs.declared.judging.judge.Verdict.{Verdict}
use Rattle.bx_journal_image.specs.declared.judging.judge.Verdict.TheVariants.{Same, Other, Untold}

module _ (k n : ℕ) (marks : List (Option ℕ)) (x : List ℕ) where
  -- so far none is another one
  none_so_far : (v : Verdict) → AreRead k n marks x v → v ≢ Other → HasNoOther k n marks x
  none_so_far Same read none = read.0
  none_so_far Other read none = absurd (none refl)
  none_so_far Untold read none = λ i d block known there. absurd (some_none d (sym (read i block there) ∙ known))
    where
      some_none : (d : ℕ) → None ≡ Some d → ⊥
      some_none d e = absurd (cc)

  -- a block that is the one
  pub read_same : (v : Verdict) → AreRead k n marks x v → v ≢ Other → IsBlockRead n (mark_at marks k) k x Same → AreRead (k + 1) n marks x Same
  read_same v read none one = (no_other, record { i = k; block = omega arith; read = one })
    where
      no_other : HasNoOther (k + 1) n marks x
      no_other i d block known there = at (cases_eq i k)
        where
          at : (i ≡ k) ⊎ (i ≡ k → ⊥) → block_digest n i x ≡ d
          at (inl is) =
              let same : Some d ≡ Some one.0 = sym known ∙ subst (λ (j : ℕ). mark_at marks j ≡ Some one.0) (sym is) one.1 in
              let number : d ≡ one.0 = cc in
              subst (λ (j : ℕ). block_digest n j x ≡ one.0) (sym is) one.3 ∙ sym number
          at (inr not) = none_so_far v read none i d (omega (arith, not)) known there

  -- one that nothing is known of
  pub read_untold : (v : Verdict) → AreRead k n marks x v → v ≢ Other → IsBlockRead n (mark_at marks k) k x Untold → AreRead (k + 1) n marks x v
  read_untold Same read none untold = (no_other, record { i = read.1.i; block = omega (arith, read.1.block); read = read.1.read })
    where
      some_none : (d : ℕ) → None ≡ Some d → ⊥
      some_none d e = absurd (cc)

      no_other : HasNoOther (k + 1) n marks x
      no_other i d block known there = at (cases_eq i k)
        where
          at : (i ≡ k) ⊎ (i ≡ k → ⊥) → block_digest n i x ≡ d
          at (inl is) = absurd (some_none d (sym (subst (λ (j : ℕ). IsBlockThere n j x → mark_at marks j ≡ None) (sym is) untold there) ∙ known))
          at (inr not) = read.0 i d (omega (arith, not)) known there
  read_untold Other read none untold = absurd (none refl)
  read_untold Untold read none untold = λ i block there. at i block there (cases_eq i k)
    where
      at : (i : ℕ) → i < k + 1 → IsBlockThere n i x → (i ≡ k) ⊎ (i ≡ k → ⊥) → mark_at marks i ≡ None
      at i block there (inl is) = subst (λ (j : ℕ). IsBlockThere n j x → mark_at marks j ≡ None) (sym is) untold there
      at i block there (inr not) = read i (omega (arith, not)) there
