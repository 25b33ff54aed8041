-- What is kept of an image, and its lines beside saved ones.
use Rattle.std.proofs.Common.{◌≡◌, ℕ, ◌+◌, ◌-◌, ◌<◌, ◌≤◌, List, ◌++◌, length, length-drop, take, drop, refl, ap, sym, ◌∙◌, subst, arith, Result}
use Rattle.std.specs.Prelude.{◌↔◌, IfErr, OnOk, codes}
use Rattle.bx_image.specs.Cached.{HasCached}
use Rattle.bx_image.specs.declared.cached.Cached.{Cached}
use Rattle.bx_image.specs.Power.{NoMore}
use Rattle.bx_image.proofs.CacheLemmas.{same_bytes, take_least}
use Rattle.bx_image.proofs.Survivors.{NoMore_then}
use Rattle.bx_journal_read.specs.show.Differences.{signed_line}
use Rattle.bx_journal_read.specs.declared.show.fault.ShowFault.{ShowFault}
use Rattle.bx_journal_read.specs.show.Showing.{LookCounts, Stays}

-- the line of the bytes at an address that a page gives, as far as the image has these
pub now_added : (image page old new : List ℕ) (k : Cached) (at most there : ℕ) → take k.count page ≡ take k.count (drop k.at image) → HasCached k at there → there ≤ most → (there < most → length image ≤ at + there)
    → new ≡ old ++ signed_line (codes "-") at (take ((at - k.at) + there - (at - k.at)) (drop (at - k.at) page)) → new ≡ old ++ signed_line (codes "-") at (take most (drop at image))
now_added image page old new k at most there are has less short more =
    let cut : (at - k.at) + there - (at - k.at) ≡ there = omega arith in
    let bytes : take ((at - k.at) + there - (at - k.at)) (drop (at - k.at) page) ≡ take most (drop at image) =
    ap (λ n. take n (drop (at - k.at) page)) cut ∙ same_bytes image page k.at k.count at there are has.0 has.1
    ∙ sym (take_least most there (drop at image) less (λ lt. omega (arith, short lt, length-drop at image))) in
    more ∙ ap (λ bs. old ++ signed_line (codes "-") at bs) bytes

-- a call that only looks, behind another that did and did not fail
pub stays_behind : {T R E : Type 0} {faithful : T → Type 0} {text : T → List ℕ} {failures : T → ℕ} {r : Result R E} {old now new : T} → (faithful old → text now ≡ text old) → (faithful now ↔ faithful old)
    → failures now ≡ failures old → Stays faithful text failures r now new → Stays faithful text failures r old new
stays_behind {failures = failures} {r = r} {new = new} same faith unfailed next = record {
  same = λ h. next.same (faith.1 h) ∙ same h;
  faith = ((λ h. faith.0 (next.faith.0 h)), λ h. next.faith.1 (faith.1 h));
  no_failure = subst (λ n. OnOk r (failures new ≡ n)) unfailed next.no_failure;
}

-- calls that only looked and did not fail, up to now
pub record HasStayed {T : Type 0} (faithful : T → Type 0) (text : T → List ℕ) (left : T → List ℕ → Type 0) (failures : T → ℕ) (old now : T) : Type 0 where
  pub same : faithful old → text now ≡ text old
  pub survives : faithful old → NoMore (left old) (left now)
  pub faith : faithful now ↔ faithful old
  pub no_failure : failures now ≡ failures old

-- none yet
pub stayed_none : {T : Type 0} (faithful : T → Type 0) (text : T → List ℕ) (left : T → List ℕ → Type 0) (failures : T → ℕ) (now : T) → HasStayed faithful text left failures now now
stayed_none faithful text left failures now = record { same = λ h. refl; survives = λ h y there. there; faith = ((λ h. h), λ h. h); no_failure = refl }

-- one more
pub stayed_on : {T : Type 0} {faithful : T → Type 0} {text : T → List ℕ} {left : T → List ℕ → Type 0} {failures : T → ℕ} {old now new : T} → HasStayed faithful text left failures old now
    → (faithful now → text new ≡ text now) → (faithful now → NoMore (left now) (left new)) → (faithful new ↔ faithful now) → failures new ≡ failures now → HasStayed faithful text left failures old new
stayed_on first same more faith unfailed = record {
  same = λ h. same (first.faith.1 h) ∙ first.same h;
  survives = λ h. NoMore_then _ _ _ (first.survives h) (more (first.faith.1 h));
  faith = ((λ h. first.faith.0 (faith.0 h)), λ h. faith.1 (first.faith.1 h));
  no_failure = unfailed ∙ first.no_failure;
}

-- how the counts go on behind calls that did not fail
pub counts_behind : {R : Type 0} {d t d_now t_now : ℕ} → (d_new t_new : ℕ) → (r : Result R ShowFault) → d_now ≡ d → t_now ≡ t → IfErr r (λ f. LookCounts f d_now t_now d_new t_new) → IfErr r (λ f. LookCounts f d t d_new t_new)
counts_behind {t = t} {d_now = d_now} d_new t_new r same_d same_t counts =
    subst (λ n. IfErr r (λ f. LookCounts f n t d_new t_new)) same_d (subst (λ m. IfErr r (λ f. LookCounts f d_now m d_new t_new)) same_t counts)
