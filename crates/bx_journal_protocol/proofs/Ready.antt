-- What an entry takes, from what was read and prepared.
use Rattle.std.proofs.Common.{◌≡◌, ℕ, suc, ◌+◌, ◌<◌, ◌≤◌, List, [], ◌∷◌, length, refl, ap, ◌∙◌, subst, arith}
use Rattle.bx_image.specs.declared.change.TheConstants.{MAX_LEN}
use Rattle.bx_journal_format.specs.Kept.{Kept, kept_of}
use Rattle.bx_image.specs.declared.change.Change.{Change}
use Rattle.bx_image.specs.Change.{effect, saved, IsOf}
use Rattle.bx_journal_format.specs.Entry.{head_text, end_text}
use Rattle.bx_journal_format.specs.Text.{Entry}
use Rattle.bx_journal_model.specs.Stack.{stack_of}
use Rattle.bx_journal_model.specs.Machine.{top}
use Rattle.bx_journal_model.specs.Phase.{IsAtRest}
use Rattle.bx_journal_model.specs.Step.{WritesEntry}

pub top_of : (es : List Entry) (x : List ℕ) → top (stack_of es x) ≡ x
unfolding stack_of
top_of [] x = refl
top_of (e ∷ es) x = refl

pub top_of_rest : (text x : List ℕ) (stack : List (List ℕ)) → IsAtRest text x stack → top stack ≡ x
top_of_rest text x stack rest = ap top rest.stands.stack_is ∙ top_of rest.stands.entries x

-- what was prepared for a change of x, by a session that has `count` changes
pub record IsPrepared {A : Type 0} (c : Change A) (x : List ℕ) (count : ℕ) (s : Kept) (after : ℕ) (head line : List ℕ) : Type 0 where
  pub few : count < 65535
  pub long : length x ≤ MAX_LEN
  pub saved_is : s ≡ kept_of (saved c x)
  pub kept : IsOf s x
  pub after_is : after ≡ length (effect c x)
  pub fits : after ≤ MAX_LEN
  pub head_is : head ≡ head_text (count + 1) s
  pub line_is : line ≡ end_text (count + 1) after

pub writes_entry : {A : Type 0} → {c : Change A} {text x : List ℕ} {stack : List (List ℕ)} {count : ℕ} {s : Kept} {after : ℕ} {head line : List ℕ}
    → IsPrepared c x count s after head line → IsAtRest text x stack → length stack ≡ suc count → WritesEntry c text x stack head line
writes_entry {x = x} {stack = stack} {count = count} {s = s} {after = after} p rest counted =
    let number : count + 1 ≡ length stack = omega arith in
    record {
      starts = record {
        rest = rest;
        kept = subst (λ r. IsOf r x) p.saved_is p.kept;
        fits = subst (λ r. r.len ≤ MAX_LEN) p.saved_is (omega (arith, p.kept.len, p.long));
        number = omega (arith, p.few);
        head_is = p.head_is ∙ ap (λ n. head_text n s) number ∙ ap (head_text (length stack)) p.saved_is;
      };
      fits = omega (arith, p.after_is, p.fits);
      end_is = p.line_is ∙ ap (λ n. end_text n after) number ∙ ap (end_text (length stack)) p.after_is;
    }
