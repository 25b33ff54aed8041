-- A change of a pair that need not be sound.
use Rattle.std.proofs.Common.{◌≡◌, ℕ, suc, ◌+◌, ◌≤◌, Bool, true, false, eqb, cond, List, [], ◌∷◌, ◌++◌, length, refl, ap, sym, ◌∙◌, subst, arith, append_assoc, append-nil}
use Rattle.std.specs.Prelude.{IfSome}
use Rattle.bx_image.specs.declared.change.TheConstants.{MAX_LEN}
use Rattle.bx_journal_format.specs.Kept.{Kept, kept_of}
use Rattle.bx_image.specs.declared.change.Change.{Change}
use Rattle.bx_image.specs.Change.{effect, saved, restore, IsOf, IsAsGood}
use Rattle.bx_journal_format.specs.declared.format.version.Version.TheVariants.{Second}
use Rattle.bx_journal_model.specs.Laws.{HasBytes}
use Rattle.bx_journal_format.specs.Line.{end_line}
use Rattle.bx_journal_format.specs.Entry.{head_text, end_text, entry_text}
use Rattle.bx_journal_format.specs.Text.{Entry, Between, Reads, Split, split, with_first_byte}
use Rattle.bx_journal_model.specs.Stack.{StandsFor, HaveLengths, stack_of}
use Rattle.bx_journal_model.specs.Machine.{top}
use Rattle.bx_journal_model.proofs.Phases.{may_begin_of, length-stack_of, whole_behind}
use Rattle.bx_journal_format.proofs.RowLemmas.{restore_same}
use Rattle.bx_journal_protocol.proofs.Ready.{IsPrepared, top_of}
use Rattle.bx_journal_protocol.proofs.LawProofs.{written_is_read}

-- a text that ends with a newline has nothing behind its last newline
record EndsWhole (s : Split) : Type 0 where
  rest : s.rest ≡ []
  some : (s.lines ≡ [] → ⊥)

front_ends : (b : ℕ) (s : Split) → EndsWhole s → EndsWhole (with_first_byte b s)
front_ends b s ends = by_lines s.lines refl
  where
    by_lines : (lines : List (List ℕ)) → s.lines ≡ lines → EndsWhole (with_first_byte b s)
    by_lines [] is = absurd (ends.some is)
    by_lines (l ∷ ls) is = rw is (record { rest = ends.rest; some = λ e. cc })

ends_whole : (a : List ℕ) → EndsWhole (split (a ++ 10 ∷ []))
unfolding split
ends_whole [] = record { rest = refl; some = λ e. cc }
ends_whole (b ∷ a) = by_test (eqb b 10) (ends_whole a)
  where
    by_test : (is : Bool) → EndsWhole (split (a ++ 10 ∷ []))
        → EndsWhole (cond is (record { lines = [] ∷ (split (a ++ 10 ∷ [])).lines; rest = (split (a ++ 10 ∷ [])).rest }) (with_first_byte b (split (a ++ 10 ∷ []))))
    by_test true ends = record { rest = ends.rest; some = λ e. cc }
    by_test false ends = front_ends b (split (a ++ 10 ∷ [])) ends

entry_whole : (n : ℕ) (s : Kept) (after : ℕ) → (split (entry_text n s after)).rest ≡ []
entry_whole n s after =
    let line : List ℕ = end_line Second n after in
    let last : end_text n after ≡ line ++ 10 ∷ [] = append-nil (line ++ 10 ∷ []) in
    let is : entry_text n s after ≡ (head_text n s ++ line) ++ 10 ∷ [] = ap (λ t. head_text n s ++ t) last ∙ sym (append_assoc (head_text n s) line (10 ∷ [])) in
    ap (λ t. (split t).rest) is ∙ (ends_whole (head_text n s ++ line)).rest

pub restored_same : (e : Entry) (s : Kept) (after : ℕ) (y : List ℕ) → HasBytes e s after → restore e.saved y ≡ restore s y
restored_same e s after y has =
    restore_same e.saved.len e.saved.runs s.runs y has.bytes ∙ ap (λ n. restore (record { len = n; runs = s.runs }) y) has.len

-- what an entry of a change makes of the pair
pub performed : {A : Type 0} → (c : Change A) (text new x y : List ℕ) (stack : List (List ℕ)) (s : Kept) (after : ℕ) → StandsFor text x stack → length stack ≤ 65535
    → IsOf s x → s.len ≤ MAX_LEN → after ≤ MAX_LEN → length y ≡ after → restore s y ≡ x → new ≡ text ++ entry_text (length stack) s after → StandsFor new y (y ∷ stack)
unfolding stack_of
performed c text new x y stack s after st few is fits most long back written =
    let es : List Entry = st.entries in
    let count : length stack ≡ suc (length es) = ap length st.stack_is ∙ length-stack_of es x in
    let w = written_is_read text es s after st.reads st.whole (omega arith) fits most is.within is.bytes (may_begin_of es x s.len st.lengths is.len) in
    let e : Entry = w.0 in
    let has : HasBytes e s after = w.1 in
    let text_is : new ≡ text ++ entry_text (suc (length es)) s after = written ∙ ap (λ n. text ++ entry_text n s after) count in
    let below : restore e.saved y ≡ x = restored_same e s after y has ∙ back in
    record {
      entries = e ∷ es;
      reads = subst (λ t. Reads t (record { entries = e ∷ es; stage = Between })) (sym text_is) w.2;
      whole = ap (λ t. (split t).rest) text_is ∙ whole_behind text (entry_text (suc (length es)) s after) st.whole (entry_whole (suc (length es)) s after);
      lengths = (subst (λ o. IfSome o (λ n. length y ≡ n)) (sym has.told) long, subst (HaveLengths es) (sym below) st.lengths);
      stack_is = ap (λ t. y ∷ t) (st.stack_is ∙ ap (stack_of es) (sym below));
    }

pub top_of_stands : (text x : List ℕ) (stack : List (List ℕ)) → StandsFor text x stack → top stack ≡ x
top_of_stands text x stack st = ap top st.stack_is ∙ top_of st.entries x

-- the entry that was prepared, behind a text
written_entry : {A : Type 0} → {c : Change A} (text : List ℕ) {new x : List ℕ} {count : ℕ} {s : Kept} {after : ℕ} {head line : List ℕ} → IsPrepared c x count s after head line → new ≡ text ++ head ++ line
    → new ≡ text ++ entry_text (count + 1) s after
written_entry text {count = count} {s = s} {head = head} {line = line} p written =
    written ∙ append_assoc text head line ∙ ap (λ h. text ++ (h ++ line)) p.head_is ∙ ap (λ l. text ++ (head_text (count + 1) s ++ l)) p.line_is

pub appended : {A : Type 0} → {c : Change A} (text : List ℕ) {new x : List ℕ} {count : ℕ} {s : Kept} {after : ℕ} {head line : List ℕ} → IsPrepared c x count s after head line → new ≡ text ++ head ++ line
    → new ≡ text ++ entry_text (count + 1) (kept_of (saved c x)) (length (effect c x))
appended {c = c} text {x = x} {count = count} {after = after} p written =
    written_entry text p written ∙ ap (λ r. text ++ entry_text (count + 1) r after) p.saved_is ∙ ap (λ n. text ++ entry_text (count + 1) (kept_of (saved c x)) n) p.after_is

-- from what was prepared
pub performs : {A : Type 0} → {c : Change A} {text new x y : List ℕ} {stack : List (List ℕ)} {count : ℕ} {s : Kept} {after : ℕ} {head line : List ℕ} → IsPrepared c x count s after head line → StandsFor text x stack → length stack ≡ suc count
    → y ≡ effect c x → IsAsGood (kept_of (saved c x)) x y → new ≡ text ++ head ++ line → StandsFor new y (effect c (top stack) ∷ stack)
performs {c = c} {text = text} {new = new} {x = x} {y = y} {stack = stack} {count = count} {s = s} {after = after} p st counted image good written =
    let number : count + 1 ≡ length stack = omega arith in
    let few : length stack ≤ 65535 = omega (arith, p.few) in
    let is : IsOf s x = p.kept in
    let fits : s.len ≤ MAX_LEN = omega (arith, is.len, p.long) in
    let back : restore s y ≡ x = subst (λ r. restore r y ≡ x) (sym p.saved_is) (good.same ∙ subst (λ r. restore r x ≡ x) p.saved_is is.back) in
    let text_is : new ≡ text ++ entry_text (length stack) s after = written_entry text p written ∙ ap (λ n. text ++ entry_text n s after) number in
    let long : length y ≡ after = ap length image ∙ sym p.after_is in
    let top_is : y ≡ effect c (top stack) = image ∙ ap (effect c) (sym (top_of_stands text x stack st)) in
    subst (λ z. StandsFor new y (z ∷ stack)) top_is (performed c text new x y stack s after st few is fits p.fits long back text_is)
