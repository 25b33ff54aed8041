-- The redo text, when an entry is appended or cut off.
use Rattle.std.proofs.Common.{◌≡◌, ℕ, suc, ◌≤◌, List, [], ◌∷◌, ◌++◌, length, drop, refl, ap, sym, ◌∙◌, subst, inl, arith, Option, Some, None}
use Rattle.std.specs.Prelude.{is_some, IsTrue}
use Rattle.bx_image.specs.declared.change.Change.{Change}
use Rattle.bx_image.specs.declared.change.TheConstants.{MAX_LEN}
use Rattle.bx_image.specs.Change.{restore}
use Rattle.bx_journal_format.specs.Entry.{entry_text}
use Rattle.bx_journal_format.specs.Text.{Entry, Between, Reading, Reads, IsRest, split, after_lines}
use Rattle.bx_journal_model.specs.Stack.{StandsFor, HaveLengths, stack_of}
use Rattle.bx_journal_protocol.proofs.Performed.{performed, top_of_stands}
use Rattle.bx_journal_model.proofs.Phases.{may_begin_of, length-stack_of}
use Rattle.bx_journal_protocol.proofs.LawProofs.{written_is_read}
use Rattle.bx_journal_format.specs.Finished.{AllTell}
use Rattle.bx_journal_model.specs.RedoLaws.{EmptyIsRedo, RedoIsOne}
use Rattle.bx_journal_protocol.proofs.RedoLawsStated.{PushedIsRedo, PoppedIsRedo}

pub one_reading : {p q : Reading} → Some p ≡ Some q → p ≡ q
one_reading e = cc

-- finished entries are read in one way
pub one_list : (text : List ℕ) (es fs : List Entry) → Reads text (record { entries = es; stage = Between }) → Reads text (record { entries = fs; stage = Between }) → es ≡ fs
one_list text es fs a b =
    let same : record { entries = es; stage = Between } ≡ record { entries = fs; stage = Between } = one_reading (sym a.lines ∙ b.lines) in
    ap (λ (r : Reading). r.entries) same

pub empty_is_redo : EmptyIsRedo
unfolding split after_lines stack_of
empty_is_redo x n few = record {
  stands = record { entries = []; reads = record { lines = refl; rest = inl refl }; whole = refl; lengths = tt; stack_is = refl };
  tell = tt;
  few = omega (arith, few);
}

pub redo_is_one : RedoIsOne
redo_is_one text x m n u v a b =
    let same : a.stands.entries ≡ b.stands.entries = one_list text a.stands.entries b.stands.entries a.stands.reads b.stands.reads in
    let both : x ∷ u ≡ x ∷ v = a.stands.stack_is ∙ ap (λ es. stack_of es x) same ∙ sym b.stands.stack_is in
    ap (drop 1) both

is_some_of : (o : Option ℕ) (n : ℕ) → o ≡ Some n → IsTrue (is_some o)
is_some_of o n is = ap is_some is

pub pushed_is_redo : PushedIsRedo
pushed_is_redo text new x y n u s r is long most back written =
    let st : StandsFor text x (x ∷ u) = r.stands in
    let es : List Entry = st.entries in
    let few : length (x ∷ u) ≤ 65535 = omega (arith, r.few) in
    let fits : s.len ≤ MAX_LEN = omega (arith, is.len, long) in
    let count : length (x ∷ u) ≡ suc (length es) = ap length st.stack_is ∙ length-stack_of es x in
    let done : StandsFor new y (y ∷ x ∷ u) = performed (none_) text new x y (x ∷ u) s (length y) st few is fits most refl back written in
    let w = written_is_read text es s (length y) st.reads st.whole (omega (arith, count, few)) fits most is.within is.bytes (may_begin_of es x s.len st.lengths is.len) in
    let text_is : new ≡ text ++ entry_text (suc (length es)) s (length y) = written ∙ ap (λ k. text ++ entry_text k s (length y)) count in
    let same : done.entries ≡ w.0 ∷ es = one_list new done.entries (w.0 ∷ es) done.reads (subst (λ t. Reads t (record { entries = w.0 ∷ es; stage = Between })) (sym text_is) w.2) in
    record {
      stands = done;
      tell = subst AllTell (sym same) (is_some_of w.0.after (length y) w.1.told, r.tell);
      few = omega (arith, r.few);
    }
  where
    none_ : Change (Unit {0})
    none_ = record { base = None; writes = [] }

tail_is : (e : Entry) (es : List Entry) (x : List ℕ) → drop 1 (stack_of (e ∷ es) x) ≡ stack_of es (restore e.saved x)
unfolding stack_of
tail_is e es x = refl

pub popped_is_redo : PoppedIsRedo
popped_is_redo text new x y z n u v e es begins saved r finished marks cut restored =
    let st : StandsFor text x (x ∷ z ∷ u) = r.stands in
    let same : st.entries ≡ e ∷ es = one_list text st.entries (e ∷ es) st.reads finished.reads in
    let lengths : HaveLengths (e ∷ es) x = subst (λ fs. HaveLengths fs x) same st.lengths in
    let tell : AllTell (e ∷ es) = subst AllTell same r.tell in
    let stack_is : z ∷ u ≡ stack_of es y = ap (drop 1) (st.stack_is ∙ ap (λ fs. stack_of fs x) same) ∙ tail_is e es x ∙ ap (stack_of es) (sym restored) in
    let reads : Reads new (record { entries = es; stage = Between }) = subst (λ t. Reads t (record { entries = es; stage = Between })) (sym cut)
    (record { lines = marks.beginning.lines; rest = subst (IsRest es Between) (sym marks.beginning.whole) (inl refl) }) in
    let stands : StandsFor new y (z ∷ u) = record {
      entries = es;
      reads = reads;
      whole = ap (λ t. (split t).rest) cut ∙ marks.beginning.whole;
      lengths = subst (HaveLengths es) (sym restored) lengths.1;
      stack_is = stack_is;
    } in
    let first : y ≡ z = sym (top_of_stands new y (z ∷ u) stands) in (
      first,
      record {
        stands = record { entries = es; reads = reads; whole = stands.whole; lengths = stands.lengths; stack_is = ap (λ t. t ∷ u) first ∙ stack_is };
        tell = tell.1;
        few = omega (arith, r.few);
      },
    )
