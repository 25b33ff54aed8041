-- Records, as bytes come.
use Rattle.std.proofs.Common.{◌≡◌, ◌≢◌, ℕ, zero, suc, ◌+◌, ◌-◌, ◌*◌, ◌/◌, ◌%◌, ◌<◌, ◌≤◌, Bool, true, false, cond, eqb, ltb, List, [], ◌∷◌, ◌++◌, length, get_or, take, drop, replicate, reverse, min, refl, sym, ap, ◌∙◌, arith, length-append, drop_of_length-le, ◌⊎◌, inl, inr}
use Rattle.std.specs.List.{onto_first, suffix_len, prefix_len, flat_map, count_by}
use Rattle.std.proofs.lemmas.Grind.{flat_map-append}
use Rattle.std.proofs.lemmas.List.{length-take-le, length-drop, append_assoc, append-nil, take_all, take-append-le, drop-append-le, take-append-drop, reverse-append, length-reverse, get_or-reverse, take_more, length-replicate, length-take, get_or-drop}
use Rattle.std.proofs.lemmas.List.Sums.{sum_by-append, suffix_len-le-length, suffix_len_is, prefix_len_passes, prefix_len_stops}
use Rattle.std.proofs.lemmas.List.Folds.{prefix_len-append}
use Rattle.std.proofs.lemmas.Bool.{cases_lt, cases_eq, lt-ltb, le-ltb, ne_eqb, eq-eqb, eqb-true, not-false}
use Rattle.std.proofs.Math.Seq.{take-add}
use Rattle.bx_text.specs.InPieces.{in_pieces}
use Rattle.std.proofs.Math.Nat.{mod-le, div-add-mod, mul-add-mod_self_left, mod-eq_of_lt}
use Rattle.bx_text.proofs.PiecesLemmas.{in_pieces-none, in_pieces-append, in_pieces-one}
use Rattle.bx_dd.specs.declared.form.Shape.{Shape}
use Rattle.bx_dd.specs.declared.form.Shape.TheVariants.{Flat, Block, Unblock}
use Rattle.bx_dd.specs.Output.{records, shaped, cut_records, unfinished}
use Rattle.bx_dd.specs.private.Output.{fitted, line_of, goes_on, is_fill}
use Rattle.bx_dd.specs.Standing.{Stands}
use Rattle.bx_dd.specs.private.Standing.{finished, record_rest, last_of}

-- a record that fits
pub fitted_short : (n : ℕ) (line : List ℕ) → length line ≤ n → fitted n line ≡ line ++ replicate (n - length line) 32
unfolding fitted
fitted_short n line fits = take_all n (line ++ replicate (n - length line) 32) (omega (arith, length-append line (replicate (n - length line) 32), length-replicate {A = ℕ} (n - length line) 32))

-- what is cut off doesn't matter
pub fitted_cut : (n : ℕ) (line : List ℕ) → fitted n (take n line) ≡ fitted n line
unfolding fitted
fitted_cut n line =
    elim (cases_lt n (length line)) [
      | inr fits ↦ ap (fitted n) (take_all n line fits)
      | inl long ↦
          let len : length (take n line) ≡ n = length-take-le n line (omega arith) in
          let zero_more : n - length (take n line) ≡ 0 = omega arith in
          fitted_short n (take n line) (omega arith) ∙ ap (λ k. take n line ++ replicate k 32) zero_more ∙ append-nil (take n line)
          ∙ sym (take-append-le n line (replicate (n - length line) 32) (omega arith))
    ]

pub take_nil : (n : ℕ) → take {A = ℕ} n [] ≡ []
take_nil zero = refl
take_nil (suc n) = refl

-- the front of two lists
pub take-more : (size : ℕ) (r t : List ℕ) → take size (r ++ t) ≡ take size r ++ take (size - length r) t
take-more size [] t = let e : size - 0 ≡ size = omega arith in rw (e, take_nil size) refl
take-more zero (x ∷ r) t = let e : zero - length (x ∷ r) ≡ 0 = omega arith in rw e refl
take-more (suc size) (x ∷ r) t = let e : suc size - length (x ∷ r) ≡ size - length r = omega arith in rw e (ap (λ l. x ∷ l) (take-more size r t))

module _ (shape : Shape) (size : ℕ) (z t : List ℕ) where
  -- bytes that finish nothing
  pub finished-kept : unfinished shape size z ≤ length z → unfinished shape size (z ++ t) ≡ unfinished shape size z + length t → finished shape size (z ++ t) ≡ finished shape size z
  finished-kept fits more =
      let n : length (z ++ t) - unfinished shape size (z ++ t) ≡ length z - unfinished shape size z = omega (arith, length-append z t, more, fits) in
      ap (λ k. take k (z ++ t)) n ∙ take-append-le (length z - unfinished shape size z) z t (omega arith)

  pub rest-kept : unfinished shape size z ≤ length z → unfinished shape size (z ++ t) ≡ unfinished shape size z + length t → record_rest shape size (z ++ t) ≡ record_rest shape size z ++ t
  rest-kept fits more =
      let n : length (z ++ t) - unfinished shape size (z ++ t) ≡ length z - unfinished shape size z = omega (arith, length-append z t, more, fits) in
      ap (λ k. drop k (z ++ t)) n ∙ drop-append-le (length z - unfinished shape size z) z t (omega arith)

module _ (shape : Shape) (size : ℕ) (z : List ℕ) where
  -- all is finished
  pub finished-all : unfinished shape size z ≡ 0 → finished shape size z ≡ z
  finished-all none = take_all (length z - unfinished shape size z) z (omega (arith, none))

  pub rest-none : unfinished shape size z ≡ 0 → record_rest shape size z ≡ []
  rest-none none = drop_of_length-le z (omega (arith, none))

  pub parts : finished shape size z ++ record_rest shape size z ≡ z
  parts = take-append-drop (length z - unfinished shape size z) z

  pub length-rest : unfinished shape size z ≤ length z → length (record_rest shape size z) ≡ unfinished shape size z
  length-rest fits = omega (arith, length-drop (length z - unfinished shape size z) z, fits)

-- a text without newlines
abbrev pub IsText : List ℕ → Type 0
IsText t = (k : ℕ) → k < length t → get_or t k 0 ≡ 10 → ⊥

pub goes_on_yes : (b : ℕ) → (b ≡ 10 → ⊥) → goes_on b ≡ true
goes_on_yes b other = rw (ne_eqb b 10 other) refl

pub unfinished-text : (size : ℕ) (z t : List ℕ) → IsText t → unfinished Block size (z ++ t) ≡ unfinished Block size z + length t
unfolding unfinished
unfinished-text size z t text =
    let all : prefix_len goes_on (reverse t) ≡ length t = suffix_len_is goes_on t 0 0 (omega arith) (λ k low high. goes_on_yes (get_or t k 0) (text k high)) (λ some. absurd (omega arith)) ∙ omega arith in
    let same : eqb (length t) (length t) ≡ true = eq-eqb (length t) (length t) refl in
    let more : prefix_len goes_on (reverse t ++ reverse z) ≡ length t + prefix_len goes_on (reverse z) =
    prefix_len-append goes_on (reverse t) (reverse z) ∙ rw (all, length-reverse t, same) refl in
    ap (prefix_len goes_on) (reverse-append z t) ∙ more ∙ omega arith

pub unfinished-newline : (size : ℕ) (z : List ℕ) → unfinished Block size (z ++ 10 ∷ []) ≡ 0
unfolding unfinished
unfinished-newline size z = ap (prefix_len goes_on) (reverse-append z (10 ∷ []))

pub unfinished-fits : (size : ℕ) (z : List ℕ) → unfinished Block size z ≤ length z
unfolding unfinished
unfinished-fits size z = suffix_len-le-length goes_on z

-- what a conversion holds back is a text
pub rest-text : (size : ℕ) (z : List ℕ) → IsText (record_rest Block size z)
unfolding unfinished
rest-text size z k inside newline =
    let s = prefix_len goes_on (reverse z) in
    let few : s ≤ length z = suffix_len-le-length goes_on z in
    let n = length z - s in
    let j = s - 1 - k in
    let deep : k < s = omega (arith, length-drop n z) in
    let at : length z - 1 - j ≡ n + k = omega arith in
    let read : get_or (reverse z) j 0 ≡ 10 = get_or-reverse z j 0 (omega arith) ∙ ap (λ i. get_or z i 0) at ∙ sym (get_or-drop n z k 0) ∙ newline in
    let passes : goes_on (get_or (reverse z) j 0) ≡ true = prefix_len_passes goes_on (reverse z) j 0 (omega arith) in
    let wrong : false ≡ true = sym (ap goes_on read) ∙ passes in
    cc

-- what is finished ends in a newline
abbrev pub IsEnded : List ℕ → Type 0
IsEnded d = (d ≡ []) ⊎ ((a : List ℕ) × (d ≡ a ++ 10 ∷ []))

pub finished-ended : (size : ℕ) (z : List ℕ) → IsEnded (finished Block size z)
unfolding unfinished
finished-ended size z =
    let s = prefix_len goes_on (reverse z) in
    let few : s ≤ length z = suffix_len-le-length goes_on z in
    let n = length z - s in
    elim (cases_eq n 0) [
      | inl none ↦ inl (ap (λ k. take k z) none)
      | inr some ↦
          let stops : goes_on (get_or (reverse z) s 0) ≡ false = prefix_len_stops goes_on (reverse z) 0 (omega (arith, length-reverse z)) in
          let at : length z - 1 - s ≡ n - 1 = omega arith in
          let read : get_or (reverse z) s 0 ≡ get_or z (n - 1) 0 = get_or-reverse z s 0 (omega arith) ∙ ap (λ i. get_or z i 0) at in
          let newline : get_or z (n - 1) 0 ≡ 10 = eqb-true (get_or z (n - 1) 0) 10 (not-false (eqb (get_or z (n - 1) 0) 10) (ap goes_on (sym read) ∙ stops)) in
          let one : n - 1 + 1 ≡ n = omega arith in
          inr (take (n - 1) z, ap (λ k. take k z) (sym one) ∙ take_more z (n - 1) 0 (omega arith) ∙ ap (λ b. take (n - 1) z ++ b ∷ []) newline)
    ]

onto_first-append : (x : ℕ) (l m : List (List ℕ)) → 0 < length l → onto_first x (l ++ m) ≡ onto_first x l ++ m
onto_first-append x [] m some = absurd (omega arith)
onto_first-append x (p ∷ ps) m some = refl

onto_first-some : (x : ℕ) (l : List (List ℕ)) → 0 < length (onto_first x l)
onto_first-some x [] = omega arith
onto_first-some x (p ∷ ps) = omega arith

records-some : (a b : List ℕ) → 0 < length (records (a ++ 10 ∷ b))
unfolding records
records-some [] b = omega arith
records-some (x ∷ a) b =
    elim (eqb x 10) as (λ v. 0 < length (cond v ([] ∷ records (a ++ 10 ∷ b)) (onto_first x (records (a ++ 10 ∷ b))))) [
      | true ↦ omega arith
      | false ↦ onto_first-some x (records (a ++ 10 ∷ b))
    ]

records-join : (a b : List ℕ) → records (a ++ 10 ∷ b) ≡ records (a ++ 10 ∷ []) ++ records b
unfolding records
records-join [] b = refl
records-join (x ∷ a) b =
    let more = records-join a b in
    elim (eqb x 10) as (λ v. cond v ([] ∷ records (a ++ 10 ∷ b)) (onto_first x (records (a ++ 10 ∷ b))) ≡ cond v ([] ∷ records (a ++ 10 ∷ [])) (onto_first x (records (a ++ 10 ∷ []))) ++ records b) [
      | true ↦ ap (λ l. [] ∷ l) more
      | false ↦ ap (onto_first x) more ∙ onto_first-append x (records (a ++ 10 ∷ [])) (records b) (records-some a [])
    ]

pub records-line : (r : List ℕ) → IsText r → records (r ++ 10 ∷ []) ≡ r ∷ []
unfolding records
records-line [] text = refl
records-line (x ∷ r) text =
    let other : eqb x 10 ≡ false = ne_eqb x 10 (text 0 (omega arith)) in
    rw other (ap (onto_first x) (records-line r (λ k inside. text (suc k) (omega arith))))

pub records-open : (r : List ℕ) → IsText r → 0 < length r → records r ≡ r ∷ []
unfolding records
records-open [] text some = absurd (omega arith)
records-open (x ∷ []) text some = let other : eqb x 10 ≡ false = ne_eqb x 10 (text 0 (omega arith)) in rw other refl
records-open (x ∷ y ∷ r) text some =
    let other : eqb x 10 ≡ false = ne_eqb x 10 (text 0 (omega arith)) in
    rw other (ap (onto_first x) (records-open (y ∷ r) (λ k inside. text (suc k) (omega arith)) (omega arith)))

pub records-after : (d b : List ℕ) → IsEnded d → records (d ++ b) ≡ records d ++ records b
unfolding records
records-after d b (inl none) = rw none refl
records-after d b (inr (a, e)) = rw e (ap records (append_assoc a (10 ∷ []) b) ∙ records-join a b)

-- one record more
count_more : (p : List ℕ → Bool) (xs : List (List ℕ)) (r : List ℕ) → count_by p (xs ++ r ∷ []) ≡ count_by p xs + cond (p r) 1 0
count_more p xs r = sum_by-append (λ x. cond (p x) 1 0) xs (r ∷ []) ∙ omega arith

-- bytes of a record come
module _ (size : ℕ) (z written kept : List ℕ) (was_cut : Bool) (count : ℕ) (stands : Stands Block size z written kept was_cut count) where
  pub Stands_text : (t held : List ℕ) (over : Bool) → IsText t → held ≡ kept ++ take (size - length kept) t →
      ((length kept + length t ≤ size) × (over ≡ was_cut)) ⊎ ((size < length kept + length t) × (over ≡ true)) →
      Stands Block size (z ++ t) written held over count
  Stands_text t held over text is how =
      let fits = unfinished-fits size z in
      let more = unfinished-text size z t text in
      let done = finished-kept Block size z t fits more in
      let rest = rest-kept Block size z t fits more in
      let r = record_rest Block size z in
      let kept_len : length kept ≡ min size (length r) = ap length (stands.held) ∙ length-take size r in
      let room : take (size - length kept) t ≡ take (size - length r) t = ap (λ k. take k t) (omega arith) in
      record {
        out = stands.out ∙ ap (shaped Block size) (sym done);
        held = is ∙ ap (λ l. l ++ take (size - length kept) t) stands.held ∙ ap (λ l. take size r ++ l) room ∙ sym (take-more size r t) ∙ ap (take size) (sym rest);
        over =
            let both : length (record_rest Block size (z ++ t)) ≡ length r + length t = ap length rest ∙ length-append r t in
            rw both (
            elim how [
              | inl (short, same) ↦
                  same ∙ stands.over ∙ elim (cases_lt size (length r)) [
                    | inl long ↦ lt-ltb size (length r) long ∙ sym (lt-ltb size (length r + length t) (omega arith))
                    | inr fit ↦ le-ltb size (length r) fit ∙ sym (le-ltb size (length r + length t) (omega arith))
                  ]
              | inr (long, is_over) ↦ is_over ∙ sym (lt-ltb size (length r + length t) (omega arith))
            ]
            );
        cut = stands.cut ∙ ap (cut_records Block size) (sym done);
      }

  -- a newline comes
  pub Stands_newline : (held : List ℕ) → held ≡ [] → Stands Block size (z ++ 10 ∷ []) (written ++ fitted size kept) held false (count + cond was_cut 1 0)
  unfolding shaped cut_records fitted line_of
  Stands_newline held is =
      let none = unfinished-newline size z in
      let done = finished-all Block size (z ++ 10 ∷ []) none in
      let rest = rest-none Block size (z ++ 10 ∷ []) none in
      let r = record_rest Block size z in
      let d = finished Block size z in
      let lines : records (finished Block size (z ++ 10 ∷ [])) ≡ records d ++ r ∷ [] =
      ap records (done ∙ ap (λ l. l ++ 10 ∷ []) (sym (parts Block size z)) ∙ append_assoc d r (10 ∷ [])) ∙ records-after d (r ++ 10 ∷ []) (finished-ended size z)
      ∙ ap (λ l. records d ++ l) (records-line r (rest-text size z)) in
      record {
        out = rw (lines, flat_map-append (fitted size) (records d) (r ∷ [])) (
            ap (λ l. l ++ fitted size kept) stands.out ∙ ap (λ l. flat_map (fitted size) (records d) ++ l) (ap (fitted size) stands.held ∙ fitted_cut size r ∙ sym (append-nil (fitted size r))));
        held = is ∙ sym (take_nil size) ∙ ap (take size) (sym rest);
        over = sym (le-ltb size 0 (omega arith)) ∙ ap (λ l. ltb size (length l)) (sym rest);
        cut = rw (lines, count_more (λ line. ltb size (length line)) (records d) r) (ap (λ n. n + cond was_cut 1 0) stands.cut ∙ ap (λ b. count_by (λ line. ltb size (length line)) (records d) + cond b 1 0) stands.over);
      }

-- nothing came
finished_nil : (shape : Shape) (size : ℕ) → finished shape size [] ≡ []
finished_nil shape size = take_nil (0 - unfinished shape size [])

rest_nil : (shape : Shape) (size : ℕ) → record_rest shape size [] ≡ []
rest_nil shape size = drop_of_length-le {A = ℕ} [] (omega arith)

pub shaped_nil : (shape : Shape) (size : ℕ) → (shape ≢ Flat → 0 < size) → shaped shape size [] ≡ []
unfolding shaped records fitted line_of
shaped_nil Flat size some = refl
shaped_nil Block size some = refl
shaped_nil Unblock size some = in_pieces-none line_of size (some (λ e. cc))

pub cut_nil : (shape : Shape) (size : ℕ) → cut_records shape size [] ≡ 0
unfolding cut_records records
cut_nil Flat size = refl
cut_nil Block size = refl
cut_nil Unblock size = refl

pub Stands_none : (shape : Shape) (size : ℕ) → (shape ≢ Flat → 0 < size) → Stands shape size [] [] [] false 0
Stands_none shape size some =
    let d = finished_nil shape size in
    let r = rest_nil shape size in
    record {
      out = sym (ap (shaped shape size) d ∙ shaped_nil shape size some);
      held = sym (ap (take size) r ∙ take_nil size);
      over = sym (ap (λ l. ltb size (length l)) r ∙ le-ltb size 0 (omega arith));
      cut = sym (ap (cut_records shape size) d ∙ cut_nil shape size);
    }

unfolded_flat : (size : ℕ) (z : List ℕ) → unfinished Flat size z ≡ 0
unfolding unfinished
unfolded_flat size z = refl

-- bytes as they are
pub Stands_flat : (size : ℕ) (z written kept bytes : List ℕ) (was_cut : Bool) (count : ℕ) → Stands Flat size z written kept was_cut count → Stands Flat size (z ++ bytes) (written ++ bytes) kept was_cut count
unfolding shaped cut_records fitted line_of
Stands_flat size z written kept bytes was_cut count stands =
    let none : (y : List ℕ) → unfinished Flat size y ≡ 0 = λ y. unfolded_flat size y in
    let same = finished-all Flat size z (none z) in
    record {
      out = ap (λ l. l ++ bytes) (stands.out ∙ same) ∙ sym (finished-all Flat size (z ++ bytes) (none (z ++ bytes)));
      held = stands.held ∙ ap (take size) (rest-none Flat size z (none z) ∙ sym (rest-none Flat size (z ++ bytes) (none (z ++ bytes))));
      over = stands.over ∙ ap (λ l. ltb size (length l)) (rest-none Flat size z (none z) ∙ sym (rest-none Flat size (z ++ bytes) (none (z ++ bytes))));
      cut = stands.cut;
    }

-- the spaces at the end, counted from there
pub line_end : (held : List ℕ) (e : ℕ) → e ≤ length held → suffix_len is_fill held ≡ length held - e + suffix_len is_fill (take e held) →
    suffix_len is_fill (take e held) ≡ 0 → take e held ++ 10 ∷ [] ≡ line_of held
unfolding line_of
line_end held e within spaces none =
    let n : length held - suffix_len is_fill held ≡ e = omega arith in
    ap (λ k. take k held ++ 10 ∷ []) (sym n)

-- the sizes of what is held back of pieces
pub held_piece : (size : ℕ) (z : List ℕ) → 0 < size → length (record_rest Unblock size z) ≡ length z % size
unfolding unfinished
held_piece size z pos = omega (arith, length-drop (length z - length z % size) z, mod-le (length z) size)

pub mod_more : (a b n : ℕ) → 0 < n → a % n + b < n → (a + b) % n ≡ a % n + b
mod_more a b n pos few =
    let e : a + b ≡ n * (a / n) + (a % n + b) = omega (arith, div-add-mod a n) in
    ap (λ k. k % n) e ∙ mul-add-mod_self_left n (a / n) (a % n + b) ∙ mod-eq_of_lt few

pub mod_full : (a b n : ℕ) → 0 < n → a % n + b ≡ n → (a + b) % n ≡ 0
mod_full a b n pos full =
    let e : a + b ≡ n * (a / n + 1) + 0 = omega (arith, div-add-mod a n) in
    ap (λ k. k % n) e ∙ mul-add-mod_self_left n (a / n + 1) 0 ∙ omega arith

module _ (size : ℕ) (z written kept : List ℕ) (was_cut : Bool) (count : ℕ) (pos : 0 < size) (stands : Stands Unblock size z written kept was_cut count) where
  kept_is : kept ≡ record_rest Unblock size z
  kept_is = stands.held ∙ take_all size (record_rest Unblock size z) (omega (arith, held_piece size z pos))

  pub kept_len : length kept ≡ length z % size
  kept_len = ap length kept_is ∙ held_piece size z pos

  -- bytes of a piece come
  pub Stands_piece : (t held : List ℕ) → held ≡ kept ++ t → length held < size → Stands Unblock size (z ++ t) written held was_cut count
  unfolding unfinished cut_records
  Stands_piece t held is few =
      let fits : unfinished Unblock size z ≤ length z = mod-le (length z) size in
      let sum : length held ≡ length kept + length t = ap length is ∙ length-append kept t in
      let more : unfinished Unblock size (z ++ t) ≡ unfinished Unblock size z + length t =
      ap (λ n. n % size) (length-append z t) ∙ mod_more (length z) (length t) size pos (omega (arith, kept_len)) in
      let done = finished-kept Unblock size z t fits more in
      let rest = rest-kept Unblock size z t fits more in
      let whole : held ≡ record_rest Unblock size (z ++ t) = is ∙ ap (λ l. l ++ t) kept_is ∙ sym rest in
      let below : length (record_rest Unblock size z) < size = omega (arith, held_piece size z pos) in
      let below_now : length (record_rest Unblock size (z ++ t)) < size = omega (arith, ap length whole) in
      record {
        out = stands.out ∙ ap (shaped Unblock size) (sym done);
        held = whole ∙ sym (take_all size (record_rest Unblock size (z ++ t)) (omega arith));
        over = stands.over ∙ le-ltb size (length (record_rest Unblock size z)) (omega arith) ∙ sym (le-ltb size (length (record_rest Unblock size (z ++ t))) (omega arith));
        cut = stands.cut;
      }

  -- the bytes that make a piece whole come
  pub Stands_whole : (t held : List ℕ) → length kept + length t ≡ size → held ≡ [] → Stands Unblock size (z ++ t) (written ++ line_of (kept ++ t)) held was_cut count
  unfolding unfinished cut_records shaped fitted line_of
  Stands_whole t held full is =
      let none : unfinished Unblock size (z ++ t) ≡ 0 = ap (λ n. n % size) (length-append z t) ∙ mod_full (length z) (length t) size pos (omega (arith, kept_len)) in
      let d = finished Unblock size z in
      let r = record_rest Unblock size z in
      let all : finished Unblock size (z ++ t) ≡ d ++ (r ++ t) = finished-all Unblock size (z ++ t) none ∙ ap (λ l. l ++ t) (sym (parts Unblock size z)) ∙ append_assoc d r t in
      let rest = rest-none Unblock size (z ++ t) none in
      let d_len : length d ≡ size * (length z / size) = omega (arith, length-append d r, ap length (parts Unblock size z), held_piece size z pos, div-add-mod (length z) size) in
      let one : length (r ++ t) ≡ size = omega (arith, length-append r t, ap length kept_is) in
      let below : length r < size = omega (arith, held_piece size z pos) in
      record {
        out = ap (λ l. l ++ line_of (kept ++ t)) stands.out ∙ ap (λ l. in_pieces line_of size d ++ line_of (l ++ t)) kept_is
            ∙ ap (λ l. in_pieces line_of size d ++ l) (sym (in_pieces-one line_of size (r ++ t) (omega arith) (omega arith)))
            ∙ sym (ap (in_pieces line_of size) all ∙ in_pieces-append line_of size (length z / size) d (r ++ t) pos d_len);
        held = is ∙ sym (take_nil size) ∙ ap (take size) (sym rest);
        over = stands.over ∙ le-ltb size (length r) (omega arith) ∙ sym (le-ltb size 0 (omega arith)) ∙ ap (λ l. ltb size (length l)) (sym rest);
        cut = stands.cut;
      }

-- the record that may go on is there
unfinished_fits : (shape : Shape) (size : ℕ) (z : List ℕ) → unfinished shape size z ≤ length z
unfolding unfinished
unfinished_fits Flat size z = omega arith
unfinished_fits Block size z = suffix_len-le-length goes_on z
unfinished_fits Unblock size z = mod-le (length z) size

-- how much is kept
pub held_is : (shape : Shape) (size : ℕ) (z written kept : List ℕ) (was_cut : Bool) (count : ℕ) → Stands shape size z written kept was_cut count →
    length kept ≡ min size (unfinished shape size z)
held_is shape size z written kept was_cut count stands =
    ap length stands.held ∙ length-take size (record_rest shape size z) ∙ ap (min size) (length-rest shape size z (unfinished_fits shape size z))

empty_list : (xs : List ℕ) → length xs ≡ 0 → xs ≡ []
empty_list [] e = refl
empty_list (x ∷ xs) e = absurd (omega arith)

-- the input ends
pub Stands_last : (shape : Shape) (size : ℕ) (z written kept : List ℕ) (was_cut : Bool) (count : ℕ) → (shape ≢ Flat → 0 < size) → Stands shape size z written kept was_cut count →
    (written ++ last_of shape size kept ≡ shaped shape size z) × (count + cond was_cut 1 0 ≡ cut_records shape size z)
unfolding shaped cut_records fitted line_of
Stands_last Flat size z written kept was_cut count some stands =
    let same = finished-all Flat size z (unfolded_flat size z) in
    let rest = rest-none Flat size z (unfolded_flat size z) in
    let not_over : was_cut ≡ false = stands.over ∙ ap (λ l. ltb size (length l)) rest ∙ le-ltb size 0 (omega arith) in
    (append-nil written ∙ stands.out ∙ same, rw (not_over, stands.cut) refl)
Stands_last Block size z written kept was_cut count some stands =
    let pos : 0 < size = some (λ e. cc) in
    let d = finished Block size z in
    let r = record_rest Block size z in
    let kept_len : length kept ≡ min size (length r) = ap length stands.held ∙ length-take size r in
    let whole : z ≡ d ++ r = sym (parts Block size z) in
    let p = λ (line : List ℕ). ltb size (length line) in
    elim (cases_eq (length r) 0) [
      | inl none ↦
          let empty : eqb (length kept) 0 ≡ true = eq-eqb (length kept) 0 (omega arith) in
          let nil : r ≡ [] = empty_list r none in
          let same : z ≡ d = whole ∙ ap (λ l. d ++ l) nil ∙ append-nil d in
          let not_over : was_cut ≡ false = stands.over ∙ le-ltb size (length r) (omega arith) in (
            rw empty (append-nil written ∙ stands.out ∙ ap (λ l. flat_map (fitted size) (records l)) (sym same)),
            ap (λ b. count + cond b 1 0) not_over ∙ omega arith ∙ stands.cut ∙ ap (λ l. count_by p (records l)) (sym same),
          )
      | inr more ↦
          let empty : eqb (length kept) 0 ≡ false = ne_eqb (length kept) 0 (omega arith) in
          let lines : records z ≡ records d ++ r ∷ [] = ap records whole ∙ records-after d r (finished-ended size z) ∙ ap (λ l. records d ++ l) (records-open r (rest-text size z) (omega arith)) in (
            rw (empty, lines, flat_map-append (fitted size) (records d) (r ∷ [])) (
                ap (λ l. l ++ fitted size kept) stands.out ∙ ap (λ l. flat_map (fitted size) (records d) ++ l) (ap (fitted size) stands.held ∙ fitted_cut size r ∙ sym (append-nil (fitted size r)))),
            ap (λ n. n + cond was_cut 1 0) stands.cut ∙ ap (λ b. count_by p (records d) + cond b 1 0) stands.over ∙ sym (ap (count_by p) lines ∙ count_more p (records d) r),
          )
    ]
Stands_last Unblock size z written kept was_cut count some stands =
    let pos : 0 < size = some (λ e. cc) in
    let d = finished Unblock size z in
    let r = record_rest Unblock size z in
    let whole : z ≡ d ++ r = sym (parts Unblock size z) in
    let r_len = held_piece size z pos in
    let same_kept : kept ≡ r = stands.held ∙ take_all size r (omega arith) in
    let d_len : length d ≡ size * (length z / size) = omega (arith, length-append d r, ap length (parts Unblock size z), div-add-mod (length z) size) in
    let not_over : was_cut ≡ false = stands.over ∙ le-ltb size (length r) (omega arith) in
    let counts : count + cond was_cut 1 0 ≡ 0 = rw (not_over, stands.cut) refl in
    elim (cases_eq (length r) 0) [
      | inl none ↦
          let empty : eqb (length kept) 0 ≡ true = eq-eqb (length kept) 0 (ap length same_kept ∙ none) in
          let nil : r ≡ [] = empty_list r none in
          let same : z ≡ d = whole ∙ ap (λ l. d ++ l) nil ∙ append-nil d in
          (rw empty (append-nil written ∙ stands.out ∙ ap (in_pieces line_of size) (sym same)), counts)
      | inr more ↦
          let empty : eqb (length kept) 0 ≡ false = ne_eqb (length kept) 0 (λ e. more (sym (ap length same_kept) ∙ e)) in (
            rw empty (
                ap (λ l. l ++ line_of kept) stands.out ∙ ap (λ l. in_pieces line_of size d ++ line_of l) same_kept
                ∙ ap (λ l. in_pieces line_of size d ++ l) (sym (in_pieces-one line_of size r (omega arith) (omega arith)))
                ∙ sym (ap (in_pieces line_of size) whole ∙ in_pieces-append line_of size (length z / size) d r pos d_len)),
            counts,
          )
    ]

-- a line and its newline, taken from the bytes
pub line_taken : (z bytes rest : List ℕ) (d n : ℕ) → rest ≡ drop d bytes → n < length rest → eqb (get_or rest n 0) 10 ≡ true →
    ((z ++ take d bytes) ++ take n rest) ++ 10 ∷ [] ≡ z ++ take (d + (n + 1)) bytes
line_taken z bytes rest d n is inside newline =
    let more : take (n + 1) rest ≡ take n rest ++ 10 ∷ [] = take_more rest n 0 inside ∙ ap (λ b. take n rest ++ b ∷ []) (eqb-true (get_or rest n 0) 10 newline) in
    append_assoc (z ++ take d bytes) (take n rest) (10 ∷ []) ∙ append_assoc z (take d bytes) (take n rest ++ 10 ∷ [])
    ∙ ap (λ l. z ++ (take d bytes ++ l)) (sym more ∙ ap (take (n + 1)) is) ∙ ap (λ l. z ++ l) (sym (take-add d (n + 1) bytes))

pub rest_taken : (z bytes rest : List ℕ) (d : ℕ) → rest ≡ drop d bytes → (z ++ take d bytes) ++ rest ≡ z ++ bytes
rest_taken z bytes rest d is = append_assoc z (take d bytes) rest ∙ ap (λ l. z ++ (take d bytes ++ l)) is ∙ ap (λ l. z ++ l) (take-append-drop d bytes)

pub piece_taken : (z bytes : List ℕ) (d n m : ℕ) → m ≡ n → (z ++ take d bytes) ++ take m (drop d bytes) ≡ z ++ take (d + n) bytes
piece_taken z bytes d n m e = append_assoc z (take d bytes) (take m (drop d bytes)) ∙ ap (λ k. z ++ (take d bytes ++ take k (drop d bytes))) e ∙ ap (λ l. z ++ l) (sym (take-add d n bytes))
