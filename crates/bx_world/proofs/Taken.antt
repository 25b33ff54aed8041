-- Files that a run made, and takes away again.
use Rattle.std.proofs.Common.{◌≡◌, ◌⊎◌, ◌∙◌, ◌<◌, ◌≤◌, ℕ, Bool, true, false, List, [], Option, Some, None, refl, sym, ap, subst, inl, inr, arith}
use Rattle.std.proofs.lemmas.Bool.{cases_eq}
use Rattle.bx_world.specs.World.{IsStuck, SystemState, TakesAtMost, TakesAway, Trio}
use Rattle.bx_world.specs.files.Files.{AreAllThere, HasMade, IsMadeFile, IsOneOfMade, IsOneOfMadeTexts, LeadsToMade, LeadsToNoneOf, LeavesFiles, LeavesMade, TakesMade, TakesOnly}
use Rattle.bx_world.specs.declared.files.made.Made.{Made}
use Rattle.bx_world.proofs.Making.{false_true, made_still, none_some, some_one, streams_same, streams_then}

-- what was made is left
pub made_left : (P : ℕ → Type 0) (old new : SystemState) → HasMade P old new → LeavesMade P old new
made_left P old new has =
    let stuck = has.stuck in
    record {
      bytes = has.bytes;
      stat = has.stat;
      named = λ _. has.named;
      still = λ m n. made_still P old new m n has;
      fresh = λ n is. let fresh = has.fresh n is in (fresh.0, fresh.2);
      stuck = omega (arith, stuck);
      streams = has.streams;
    }

-- what was made is left, when later ones were taken away
pub left_then : (P : ℕ → Type 0) (a b c : SystemState) → HasMade P a b → LeavesFiles b c → LeavesMade P a c
left_then P a b c has left =
    let least = has.there in
    let same = has.stuck in
    let more = left.stuck in
    record {
      bytes = λ i below. left.bytes i (omega (arith, least, below)) ∙ has.bytes i below;
      stat = λ i below. left.stat i (omega (arith, least, below)) ∙ has.stat i below;
      named = λ is m. subst (LeadsToMade P (a.named m)) (sym (left.named (is ∙ sym has.stuck) m)) (has.named m);
      still = λ m n is. left.still m n (made_still P a b m n has is);
      fresh = λ n is. let fresh = has.fresh n is in (fresh.0, left.bytes n fresh.1 ∙ fresh.2);
      stuck = omega (arith, same, more);
      streams = streams_then a b c has.streams left.streams;
    }

-- files are as they were where none was made
pub left_none : (P : ℕ → Type 0) (old new : SystemState) → ((n : ℕ) → P n → ⊥) → LeavesMade P old new → LeavesFiles old new
left_none P old new none left = record {
  bytes = left.bytes;
  stat = left.stat;
  named = λ is m. elim (left.named is m) [
    | inl same ↦ same
    | inr made ↦ absurd (none made.0 made.2)
  ];
  still = left.still;
  stuck = left.stuck;
  streams = left.streams;
}

module _ (P Q : ℕ → Type 0) (n : ℕ) (first old new : SystemState) (within : AreAllThere first) (left : LeavesMade P first old)
    (kept : (k : ℕ) → Q k → P k) (is_made : P n) (rest : (k : ℕ) → P k → (k ≡ n) ⊎ Q k) where
  fresh : first.there ≤ n
  fresh = (left.fresh n is_made).0

  earlier : (k : ℕ) → k < first.there → k ≡ n → ⊥
  earlier k below is = let later = fresh in omega (arith, later, below, is)

  away_named : (m : List ℕ) → TakesAway old new n → LeadsToMade P (first.named m) (old.named m) → LeadsToMade Q (first.named m) (new.named m)
  away_named m taken leads = elim leads [
    | inl same ↦ inl (taken.others m (λ is. earlier n (within m n (sym same ∙ is)) refl) ∙ same)
    | inr made ↦ elim (rest made.0 made.2) [
      | inl is ↦ inl (taken.gone m (made.3 ∙ ap Some is) ∙ sym made.1)
      | inr other ↦ elim (cases_eq made.0 n) [
        | inl is ↦ inl (taken.gone m (made.3 ∙ ap Some is) ∙ sym made.1)
        | inr apart ↦ inr (made.0, made.1, other, taken.others m (λ is. apart (some_one (sym made.3 ∙ is))) ∙ made.3)
      ]
    ]
  ]

  pub left_away : TakesAway old new n → LeavesMade Q first new
  left_away taken =
      let least = left.stuck in
      let same = taken.stuck in
      record {
        bytes = λ i below. taken.bytes i ∙ left.bytes i below;
        stat = λ i below. taken.stat i (earlier i below) ∙ left.stat i below;
        named = λ is m. away_named m taken (left.named (sym taken.stuck ∙ is) m);
        still = λ m k is. taken.others m (λ wrong. earlier k (within m k is) (some_one (sym (left.still m k is) ∙ wrong))) ∙ left.still m k is;
        fresh = λ k is. let fresh = left.fresh k (kept k is) in (fresh.0, taken.bytes k ∙ fresh.1);
        stuck = omega (arith, least, same);
        streams = streams_then first old new left.streams taken.streams;
      }

  pub left_stuck : IsStuck old new → LeavesMade Q first new
  left_stuck stuck =
      let least = left.stuck in
      let more = stuck.stuck in
      record {
        bytes = λ i below. stuck.bytes i ∙ left.bytes i below;
        stat = λ i below. stuck.stat i ∙ left.stat i below;
        named = λ is m. absurd (omega (arith, least, more, is));
        still = λ m k is. stuck.named m ∙ left.still m k is;
        fresh = λ k is. let fresh = left.fresh k (kept k is) in (fresh.0, stuck.bytes k ∙ fresh.1);
        stuck = omega (arith, least, more);
        streams = streams_then first old new left.streams stuck.streams;
      }

-- the front of what was made was taken away, if it was made
pub left_less : (Q : ℕ → Type 0) (made : Bool) (n : ℕ) (first old new : SystemState) → AreAllThere first
    → LeavesMade (λ k. IsMadeFile made n k ⊎ Q k) first old
    → (made ≡ true → old.bytes n ≡ [] → TakesAway old new n ⊎ IsStuck old new) → (made ≡ false → new ≡ old) → LeavesMade Q first new
left_less Q true n first old new within left taken stays =
    let P : ℕ → Type 0 = λ k. IsMadeFile true n k ⊎ Q k in
    let is_made : P n = inl (refl, refl) in
    let rest : (k : ℕ) → P k → (k ≡ n) ⊎ Q k = λ k is. elim is [ inl one ↦ inl one.1 | inr other ↦ inr other ] in
    elim (taken refl (left.fresh n is_made).1) [
      | inl away ↦ left_away P Q n first old new within left (λ k is. inr is) is_made rest away
      | inr stuck ↦ left_stuck P Q n first old new within left (λ k is. inr is) is_made rest stuck
    ]
left_less Q false n first old new within left taken stays = subst (LeavesMade Q first) (sym (stays refl)) (record {
  bytes = left.bytes;
  stat = left.stat;
  named = λ is m. elim (left.named is m) [
    | inl same ↦ inl same
    | inr is_new ↦ elim is_new.2 [
      | inl wrong ↦ absurd (false_true wrong.0)
      | inr other ↦ inr (is_new.0, is_new.1, other, is_new.3)
    ]
  ];
  still = left.still;
  fresh = λ k is. left.fresh k (inr is);
  stuck = left.stuck;
  streams = left.streams;
})

-- the order in which files were made is no matter
pub left_turned : (P Q : ℕ → Type 0) (old new : SystemState) → ((n : ℕ) → P n → Q n) → ((n : ℕ) → Q n → P n) → LeavesMade P old new → LeavesMade Q old new
left_turned P Q old new to back left = record {
  bytes = left.bytes;
  stat = left.stat;
  named = λ is m. elim (left.named is m) [
    | inl same ↦ inl same
    | inr made ↦ inr (made.0, made.1, to made.0 made.2, made.3)
  ];
  still = left.still;
  fresh = λ n is. left.fresh n (back n is);
  stuck = left.stuck;
  streams = left.streams;
}

-- one file that was made was taken away
pub left_one : (made : Bool) (n : ℕ) (first old new : SystemState) → AreAllThere first → LeavesMade (IsMadeFile made n) first old
    → (made ≡ true → old.bytes n ≡ [] → TakesAway old new n ⊎ IsStuck old new) → (made ≡ false → new ≡ old) → LeavesFiles first new
left_one made n first old new within left taken stays =
    left_none (λ k. ⊥) first new (λ k wrong. wrong) (left_less (λ k. ⊥) made n first old new within
    (left_turned (IsMadeFile made n) (λ k. IsMadeFile made n k ⊎ ⊥) first old (λ k is. inl is)
    (λ k is. elim is [ inl one ↦ one | inr wrong ↦ absurd wrong ]) left) taken stays)

-- a call that takes at most one file away takes only this
pub takes_one : (made : Bool) (n : ℕ) (old new : SystemState) → TakesAtMost old new n → (made ≡ false → new ≡ old) → TakesOnly (IsMadeFile made n) old new
takes_one true n old new most stays = record {
  named = λ m. elim (most.named m) [
    | inl same ↦ inl same
    | inr gone ↦ inr (n, (refl, refl), gone.0, gone.1, gone.2)
  ];
  bytes = most.bytes;
  stat = λ i apart. most.stat i (λ is. apart (refl, is));
  there = most.there;
  streams = most.streams;
}
takes_one false n old new most stays = subst (TakesOnly (IsMadeFile false n) old) (sym (stays refl)) (record {
  named = λ m. inl refl;
  bytes = λ i. refl;
  stat = λ i apart. refl;
  there = refl;
  streams = streams_same old;
})

gone_then : (P Q : ℕ → Type 0) (before mid : ℕ → List ℕ) (a b c : Option ℕ) → ((i : ℕ) → mid i ≡ before i) → LeadsToNoneOf P before a b
    → LeadsToNoneOf Q mid b c → LeadsToNoneOf (λ n. P n ⊎ Q n) before a c
gone_then P Q before mid a b c same one two = elim two [
  | inl kept ↦ elim one [
    | inl is ↦ inl (kept ∙ is)
    | inr gone ↦ inr (gone.0, inl gone.1, gone.2, gone.3, kept ∙ gone.4)
  ]
  | inr away ↦ elim one [
    | inl is ↦ inr (away.0, inr away.1, sym is ∙ away.2, sym (same away.0) ∙ away.3, away.4)
    | inr gone ↦ absurd (none_some away.0 (sym gone.4 ∙ away.2))
  ]
]

-- two calls take only what either takes
pub takes_then : (P Q : ℕ → Type 0) (a b c : SystemState) → TakesOnly P a b → TakesOnly Q b c → TakesOnly (λ n. P n ⊎ Q n) a c
takes_then P Q a b c one two = record {
  named = λ m. gone_then P Q a.bytes b.bytes (a.named m) (b.named m) (c.named m) one.bytes (one.named m) (two.named m);
  bytes = λ i. two.bytes i ∙ one.bytes i;
  stat = λ i apart. two.stat i (λ is. apart (inr is)) ∙ one.stat i (λ is. apart (inl is));
  there = two.there ∙ one.there;
  streams = streams_then a b c one.streams two.streams;
}

-- what may be taken may be named otherwise
pub takes_turned : (P Q : ℕ → Type 0) (old new : SystemState) → ((n : ℕ) → P n → Q n) → TakesOnly P old new → TakesOnly Q old new
takes_turned P Q old new to takes = record {
  named = λ m. elim (takes.named m) [
    | inl same ↦ inl same
    | inr gone ↦ inr (gone.0, to gone.0 gone.1, gone.2, gone.3, gone.4)
  ];
  bytes = takes.bytes;
  stat = λ i apart. takes.stat i (λ is. apart (to i is));
  there = takes.there;
  streams = takes.streams;
}

-- a call that takes a file away that was made, where it is empty, takes each such away
pub mades_one : (made : Bool) (n : ℕ) (old new : SystemState) → TakesAtMost old new n
    → (made ≡ true → old.bytes n ≡ [] → TakesAway old new n ⊎ IsStuck old new) → (made ≡ false → new ≡ old) → TakesMade (IsMadeFile made n) old new
mades_one made n old new most taken stays = record {
  takes = takes_one made n old new most stays;
  gone = λ same k is empty m led.
      let Empty : ℕ → Type 0 = λ i. old.bytes i ≡ [] in
      elim (taken is.0 (subst Empty is.1 empty)) [
        | inl away ↦ away.gone m (led ∙ ap Some is.1)
        | inr stuck ↦ let more = stuck.stuck in absurd (omega (arith, more, same))
      ];
  stuck = most.stuck;
}

-- two such calls take away what either takes
pub mades_then : (P Q : ℕ → Type 0) (a b c : SystemState) → TakesMade P a b → TakesMade Q b c → TakesMade (λ n. P n ⊎ Q n) a c
mades_then P Q a b c one two =
    let least = one.stuck in
    let more = two.stuck in
    record {
      takes = takes_then P Q a b c one.takes two.takes;
      gone = λ same n is empty m led.
          let first : b.stuck ≡ a.stuck = omega (arith, least, more, same) in
          let second : c.stuck ≡ b.stuck = omega (arith, least, more, same) in
          elim is [
            | inl P_n ↦ still_gone m (one.gone first n P_n empty m led)
            | inr Q_n ↦ elim (one.takes.named m) [
              | inl kept ↦ two.gone second n Q_n (one.takes.bytes n ∙ empty) m (kept ∙ led)
              | inr away ↦ still_gone m away.4
            ]
          ];
      stuck = omega (arith, least, more);
    }
  where
    still_gone : (m : List ℕ) → b.named m ≡ None → c.named m ≡ None
    still_gone m none = elim (two.takes.named m) [
      | inl kept ↦ kept ∙ none
      | inr away ↦ away.4
    ]

-- what was taken may be named otherwise
pub mades_turned : (P Q : ℕ → Type 0) (old new : SystemState) → ((n : ℕ) → P n → Q n) → ((n : ℕ) → Q n → P n) → TakesMade P old new → TakesMade Q old new
mades_turned P Q old new to back takes = record {
  takes = takes_turned P Q old new to takes.takes;
  gone = λ same n is. takes.gone same n (back n is);
  stuck = takes.stuck;
}

-- a name that leads to another file leads to it still
pub named_kept : (m : List ℕ) (n k : ℕ) (old new : SystemState) → TakesAtMost old new n → (k ≡ n → ⊥) → old.named m ≡ Some k → new.named m ≡ Some k
named_kept m n k old new most apart named = elim (most.named m) [
  | inl same ↦ same ∙ named
  | inr gone ↦ absurd (apart (some_one (sym named ∙ gone.0)))
]

module _ (made : Made) (t : Trio) where
  -- all that was made was taken away, the latest first
  pub all_left : (first a b c d : SystemState) → AreAllThere first → HasMade (IsOneOfMade made t) first a
      → (made.redo ≡ true → a.bytes t.redo ≡ [] → TakesAway a b t.redo ⊎ IsStuck a b) → (made.redo ≡ false → b ≡ a)
      → (made.journal ≡ true → b.bytes t.journal ≡ [] → TakesAway b c t.journal ⊎ IsStuck b c) → (made.journal ≡ false → c ≡ b)
      → (made.image ≡ true → c.bytes t.image ≡ [] → TakesAway c d t.image ⊎ IsStuck c d) → (made.image ≡ false → d ≡ c)
      → LeavesFiles first d
  all_left first a b c d within has one one_stays two two_stays three three_stays =
      let Two : ℕ → Type 0 = λ k. IsMadeFile made.journal t.journal k ⊎ IsMadeFile made.image t.image k in
      let All : ℕ → Type 0 = λ k. IsMadeFile made.redo t.redo k ⊎ Two k in
      let turned : LeavesMade All first a = left_turned (IsOneOfMade made t) All first a
      (λ k is. elim is [
        | inl image ↦ inr (inr image)
        | inr texts ↦ elim texts [ inl journal ↦ inr (inl journal) | inr redo ↦ inl redo ]
      ])
      (λ k is. elim is [
        | inl redo ↦ inr (inr redo)
        | inr rest ↦ elim rest [ inl journal ↦ inr (inl journal) | inr image ↦ inl image ]
      ])
      (made_left (IsOneOfMade made t) first a has) in
      let then_two : LeavesMade Two first b = left_less Two made.redo t.redo first a b within turned one one_stays in
      let then_one : LeavesMade (IsMadeFile made.image t.image) first c =
      left_less (IsMadeFile made.image t.image) made.journal t.journal first b c within then_two two two_stays in
      left_one made.image t.image first c d within then_one three three_stays

  -- nothing else was
  pub all_taken : (a b c d : SystemState) → TakesAtMost a b t.redo → (made.redo ≡ false → b ≡ a) → TakesAtMost b c t.journal → (made.journal ≡ false → c ≡ b)
      → TakesAtMost c d t.image → (made.image ≡ false → d ≡ c) → TakesOnly (IsOneOfMade made t) a d
  all_taken a b c d one one_stays two two_stays three three_stays =
      takes_turned _ (IsOneOfMade made t) a d
      (λ k is. elim is [
        | inl texts ↦ elim texts [ inl redo ↦ inr (inr redo) | inr journal ↦ inr (inl journal) ]
        | inr image ↦ inl image
      ])
      (takes_then _ _ a c d
      (takes_then _ _ a b c (takes_one made.redo t.redo a b one one_stays) (takes_one made.journal t.journal b c two two_stays))
      (takes_one made.image t.image c d three three_stays))

  -- the texts that were made were taken away, the latest first
  pub texts_taken : (a b c : SystemState) → TakesMade (IsMadeFile made.redo t.redo) a b → TakesMade (IsMadeFile made.journal t.journal) b c
      → TakesMade (IsOneOfMadeTexts made t) a c
  texts_taken a b c one two = mades_turned _ (IsOneOfMadeTexts made t) a c
      (λ k is. elim is [ inl redo ↦ inr redo | inr journal ↦ inl journal ])
      (λ k is. elim is [ inl journal ↦ inr journal | inr redo ↦ inl redo ])
      (mades_then _ _ a b c one two)
