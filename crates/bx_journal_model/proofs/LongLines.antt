-- A line that is longer than a window.
use Rattle.std.proofs.Common.{◌≡◌, ℕ, zero, suc, ◌+◌, ◌-◌, ◌<◌, ◌≤◌, Bool, true, false, eqb, List, [], ◌∷◌, ◌++◌, length, length-append, length-take, length-drop, min, take, drop, refl, ap, sym, ◌∙◌, subst, inl, inr, ◌⊎◌, arith, append_assoc, append-nil}
use Rattle.std.specs.Prelude.{nat_lt}
use Rattle.std.proofs.lemmas.Bool.Decides.{nat_tests}
use Rattle.std.proofs.lemmas.List.{take-append-drop, take-append-le, take_all}
use Rattle.std.proofs.lemmas.Bool.{cases_lt}
use Rattle.std.proofs.Math.Seq.{drop-append_seam, take-append_seam}
use Rattle.bx_journal_format.specs.Text.{ended, split}
use Rattle.bx_journal_format.specs.read.Plain.{HasNoNewline}
use Rattle.bx_journal_format.proofs.ReadLoop.{drop_twice}
use Rattle.bx_journal_format.proofs.Splits.{plain-append, plain_front, split-ended, split-plain}
use Rattle.bx_journal_format.proofs.TallyLemmas.{take_less, take_sum}
use Rattle.bx_journal_model.specs.Long.{IsPlainTo}
use Rattle.bx_journal_model.specs.Long.{BeginsAlike, HasShortLine, IsCut, IsCutLine, IsLongLine, IsNewlineFrom, passed_of}
use Rattle.bx_journal_model.specs.declared.long.Cut.{Cut}

behind_front : (a b : List ℕ) (n : ℕ) → length a ≡ n → drop n (a ++ b) ≡ b
behind_front a b n long = subst (λ k. drop k (a ++ b) ≡ b) long (drop-append_seam a b)

-- a window's first bytes, which were read again
pub front_again : (front rest : List ℕ) → length front ≡ 1024 → take 1024 (front ++ rest) ≡ front
front_again front rest few = subst (λ n. take n (front ++ rest) ≡ front) few (take-append_seam front rest)

-- the newline of a window is the text's
pub newline_at : (stored part : List ℕ) (at n i : ℕ) → part ≡ take n (drop at stored) → i < length part → part ≡ take i part ++ 10 ∷ drop (i + 1) part → (behind : List ℕ) × (drop (at + i) stored ≡ 10 ∷ behind)
newline_at stored part at n i read less is =
    let rest : List ℕ = drop n (drop at stored) in
    let all : drop at stored ≡ take i part ++ 10 ∷ (drop (i + 1) part ++ rest) =
    sym (take-append-drop n (drop at stored)) ∙ ap (λ t. t ++ rest) (sym read ∙ is) ∙ append_assoc (take i part) (10 ∷ drop (i + 1) part) rest in
    (drop (i + 1) part ++ rest, sym (drop_twice at i stored) ∙ ap (drop i) all ∙ behind_front (take i part) (10 ∷ (drop (i + 1) part ++ rest)) i (omega (arith, length-take i part, less)))

-- a line ends at the first newline
first_newline : (line rest bytes : List ℕ) (n : ℕ) → bytes ≡ take n (line ++ 10 ∷ rest) → HasNoNewline bytes → length bytes ≤ length line
first_newline line rest [] n is plain = omega arith
first_newline line rest (b ∷ bytes) zero is plain = absurd (let no = ap length is in omega (arith, no))
first_newline [] rest (b ∷ bytes) (suc n) is plain =
    let ten : b ≡ 10 = head_is is in
    absurd (let clash = subst (λ c. eqb c 10 ≡ false) ten plain.0 in cc)
  where
    head_is : (b ∷ bytes) ≡ 10 ∷ take n rest → b ≡ 10
    head_is e = cc
first_newline (c ∷ line) rest (b ∷ bytes) (suc n) is plain =
    let tail : bytes ≡ take n (line ++ 10 ∷ rest) = tail_is is in
    omega (arith, first_newline line rest bytes n tail plain.1)
  where
    tail_is : (b ∷ bytes) ≡ c ∷ take n (line ++ 10 ∷ rest) → bytes ≡ take n (line ++ 10 ∷ rest)
    tail_is e = cc

-- and no later
no_later : (line rest bytes behind : List ℕ) → bytes ++ 10 ∷ behind ≡ line ++ 10 ∷ rest → HasNoNewline line → length line ≤ length bytes
no_later [] rest bytes behind is plain = omega arith
no_later (c ∷ line) rest [] behind is plain =
    let ten : 10 ≡ c = head_is is in
    absurd (let clash = subst (λ d. eqb d 10 ≡ false) (sym ten) plain.0 in cc)
  where
    head_is : (10 ∷ behind) ≡ c ∷ (line ++ 10 ∷ rest) → 10 ≡ c
    head_is e = cc
no_later (c ∷ line) rest (b ∷ bytes) behind is plain = omega (arith, no_later line rest bytes behind (tail_is is) plain.1)
  where
    tail_is : (b ∷ (bytes ++ 10 ∷ behind)) ≡ c ∷ (line ++ 10 ∷ rest) → bytes ++ 10 ∷ behind ≡ line ++ 10 ∷ rest
    tail_is e = cc

plain_drop : (n : ℕ) (t : List ℕ) → HasNoNewline t → HasNoNewline (drop n t)
plain_drop zero t plain = plain
plain_drop (suc n) [] plain = tt
plain_drop (suc n) (b ∷ t) plain = plain_drop n t plain.1

-- what stands between a place and the first newline behind it
module _ (faithful : Type 0) (stored : List ℕ) (at len end : ℕ) (f : IsNewlineFrom faithful stored at len end) where
  bytes_are : faithful → f.plain.bytes ≡ take (length f.plain.bytes) (drop at stored)
  bytes_are h =
      let size : end - at ≡ length f.plain.bytes = omega (arith, f.plain.long) in
      f.plain.is h ∙ ap (λ n. take n (drop at stored)) size

  with_newline : faithful → end < len → take (length f.plain.bytes + 1) (drop at stored) ≡ ended f.plain.bytes
  with_newline h less =
      let bytes : List ℕ = f.plain.bytes in
      let here : drop (length bytes) (drop at stored) ≡ 10 ∷ (f.newline h less).0 = drop_twice at (length bytes) stored ∙ ap (λ n. drop n stored) f.plain.long ∙ (f.newline h less).1 in
      take_sum (length bytes) 1 (drop at stored) ∙ ap (λ t. t ++ take 1 (drop (length bytes) (drop at stored))) (sym (bytes_are h)) ∙ ap (λ t. bytes ++ take 1 t) here

  -- there is none
  pub no_line : len ≤ end → HasShortLine faithful stored at len
  no_line most h line rest is plain =
      let size : end - at ≡ len - at = omega (arith, most, f.within) in
      let bytes : f.plain.bytes ≡ line ++ 10 ∷ rest = f.plain.is h ∙ ap (λ n. take n (drop at stored)) size ∙ is in
      let less = first_newline line rest f.plain.bytes (length (line ++ 10 ∷ rest)) (bytes ∙ sym (all (line ++ 10 ∷ rest))) f.plain.plain in
      absurd (omega (arith, less, ap length bytes, length-append line (10 ∷ rest)))
    where
      all : (t : List ℕ) → take (length t) t ≡ t
      all [] = refl
      all (b ∷ t) = ap (λ u. b ∷ u) (all t)

  -- or it comes soon
  pub short_line : end < len → length f.plain.bytes < 1024 → HasShortLine faithful stored at len
  short_line less few h line rest is plain =
      let bytes : List ℕ = f.plain.bytes in
      let n : ℕ = length bytes + 1 in
      let count : n + (len - at - n) ≡ len - at = omega (arith, f.plain.long, less) in
      let most = no_later line rest bytes (take (len - at - n) (drop n (drop at stored)))
      (sym (append_assoc bytes (10 ∷ []) (take (len - at - n) (drop n (drop at stored)))) ∙ ap (λ t. t ++ take (len - at - n) (drop n (drop at stored))) (sym (with_newline h less))
      ∙ sym (take_sum n (len - at - n) (drop at stored)) ∙ ap (λ k. take k (drop at stored)) count ∙ is) plain in
      omega (arith, most, few)

  -- or what was read again isn't what was there
  pub other_line : end < len → (front : List ℕ) (i : ℕ) → (faithful → front ≡ take 1024 (drop at stored)) → 1024 ≤ length f.plain.bytes → i < length front → front ≡ take i front ++ 10 ∷ drop (i + 1) front → length front ≤ 1024
      → HasShortLine faithful stored at len
  other_line less front i read many below is most h line rest all plain =
      let bytes : List ℕ = f.plain.bytes in
      let count : 1024 + (length bytes - 1024) ≡ length bytes = omega (arith, many) in
      let same : front ≡ take 1024 bytes = read h ∙ sym (take_less 1024 (length bytes - 1024) (drop at stored)) ∙ ap (λ k. take 1024 (take k (drop at stored))) count ∙ ap (take 1024) (sym (bytes_are h)) in
      let later = first_newline (take i front) (drop (i + 1) front) (take 1024 bytes) (length (take i front ++ 10 ∷ drop (i + 1) front))
      (sym same ∙ is ∙ sym (everything (take i front ++ 10 ∷ drop (i + 1) front))) (plain_take 1024 bytes f.plain.plain) in
      absurd (omega (arith, later, length-take i front, below, ap length same))
    where
      everything : (t : List ℕ) → take (length t) t ≡ t
      everything [] = refl
      everything (b ∷ t) = ap (λ u. b ∷ u) (everything t)

      plain_take : (n : ℕ) (t : List ℕ) → HasNoNewline t → HasNoNewline (take n t)
      plain_take zero t plain = tt
      plain_take (suc n) [] plain = tt
      plain_take (suc n) (b ∷ t) plain = (plain.0, plain_take n t plain.1)

  -- or the line is long
  pub line_is : end < len → (front : List ℕ) → (faithful → front ≡ take 1024 (drop at stored)) → length front ≡ 1024 → 1024 ≤ length f.plain.bytes → HasNoNewline front → (size : ℕ) → size ≡ end - at
      → IsLongLine faithful stored at len front size
  line_is less front read few many plain size is =
      let bytes : List ℕ = f.plain.bytes in
      let count : 1024 + (length bytes - 1024) ≡ length bytes = omega (arith, many) in
      let long : length bytes ≡ size = omega (arith, is, f.plain.long) in
      record {
        more = drop 1024 bytes;
        enough = omega (arith, few);
        long = omega (arith, few, length-drop 1024 bytes, long, many);
        plain = plain-append front (drop 1024 bytes) plain (plain_drop 1024 bytes f.plain.plain);
        within = omega (arith, less, f.plain.long, long);
        is = λ h.
            let same : front ≡ take 1024 bytes =
            read h ∙ sym (take_less 1024 (length bytes - 1024) (drop at stored)) ∙ ap (λ k. take 1024 (take k (drop at stored))) count ∙ ap (take 1024) (sym (bytes_are h)) in
            ap (λ n. take (n + 1) (drop at stored)) (sym long) ∙ with_newline h less ∙ ap ended (sym (take-append-drop 1024 bytes) ∙ ap (λ t. t ++ drop 1024 bytes) (sym same));
      }

-- how many bytes of the text the first bytes of a window stand for
passed_low : (c : Cut) (taken : ℕ) → taken < c.count → passed_of c taken ≡ taken
passed_low c taken less = let e : nat_lt taken c.count ≡ true = grind (arith, nat_tests) in rw e refl

passed_all : (c : Cut) (taken : ℕ) → c.count ≤ taken → passed_of c taken ≡ taken + c.left
passed_all c taken most = let e : nat_lt taken c.count ≡ false = grind (arith, nat_tests) in rw e refl

passed_same : (c : Cut) (taken : ℕ) → c.left ≡ 0 → passed_of c taken ≡ taken
passed_same c taken none =
    elim (cases_lt taken c.count) [
      | inl less ↦ passed_low c taken less
      | inr most ↦ omega (arith, passed_all c taken most, none)
    ]

-- they are some, and no more than there are
pub passed_on : (c : Cut) (taken n at len : ℕ) → n ≡ passed_of c taken → taken ≤ c.count → at + c.count + c.left ≤ len → 0 < taken → (at < at + n) × (at + n ≤ len)
passed_on c taken n at len is within below some =
    elim (cases_lt taken c.count) [
      | inl less ↦ let low = passed_low c taken less in (omega (arith, is, low, some), omega (arith, is, low, less, below))
      | inr most ↦ let all = passed_all c taken most in (omega (arith, is, all, some), omega (arith, is, all, within, below))
    ]

pub passed_within : (c : Cut) (taken at len : ℕ) → taken ≤ c.count → at + c.count + c.left ≤ len → at + passed_of c taken ≤ len
passed_within c taken at len within below =
    elim (cases_lt taken c.count) [
      | inl less ↦ omega (arith, passed_low c taken less, less, below)
      | inr most ↦ omega (arith, passed_all c taken most, within, below)
    ]

pub passed_most : (c : Cut) (taken n : ℕ) → n ≡ passed_of c taken → taken ≤ n
passed_most c taken n is =
    elim (cases_lt taken c.count) [
      | inl less ↦ omega (arith, is, passed_low c taken less)
      | inr most ↦ omega (arith, is, passed_all c taken most)
    ]

-- whole lines of a window, and those of the text that they stand for
pub record StandsFor (faithful : Type 0) (stored : List ℕ) (at len : ℕ) (bytes : List ℕ) (c : Cut) (taken : ℕ) : Type 1 where
  pub text : List ℕ
  pub is : faithful → text ≡ take (passed_of c taken) (drop at stored)
  pub long : length text ≡ passed_of c taken
  pub whole : (split text).rest ≡ []
  pub alike : (P : List (List ℕ) → Type 0) → ((front more : List ℕ) → 1024 ≤ length front → P (front ∷ []) → P ((front ++ more) ∷ [])) → P (split bytes).lines → P (split text).lines
  pub within : at + passed_of c taken ≤ len
  pub most : taken ≤ passed_of c taken

take_of_take : (n m : ℕ) (t : List ℕ) → n ≤ m → take n (take m t) ≡ take n t
take_of_take n m t le =
    let more : n + (m - n) ≡ m = omega (arith, le) in
    ap (λ k. take n (take k t)) (sym more) ∙ take_less n (m - n) t

pub stands_for : (faithful : Type 0) (stored : List ℕ) (at len : ℕ) (window : List ℕ) (c : Cut) (taken : ℕ) → IsCut faithful stored at len window c → taken ≤ c.count
    → (split (take taken (take c.count window))).rest ≡ [] → StandsFor faithful stored at len (take taken (take c.count window)) c taken
unfolding split
stands_for faithful stored at len window c taken cut within whole =
    elim cut.stands [
      | inl plain ↦
          let same = passed_same c taken plain.0 in
          record {
            text = take taken (take c.count window);
            is = λ h. ap (take taken) (plain.1 h) ∙ take_of_take taken c.count (drop at stored) within ∙ ap (λ n. take n (drop at stored)) (sym same);
            long = omega (arith, same, length-take taken (take c.count window), length-take c.count window, cut.within, within);
            whole = whole;
            alike = λ P more h. h;
            within = omega (arith, same, cut.below, within);
            most = omega (arith, same);
          }
      | inr l ↦
          let front : List ℕ = l.front in
          let size : c.count ≡ length front + 1 = omega (arith, ap length l.bytes_are, length-take c.count window, cut.within, length-append front (10 ∷ [])) in
          let plain : HasNoNewline front = plain_front front l.more l.plain in
          elim (cases_lt taken c.count) [
            | inl less ↦
                let low = passed_low c taken less in
                let is : take taken (take c.count window) ≡ take taken front = ap (take taken) l.bytes_are ∙ take-append-le taken front (10 ∷ []) (omega (arith, less, size)) in
                let parts = ap split is ∙ split-plain (take taken front) (plain_taken taken front plain) in
                let none : take taken front ≡ [] = sym (ap (λ s. s.rest) parts) ∙ whole in
                let zero_is : taken ≡ 0 = omega (arith, ap length none, length-take taken front, less, size) in
                record {
                  text = [];
                  is = λ h. ap (λ n. take n (drop at stored)) (sym (low ∙ zero_is));
                  long = sym (low ∙ zero_is);
                  whole = refl;
                  alike = λ P more h. subst P (ap (λ s. s.lines) parts) h;
                  within = omega (arith, low, zero_is, cut.below);
                  most = omega (arith, low);
                }
            | inr most ↦
                let all = passed_all c taken most in
                let same : taken ≡ c.count = omega (arith, within, most) in
                let is : take taken (take c.count window) ≡ ended front = ap (λ n. take n (take c.count window)) same ∙ take_all c.count (take c.count window) (omega (arith, length-take c.count window)) ∙ l.bytes_are in
                let parts = ap split is ∙ split-ended front [] plain in
                let to = split-ended (front ++ l.more) [] l.plain in
                let passed : passed_of c taken ≡ c.count + c.left = all ∙ ap (λ n. n + c.left) same in
                record {
                  text = ended (front ++ l.more);
                  is = λ h. sym (l.is h) ∙ ap (λ n. take n (drop at stored)) (sym passed);
                  long = omega (arith, passed, l.long, length-append (front ++ l.more) (10 ∷ []), length-append front l.more);
                  whole = ap (λ s. s.rest) to;
                  alike = λ P more h. subst P (sym (ap (λ s. s.lines) to)) (more front l.more l.enough (subst P (ap (λ s. s.lines) parts) h));
                  within = omega (arith, passed, cut.below);
                  most = omega (arith, passed, same);
                }
          ]
    ]
  where
    plain_taken : (n : ℕ) (t : List ℕ) → HasNoNewline t → HasNoNewline (take n t)
    plain_taken zero t plain = tt
    plain_taken (suc n) [] plain = tt
    plain_taken (suc n) (b ∷ t) plain = (plain.0, plain_taken n t plain.1)

-- a line that is cut
pub cut_is : (faithful : Type 0) (stored : List ℕ) (at len : ℕ) (front window : List ℕ) (size left : ℕ) → (l : IsLongLine faithful stored at len front size) → length front ≡ 1024 → take 1025 window ≡ ended front → left ≡ size - 1024
    → IsCutLine faithful (take 1025 window) stored at (1025 + left)
cut_is faithful stored at len front window size left l few is more =
    let count : size + 1 ≡ 1025 + left = omega (arith, more, l.long, few) in
    record {
      front = front;
      more = l.more;
      bytes_are = is;
      enough = l.enough;
      plain = l.plain;
      long = omega (arith, l.long, count);
      is = λ h. ap (λ n. take n (drop at stored)) (sym count) ∙ l.is h;
    }

-- lines that end at the same newline are the same
same_line : (a b x y : List ℕ) → a ++ 10 ∷ x ≡ b ++ 10 ∷ y → HasNoNewline a → HasNoNewline b → a ≡ b
same_line [] [] x y is p q = refl
same_line [] (c ∷ b) x y is p q = absurd (let clash = subst (λ d. eqb d 10 ≡ false) (sym (head_is is)) q.0 in cc)
  where
    head_is : (10 ∷ x) ≡ c ∷ (b ++ 10 ∷ y) → 10 ≡ c
    head_is e = cc
same_line (c ∷ a) [] x y is p q = absurd (let clash = subst (λ d. eqb d 10 ≡ false) (head_is is) p.0 in cc)
  where
    head_is : c ∷ (a ++ 10 ∷ x) ≡ 10 ∷ y → c ≡ 10
    head_is e = cc
same_line (c ∷ a) (d ∷ b) x y is p q = ap (λ t. c ∷ t) (same_line a b x y (tail_is is) p.1 q.1) ∙ ap (λ e. e ∷ b) (head_is is)
  where
    tail_is : c ∷ (a ++ 10 ∷ x) ≡ d ∷ (b ++ 10 ∷ y) → a ++ 10 ∷ x ≡ b ++ 10 ∷ y
    tail_is e = cc

    head_is : c ∷ (a ++ 10 ∷ x) ≡ d ∷ (b ++ 10 ∷ y) → c ≡ d
    head_is e = cc

-- the bytes behind a place, with those of a window before the others
apart_at : (n m : ℕ) (t : List ℕ) → n ≤ m → take m t ≡ take n t ++ take (m - n) (drop n t)
apart_at n m t le =
    let more : n + (m - n) ≡ m = omega (arith, le) in
    ap (λ k. take k t) (sym more) ∙ take_sum n (m - n) t

-- a window with a newline begins as the text does
pub begins_whole : (stored now : List ℕ) (at n m i : ℕ) → now ≡ take n (drop at stored) → n ≤ m → i < length now → HasNoNewline (take i now) → now ≡ take i now ++ 10 ∷ drop (i + 1) now
    → BeginsAlike (take m (drop at stored)) now
begins_whole stored now at n m i read le less plain is line rest text_is apart =
    let more : List ℕ = take (m - n) (drop n (drop at stored)) in
    let all : take i now ++ 10 ∷ (drop (i + 1) now ++ more) ≡ line ++ 10 ∷ rest =
    sym (append_assoc (take i now) (10 ∷ drop (i + 1) now) more) ∙ ap (λ t. t ++ more) (sym is ∙ read) ∙ sym (apart_at n m (drop at stored) le) ∙ text_is in
    let same = same_line (take i now) line (drop (i + 1) now ++ more) rest all plain apart in
    (take i now, [], drop (i + 1) now, is, sym same ∙ sym (append-nil (take i now)), inr refl)

-- a line that is cut begins as it does
pub begins_cut : (faithful : Type 0) (bytes stored : List ℕ) (at size m : ℕ) → faithful → size ≤ m → IsCutLine faithful bytes stored at size → BeginsAlike (take m (drop at stored)) bytes
begins_cut faithful bytes stored at size m h le l line rest text_is apart =
    let more : List ℕ = take (m - size) (drop size (drop at stored)) in
    let all : (l.front ++ l.more) ++ 10 ∷ more ≡ line ++ 10 ∷ rest =
    sym (append_assoc (l.front ++ l.more) (10 ∷ []) more) ∙ ap (λ t. t ++ more) (sym (l.is h)) ∙ sym (apart_at size m (drop at stored) le) ∙ text_is in
    let same = same_line (l.front ++ l.more) line more rest all l.plain apart in
    (l.front, l.more, [], l.bytes_are, sym same, inl l.enough)

-- where no newline comes, or too late, no whole line does
pub begins_none : (faithful : Type 0) (stored now bytes : List ℕ) (at n m len size : ℕ) → faithful → m ≡ len - at → now ≡ take n (drop at stored) → length now ≡ n → HasNoNewline now → (n ≡ m) ⊎ (1024 < n) → n ≤ m
    → HasShortLine faithful stored at len → BeginsAlike (take m (drop at stored)) bytes
begins_none faithful stored now bytes at n m len size h is read long plain most le short line rest text_is apart =
    let less = short h line rest (ap (λ k. take k (drop at stored)) (sym is) ∙ text_is) apart in
    let same : now ≡ take n (line ++ 10 ∷ rest) = read ∙ sym (take_of_take n m (drop at stored) le) ∙ ap (take n) text_is in
    let below = first_newline line rest now n same plain in
    absurd (elim most [
      | inl all ↦ omega (arith, below, long, ap length same, length-take n (line ++ 10 ∷ rest), length-append line (10 ∷ rest), all_long all)
      | inr many ↦ omega (arith, below, long, less, many)
    ])
  where
    all_long : n ≡ m → length (line ++ 10 ∷ rest) ≤ n
    all_long all = omega (arith, ap length text_is, length-take m (drop at stored), all)

-- what was read of a store is so of it before
pub cut_before : (H now : Type 0) (stored text : List ℕ) (at len : ℕ) (window : List ℕ) (c : Cut) → (H → now) → (H → text ≡ stored) → IsCut now text at len window c → IsCut H stored at len window c
cut_before H now stored text at len window c still same cut = record {
  within = cut.within;
  below = cut.below;
  stands = elim cut.stands [
    | inl plain ↦ inl (plain.0, λ h. plain.1 (still h) ∙ ap (λ t. take c.count (drop at t)) (same h))
    | inr l ↦ inr (record {
      front = l.front;
      more = l.more;
      bytes_are = l.bytes_are;
      enough = l.enough;
      plain = l.plain;
      long = l.long;
      is = λ h. ap (λ t. take (c.count + c.left) (drop at t)) (sym (same h)) ∙ l.is (still h);
    })
  ];
}

-- the bytes that were read into a window are its first
pub front_read : (front rest : List ℕ) (n : ℕ) → length front ≡ n → take n (front ++ rest) ≡ front
front_read front rest n few = subst (λ k. take k (front ++ rest) ≡ front) few (take-append_seam front rest)

-- a window is as long as what is left, or long enough
pub least_of : (size most m : ℕ) → size ≡ min most m → 1024 < most → (size ≡ m) ⊎ (1024 < size)
least_of size most m is wide =
    elim (cases_lt m most) [
      | inl less ↦ inl (omega (arith, is, less))
      | inr more ↦ inr (omega (arith, is, more, wide))
    ]

pub zero_or : (n : ℕ) → (n ≡ 0) ⊎ (0 < n)
zero_or zero = inl refl
zero_or (suc n) = inr (omega arith)
