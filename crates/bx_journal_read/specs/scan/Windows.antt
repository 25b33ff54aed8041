-- A store's text that is read in windows.
use Rattle.std.specs.Prelude.{◌≡◌, ◌⊎◌, ◌++◌, ◌<◌, ◌≤◌, ℕ, ◌+◌, ◌-◌, Bool, List, length, take, drop, Option, None, Result, IfOk, IfSome}
use Rattle.bx_journal_format.specs.declared.read.types.Front.{Front}
use Rattle.bx_journal_read.specs.declared.scan.count.CountedText.{CountedText}
use Rattle.bx_journal_read.specs.declared.scan.count.CountScan.{CountScan}
use Rattle.bx_journal_read.specs.declared.scan.count.Walk.{Walk}
use Rattle.bx_journal_read.specs.declared.scan.windows.Reached.{Reached}
use Rattle.bx_journal_read.specs.declared.scan.windows.Taken.{Taken}
use Rattle.bx_journal_format.specs.count.Tally.{IsTallied, IsCountedAll}

-- the text up to a place leads to a state: the store's, where that is faithful
pub record IsLedTo {S : Type 0} (faithful : Type 0) (stored : List ℕ) (Leads : S → List ℕ → Type 0) (at : ℕ) (scan : S) : Type 0 where
  pub text : List ℕ
  pub is : faithful → text ≡ take at stored
  pub long : length text ≡ at
  pub leads : Leads scan text

-- a line leads from a text to a state, or it isn't taken
abbrev pub TakesLong : {S : Type 0} → (S → List ℕ → Type 0) → List ℕ → List ℕ → Taken S → Type 0
TakesLong Leads text line t = ((t.taken ≡ 0) × Leads t.scan text) ⊎ ((0 < t.taken) × Leads t.scan (text ++ line))

-- the text up to a place before `len` leads to a state
pub record IsReached {S : Type 0} (faithful : Type 0) (stored : List ℕ) (Leads : S → List ℕ → Type 0) (len : ℕ) (r : Reached S) : Type 0 where
  pub led : IsLedTo faithful stored Leads r.at r.scan
  pub below : r.at ≤ len

-- what is said of the place that was reached, if one was
abbrev pub IfReached : {R E F : Type 0} → Result (Result (Option R) E) F → (R → Type 0) → Type 0
IfReached result P = IfOk result (λ scanned. IfOk scanned (λ found. IfSome found P))

-- the lines of a text are counted, from the first of these states on
pub record IsCountedBy (first now : CountScan) (text : List ℕ) : Type 0 where
  pub tallied : IsTallied first.only_second text now.tally now.lines
  pub same : now.only_second ≡ first.only_second
  pub lines : now.lines ≤ length text
  pub few : now.tally.count ≤ 65535

-- the lines of a text were walked along up to a place, which lead to a tally
pub record IsWalkedTo (faithful : Type 0) (stored : List ℕ) (only_second : Bool) (len : ℕ) (w : Walk) : Type 0 where
  pub led : IsLedTo faithful stored (λ (w : Walk) text. IsTallied only_second text w.tally w.lines) w.at w
  pub below : w.at ≤ len
  pub lines : w.lines ≤ w.at
  pub few : w.tally.count ≤ 65535

-- a front of a text is `f.count` finished entries alone: of the store's, where that is faithful
pub record IsFrontCounted (faithful : Type 0) (stored : List ℕ) (only_second : Bool) (f : Front) : Type 0 where
  pub front : List ℕ
  pub is : faithful → front ≡ take f.at stored
  pub long : length front ≡ f.at
  pub counted : IsCountedAll only_second front f.count f.told f.lines
  pub lines : f.lines ≤ f.at
  pub few : f.count ≤ 65535

-- by its places one front is all of a text of `len` bytes, and another one entry more than a third, which tells no length
pub record AreAround (whole front next : Front) (len : ℕ) : Type 0 where
  pub all : whole.at ≡ len
  pub one : next.count ≡ front.count + 1
  pub untold : next.told ≡ None
  pub order : front.at < next.at
  pub within : next.at ≤ len

-- by its places one front is all of a text of `len` bytes, and another the first `most` of more entries
pub record AreMoreThan (whole front : Front) (most len : ℕ) : Type 0 where
  pub all : whole.at ≡ len
  pub count : front.count ≡ most
  pub more : most < whole.count
  pub within : front.at < len

-- all of a text was counted: the store's, where that is faithful
pub record IsAllCounted (faithful : Type 0) (stored : List ℕ) (only_second : Bool) (c : CountedText) : Type 0 where
  pub text : List ℕ
  pub is : faithful → stored ≡ text
  pub counted : IsCountedAll only_second text c.counted.count c.counted.told c.lines
  pub few : c.counted.count ≤ 65535

-- what follows a place in the first n bytes of a text
abbrev pub rest_to : ℕ → ℕ → List ℕ → List ℕ
rest_to n at text = take (n - at) (drop at text)
