-- The head of an entry that is begun: its first page is made, and nothing is written.
use Rattle.std.specs.Prelude.{◌≡◌, ◌≤◌, ◌+◌, ◌^◌, ℕ, List, length, vec_capacity}
use Rattle.bx_image.specs.declared.change.Change.{Change}
use Rattle.bx_image.specs.declared.record.spans.Span.{Span}
use Rattle.bx_image.specs.Change.{saved, IsOf}
use Rattle.bx_journal_format.specs.Entry.{head_text}
use Rattle.bx_journal_format.specs.Kept.{kept_of}
use Rattle.bx_journal_protocol.specs.declared.write.head.Head.{Head}
use Rattle.bx_journal_protocol.specs.write.Ranges.{head_from, kept_over, rest_len, AreRanges, IsPlace}

-- it can be gone on with over these ranges, whatever the image has
pub record IsOpenHead {A : Type 0} (ranges : List Span) (h : Head A) : Type 0 where
  pub ordered : AreRanges (2 ^ 64) ranges
  pub place : IsPlace ranges h.place
  pub window : 16 ≤ length h.window.items
  pub room : 82 ≤ vec_capacity h.page

-- its window is as long as it was, and its page has no less room
pub record KeepsBuffers {A : Type 0} (old new : Head A) : Type 0 where
  pub window : length new.window.items ≡ length old.window.items
  pub page : vec_capacity old.page ≤ vec_capacity new.page

-- how many bytes of its text are not yet put to a store
abbrev pub rest_of : {A : Type 0} → List Span → Head A → ℕ
rest_of ranges h = length h.page.items + rest_len ranges h.place + 14

-- its text so far and what is left of it are those of the image x
pub record IsBegunOver {A : Type 0} (x : List ℕ) (ranges : List Span) (h : Head A) : Type 0 where
  pub within : AreRanges (length x) ranges
  pub text : head_from x ranges h.place h.page.items h.number ≡ head_text h.number (kept_over x ranges)

-- it is the head of the entry of a change of x
pub record BeginsEntry {A B : Type 0} (c : Change B) (x : List ℕ) (ranges : List Span) (h : Head A) : Type 0 where
  pub begun : IsBegunOver x ranges h
  pub saved_is : kept_over x ranges ≡ kept_of (saved c x)
  pub kept : IsOf (kept_over x ranges) x
