use Rattle.std.proofs.Common.{◌≡◌, ◌+◌, ◌≤◌, ◌++◌, length, List, ℕ, false}
use Rattle.std.specs.Prelude.{vec_capacity}
use Rattle.bx_image.specs.Device.{GoesOn}
use Rattle.bx_image.specs.Power.{FadesBehind, NoMore}
use Rattle.bx_journal_format.specs.Text.{IsPrefix}
use Rattle.bx_journal_protocol.specs.write.Page.{IsPaged}
use Rattle.bx_journal_protocol.specs.write.Ranges.{rest_text, rest_len, IsPlace}
use Rattle.bx_journal_protocol.proofs.write.ranges.put_pages.Given as goal

-- what was appended, what waits and what is left are the page and its lines
abbrev pub invariant-loop-now : goal.invariant-loop-now
invariant-loop-now g l =
    let device = g.D.Device in
    let store = g.T.TextStore in
    record {
      place : IsPlace l.ranges l.now;
      puts : device.faithful l.fn.image → store.faithful l.fn.journal → (bytes : List ℕ)
          × (bytes ++ rest_text (device.image l.fn.image) l.ranges l.now ≡ l.fn.page.items ++ rest_text (device.image l.fn.image) l.ranges l.fn.place)
          × IsPaged bytes (store.text l.fn.journal) (store.text l.journal) l.page.items;
      fades : device.faithful l.fn.image → store.faithful l.fn.journal
          → FadesBehind (store.text l.fn.journal) (l.fn.page.items ++ rest_text (device.image l.fn.image) l.ranges l.fn.place) (store.survives l.fn.journal) (store.survives l.journal);
      long : store.faithful l.fn.journal → length (store.text l.journal) + length l.page.items + rest_len l.ranges l.now
          ≡ length (store.text l.fn.journal) + length l.fn.page.items + rest_len l.ranges l.fn.place;
      front : store.faithful l.fn.journal → IsPrefix (store.text l.fn.journal) (store.text l.journal);
      room : vec_capacity l.fn.page ≤ vec_capacity l.page;
      window : length l.window ≡ length l.fn.window;
      image : device.faithful l.fn.image → device.image l.image ≡ device.image l.fn.image;
      survives : device.faithful l.fn.image → NoMore (device.survives l.fn.image) (device.survives l.image);
      image_goes_on : GoesOn device.faithful device.room device.failures false l.fn.image l.image;
      journal_goes_on : GoesOn store.faithful store.room store.failures false l.fn.journal l.journal;
    }

abbrev pub decreases-loop-now : goal.decreases-loop-now
decreases-loop-now g l = rest_len l.ranges l.now
