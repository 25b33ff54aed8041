use Rattle.std.proofs.Common.{◌≡◌, ◌+◌, ◌++◌, get_or, map, Some, sym, ap, ◌∙◌}
use Rattle.std.proofs.lemmas.List.{take_rest, get_or-drop}
use Rattle.bx_read.specs.Digits.{pairs_of}
use Rattle.bx_read.specs.Plain.{hex_bytes}
use Rattle.bx_read.specs.private.Lanes.{group_places}
use Rattle.bx_read.proofs.LaneLemmas.{columns_are, some_weaker}
use Rattle.bx_read.proofs.full.lanes.columns_of.Goals as goal

pub returns : goal.returns
returns c =
    let hex = c.args.hex.now in
    let second : c.groups_of-2.result ≡ map (λ k. get_or hex (20 + k) 0) group_places =
    c.groups_of-2.ensures ∙ (λ i. map (λ k. get_or (take_rest hex 20 i) k 0) group_places) ∙ (λ i. map (λ k. get_or-drop 20 hex k 0 i) group_places) in
    some_weaker c.pairs_in.result (λ bytes. hex_bytes (c.groups_of.result ++ c.groups_of-2.result) ≡ Some bytes) (λ bytes. pairs_of hex ≡ Some bytes)
    (λ bytes h. columns_are hex (c.is_spaced.ensures c.if-not-is_spaced.false) bytes c.requires (ap hex_bytes (λ i. sym c.groups_of.ensures i ++ sym second i) ∙ h)) c.pairs_in.ensures
