-- Statuses, with a comma between each two.
use Rattle.std.proofs.Common.{◌≡◌, ℕ, ◌-◌, List, [], ◌∷◌, ◌++◌, length, take, drop, ap, ◌∙◌}
use Rattle.std.proofs.Common.{append-nil, arith}
use Rattle.std.specs.Prelude.{slice_index_or, ◌==◌, false}
use Rattle.std.specs.List.{flat_map}
use Rattle.std.proofs.Math.Seq.{take-length}
use Rattle.follower_steps.specs.chain_exec.declared.receipt.Receipt.{Receipt}
use Rattle.cli_promises.specs.Lines.{status_text, statuses_text}
use Rattle.cli_promises.specs.declared.lines.TheConstants.{COMMA}

-- the first status, and then each other one after a comma
joined : (receipt : Receipt) (others : List Receipt) → status_text receipt ++ flat_map
    (λ r. COMMA ∷ status_text r) others ≡ statuses_text (receipt ∷ others)
joined receipt [] = append-nil (status_text receipt)
joined receipt (other ∷ others) = ap (λ (bytes : List ℕ). status_text receipt ++ (COMMA ∷ bytes))
    (joined other others)

-- all statuses
pub all_statuses : (receipts : List Receipt) (default : Receipt) → false ≡ (length receipts == 0)
    → status_text (slice_index_or receipts 0 default) ++ flat_map (λ r. COMMA ∷ status_text r)
    (take (length receipts - 1) (drop 1 receipts)) ≡ statuses_text receipts
all_statuses [] default some = absurd (cc some)
all_statuses (receipt ∷ others) default some =
    let count : length (receipt ∷ others) - 1 ≡ length others = omega arith in
    ap (λ (n : ℕ). status_text receipt ++ flat_map (λ r. COMMA ∷ status_text r) (take n others))
    count
    ∙ ap (λ (rest : List Receipt). status_text receipt ++ flat_map (λ r. COMMA ∷ status_text r)
    rest) (take-length others) ∙ joined receipt others
