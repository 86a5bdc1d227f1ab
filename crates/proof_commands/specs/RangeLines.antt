-- The words that are printed for a range proof that isn't accepted.
use Rattle.std.specs.Prelude.{ℕ, List, ◌++◌, codes, decimal}
use Rattle.hex.specs.Hex.{encode_lower}
use Rattle.proof_checks.specs.declared.reject.Reject.TheVariants as faults
use Rattle.proof_commands.specs.Lines.{reject_text}
use Rattle.proof_checks.specs.declared.range_reject.RangeReject.{RangeReject}
use Rattle.proof_checks.specs.declared.range_reject.RangeReject.TheVariants as rejects

-- The words for the check that failed: those for the same check of another proof; of a body also
-- its number.
abbrev pub range_reject_text : RangeReject → List ℕ
range_reject_text (rejects.Malformed at) = reject_text (faults.Malformed at)
range_reject_text rejects.OtherQuery = reject_text faults.OtherQuery
range_reject_text (rejects.RootDiffers computed) = reject_text (faults.RootDiffers computed)
range_reject_text rejects.LeafShape = reject_text faults.LeafShape
range_reject_text (rejects.LinkDiffers step computed) =
    reject_text (faults.LinkDiffers step computed)
range_reject_text (rejects.PathShape step) = reject_text (faults.PathShape step)
range_reject_text (rejects.BodyDiffers item computed) =
    codes "body " ++ decimal item ++ codes " " ++ encode_lower computed.0
