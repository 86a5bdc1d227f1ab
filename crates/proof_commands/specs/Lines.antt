-- The words that are printed for a proof of an answer that isn't accepted.
use Rattle.std.specs.Prelude.{ℕ, List, ◌++◌, codes, decimal}
use Rattle.hex.specs.Hex.{encode_lower}
use Rattle.proof_checks.specs.declared.reject.Reject.{Reject}
use Rattle.proof_checks.specs.declared.reject.Reject.TheVariants as rejects

-- The words for the check that failed.
abbrev pub reject_text : Reject → List ℕ
reject_text (rejects.Malformed at) = codes "malformed " ++ decimal at
reject_text rejects.OtherQuery = codes "query"
reject_text (rejects.RootDiffers computed) = codes "root " ++ encode_lower computed.0
reject_text rejects.LeafShape = codes "leaf"
reject_text (rejects.LinkDiffers step computed) = codes "link " ++ decimal step ++ codes " " ++ encode_lower computed.0
reject_text (rejects.PathShape step) = codes "path " ++ decimal step
reject_text (rejects.BodyDiffers computed) = codes "body " ++ encode_lower computed.0
reject_text (rejects.ListDiffers computed) = codes "list " ++ encode_lower computed.0
