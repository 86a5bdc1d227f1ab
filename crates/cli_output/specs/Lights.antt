-- What is printed for a light file that is made, and for proofs that are checked by one.
use Rattle.std.specs.Prelude.{ℕ, ◌+◌, ◌*◌, Bool, true, false, ◌||◌, is_err}
use Rattle.std.specs.Prelude.{List, [], ◌∷◌, ◌++◌, length, map, codes, decimal, Result, Ok, Err}
use Rattle.std.specs.Int.{div_ceil}
use Rattle.std.specs.List.{range_with_len}
use Rattle.hex.specs.Hex.{encode_lower}
use Rattle.lc_base.specs.declared.digest.Digest.{Digest}
use Rattle.lc_base.specs.declared.row.Row.{Row}
use Rattle.proof_commands.specs.Lines.{reject_text}
use Rattle.proof_checks.specs.declared.reject.Reject.TheVariants.{Malformed}
use Rattle.replay_soundness.specs.light_client.Format.{head_bytes}
use Rattle.replay_soundness.specs.light_client.declared.block_root.BlockRoot.{BlockRoot}
use Rattle.replay_soundness.specs.light_client.Checking.{LightAnswer, light_verdict}
use Rattle.replay_soundness.specs.light_client.declared.reject.LightReject.{LightReject}
use Rattle.replay_soundness.specs.light_client.declared.reject.LightReject.TheVariants as rejects
use Rattle.replay_soundness.specs.light_client.Making.{piece_bytes}
use Rattle.replay_soundness.specs.light_client.declared.piece_limits.TheConstants.{BLOCKS_PER_PIECE}
use Rattle.cli_words.specs.Words.{kind_word}
use Rattle.cli_promises.specs.cli_lines.Lines.{line, answer_lines, refused_line}
use Rattle.replay_soundness.specs.chain_input.Folding.{FoldEnd, Whole, Refused}
use Rattle.cli_promises.specs.cli_lines.declared.outcome.Ending.{Ending}
use Rattle.cli_promises.specs.cli_lines.declared.outcome.Ending.TheVariants as endings

-- ---- a light file that is made

-- The number of pieces for so many blocks: each has `BLOCKS_PER_PIECE` of them, but the last one
-- may have fewer.
abbrev pub piece_count : ℕ → ℕ
piece_count blocks = div_ceil blocks BLOCKS_PER_PIECE

-- The pieces of the light file of a ledger, in order: its head, and then its blocks.
abbrev pub light_pieces : List Row → List Digest → List (List ℕ)
light_pieces rows digests =
    head_bytes (length digests) ∷ map (λ index. piece_bytes rows digests (BLOCKS_PER_PIECE * index))
    (range_with_len 0 (piece_count (length digests)))

-- ---- proofs that are checked

-- Why a light file doesn't accept a proof, in words: the number of blocks that it has, its digest
-- of the proof's block, or the words for the check that failed.
abbrev pub light_reject_text : LightReject → List ℕ
light_reject_text (rejects.Malformed at) = reject_text (Malformed at)
light_reject_text (rejects.Unknown count) = codes "unknown " ++ decimal count
light_reject_text (rejects.DigestDiffers have) = codes "digest " ++ encode_lower have.0
light_reject_text (rejects.Rejected reject) = reject_text reject

-- The line of a proof that isn't accepted: its number, from 0, and why.
abbrev pub rejected_proof_line : ℕ → LightReject → List ℕ
rejected_proof_line index reject =
    line (codes "proof " ++ decimal index ++ codes " rejected " ++ light_reject_text reject)

-- The line of a proof that is accepted: its number, from 0, the question that it answers, and the
-- block of its root.
abbrev pub accepted_proof_line : ℕ → LightAnswer → List ℕ
accepted_proof_line index found =
    line (codes "proof " ++ decimal index ++ codes " " ++ kind_word found.query.kind ++ codes " "
    ++ found.query.key ++ codes " " ++ decimal found.query.at ++ codes " root "
    ++ decimal found.root_at)

-- The lines of a proof with this verdict: its own, and those of the answer.
abbrev pub proof_lines : ℕ → Result LightAnswer LightReject → List (List ℕ)
proof_lines index (Ok found) = accepted_proof_line index found ∷ answer_lines found.answer
proof_lines index (Err reject) = rejected_proof_line index reject ∷ []

-- The lines of these proofs, of which the first has the number `index`, by a light file.
abbrev pub all_proof_lines : List BlockRoot → ℕ → List (List ℕ) → List (List ℕ)
all_proof_lines file index [] = []
all_proof_lines file index (proof ∷ proofs) =
    proof_lines index (light_verdict file proof) ++ all_proof_lines file (index + 1) proofs

-- Whether a light file rejects one of these proofs.
abbrev pub rejects_one : List BlockRoot → List (List ℕ) → Bool
rejects_one file [] = false
rejects_one file (proof ∷ proofs) = is_err (light_verdict file proof) || rejects_one file proofs

-- The line of a frame that is refused for its form, if one is.
abbrev pub refused_lines : FoldEnd → List (List ℕ)
refused_lines Whole = []
refused_lines (Refused frame cause) = refused_line frame cause ∷ []

-- How `light` ends, by whether a proof was rejected, and by how the frames end.
abbrev pub light_ending : Bool → FoldEnd → Ending
light_ending rejected (Refused frame cause) = endings.Refused
light_ending true Whole = endings.Rejected
light_ending false Whole = endings.Done
