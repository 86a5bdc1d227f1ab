-- What `light` prints for a proof that it accepts is the answer of each chain of which the light
-- file is, unless texts clash; and what `light make` prints is the light file of its blocks.
use Rattle.std.proofs.Common.{◌≡◌, ℕ, zero, suc, ◌+◌, ◌-◌, ◌*◌, ◌≤◌, List, [], ◌∷◌, ◌++◌}
use Rattle.std.specs.Prelude.{IfOk, MatchOption, slice_get}
use Rattle.std.proofs.Common.{length, map, Option, Some, Result, Ok, Err, refl, sym, ap, ◌∙◌}
use Rattle.std.proofs.Common.{subst, arith, append_assoc}
use Rattle.std.specs.Int.{div_ceil}
use Rattle.std.proofs.lemmas.List.{length-map}
use Rattle.root_laws.specs.Root.{root_of}
use Rattle.std.proofs.lemmas.Grind.{div_ceil_times}
use Rattle.std.specs.List.{concat, flat_map, range_with_len}
use Rattle.lc_base.specs.declared.digest.Digest.{Digest}
use Rattle.lc_base.specs.declared.row.Row.{Row}
use Rattle.byte_fields.specs.Spelling.{IsBytes}
use Rattle.block_codec.specs.Frames.{FrameStep, End, Truncated, Length, Many, Frame, frame_step}
use Rattle.block_codec.specs.Placement.{digest_of}
use Rattle.block_codec.specs.declared.limits.TheConstants.{MAX_FRAMES}
use Rattle.block_codec.proofs.FrameBytes.{frame_bytes}
use Rattle.block_codec.specs.declared.block.Block.{Block}
use Rattle.chain_exec.specs.Replay.{replay}
use Rattle.chain_exec.specs.Compiled.{Compiler, IsCompiler}
use Rattle.cli_output.specs.replay_soundness.LightSoundness.{AnswersByFile, IsFileOfChain}
use Rattle.cli_output.specs.replay_soundness.TypedChains.{IsLawfulChain}
use Rattle.light_client.specs.Checking.{LightAnswer}
use Rattle.light_client.specs.Checking.{light_verdict}
use Rattle.light_client.specs.Format.{head_bytes, light_bytes, light_in}
use Rattle.light_client.specs.declared.block_root.BlockRoot.{BlockRoot}
use Rattle.light_client.specs.declared.reject.LightReject.{LightReject}
use Rattle.cli_output.proofs.replay_soundness.LightSound.{light_answers_are_of_replays}
use Rattle.cli_output.proofs.replay_soundness.Made.{made_proofs_are_accepted_by_files}
use Rattle.byte_fields.proofs.Laws.{IsBytes-after}
use Rattle.light_client.proofs.Files.{read_files_are_written}
use Rattle.light_client.proofs.Made.{length-block_roots_of, block_roots_are_of_their_blocks}
use Rattle.light_client.proofs.Verdicts.{verdict_holds}
use Rattle.light_client.proofs.Pieces.{pieces_make_the_file}
use Rattle.light_client.specs.Making.{piece_bytes}
use Rattle.light_client.specs.declared.piece_limits.TheConstants.{BLOCKS_PER_PIECE}
use Rattle.cli_append.specs.cli_promises.Promises.{Line, plain}
use Rattle.chain_input.specs.Folding.{FoldEnd}
use Rattle.cli_output.specs.Frames.{framed, framed_from, framed_step}
use Rattle.cli_output.specs.Lights.{proof_lines, all_proof_lines, refused_lines, light_pieces}
use Rattle.cli_output.specs.Output.{light_outcome, make_light_output, told_bytes}
use Rattle.cli_output.specs.Showing.{IsProofTold, AreProofsTold, LightAnswersHold}
use Rattle.cli_output.specs.Showing.{MadeLightFilesAreWhole, light_file_of}

-- ---- the frames of bytes are bytes

abbrev AreBytes : List (List ℕ) → Type 0
AreBytes [] = Unit {0}
AreBytes (bytes ∷ others) = IsBytes bytes × AreBytes others

frames_step : (more : ℕ)
    → ((input : List ℕ) → IsBytes input → AreBytes (framed_from more input).frames)
    → (count : ℕ) (input : List ℕ) → IsBytes input → (step : FrameStep)
    → frame_step count input ≡ step
    → AreBytes (framed_step (framed_from more) count input step).frames
frames_step more next count input fits End is = tt
frames_step more next count input fits Truncated is = tt
frames_step more next count input fits (Length size) is = tt
frames_step more next count input fits Many is = tt
frames_step more next count input fits (Frame frame rest) is =
    let parts = frame_bytes count input frame rest fits is in
    (parts.0, next rest parts.1)

frames_from_fit : (more : ℕ) (input : List ℕ) → IsBytes input
    → AreBytes (framed_from more input).frames
unfolding framed_from
frames_from_fit zero input fits = tt
frames_from_fit (suc more) input fits = frames_step more (frames_from_fit more)
    (MAX_FRAMES - more) input fits (frame_step (MAX_FRAMES - more) input) refl

-- ---- one proof

answers_hold : (file : List BlockRoot) (bytes : List ℕ) → IsBytes bytes
    → (verdict : Result LightAnswer LightReject) → light_verdict file bytes ≡ verdict
    → IfOk verdict (AnswersByFile file bytes)
answers_hold file bytes fits (Ok found) is = light_answers_are_of_replays file bytes found fits is
answers_hold file bytes fits (Err reject) is = tt

proof_told : (file : List BlockRoot) (index : ℕ) (bytes : List ℕ) → IsBytes bytes
    → IsProofTold file index bytes (proof_lines index (light_verdict file bytes))
proof_told file index bytes fits = (
  light_verdict file bytes,
  verdict_holds file bytes fits,
  answers_hold file bytes fits (light_verdict file bytes) refl,
  refl,
)

-- ---- all proofs

proofs_told : (file : List BlockRoot) (end : FoldEnd) (index : ℕ) (proofs : List (List ℕ))
    → AreBytes proofs
    → AreProofsTold file end index proofs (all_proof_lines file index proofs ++ refused_lines end)
proofs_told file end index [] fits = refl
proofs_told file end index (proof ∷ proofs) fits =
    let own = proof_lines index (light_verdict file proof) in
    let more = all_proof_lines file (index + 1) proofs in (
      own,
      more ++ refused_lines end,
      append_assoc own more (refused_lines end),
      proof_told file index proof fits.0,
      proofs_told file end (index + 1) proofs fits.1,
    )

-- what follows the light file in bytes is bytes
rest_fits : (input : List ℕ) (file : List BlockRoot) (rest : List ℕ) → IsBytes input
    → light_in input ≡ Some (file, rest) → IsBytes rest
rest_fits input file rest fits is =
    let written : input ≡ light_bytes file ++ rest =
    (read_files_are_written input file rest fits is).0 in
    IsBytes-after (light_bytes file) rest (subst IsBytes written fits)

pub light_answers_hold : (input : List ℕ) → LightAnswersHold input
light_answers_hold input file rest fits is =
    let end : FoldEnd = (framed rest).end in
    let told = proofs_told file end 0 (framed rest).frames
    (frames_from_fit (MAX_FRAMES + 1) rest (rest_fits input file rest fits is)) in (
      all_proof_lines file 0 (framed rest).frames ++ refused_lines end,
      ap (λ (o : Option (List BlockRoot × List ℕ)). map plain (light_outcome o).pieces) is,
      told,
    )

-- ---- `light make`

-- the texts of lines that promise nothing
plain_texts : (pieces : List (List ℕ)) → map (λ (line : Line). line.text) (map plain pieces)
    ≡ pieces
plain_texts [] = refl
plain_texts (piece ∷ pieces) = ap (λ (l : List (List ℕ)). piece ∷ l) (plain_texts pieces)

concat_map : (f : ℕ → List ℕ) (indices : List ℕ) → concat (map f indices) ≡ flat_map f indices
concat_map f [] = refl
concat_map f (index ∷ indices) = ap (λ (rest : List ℕ). f index ++ rest) (concat_map f indices)

-- so many pieces have room for so many blocks
enough_pieces : (blocks : ℕ) → blocks ≤ BLOCKS_PER_PIECE * div_ceil blocks BLOCKS_PER_PIECE
enough_pieces blocks =
    let room = (div_ceil_times blocks BLOCKS_PER_PIECE (omega arith)).0 in omega (arith, room)

printed_whole : (compile : Compiler) (blocks : List Block) (input : List ℕ)
    → told_bytes (make_light_output compile input blocks)
    ≡ light_bytes (light_file_of compile blocks)
printed_whole compile blocks input =
    let rows : List Row = (replay compile blocks).rows in
    let digests : List Digest = map digest_of blocks in
    let count : ℕ = div_ceil (length digests) BLOCKS_PER_PIECE in
    ap concat (plain_texts (light_pieces rows digests))
    ∙ ap (λ (rest : List ℕ). head_bytes (length digests) ++ rest)
    (concat_map (λ index. piece_bytes rows digests (BLOCKS_PER_PIECE * index))
    (range_with_len 0 count))
    ∙ pieces_make_the_file rows digests count (enough_pieces (length digests))

-- ---- the file of a chain

file_of_chain : (compile : Compiler) (blocks : List Block) → IsCompiler compile
    → IsLawfulChain compile blocks → IsFileOfChain compile blocks (light_file_of compile blocks)
file_of_chain compile blocks right chain =
    let rows : List Row = (replay compile blocks).rows in
    let digests : List Digest = map digest_of blocks in
    let P = λ (at : ℕ) (found : Option BlockRoot). MatchOption found (length digests ≤ at)
    (λ (block_root : BlockRoot). (slice_get digests at ≡ Some block_root.digest)
    × (block_root.root.0 ≡ root_of rows digests at)) in
    record {
      right = right;
      chain = chain;
      file_is = record {
        few = omega (arith, length-block_roots_of rows digests);
        digests_are = λ at block_root there.
            (subst (P at) there (block_roots_are_of_their_blocks rows digests at)).0;
        roots_are = λ at block_root there.
            sym (subst (P at) there (block_roots_are_of_their_blocks rows digests at)).1;
      };
    }

pub made_light_files_are_whole : MadeLightFilesAreWhole
made_light_files_are_whole compile blocks input = record {
  printed = printed_whole compile blocks input;
  of_chain = file_of_chain compile blocks;
  accepts = λ right chain block query below key early.
      made_proofs_are_accepted_by_files compile blocks (light_file_of compile blocks) block query
      (file_of_chain compile blocks right chain)
      (omega (
        arith,
        below,
        length-block_roots_of (replay compile blocks).rows (map digest_of blocks),
        length-map blocks digest_of,
      ))
      key early;
}
