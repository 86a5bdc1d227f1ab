-- What the lines of frames promise: the chain after a frame has the block of its line.
use Rattle.std.proofs.Common.{◌≡◌, ℕ, ◌<◌, Bool, List, [], ◌∷◌, ◌++◌, length, map, get_or, refl}
use Rattle.std.proofs.Common.{sym, ◌∙◌, ap, subst, arith, append-nil, append_assoc}
use Rattle.std.specs.Prelude.{Some, Result, Ok, Err, slice_get}
use Rattle.std.proofs.lemmas.Grind.{flat_map-append}
use Rattle.std.proofs.lemmas.List.{length-map, length-append, get_or_push}
use Rattle.std.proofs.lemmas.Option.{slice_get_within, slice_get-get_or}
use Rattle.block_codec.specs.Placement.{digest_of, last_digest}
use Rattle.block_codec.specs.declared.block.Block.{Block}
use Rattle.block_codec.specs.declared.placement.Placement.{Placement}
use Rattle.block_codec.specs.declared.placement.Placement.TheVariants as placements
use Rattle.block_codec.proofs.Placements.{known_is_held, next_has_passed}
use Rattle.block_log.specs.Standing.{Logged, with_blocks}
use Rattle.chain_exec.specs.Compiled.{compiled_in}
use Rattle.chain_exec.specs.Replay.{replay}
use Rattle.cli_promises.specs.recovery.Node.{stored_placement}
use Rattle.chain_replay.specs.Judging.{Taken, Known, Added, judgement_of}
use Rattle.chain_replay.specs.Judging.{judged_by_placement, added_by, added_by_all}
use Rattle.cli_promises.specs.Promises.{Line}
use Rattle.cli_promises.proofs.Sure.{IsSure}
use Rattle.cli_promises.specs.Appending.{line_of, lines_of}

-- ---- the line of a frame

sure_at : (marked : Bool) (blocks : List Block) (block : Block) (at : Placement) (frame : Taken)
    → stored_placement marked blocks block ≡ at → judged_by_placement block at ≡ Ok frame
    → IsSure (record { blocks = blocks ++ added_by frame; marked = marked })
    (line_of compiled_in blocks frame).promise
sure_at marked blocks block placements.Known (Known b) is e =
    let same : block ≡ b = cc e in
    let digests = map digest_of blocks in
    let have = known_is_held marked (length blocks) (length (replay compiled_in blocks).rows)
    (slice_get digests block.number) (last_digest digests) block (digest_of block) is in
    let within : block.number < length blocks = subst (λ (n : ℕ). block.number < n)
    (length-map blocks digest_of) (slice_get_within (map digest_of blocks) block.number have.0
    have.1) in
    let there : slice_get blocks block.number ≡ Some (get_or blocks block.number block) =
    slice_get-get_or blocks block.number block within in
    subst (λ (x : Block). slice_get (blocks ++ []) x.number ≡ Some (get_or blocks x.number x)) same
    (ap (λ (l : List Block). slice_get l block.number) (append-nil blocks) ∙ there)
sure_at marked blocks block placements.Known (Added b) is e = absurd (cc e)
sure_at marked blocks block placements.Next (Known b) is e = absurd (cc e)
sure_at marked blocks block placements.Next (Added b) is e =
    let same : block ≡ b = cc e in
    let digests = map digest_of blocks in
    let number : block.number ≡ length blocks =
    (next_has_passed marked (length blocks) (length (replay compiled_in blocks).rows)
    (slice_get digests block.number) (last_digest digests) block (digest_of block) is).number in
    let there : get_or (blocks ++ block ∷ []) block.number block ≡ block = get_or_push blocks block
    block block.number (sym number) in
    subst (λ (x : Block). slice_get (blocks ++ x ∷ []) x.number ≡ Some x) same
    (slice_get-get_or (blocks ++ block ∷ []) block.number block
    (omega (arith, number, length-append blocks (block ∷ []))) ∙ ap Some there)
sure_at marked blocks block (placements.Not why) frame is e = absurd (cc e)

-- the chain after a frame has what the frame's line promises
pub line_sure : (logged : Logged) (spelled : Result Block ℕ) (frame : Taken)
    → judgement_of (stored_placement logged.marked) logged.blocks spelled ≡ Ok frame
    → IsSure (with_blocks logged (added_by frame)) (line_of compiled_in logged.blocks frame).promise
line_sure logged (Ok block) frame is =
    sure_at logged.marked logged.blocks block (stored_placement logged.marked logged.blocks block)
    frame refl is
line_sure logged (Err offset) frame is = absurd (cc is)

-- ---- the lines of several frames

-- the blocks that frames add, one after another
pub added_append : (a b : List Taken) → added_by_all (a ++ b) ≡ added_by_all a ++ added_by_all b
added_append a b = flat_map-append added_by a b

pub added_push : (taken : List Taken) (frame : Taken) → added_by_all (taken ++ frame ∷ [])
    ≡ added_by_all taken ++ added_by frame
added_push taken frame = added_append taken (frame ∷ []) ∙ ap (λ (blocks : List Block). added_by_all
    taken ++ blocks) (append-nil (added_by frame))

-- the lines of frames, and of others after them
pub lines_append : (blocks : List Block) (a b : List Taken) → lines_of compiled_in blocks (a ++ b)
    ≡ lines_of compiled_in blocks a ++ lines_of compiled_in (blocks ++ added_by_all a) b
lines_append blocks [] b = ap (λ (l : List Block). lines_of compiled_in l b)
    (sym (append-nil blocks))
lines_append blocks (frame ∷ a) b =
    ap (λ (l : List Line). line_of compiled_in blocks frame ∷ l)
    (lines_append (blocks ++ added_by frame) a b ∙ ap (λ (l : List Block). lines_of compiled_in
    (blocks ++ added_by frame) a ++ lines_of compiled_in l b)
    (append_assoc blocks (added_by frame) (added_by_all a)))
