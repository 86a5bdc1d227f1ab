-- For an input of bytes and a disk of bytes, a command has exactly one output.
use Rattle.std.proofs.Common.{◌≡◌, ℕ, zero, suc, ◌+◌, ◌-◌, ◌<◌, ◌≤◌, Bool, true, false, cond, eqb}
use Rattle.std.proofs.Common.{List, [], ◌∷◌, ◌++◌, length, take, drop, Option, Some}
use Rattle.std.proofs.Common.{None, Result, Ok, Err, refl, sym, ap, ◌∙◌, inl, inr, subst, arith}
use Rattle.std.specs.Int.{w32, from_be_bytes}
use Rattle.std.proofs.lemmas.Bool.{cases_lt}
use Rattle.byte_fields.specs.Spelling.{IsBytes}
use Rattle.byte_fields.proofs.Pieces.{IsBytes-drop, IsBytes-take}
use Rattle.block_codec.specs.declared.limits.TheConstants.{MAX_FRAMES}
use Rattle.block_codec.specs.Placement.{digest_of}
use Rattle.block_codec.specs.declared.placement.Placement.{Placement}
use Rattle.block_log.specs.declared.layout.TheConstants.{OPEN_GATE, FIRST_GATE, MAX_RECORDS}
use Rattle.block_log.specs.declared.layout.Stored.{Stored}
use Rattle.block_log.specs.Standing.{Standing, Blank, NotALog, Damaged, Holds, Placer, next_decoded}
use Rattle.block_log.specs.Standing.{Logged, nothing_logged, next_block, blocks_in, after_record}
use Rattle.block_log.specs.Standing.{is_mark, is_sized, record_at, records_at}
use Rattle.block_log.specs.Standing.{is_log, is_blank, standing}
use Rattle.chain_replay.specs.Chain.{placement_in, placement_by_mark}
use Rattle.block_codec.specs.declared.block.Block.{Block}
use Rattle.block_codec.specs.Frames.{FrameStep, End, Truncated, Length, Many, Frame, frame_step}
use Rattle.block_codec.specs.Reading.{block_in}
use Rattle.block_codec.specs.Spelling.{Decoder, IsDecoder}
use Rattle.block_codec.proofs.Decoders.{decoders_agree}
use Rattle.block_codec.proofs.WholeBlocks.{decided}
use Rattle.contract_parse.specs.Syntax.{Outcome as SourceOutcome, IsOutcome}
use Rattle.contract_parse.proofs.Outcomes.{some_outcome, one_outcome}
use Rattle.cli_words.specs.declared.question.Question.{Question}
use Rattle.block_codec.proofs.FrameBytes.{frame_bytes}
use Rattle.cli_output.specs.proof_commands.Verifying.{verification}
use Rattle.cli_output.specs.proof_commands.declared.verification.Verification.{Verification}
use Rattle.cli_output.proofs.proof_commands.Verified.{is_verification, one_verification}
use Rattle.cli_lines.specs.declared.whole.TheConstants.{MAX_WHOLE_INPUT_BYTES}
use Rattle.chain_exec.specs.Compiled.{Compiler, compiled_in}
use Rattle.chain_exec.specs.Laws.{OneCompiler}
use Rattle.chain_exec.proofs.TheLaws.{one_compiler}
use Rattle.chain_replay.specs.Judging.{Taken, judgement_of, added_by}
use Rattle.chain_replay.specs.declared.refusal.Refusal.{Refusal}
use Rattle.chain_input.specs.Folding.{Fold, taken_before, fold_after_frame, fold_step, fold_from}
use Rattle.chain_input.specs.Folding.{fold_input}
use Rattle.cli_output.specs.Output.{make_light_output, light_output}
use Rattle.cli_output.specs.Output.{Output, output_of, scan_output, usage_output, long_output}
use Rattle.cli_output.specs.Output.{pack_output, version_number, gen_output, load_output}
use Rattle.cli_output.specs.Output.{append_output, append_to, follow_to, upgrade_output}
use Rattle.cli_output.specs.Output.{root_output, ask_output, prove_output, on_log, next_by}
use Rattle.cli_output.specs.Output.{edition_number, source_outcome, IsFmtOutput, Long, Source}
use Rattle.cli_output.specs.Output.{IsVerifyOutput}
use Rattle.cli_output.specs.Output.{LongProof, Verified, IsExposeOutput, IsOnLog, Wants, IsWanted}
use Rattle.cli_output.specs.Output.{IsOneOutput}
use Rattle.cli_output.specs.Proofs.{verification_outcome}
use Rattle.cli_output.proofs.Exposed.{some_expose, one_expose}
use Rattle.cli_output.proofs.Meets.{some_on_log, one_on_log}
use Rattle.cli_words.specs.declared.words.Command.{Command}
use Rattle.cli_words.specs.declared.words.Command.TheVariants.{Scan, Fmt, Pack, Gen, Load, Append}
use Rattle.cli_words.specs.declared.words.Command.TheVariants.{Follow, Upgrade}
use Rattle.cli_words.specs.declared.words.Command.TheVariants.{Root, Ask, Prove, Verify, Expose}
use Rattle.cli_words.specs.declared.words.Command.TheVariants.{MakeLight, Light}

-- ---- the fold, by two decoders that are right

next_same : (f g : List Block → List ℕ → Fold)
    → ((blocks : List Block) (input : List ℕ) → IsBytes input → f blocks input ≡ g blocks input)
    → (taken : ℕ) (blocks : List Block) (rest : List ℕ) → IsBytes rest → (r : Result Taken Refusal)
    → fold_after_frame f taken blocks rest r ≡ fold_after_frame g taken blocks rest r
next_same f g same taken blocks rest fits (Ok frame) = ap (taken_before (frame ∷ [])) (same (blocks ++ added_by frame) rest fits)
next_same f g same taken blocks rest fits (Err refusal) = refl

module _ (place : List Block → Block → Placement) (a b : Decoder) (is_a : IsDecoder a) (is_b : IsDecoder b) where
  step_same : (f g : List Block → List ℕ → Fold)
      → ((blocks : List Block) (input : List ℕ) → IsBytes input → f blocks input ≡ g blocks input)
      → (taken : ℕ) (blocks : List Block) (input : List ℕ) → IsBytes input
      → (step : FrameStep) → frame_step taken input ≡ step
      → fold_step a place f taken blocks input step ≡ fold_step b place g taken blocks input step
  step_same f g same taken blocks input fits End e = refl
  step_same f g same taken blocks input fits Truncated e = refl
  step_same f g same taken blocks input fits (Length count) e = refl
  step_same f g same taken blocks input fits Many e = refl
  step_same f g same taken blocks input fits (Frame frame rest) e =
      let bytes = frame_bytes taken input frame rest fits e in
      ap (λ (r : Result Block ℕ). fold_after_frame f taken blocks rest (judgement_of place blocks r)) (decoders_agree a b is_a is_b frame bytes.0)
      ∙ next_same f g same taken blocks rest bytes.1 (judgement_of place blocks (b frame))

  fold_same : (more : ℕ) (blocks : List Block) (input : List ℕ) → IsBytes input
      → fold_from a place more blocks input ≡ fold_from b place more blocks input
  unfolding fold_from
  fold_same zero blocks input fits = refl
  fold_same (suc more) blocks input fits =
      step_same (fold_from a place more) (fold_from b place more) (fold_same more) (MAX_FRAMES - more) blocks input fits (frame_step (MAX_FRAMES - more) input) refl

-- ---- the records of a log, by two decoders that are right

after_same : (f g : ℕ → List Stored → List ℕ → Standing)
    → ((gate : ℕ) (stored : List Stored) (bytes : List ℕ) → IsBytes bytes → f gate stored bytes ≡ g gate stored bytes)
    → (gate size : ℕ) (stored : List Stored) (rest : List ℕ) (block : Option Block) → IsBytes rest
    → after_record f gate size stored rest block ≡ after_record g gate size stored rest block
after_same f g same gate size stored rest None fits = refl
after_same f g same gate size stored rest (Some block) fits = same (gate + 5 + size) (stored ++ record { place = gate; digest = digest_of block; block = block } ∷ []) rest fits

either : {A : Type 0} (b : Bool) (x y z : A) → x ≡ y → cond b x z ≡ cond b y z
either true x y z same = same
either false x y z same = refl

both : {A : Type 0} (b : Bool) (x y v w : A) → x ≡ y → v ≡ w → cond b x v ≡ cond b y w
both true x y v w same other = same
both false x y v w same other = other

module _ (place : Placer) (a b : Decoder) (is_a : IsDecoder a) (is_b : IsDecoder b) where
  next_block_same : (marked : Bool) (blocks : List Block) (bytes : List ℕ) → IsBytes bytes
      → next_block a place marked blocks bytes ≡ next_block b place marked blocks bytes
  next_block_same marked blocks bytes fits = ap (next_decoded place marked blocks) (decoders_agree a b is_a is_b bytes fits)

  record_same : (f g : Bool → ℕ → List Stored → List ℕ → Standing)
      → ((marked : Bool) (gate : ℕ) (stored : List Stored) (bytes : List ℕ) → IsBytes bytes → f marked gate stored bytes ≡ g marked gate stored bytes)
      → (marked : Bool) (gate size : ℕ) (stored : List Stored) (bytes : List ℕ) → IsBytes bytes
      → record_at (next_block a place) f marked gate size stored bytes ≡ record_at (next_block b place) g marked gate size stored bytes
  record_same f g same marked gate size stored bytes fits =
      both (is_mark marked size bytes) _ _ _ _ (same true (gate + 5) stored bytes fits)
      (either (is_sized size bytes) _ _ (Damaged stored gate)
      (ap (after_record (f marked) gate size stored (drop size bytes)) (next_block_same marked (blocks_in stored) (take size bytes) (IsBytes-take size bytes fits))
      ∙ after_same (f marked) (g marked) (same marked) gate size stored (drop size bytes) (next_block b place marked (blocks_in stored) (take size bytes)) (IsBytes-drop size bytes fits)))

  records_same : (count : ℕ) (marked : Bool) (gate : ℕ) (stored : List Stored) (bytes : List ℕ)
      → IsBytes bytes
      → records_at (next_block a place) count marked gate stored bytes ≡ records_at (next_block b place) count marked gate stored bytes
  unfolding records_at
  records_same zero marked gate stored bytes fits = refl
  records_same (suc count) marked gate stored [] fits = refl
  records_same (suc count) marked gate stored (byte ∷ bytes) fits =
      let rest : IsBytes bytes = IsBytes-drop 1 (byte ∷ bytes) fits in
      either (eqb byte OPEN_GATE) _ _ (Holds stored marked gate)
      (record_same (records_at (next_block a place) count) (records_at (next_block b place) count) (records_same count) marked gate (from_be_bytes w32 (take 4 bytes)) stored (drop 4 bytes) (IsBytes-drop 4 bytes rest))

  standing_same : (image : List ℕ) → IsBytes image
      → standing (next_block a place) image ≡ standing (next_block b place) image
  unfolding standing
  standing_same image fits = either (is_log image) _ _ (cond (is_blank image) Blank NotALog) (records_same (MAX_RECORDS + 1) false FIRST_GATE [] (drop FIRST_GATE image) (IsBytes-drop FIRST_GATE image fits))

-- ---- there is an output

some_fmt : (edition : ℕ) (input : List ℕ) → (output : Output) × IsFmtOutput edition input output
some_fmt edition input =
    elim (cases_lt MAX_WHOLE_INPUT_BYTES (length input)) [
      | inl long ↦ (long_output input, Long long)
      | inr fits ↦ let found = some_outcome edition input in (output_of (source_outcome found.0) [], Source fits found.0 found.1)
    ]

some_verify : (root : List ℕ) (question : Question) (input : List ℕ)
    → (output : Output) × IsVerifyOutput root question input output
some_verify root question input =
    elim (cases_lt MAX_WHOLE_INPUT_BYTES (length input)) [
      | inl long ↦ (long_output input, LongProof long)
      | inr fits ↦
          let found = verification root question input in (
            output_of (verification_outcome found) [],
            Verified fits found (is_verification root question input),
          )
    ]

-- the output of a command over the log, by a decoder and a compiler
abbrev over_by : Decoder → Compiler → (Compiler → Logged → Output) → List ℕ → List ℕ → Output
over_by read compile over input content = on_log (over compile) input
    (standing (next_by read compile) content)

-- that of a question over its blocks
abbrev asked_by : Decoder → Compiler → (Compiler → List Block → Output) → List ℕ → List ℕ → Output
asked_by read compile wanted input content =
    over_by read compile (λ c logged. wanted c logged.blocks) input content

-- the same by those of the program
abbrev over_log : (Compiler → Logged → Output) → List ℕ → List ℕ → Output
over_log over input content = over_by block_in compiled_in over input content

abbrev asked : (Compiler → List Block → Output) → List ℕ → List ℕ → Output
asked wanted input content = asked_by block_in compiled_in wanted input content

-- a command, or words that are none, has an output
pub some_output : (command : Option Command) (input content : List ℕ)
    → (output : Output) × Wants block_in compiled_in command input content output
some_output None input content = (usage_output input, refl)
some_output (Some (Scan query)) input content = (scan_output compiled_in query (fold_input block_in (placement_in compiled_in) input), refl)
some_output (Some (Fmt edition)) input content = some_fmt (edition_number edition) input
some_output (Some (Pack version)) input content = (pack_output (version_number version) input, refl)
some_output (Some (Gen generation)) input content = (gen_output generation input, refl)
some_output (Some (Load generation)) input content = (load_output compiled_in generation input, refl)
some_output (Some Append) input content =
    (over_log (λ c. append_to block_in c input) input content, refl)
some_output (Some Follow) input content = (over_log (λ c. follow_to c input) input content, refl)
some_output (Some Upgrade) input content =
    (over_log (λ c. upgrade_output input) input content, refl)
some_output (Some (Root at)) input content =
    (asked (λ c blocks. root_output c at input blocks) input content, refl)
some_output (Some (Ask question)) input content =
    (asked (λ c blocks. ask_output c question input blocks) input content, refl)
some_output (Some (Prove question root_at)) input content =
    (asked (λ c blocks. prove_output c question root_at input blocks) input content, refl)
some_output (Some (Verify root question)) input content = some_verify root.0 question input
some_output (Some MakeLight) input content =
    (asked (λ c blocks. make_light_output c input blocks) input content, refl)
some_output (Some Light) input content = (light_output input, refl)
some_output (Some (Expose root query root_at)) input content =
    let over : Logged → Output = λ logged. (some_expose root.0 query input compiled_in root_at logged.blocks).0 in
    let stands : Standing = standing (next_by block_in compiled_in) content in
    (on_log over input stands, some_on_log (λ logged. IsExposeOutput compiled_in root.0 query root_at input logged.blocks) over (λ logged. (some_expose root.0 query input compiled_in root_at logged.blocks).1) input stands)

-- ---- and only one

on_log_same : (over other : Logged → Output) (input : List ℕ)
    → ((logged : Logged) → over logged ≡ other logged) → (stands : Standing)
    → on_log over input stands ≡ on_log other input stands
on_log_same over other input same Blank = same nothing_logged
on_log_same over other input same NotALog = refl
on_log_same over other input same (Damaged before at) = refl
on_log_same over other input same (Holds stored marked gate) = same (record { blocks = blocks_in stored; marked = marked })

only_long : (edition : ℕ) (input : List ℕ) → MAX_WHOLE_INPUT_BYTES < length input → (other : Output)
    → IsFmtOutput edition input other → other ≡ long_output input
only_long edition input long _ (Long _) = refl
only_long edition input long _ (Source fits outcome is) = absurd (omega (arith, long, fits))

only_source : (edition : ℕ) (input : List ℕ) (outcome : SourceOutcome)
    → length input ≤ MAX_WHOLE_INPUT_BYTES
    → IsOutcome edition input outcome → (other : Output) → IsFmtOutput edition input other
    → other ≡ output_of
    (source_outcome outcome) []
only_source edition input outcome fits is _ (Long long) = absurd (omega (arith, long, fits))
only_source edition input outcome fits is _ (Source _ found i) = ap (λ (o : SourceOutcome). output_of (source_outcome o) []) (one_outcome edition input found outcome i is)

only_fmt : (edition : ℕ) (input : List ℕ) (other : Output) → IsFmtOutput edition input other
    → other ≡ (some_fmt edition input).0
only_fmt edition input other is =
    elim (cases_lt MAX_WHOLE_INPUT_BYTES (length input)) [
      | inl long ↦ only_long edition input long other is ∙ sym (only_long edition input long (some_fmt edition input).0 (some_fmt edition input).1)
      | inr fits ↦
          let found = some_outcome edition input in
          only_source edition input found.0 fits found.1 other is ∙ sym (only_source edition input found.0 fits found.1 (some_fmt edition input).0 (some_fmt edition input).1)
    ]

only_verify : (root : List ℕ) (question : Question) (input : List ℕ) (a b : Output)
    → IsVerifyOutput root question input a → IsVerifyOutput root question input b → a ≡ b
only_verify root question input _ _ (LongProof _) (LongProof _) = refl
only_verify root question input _ _ (LongProof long) (Verified fits told is) =
    absurd (omega (arith, long, fits))
only_verify root question input _ _ (Verified fits told is) (LongProof long) =
    absurd (omega (arith, long, fits))
only_verify root question input _ _ (Verified _ told is) (Verified _ other i) =
    ap (λ (v : Verification). output_of (verification_outcome v) [])
    (one_verification root question input told other is i)

-- by any right decoder and compiler, the output of a command over the log is the same
same_over : (read : Decoder) (compile : Compiler) → IsDecoder read → compile ≡ compiled_in
    → (over : Compiler → Logged → Output) (input content : List ℕ) → IsBytes content
    → (other : Output) → other ≡ over_by read compile over input content
    → other ≡ over_log over input content
same_over read compile is_read compile_is over input content whole other is =
    is ∙ ap (λ (c : Compiler). over_by read c over input content) compile_is
    ∙ ap (on_log (over compiled_in) input)
    (standing_same (placement_by_mark compiled_in) read block_in is_read decided content whole)

-- and so is that of a question over its blocks
same_asked : (read : Decoder) (compile : Compiler) → IsDecoder read → compile ≡ compiled_in
    → (wanted : Compiler → List Block → Output) (input content : List ℕ) → IsBytes content
    → (other : Output) → other ≡ asked_by read compile wanted input content
    → other ≡ asked wanted input content
same_asked read compile is_read compile_is wanted =
    same_over read compile is_read compile_is (λ c logged. wanted c logged.blocks)

-- by any right decoder, the output for bytes is the same
same_output : (read : Decoder) (compile : Compiler) → IsDecoder read → compile ≡ compiled_in
    → (command : Option Command) (input content : List ℕ) → IsBytes input → IsBytes content
    → (other : Output) → Wants read compile command input content other
    → other ≡ (some_output command input content).0
unfolding some_output
same_output read compile is_read compile_is None input content fits whole other is = is
same_output read compile is_read compile_is (Some (Scan query)) input content fits whole other is =
    is
    ∙ ap (λ (c : Compiler). scan_output c query (fold_input read (placement_in c) input)) compile_is
    ∙ ap (scan_output compiled_in query) (fold_same (placement_in compiled_in) read block_in is_read decided (MAX_FRAMES + 1) [] input fits)
same_output read compile is_read compile_is (Some (Fmt edition)) input content fits whole other is = only_fmt (edition_number edition) input other is
same_output read compile is_read compile_is (Some (Pack version)) input content fits whole other is = is
same_output read compile is_read compile_is (Some (Gen generation)) input content fits whole other is = is
same_output read compile is_read compile_is (Some (Load generation)) input content fits whole other is = is ∙ ap (λ (c : Compiler). load_output c generation input) compile_is
same_output read compile is_read compile_is (Some Append) input content fits whole other is =
    same_over read compile is_read compile_is (λ c. append_to read c input) input content whole
    other is
    ∙ on_log_same (append_to read compiled_in input) (append_to block_in compiled_in input) input
    (λ logged. ap (append_output compiled_in logged.blocks) (fold_same (placement_by_mark compiled_in logged.marked) read block_in is_read decided (MAX_FRAMES + 1) logged.blocks input fits)) (standing (next_by block_in compiled_in) content)
same_output read compile is_read compile_is (Some Follow) input content fits whole other is =
    same_over read compile is_read compile_is (λ c. follow_to c input) input content whole other is
same_output read compile is_read compile_is (Some Upgrade) input content fits whole other is =
    same_over read compile is_read compile_is (λ c. upgrade_output input) input content whole other
    is
same_output read compile is_read compile_is (Some (Root at)) input content fits whole other is =
    same_asked read compile is_read compile_is (λ c blocks. root_output c at input blocks) input
    content whole other is
same_output read compile is_read compile_is (Some (Ask question)) input content fits whole other is =
    same_asked read compile is_read compile_is (λ c blocks. ask_output c question input blocks)
    input content whole other is
same_output read compile is_read compile_is (Some (Prove question root_at)) input content fits whole
    other is = same_asked read compile is_read compile_is
    (λ c blocks. prove_output c question root_at input blocks) input content whole other is
same_output read compile is_read compile_is (Some (Verify root question)) input content fits whole
    other is = only_verify root.0 question input other (some_verify root.0 question input).0 is
    (some_verify root.0 question input).1
same_output read compile is_read compile_is (Some MakeLight) input content fits whole other is =
    same_asked read compile is_read compile_is (λ c blocks. make_light_output c input blocks) input
    content whole other is
same_output read compile is_read compile_is (Some Light) input content fits whole other is = is
same_output read compile is_read compile_is (Some (Expose root query root_at)) input content fits whole other is =
    let some = some_output (Some (Expose root query root_at)) input content in
    let compiled : IsOnLog (λ logged. IsExposeOutput compiled_in root.0 query root_at input logged.blocks) input (standing (next_by read compiled_in) content) other =
    subst (λ (c : Compiler). IsOnLog (λ logged. IsExposeOutput c root.0 query root_at input logged.blocks) input (standing (next_by read c) content) other) compile_is is in
    let here : IsOnLog (λ logged. IsExposeOutput compiled_in root.0 query root_at input logged.blocks) input (standing (next_by block_in compiled_in) content) other =
    subst (λ (stands : Standing). IsOnLog (λ logged. IsExposeOutput compiled_in root.0 query root_at input logged.blocks) input stands other) (standing_same (placement_by_mark compiled_in) read block_in is_read decided content whole) compiled in
    one_on_log (λ logged. IsExposeOutput compiled_in root.0 query root_at input logged.blocks) (λ logged. one_expose root.0 query input compiled_in root_at logged.blocks) input (standing (next_by block_in compiled_in) content) other some.0 here some.1

-- the program's compiler is the right one, and the only one
pub compiled_by : OneCompiler
compiled_by = one_compiler

pub one_output : (command : Option Command) (input content : List ℕ) → IsBytes input
    → IsBytes content → IsOneOutput (IsWanted command input content)
one_output command input content fits whole = record {
  output = (some_output command input content).0;
  wanted = (block_in, decided, compiled_in, one_compiler.is_compiler, (some_output command input content).1);
  only = λ other is. same_output is.0 is.2 is.1 (one_compiler.only is.2 is.3) command input content fits whole other is.4;
}
