-- What a light file accepts answers as replays do, as replayed chains are typed ledgers.
use Rattle.std.proofs.Common.{◌≡◌, ◌∙◌, ◌<◌, ℕ, length, map, sym, ap, subst}
use Rattle.std.proofs.lemmas.Option.{slice_get_within}
use Rattle.block_codec.specs.Placement.{digest_of}
use Rattle.chain_input.specs.chain_exec.Replay.{replay}
use Rattle.replay_soundness.proofs.TypedChains.{replays_are_typed}
use Rattle.light_client.specs.Checking.{LightAnswer}
use Rattle.light_client.proofs.Judged.{accepted_only}
use Rattle.light_client.proofs.Verdicts.{verdict_is, accepted_is_spelled, accepted_is_sound}
use Rattle.replay_soundness.specs.LightSoundness.{LightAnswersAreOfReplays}

pub light_answers_are_of_replays : LightAnswersAreOfReplays
light_answers_are_of_replays file bytes found fits is =
    let (given, spelled) = accepted_is_spelled file bytes found fits is in
    let judged = sym (verdict_is file bytes given spelled) ∙ is in
    let accept = accepted_only file given found judged in
    let root_at : found.root_at ≡ given.leaf_proof.root_at =
    ap (λ (f : LightAnswer). f.root_at) accept.found_is in
    record {
      given = given;
      spelled = spelled;
      query_is = ap (λ (f : LightAnswer). f.query) accept.found_is;
      root_at_is = root_at;
      known = subst (λ (at : ℕ). at < length file) (sym root_at)
          (slice_get_within file given.leaf_proof.root_at accept.block_root accept.has.known);
      sound = λ compile blocks has.
          accepted_is_sound file given found spelled.lawful judged (replay compile blocks).rows
          (map digest_of blocks) (replays_are_typed compile blocks (has.right, has.chain)).history
          has.file_is;
    }
