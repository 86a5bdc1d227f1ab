-- What a reader has read, as its fields show it.
use Rattle.std.proofs.Common.{◌≡◌, ℕ, Bool, true, List, [], sym, ◌∙◌, ap, subst}
use Rattle.std.specs.Prelude.{Option, Some, MatchBool}
use Rattle.block_log.specs.declared.layout.Stored.{Stored}
use Rattle.block_log.specs.Standing.{Holds, standing}
use Rattle.block_log.specs.Log.{LogState, AgreesWithBlocks, AgreesWithBlank, next_in_log}
use Rattle.block_log.specs.Ahead.{ReaderState}
use Rattle.block_log.specs.Reader.{AreRead, AreReadTo, AreAll, log_at, reader_at}

-- `log` is the reader's log as its fields show it, `seen` as contracts see it.
module _ (log seen : LogState) (same : log ≡ seen) where
  pub read_as : (ahead : List ℕ) (reader : ReaderState) (old new : Option (List ℕ)) (stored : List Stored) → reader_at seen.gate seen.count seen.last seen.is_marked ahead ≡ reader → new ≡ old → AreRead reader old stored
      → AreRead (reader_at log.gate log.count log.last log.is_marked ahead) new stored
  read_as ahead reader old new stored is still read =
      let reader_is : reader_at log.gate log.count log.last log.is_marked ahead ≡ reader = ap (λ (l : LogState). reader_at l.gate l.count l.last l.is_marked ahead) same ∙ is in
      subst (λ (content : Option (List ℕ)). AreRead (reader_at log.gate log.count log.last log.is_marked ahead) content stored) (sym still)
      (subst (λ (r : ReaderState). AreRead r old stored) (sym reader_is) read)

  -- At the end these are all blocks.
  pub all_read : (content : Option (List ℕ)) (stored : List Stored) → seen.is_ready ≡ true
      → AreReadTo (log_at log.gate log.count log.last log.is_marked) content stored
      → ((image : List ℕ) → content ≡ Some image → standing next_in_log image ≡ Holds stored log.is_marked log.gate) → AreAll log content stored
  all_read content stored seen_ready read holds =
      let ready : log.is_ready ≡ true = ap (λ (l : LogState). l.is_ready) same ∙ seen_ready in
      record {
        are_stored = read.are_stored;
        held = record { count_is = read.held.count_is; last_is = read.held.last_is; fits = read.held.fits; headless = λ is. absurd (cc (sym ready ∙ is)) };
        started = λ image told.
            let agrees : AgreesWithBlocks log image = record { stored = stored; stands = holds image told; count_is = read.held.count_is; last_is = read.held.last_is } in (
              subst (λ (b : Bool). MatchBool b (AgreesWithBlocks log image) (AgreesWithBlank log image)) (sym ready) agrees,
              subst (λ (b : Bool). MatchBool b (standing next_in_log image ≡ Holds stored log.is_marked log.gate) (stored ≡ [])) (sym ready) (holds image told),
            );
      }
