-- What is returned for bytes follows from the verdict on the proof that they spell.
use Rattle.std.proofs.Common.{◌≡◌, ◌∙◌, ℕ, ◌<◌, ◌^◌, List, Option, Result, Ok, Err}
use Rattle.std.proofs.Common.{IfOk, IfErr, IfSome, IsSomeAnd, sym, ap, subst}
use Rattle.std.specs.Prelude.{IsOk}
use Rattle.lc_base.specs.Answers.{Answers}
use Rattle.lc_base.specs.declared.digest.Digest.{Digest}
use Rattle.lc_base.specs.declared.row.Row.{Row}
use Rattle.proof_codec.specs.declared.proof_view.ViewError.{ViewError}
use Rattle.proof_codec.specs.declared.proof_view.ViewError.TheVariants.{Malformed}
use Rattle.proof_codec.specs.Viewing.{told_at}
use Rattle.proof_verifier.specs.proof_checks.declared.reject.Reject.{Reject}
use Rattle.proof_verifier.specs.proof_checks.Checks.{verdict}
use Rattle.root_laws.specs.Root.{root_of}
use Rattle.root_laws.specs.TypedLedger.{IsTypedHistory}
use Rattle.root_laws.specs.declared.trace.Trace.{Trace}
use Rattle.proof_verifier.specs.proof_checks.declared.trace_proof.TraceProof.{TraceProof}
use Rattle.proof_verifier.specs.proof_checks.declared.trace_reject.TraceReject.{TraceReject}
use Rattle.proof_verifier.specs.proof_checks.TraceChecks.{start_query, trace_verdict}
use Rattle.proof_verifier.specs.proof_checks.TraceTexts.{IsTraceProof, trace_texts}
use Rattle.proof_verifier.specs.proof_checks.TraceSoundness.{TracesOrClashes}
use Rattle.proof_verifier.proofs.proof_checks.TraceSound.{trace_is_sound}
use Rattle.trace_verifier.specs.declared.error.TraceError.{TraceError}
use Rattle.trace_verifier.specs.declared.error.TraceError.TheVariants.{Rejected}
use Rattle.trace_verifier.specs.Errors.{fault_told}
use Rattle.trace_verifier.specs.Reading.{trace_in}
use Rattle.trace_verifier.specs.Verdicts.{fault_of_view, malformed_at, verdict_of_read}
use Rattle.trace_verifier.specs.Verdicts.{trace_verdict_on}
use Rattle.trace_verifier.specs.Wanting.{Wants, MayRunOut}

abbrev read : TraceProof → Result TraceProof ViewError
read trace = Ok trace

abbrev refused : TraceReject → Result (Option Trace) TraceReject
refused fault = Err fault

-- The proof that was read is the one that the bytes spell.
pub read_is : (view given : TraceProof) → Ok view ≡ read given → view ≡ given
read_is view given e = cc

module _ (root key : List ℕ) (at : ℕ) (bytes : List ℕ) where
  pub read_exact : (trace : TraceProof) (result : Result (Option Trace) TraceError)
      → trace_in bytes ≡ Ok trace
      → Answers (λ shown. shown) fault_told result (trace_verdict root key at trace)
      → Answers (λ shown. shown) fault_told result (trace_verdict_on root key at bytes)
  unfolding trace_verdict_on
  read_exact trace result is told =
      let shows = λ (r : Result TraceProof ℕ).
      Answers (λ shown. shown) fault_told result (verdict_of_read root key at r) in
      subst shows (sym is) told

  pub read_spelled : (view given : TraceProof) (result : Result (Option Trace) TraceError)
      → Ok view ≡ read given
      → Answers (λ shown. shown) fault_told result (trace_verdict root key at view)
      → Answers (λ shown. shown) fault_told result (trace_verdict root key at given)
  read_spelled view given result same told =
      let shows = λ (trace : TraceProof).
      Answers (λ shown. shown) fault_told result (trace_verdict root key at trace) in
      subst shows (read_is view given same) told

  pub read_start : (view given : TraceProof) (P : Reject → Type 0) → Ok view ≡ read given
      → IfErr (verdict root (start_query key at) view.start) P
      → IfErr (verdict root (start_query key at) given.start) P
  read_start view given P same told =
      let fails = λ (trace : TraceProof).
      IfErr (verdict root (start_query key at) trace.start) P in
      subst fails (read_is view given same) told

  pub read_refused : (view given : TraceProof) (result : Result (Option Trace) TraceError)
      → Ok view ≡ read given
      → IfErr result (MayRunOut (Wants view) (IsOk (trace_verdict root key at view)))
      → IfErr result (MayRunOut (Wants given) (IsOk (trace_verdict root key at given)))
  read_refused view given result same told =
      let may = λ (trace : TraceProof).
      IfErr result (MayRunOut (Wants trace) (IsOk (trace_verdict root key at trace))) in
      subst may (read_is view given same) told

  pub read_sound : (given : TraceProof) (result : Result (Option Trace) TraceError)
      → IsTraceProof given
      → Answers (λ shown. shown) fault_told result (trace_verdict root key at given)
      → (rows : List Row) (digests : List Digest) (block : ℕ) → IsTypedHistory rows
      → block < 2 ^ 32 → root_of rows digests block ≡ root
      → IfOk result (λ shown. TracesOrClashes rows digests block key at (trace_texts given) shown)
  read_sound given (Ok shown) is told rows digests block history fits root_is =
      trace_is_sound root key at given shown is told rows digests block history fits root_is
  read_sound given (Err error) is told rows digests block history fits root_is = tt

  pub unread_exact : (error : ViewError) (fault : TraceReject) → fault ≡ fault_of_view error
      → IfSome (told_at error) (λ offset. trace_in bytes ≡ Err offset)
      → trace_verdict_on root key at bytes ≡ Err fault
  unfolding trace_verdict_on
  unread_exact (Malformed offset) fault same is =
      ap (verdict_of_read root key at) is ∙ ap refused (sym same)

pub unread_malformed : (P : ℕ → Type 0) (error : ViewError) (fault : TraceReject)
    → fault ≡ fault_of_view error → IfSome (told_at error) P
    → IsSomeAnd (malformed_at (Rejected fault)) P
unread_malformed P (Malformed offset) fault same is = rw same is
