-- The lines of proofs, one proof after another.
use Rattle.std.proofs.Common.{◌≡◌, ℕ, suc, ◌+◌, Bool, true, false, List, [], ◌∷◌, ◌++◌, length}
use Rattle.std.proofs.Common.{refl}
use Rattle.std.proofs.Common.{sym, ap, ◌∙◌, arith, append_assoc, append-nil}
use Rattle.std.specs.Prelude.{◌||◌, is_err, Result, Ok, Err}
use Rattle.cli_output.specs.light_client.Checking.{LightAnswer, light_verdict}
use Rattle.cli_output.specs.light_client.declared.reject.LightReject.{LightReject}
use Rattle.cli_output.specs.light_client.declared.block_root.BlockRoot.{BlockRoot}
use Rattle.cli_output.specs.Lights.{proof_lines, all_proof_lines, rejects_one}
use Rattle.cli_proofs.specs.Checking.{IsJudged}

-- ---- one proof

pub accepted_judged : (index : ℕ) (verdict : Result LightAnswer LightReject) (found : LightAnswer)
    (lines : List (List ℕ)) → verdict ≡ Ok found → lines ≡ proof_lines index (Ok found)
    → IsJudged index verdict lines false
accepted_judged index verdict found lines is told = record {
  lines_are = told ∙ ap (proof_lines index) (sym is);
  rejected_is = ap is_err (sym is);
}

pub rejected_judged : (index : ℕ) (verdict : Result LightAnswer LightReject) (reject : LightReject)
    (lines : List (List ℕ)) → verdict ≡ Err reject → lines ≡ proof_lines index (Err reject)
    → IsJudged index verdict lines true
rejected_judged index verdict reject lines is told = record {
  lines_are = told ∙ ap (proof_lines index) (sym is);
  rejected_is = ap is_err (sym is);
}

-- ---- proofs, and others after them

pub lines_append : (file : List BlockRoot) (index : ℕ) (proofs others : List (List ℕ))
    → all_proof_lines file index (proofs ++ others)
    ≡ all_proof_lines file index proofs ++ all_proof_lines file (index + length proofs) others
lines_append file index [] others =
    let same : index ≡ index + 0 = omega arith in
    ap (λ (n : ℕ). all_proof_lines file n others) same
lines_append file index (proof ∷ proofs) others =
    let own = proof_lines index (light_verdict file proof) in
    let number : index + 1 + length proofs ≡ index + suc (length proofs) = omega arith in
    ap (λ (more : List (List ℕ)). own ++ more) (lines_append file (index + 1) proofs others
    ∙ ap (λ (n : ℕ). all_proof_lines file (index + 1) proofs ++ all_proof_lines file n others)
    number)
    ∙ sym (append_assoc own (all_proof_lines file (index + 1) proofs)
    (all_proof_lines file (index + suc (length proofs)) others))

-- one more proof
pub lines_push : (file : List BlockRoot) (proofs : List (List ℕ)) (proof : List ℕ)
    → all_proof_lines file 0 (proofs ++ proof ∷ [])
    ≡ all_proof_lines file 0 proofs ++ proof_lines (length proofs) (light_verdict file proof)
lines_push file proofs proof =
    let number : 0 + length proofs ≡ length proofs = omega arith in
    lines_append file 0 proofs (proof ∷ [])
    ∙ ap (λ (n : ℕ). all_proof_lines file 0 proofs ++ all_proof_lines file n (proof ∷ [])) number
    ∙ ap (λ (own : List (List ℕ)). all_proof_lines file 0 proofs ++ own)
    (append-nil (proof_lines (length proofs) (light_verdict file proof)))

or_none : (a : Bool) → (a || false) ≡ a
or_none true = refl
or_none false = refl

or_assoc : (a b c : Bool) → (a || (b || c)) ≡ ((a || b) || c)
or_assoc true b c = refl
or_assoc false b c = refl

pub rejects_push : (file : List BlockRoot) (proofs : List (List ℕ)) (proof : List ℕ)
    → rejects_one file (proofs ++ proof ∷ [])
    ≡ (rejects_one file proofs || is_err (light_verdict file proof))
rejects_push file [] proof = or_none (is_err (light_verdict file proof))
rejects_push file (first ∷ proofs) proof =
    ap (λ (some : Bool). is_err (light_verdict file first) || some) (rejects_push file proofs proof)
    ∙ or_assoc (is_err (light_verdict file first)) (rejects_one file proofs)
    (is_err (light_verdict file proof))
