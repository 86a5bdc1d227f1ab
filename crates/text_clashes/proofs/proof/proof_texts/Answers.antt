use Rattle.std.proofs.Common.{◌≡◌, ℕ, List, [], ◌∷◌, ◌++◌, Option, length, map, sym, subst, ap, ◌∙◌}
use Rattle.lc_base.specs.declared.row.Dep.{Dep}
use Rattle.merkle_tree.specs.Tree.{audit_length}
use Rattle.prov_entry.specs.declared.entry.Body.{Body}
use Rattle.prov_entry.specs.declared.entry.Header.{Header}
use Rattle.prov_entry.specs.Spelling.{header_text}
use Rattle.proof_checks.specs.proof_codec.declared.proof.LeafProof.{LeafProof}
use Rattle.proof_checks.specs.ProofTexts.{leaf_proof_texts, body_texts, uses_texts}
use Rattle.text_clashes.proofs.Parts.{all_parts}
use Rattle.text_clashes.proofs.proof.proof_texts.Goals as goal

pub push_leaf_proof-requires : goal.push_leaf_proof-requires
push_leaf_proof-requires c = subst (λ (leaf_proof : LeafProof). length leaf_proof.audit ≡ audit_length leaf_proof.leaf_index leaf_proof.leaf_count) (sym c.leaf_proof.ensures) c.requires

pub returns : goal.returns
returns c =
    all_parts c.args.proof.now c.push_leaf_proof.new.texts c.push_headers.new.texts c.push_body.new.texts c.push_tagged.new.texts c.push_uses.new.texts
    (c.in_ok-push_leaf_proof.ensures ∙ ap (λ (texts : List (List ℕ)). texts ++ leaf_proof_texts c.leaf_proof.result.now) c.new-texts.ensures ∙ ap leaf_proof_texts c.leaf_proof.ensures)
    (c.in_ok-push_headers.ensures ∙ ap (λ (headers : List Header). c.push_leaf_proof.new.texts ++ map header_text headers) c.headers.ensures)
    (c.in_ok-push_body.ensures ∙ ap (λ (body : Option Body). c.push_headers.new.texts ++ body_texts body) c.body.ensures)
    c.in_ok-push_tagged.ensures
    (c.in_ok-push_uses.ensures ∙ ap (λ (uses : Option (List Dep)). c.push_tagged.new.texts ++ uses_texts uses) c.uses.ensures)
