-- The parts that are pushed one after another are the texts of the leaf proof, and of the proof.
use Rattle.std.proofs.Common.{◌≡◌, ℕ, List, [], ◌∷◌, ◌++◌, map, sym, ap, ◌∙◌, append-nil}
use Rattle.std.proofs.Common.{append_assoc}
use Rattle.merkle_tree.specs.Tree.{leaf_text, climb_texts_to}
use Rattle.merkle_tree.specs.declared.limits.TheConstants.{MAX_HEIGHT}
use Rattle.prov_entry.specs.Spelling.{leaf_bytes, header_text}
use Rattle.prov_entry.specs.ForwardLists.{start_text}
use Rattle.proof_checks.specs.proof_codec.declared.proof.LeafProof.{LeafProof}
use Rattle.proof_checks.specs.proof_codec.declared.proof.Proof.{Proof}
use Rattle.proof_checks.specs.Checks.{climb_of, root_text_of}
use Rattle.proof_checks.specs.ProofTexts.{body_texts, uses_texts, leaf_proof_texts, proof_texts}

abbrev Texts : Type 0
Texts = List (List ℕ)

grouped : (a b c d e f g : Texts)
    → ((((a ++ (b ++ c)) ++ d) ++ e) ++ f) ++ g ≡ a ++ (b ++ (c ++ (d ++ (e ++ (f ++ (g ++ []))))))
grouped a b c d e f g =
    append_assoc (((a ++ (b ++ c)) ++ d) ++ e) f g
    ∙ append_assoc ((a ++ (b ++ c)) ++ d) e (f ++ g)
    ∙ append_assoc (a ++ (b ++ c)) d (e ++ (f ++ g))
    ∙ append_assoc a (b ++ c) (d ++ (e ++ (f ++ g)))
    ∙ ap (λ (rest : Texts). a ++ rest) (append_assoc b c (d ++ (e ++ (f ++ g))))
    ∙ ap (λ (rest : Texts). a ++ (b ++ (c ++ (d ++ (e ++ (f ++ rest)))))) (sym (append-nil g))

pub leaf_parts : (leaf_proof : LeafProof) (old leafed done : Texts) → leafed ≡ old ++ leaf_text (leaf_bytes leaf_proof.leaf) ∷ []
    → done ≡ leafed ++ (climb_texts_to MAX_HEIGHT leaf_proof.leaf_index leaf_proof.leaf_count (climb_of leaf_proof) ++ root_text_of leaf_proof ∷ []) → done ≡ old ++ leaf_proof_texts leaf_proof
unfolding leaf_proof_texts
leaf_parts leaf_proof old leafed done a b =
    let upward : Texts = climb_texts_to MAX_HEIGHT leaf_proof.leaf_index leaf_proof.leaf_count (climb_of leaf_proof) ++ root_text_of leaf_proof ∷ [] in
    b ∙ ap (λ (texts : Texts). texts ++ upward) a ∙ append_assoc old (leaf_text (leaf_bytes leaf_proof.leaf) ∷ []) upward

pub all_parts : (proof : Proof) (leafed headed bodied started done : Texts) → leafed ≡ leaf_proof_texts proof.leaf_proof
    → headed ≡ leafed ++ map header_text proof.headers → bodied ≡ headed ++ body_texts proof.body → started ≡ bodied ++ start_text ∷ [] → done ≡ started ++ uses_texts proof.uses
    → done ≡ proof_texts proof
unfolding proof_texts leaf_proof_texts
all_parts proof leafed headed bodied started done a b c d e =
    let leaf : Texts = leaf_text (leaf_bytes proof.leaf_proof.leaf) ∷ [] in
    let way : Texts = climb_texts_to MAX_HEIGHT proof.leaf_proof.leaf_index proof.leaf_proof.leaf_count (climb_of proof.leaf_proof) in
    let root : Texts = root_text_of proof.leaf_proof ∷ [] in
    let headers : Texts = map header_text proof.headers in
    let body : Texts = body_texts proof.body in
    let uses : Texts = uses_texts proof.uses in
    e ∙ ap (λ (texts : Texts). texts ++ uses) (d ∙ ap (λ (texts : Texts). texts ++ start_text ∷ []) (c ∙ ap (λ (texts : Texts). texts ++ body) (b ∙ ap (λ (texts : Texts). texts ++ headers) a)))
    ∙ grouped leaf way root headers body (start_text ∷ []) uses
