-- The laws, from what is proved by recursion on the height.
use Rattle.std.proofs.Common.{◌≡◌, ℕ, ◌≤◌, List, [], ◌∷◌, length, refl, sym, ap, ◌∙◌, arith, inl, inr}
use Rattle.std.proofs.lemmas.List.{append-nil}
use Rattle.sha2.specs.Sha256.{sha256}
use Rattle.merkle_tree.specs.Tree.{hash_to, tree_hash, audit_to, audit_path, audit_length_to, audit_length, node_texts, climb_to, climb_texts_to}
use Rattle.merkle_tree.specs.Laws.{text_at, PathsAreComplete, PathsAreSound, PathsAreSoundOrClash}
use Rattle.merkle_tree.specs.declared.limits.TheConstants.{MAX_HEIGHT}
use Rattle.merkle_tree.proofs.Agreeing.{agree_or_clash}
use Rattle.merkle_tree.proofs.Sound.{climb_sound, climb_audit}
use Rattle.merkle_tree.proofs.Rules.{tree_at, audit_at, len_at}

lowest : (texts : List (List ℕ)) → length texts ≤ 1 → hash_to 0 texts ≡ tree_hash texts
lowest texts few = sym (tree_at MAX_HEIGHT 0 texts (omega arith) few)

pub tree_of_none : tree_hash [] ≡ sha256 []
unfolding hash_to
tree_of_none = sym (lowest [] (omega arith)) ∙ refl

pub tree_of_one : (text : List ℕ) → tree_hash (text ∷ []) ≡ sha256 text
unfolding hash_to
tree_of_one text = sym (lowest (text ∷ []) (omega arith)) ∙ refl

pub path_of_one : (text : List ℕ) → audit_path 0 (text ∷ []) ≡ []
unfolding audit_to
path_of_one text = audit_at MAX_HEIGHT 0 0 (text ∷ []) (omega arith) (omega arith)

pub length_of_one : audit_length 0 1 ≡ 0
unfolding audit_length_to
length_of_one = len_at MAX_HEIGHT 0 0 1 (omega arith) (omega arith)

pub paths_are_complete : PathsAreComplete
paths_are_complete m texts few below =
    ap (λ (path : List (List ℕ)). climb_to MAX_HEIGHT m (length texts) (record { hash = sha256 (text_at texts m); left = path })) (sym (append-nil (audit_path m texts)))
    ∙ climb_audit MAX_HEIGHT m (length texts) texts [] refl below few

pub paths_are_sound : PathsAreSound
paths_are_sound m climb texts few below hash agree same = climb_sound MAX_HEIGHT m (length texts) climb texts refl below few hash agree same

pub paths_are_sound_or_clash : PathsAreSoundOrClash
paths_are_sound_or_clash m climb texts few below hash same = elim (agree_or_clash (climb_texts_to MAX_HEIGHT m (length texts) climb) (node_texts texts)) [
  | inl agree ↦ inl (paths_are_sound m climb texts few below hash agree same)
  | inr clash ↦ inr clash
]
