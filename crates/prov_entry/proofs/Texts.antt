-- The pieces that are hashed, one after the other, are the text.
use Rattle.std.proofs.Common.{◌≡◌, ℕ, List, [], ◌∷◌, ◌++◌, length, sym, ap, ◌∙◌, append_assoc}
use Rattle.std.specs.List.{concat, flat_map}
use Rattle.std.specs.Int.{w16, w32, w64, to_be_bytes}
use Rattle.std.proofs.lemmas.List.{append-nil}
use Rattle.byte_fields.specs.Spelling.{string_fields}
use Rattle.byte_fields.proofs.Laws.{concat-append}
use Rattle.merkle_tree.specs.declared.limits.TheConstants.{LEAF}
use Rattle.merkle_tree.specs.Tree.{leaf_text}
use Rattle.prov_entry.specs.declared.limits.TheConstants.{HEADER}
use Rattle.prov_entry.specs.declared.entry.Link.{Link}
use Rattle.prov_entry.specs.declared.entry.Header.{Header}
use Rattle.prov_entry.specs.declared.entry.Leaf.{Leaf}
use Rattle.prov_entry.specs.Spelling.{link_fields, key_or_empty, next_fields, header_text, leaf_bytes}

-- a string, before other fields
before_others : (bytes others : List ℕ) → concat (string_fields bytes) ++ others ≡ to_be_bytes w16 (length bytes) ++ (bytes ++ others)
before_others bytes others = ap (λ (t : List ℕ). to_be_bytes w16 (length bytes) ++ (t ++ others)) (append-nil bytes)

regrouped : (a b c d e f g h : List ℕ) → (((((((a ++ b) ++ c) ++ d) ++ e) ++ f) ++ g) ++ h) ≡ a ++ (b ++ (c ++ (d ++ (e ++ (f ++ (g ++ h))))))
regrouped a b c d e f g h = simp append_assoc

pub header_text_is : (header : Header) (block tx closed : List ℕ) (count : ℕ) (links : List Link) → block ≡ to_be_bytes w32 header.block → tx ≡ to_be_bytes w16 header.tx → closed ≡ to_be_bytes w64 header.closed → count ≡ length header.links → links ≡ header.links
    → ((((((((HEADER ∷ []) ++ concat (string_fields header.key)) ++ block) ++ tx) ++ header.body.0) ++ closed) ++ header.closed_digest.0) ++ (count ∷ [])) ++ concat (flat_map link_fields links) ≡ header_text header
header_text_is header block tx closed count links block_is tx_is closed_is count_is links_are =
    let k : List ℕ = concat (string_fields header.key) in
    let others : List ℕ = to_be_bytes w32 header.block ++ (to_be_bytes w16 header.tx ++ (header.body.0 ++ (to_be_bytes w64 header.closed ++ (header.closed_digest.0 ++ ((length header.links ∷ []) ++ concat (flat_map link_fields header.links)))))) in
    rw (block_is, tx_is, closed_is, count_is, links_are) (ap (λ (t : List ℕ). HEADER ∷ t)
    (regrouped k (to_be_bytes w32 header.block) (to_be_bytes w16 header.tx) header.body.0 (to_be_bytes w64 header.closed) header.closed_digest.0 (length header.links ∷ []) (concat (flat_map link_fields header.links)) ∙ before_others header.key others))

regrouped_six : (a b c d e f : List ℕ) → (((((a ++ b) ++ c) ++ d) ++ e) ++ f) ≡ a ++ (b ++ (c ++ (d ++ (e ++ (f ++ [])))))
regrouped_six a b c d e f = simp (append_assoc, append-nil)

leaf_bytes_are : (leaf : Leaf)
    → ((((concat (string_fields (key_or_empty leaf.key)) ++ concat (next_fields leaf.next)) ++ to_be_bytes w32 leaf.newest_block) ++ leaf.newest.0) ++ to_be_bytes w64 leaf.open_count) ++ leaf.open_digest.0
    ≡ leaf_bytes leaf
leaf_bytes_are leaf =
    let k : List ℕ = concat (string_fields (key_or_empty leaf.key)) in
    let n : List ℕ = concat (next_fields leaf.next) in
    let others : List (List ℕ) = to_be_bytes w32 leaf.newest_block ∷ leaf.newest.0 ∷ to_be_bytes w64 leaf.open_count ∷ leaf.open_digest.0 ∷ [] in
    regrouped_six k n (to_be_bytes w32 leaf.newest_block) leaf.newest.0 (to_be_bytes w64 leaf.open_count) leaf.open_digest.0
    ∙ ap (λ (t : List ℕ). k ++ t) (sym (concat-append (next_fields leaf.next) others)) ∙ before_others (key_or_empty leaf.key) (concat (next_fields leaf.next ++ others))

pub leaf_text_is : (leaf : Leaf) (block count : List ℕ) → block ≡ to_be_bytes w32 leaf.newest_block → count ≡ to_be_bytes w64 leaf.open_count
    → ((((((LEAF ∷ []) ++ concat (string_fields (key_or_empty leaf.key))) ++ concat (next_fields leaf.next)) ++ block) ++ leaf.newest.0) ++ count) ++ leaf.open_digest.0 ≡ leaf_text (leaf_bytes leaf)
leaf_text_is leaf block count block_is count_is = rw (block_is, count_is) (ap (λ (t : List ℕ). LEAF ∷ t) (leaf_bytes_are leaf))

pub leaf_written : (leaf : Leaf) (none with_key with_next with_block with_newest with_count all : List ℕ) → none ≡ [] → with_key ≡ none ++ concat (string_fields (key_or_empty leaf.key)) → with_next ≡ with_key ++ concat (next_fields leaf.next)
    → with_block ≡ with_next ++ to_be_bytes w32 leaf.newest_block → with_newest ≡ with_block ++ leaf.newest.0 → with_count ≡ with_newest ++ to_be_bytes w64 leaf.open_count → all ≡ with_count ++ leaf.open_digest.0 → all ≡ leaf_bytes leaf
leaf_written leaf none with_key with_next with_block with_newest with_count all none_is key_is next_is block_is newest_is count_is all_is = rw (all_is, count_is, newest_is, block_is, next_is, key_is, none_is) (leaf_bytes_are leaf)
