-- Packing blocks one after another in a loop gives what `texts_from` says.
use Rattle.std.proofs.Common.{◌≡◌, ℕ, ◌+◌, ◌<◌, ◌≤◌, List, [], ◌∷◌, ◌++◌, length, map, get_or, drop, Result, Ok, Err, refl, sym, ap, subst, ◌∙◌}
use Rattle.std.specs.List.{AllByRecursion}
use Rattle.std.proofs.lemmas.List.{append-nil, drop_all}
use Rattle.serde_json.specs.Data.{Data}
use Rattle.lc_base.specs.Answers.{Answers}
use Rattle.lc_base.specs.declared.digest.Digest.{Digest}
use Rattle.byte_fields.proofs.WrittenItems.{all_more}
use Rattle.block_codec.specs.Placement.{bytes_digest, no_parent}
use Rattle.chain_pack.specs.declared.error.PackError.{PackError}
use Rattle.chain_pack.specs.declared.error.PackError.TheVariants as errors
use Rattle.chain_pack.specs.Draft.{pack_fault, text_in, texts_from, IsBlockText}
use Rattle.chain_pack.proofs.Each.{with_prefix, regroup, prefix_nil, next, length_more}

-- The first `count` blocks, of this version, have these texts, and this is the parent of the next
-- one.
pub record Packed {X : Type 0} (version : ℕ) (view : X → Data) (blocks : List X) (count : ℕ) (parent : Digest) (texts : List (List ℕ)) : Type 0 where
  pub others : with_prefix texts (texts_from version count parent (map view (drop count blocks))) ≡ texts_from version 0 no_parent (map view blocks)
  pub counted : length texts ≡ count
  pub spelled : AllByRecursion IsBlockText texts

pub packed_none : {X : Type 0} (version : ℕ) (view : X → Data) (blocks : List X) → Packed version view blocks 0 no_parent []
packed_none version view blocks = record { others = prefix_nil (texts_from version 0 no_parent (map view blocks)); counted = refl; spelled = tt }

pub packed_more : {X : Type 0} (version : ℕ) (view : X → Data) (blocks : List X) (i : ℕ) (parent : Digest) (texts : List (List ℕ)) (x : X) (number : ℕ) (text : List ℕ) → i < length blocks → x ≡ get_or blocks i x → number ≡ length texts → text_in version number parent (view x) ≡ Ok text
    → IsBlockText text → Packed version view blocks i parent texts → Packed version view blocks (i + 1) (bytes_digest text) (texts ++ text ∷ [])
unfolding texts_from
packed_more version view blocks i parent texts x number text lt is count read spelled so_far =
    let found : text_in version i parent (view x) ≡ Ok text = subst (λ (n : ℕ). text_in version n parent (view x) ≡ Ok text) (count ∙ so_far.counted) read in
    let one : with_prefix texts (texts_from version i parent (map view (drop i blocks))) ≡ with_prefix (texts ++ text ∷ []) (texts_from version (i + 1) (bytes_digest text) (map view (drop (i + 1) blocks)))
    = rw (next blocks i x lt is, found) (regroup texts text (texts_from version (i + 1) (bytes_digest text) (map view (drop (i + 1) blocks)))) in
    record { others = sym one ∙ so_far.others; counted = length_more texts text ∙ ap (λ (n : ℕ). n + 1) so_far.counted; spelled = all_more IsBlockText texts text so_far.spelled spelled }

pub packed_but : {X : Type 0} (version : ℕ) (view : X → Data) (blocks : List X) (i : ℕ) (parent : Digest) (texts : List (List ℕ)) (x : X) (number : ℕ) (fault : PackError) → i < length blocks → x ≡ get_or blocks i x → number ≡ length texts → text_in version number parent (view x) ≡ Err fault
    → Packed version view blocks i parent texts → texts_from version 0 no_parent (map view blocks) ≡ Err fault
unfolding texts_from
packed_but version view blocks i parent texts x number fault lt is count read so_far =
    let found : text_in version i parent (view x) ≡ Err fault = subst (λ (n : ℕ). text_in version n parent (view x) ≡ Err fault) (count ∙ so_far.counted) read in
    let one : with_prefix texts (texts_from version i parent (map view (drop i blocks))) ≡ Err fault = rw (next blocks i x lt is, found) refl in
    sym so_far.others ∙ one

pub packed_all : {X : Type 0} (version : ℕ) (view : X → Data) (blocks : List X) (i : ℕ) (parent : Digest) (texts : List (List ℕ)) → length blocks ≤ i
    → Packed version view blocks i parent texts → texts_from version 0 no_parent (map view blocks) ≡ Ok texts
unfolding texts_from
packed_all version view blocks i parent texts le so_far =
    let one : with_prefix texts (texts_from version i parent (map view (drop i blocks))) ≡ Ok texts = rw (drop_all i blocks le) (ap (λ (xs : List (List ℕ)). Ok xs) (append-nil texts)) in
    sym so_far.others ∙ one

abbrev failed : (A : Type 0) → PackError → Result A PackError
failed A error = Err error

-- the same if memory may run out
pub failed_at : {X : Type 0} (version : ℕ) (view : X → Data) (blocks : List X) (i : ℕ) (parent : Digest) (texts : List (List ℕ)) (x : X) (number : ℕ) (error : PackError) → i < length blocks → x ≡ get_or blocks i x → number ≡ length texts
    → Answers (λ text. text) pack_fault (failed (List ℕ) error) (text_in version number parent (view x))
    → Packed version view blocks i parent texts → Answers (λ texts. texts) pack_fault (failed (List (List ℕ)) error) (texts_from version 0 no_parent (map view blocks))
failed_at version view blocks i parent texts x number errors.Json lt is count read so_far = packed_but version view blocks i parent texts x number errors.Json lt is count read so_far
failed_at version view blocks i parent texts x number errors.Top lt is count read so_far = packed_but version view blocks i parent texts x number errors.Top lt is count read so_far
failed_at version view blocks i parent texts x number (errors.Shape block tx) lt is count read so_far = packed_but version view blocks i parent texts x number (errors.Shape block tx) lt is count read so_far
failed_at version view blocks i parent texts x number (errors.BlockLimit block) lt is count read so_far = packed_but version view blocks i parent texts x number (errors.BlockLimit block) lt is count read so_far
failed_at version view blocks i parent texts x number errors.Memory lt is count read so_far = tt
