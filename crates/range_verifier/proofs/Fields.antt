-- Reading and spelling agree for range proofs: what is read is spelled the same way, and what is
-- spelled is read. How many bodies there are follows from the fields before them.
use Rattle.std.proofs.Common.{◌≡◌, ℕ, ◌<◌, ◌≤◌, ◌^◌, ◌==◌, true, nat_le, List, [], ◌∷◌, ◌++◌}
use Rattle.std.proofs.Common.{length, refl, sym, arith}
use Rattle.std.specs.Cmp.Lexicographic.{pointwise}
use Rattle.std.specs.Int.{w32, to_be_bytes}
use Rattle.std.specs.List.{AllByRecursion}
use Rattle.std.proofs.lemmas.Bool.{leb-true, le-leb}
use Rattle.std.proofs.lemmas.Slice.Eq.{bytes_eq-Decides}
use Rattle.lc_base.specs.KeyBytes.{IsKey}
use Rattle.byte_fields.specs.Reading.{ruled_at, number_at}
use Rattle.byte_fields.specs.Spelling.{string_fields}
use Rattle.byte_fields.proofs.Laws.{IsField, Sample, renamed, bind_field, then_field, made_field}
use Rattle.byte_fields.proofs.Items.{items_field, counted_field}
use Rattle.byte_fields.proofs.Pieces.{piece_field, ruled_piece, number_piece, bytes_piece, wide32}
use Rattle.byte_fields.proofs.Fields.{key_field}
use Rattle.prov_entry.specs.declared.entry.Header.{Header}
use Rattle.prov_entry.specs.declared.entry.Body.{Body}
use Rattle.prov_entry.specs.Spelling.{IsHeader}
use Rattle.entry_views.specs.Headers.{header_field}
use Rattle.entry_views.specs.Bodies.{body_field}
use Rattle.proof_codec.proofs.Joining.{then_on_field}
use Rattle.proof_codec.proofs.Proofs.{leaf_proof_field}
use Rattle.proof_verifier.specs.proof_checks.declared.range_limits.TheConstants.{RANGE_MAGIC}
use Rattle.proof_verifier.specs.proof_checks.declared.range_proof.RangeProof.{RangeProof}
use Rattle.proof_verifier.specs.proof_checks.RangeTexts.{IsRangeProof}
use Rattle.proof_verifier.specs.proof_checks.RangeSpelling.{front_fields, headers_fields}
use Rattle.proof_verifier.specs.proof_checks.RangeSpelling.{range_fields}
use Rattle.range_verifier.specs.declared.front.RangeQuery.{RangeQuery}
use Rattle.range_verifier.specs.Reading.{magic_at, blocks_at, query_of, query_at, front_at}
use Rattle.range_verifier.specs.Reading.{headers_at}
use Rattle.range_verifier.specs.Reading.{count_within, Way, way_at, range_of, range_at}

-- ---- the front

record AreBlocks (blocks : ℕ × ℕ) : Type 0 where
  pub in_order : blocks.0 ≤ blocks.1
  pub last_fits : blocks.1 < 2 ^ 32

abbrev blocks_fields : ℕ × ℕ → List (List ℕ)
blocks_fields blocks = to_be_bytes w32 blocks.0 ∷ to_be_bytes w32 blocks.1 ∷ []

-- The last block is at least the first.
abbrev IsLast : ℕ → ℕ → Type 0
IsLast from to = (to < 2 ^ 32) × (nat_le from to ≡ true)

last_field : (from : ℕ) → from < 2 ^ 32
    → IsField (ruled_at (λ to. nat_le from to) (number_at w32)) (λ to. to_be_bytes w32 to ∷ [])
    (IsLast from)
last_field from fits =
    let itself : Sample (IsLast from) =
    record { value = from; is = (fits, le-leb from from (omega arith)) } in
    piece_field (ruled_piece (number_piece wide32) (λ to. nat_le from to) itself)

blocks_field : IsField blocks_at blocks_fields AreBlocks
unfolding blocks_at
blocks_field =
    renamed (then_on_field (piece_field (number_piece wide32)) last_field)
    (λ blocks is. record { in_order = leb-true blocks.0 blocks.1 is.1.1; last_fits = is.1.0 })
    (λ blocks is.
    let last : IsLast blocks.0 blocks.1 =
    (is.last_fits, le-leb blocks.0 blocks.1 is.in_order) in
    (omega (arith, is.in_order, is.last_fits), last))
    (λ blocks is. refl)

record IsQuery (query : RangeQuery) : Type 0 where
  pub key_is_key : IsKey query.key
  pub blocks_are : AreBlocks (query.from, query.to)

abbrev query_parts : RangeQuery → List ℕ × (ℕ × ℕ)
query_parts query = (query.key, (query.from, query.to))

abbrev query_fields : RangeQuery → List (List ℕ)
query_fields query = string_fields query.key ++ blocks_fields (query.from, query.to)

query_field : IsField query_at query_fields IsQuery
unfolding query_at
query_field =
    renamed (made_field query_of query_parts (then_field key_field blocks_field) (λ parts is. refl))
    (λ query is. record { key_is_key = is.0.0; blocks_are = is.0.1 })
    (λ query is. ((is.key_is_key, is.blocks_are), refl))
    (λ query is. refl)

abbrev IsMagic : List ℕ → Type 0
IsMagic bytes = (length bytes ≡ 4) × (pointwise ◌==◌ bytes RANGE_MAGIC ≡ true)

magic_is : (bytes : List ℕ) → IsMagic bytes → RANGE_MAGIC ≡ bytes
magic_is bytes is = sym ((bytes_eq-Decides bytes RANGE_MAGIC).0 is.1)

front_field : IsField front_at (λ query. front_fields query.key query.from query.to) IsQuery
unfolding front_at magic_at
front_field =
    let magic : Sample IsMagic = record { value = RANGE_MAGIC; is = (refl, refl) } in
    let first =
    piece_field (ruled_piece (bytes_piece 4) (λ bytes. pointwise ◌==◌ bytes RANGE_MAGIC) magic) in
    renamed (bind_field {Is_b = λ magic query. _} (λ query. RANGE_MAGIC) first (λ bytes is. query_field)
    (λ bytes query is is_query. magic_is bytes is))
    (λ query is. is.1) (λ query is. ((refl, refl), is)) (λ query is. refl)

-- ---- the headers

record AreHeaders (headers : List Header) : Type 0 where
  pub few : length headers < 2 ^ 32
  pub lawful : AllByRecursion IsHeader headers

headers_field : IsField headers_at headers_fields AreHeaders
unfolding headers_at
headers_field =
    renamed (counted_field (piece_field (number_piece wide32)) header_field)
    (λ headers is. record { few = is.0; lawful = is.1 })
    (λ headers is. (is.few, is.lawful))
    (λ headers is. refl)

-- ---- the range proof

abbrev query_in : RangeProof → RangeQuery
query_in range = record { key = range.key; from = range.from; to = range.to }

abbrev parts_of : RangeProof → Way × List Body
parts_of range = (((query_in range, range.leaf_proof), range.headers), range.bodies)

abbrev count_after : Way → ℕ
count_after way = count_within way.0.0.from way.0.0.to way.1

-- What is read is spelled so, and what is spelled so is read.
pub range_field : IsField range_at range_fields IsRangeProof
unfolding range_at way_at
range_field =
    let leaf = λ (query : RangeQuery) (is : IsQuery query).
    leaf_proof_field query.to is.blocks_are.last_fits in
    let way = then_field (then_on_field front_field leaf) headers_field in
    let whole = then_on_field way (λ way is. items_field body_field (count_after way)) in
    renamed (made_field range_of parts_of whole (λ parts is. refl))
    (λ range is. let way = is.0.0 in record {
      key_is_key = way.0.0.key_is_key;
      in_order = way.0.0.blocks_are.in_order;
      leaf_proof_is = way.0.1;
      few_headers = way.1.few;
      headers_are_headers = way.1.lawful;
      bodies_counted = is.0.1.0;
      bodies_are_bodies = is.0.1.1;
    })
    (λ range is.
    let root = is.leaf_proof_is in
    let blocks : AreBlocks (range.from, range.to) = record {
      in_order = is.in_order;
      last_fits = omega (arith, root.root_at_within, root.root_at_fits);
    } in
    let query : IsQuery (query_in range) =
    record { key_is_key = is.key_is_key; blocks_are = blocks } in
    let headers : AreHeaders range.headers =
    record { few = is.few_headers; lawful = is.headers_are_headers } in
    ((((query, root), headers), (is.bodies_counted, is.bodies_are_bodies)), refl))
    (λ range is. refl)
