-- What is read as a block is spelled so, and what is spelled so is read.
use Rattle.std.proofs.Common.{◌≡◌, ℕ, zero, suc, ◌^◌, ◌<◌, ◌≤◌, true, List, ◌∷◌, length, refl, ap, arith}
use Rattle.std.specs.Prelude.{nat_le}
use Rattle.std.specs.List.{flat_map, AllByRecursion}
use Rattle.std.specs.Int.{w16, w32, to_be_bytes}
use Rattle.std.proofs.lemmas.Bool.{leb-true, le-leb}
use Rattle.std.proofs.lemmas.Bool.Decides.{nat_tests}
use Rattle.byte_fields.proofs.Laws.{IsField, renamed, bind_field, then_field, made_field}
use Rattle.byte_fields.proofs.Items.{counted_field}
use Rattle.byte_fields.proofs.Pieces.{piece_field, ruled_piece, number_piece, byte_piece, bytes_piece, wide16, wide32}
use Rattle.lc_base.specs.declared.limits.TheConstants.{MAX_TEXT_BYTES}
use Rattle.block_codec.specs.declared.limits.TheConstants.{MAX_TXS}
use Rattle.block_codec.specs.declared.block.Tx.{Tx}
use Rattle.block_codec.specs.declared.block.Block.{Block}
use Rattle.block_codec.specs.Spelling.{IsTx, IsBlock, is_version, text_limit, tx_fields, block_fields}
use Rattle.block_codec.specs.Reading.{txs_at, block_of, versioned_at, block_at}
use Rattle.block_codec.proofs.Txs.{tx_field}

-- at most MAX_TXS transactions, whose texts have at most `most` bytes
AreTxs : ℕ → List Tx → Type 0
AreTxs most txs = (length txs ≤ MAX_TXS) × AllByRecursion (IsTx most) txs

txs_fields : List Tx → List (List ℕ)
txs_fields txs = to_be_bytes w16 (length txs) ∷ flat_map tx_fields txs

txs_field : (most : ℕ) → most ≤ MAX_TEXT_BYTES → IsField (txs_at most) txs_fields (AreTxs most)
unfolding txs_at txs_fields AreTxs
txs_field most few =
    let count = piece_field (ruled_piece (number_piece wide16) (λ n. nat_le n MAX_TXS) (record { value = 0; is = (omega arith, refl) })) in
    renamed (counted_field count (tx_field most few))
    (λ txs is. (leb-true _ _ is.0.1, is.1)) (λ txs is. ((omega (arith, is.0), le-leb _ _ is.0), is.1)) (λ txs is. refl)

-- ---- versions

-- a version fits in a byte
version_fits : (version : ℕ) → is_version version ≡ true → version < 256
version_fits zero is = omega arith
version_fits (suc zero) is = omega arith
version_fits (suc (suc zero)) is = omega arith
version_fits (suc (suc (suc n))) is = absurd (grind (arith, nat_tests, is))

-- a text of any version is within the limit of all texts
few_bytes : (version : ℕ) → text_limit version ≤ MAX_TEXT_BYTES
few_bytes zero = omega arith
few_bytes (suc zero) = omega arith
few_bytes (suc (suc zero)) = omega arith
few_bytes (suc (suc (suc n))) = grind (arith, nat_tests)

abbrev block_parts : Block → ℕ × (List ℕ × List Tx)
block_parts block = (block.number, (block.parent.0, block.txs))

-- what follows the version
abbrev after_version : Block → List (List ℕ)
after_version block =
    to_be_bytes w32 block.number ∷ block.parent.0 ∷ to_be_bytes w16 (length block.txs)
    ∷ flat_map tx_fields block.txs

-- a block of this version
abbrev HasVersion : ℕ → Block → Type 0
HasVersion version block =
    ((block.number < 2 ^ 32)
    × ((length block.parent.0 ≡ 32) × AreTxs (text_limit version) block.txs))
    × (block ≡ block_of version (block_parts block))

versioned_field : (version : ℕ)
    → IsField (versioned_at version) after_version (HasVersion version)
unfolding txs_fields
versioned_field version =
    made_field (block_of version) block_parts
    (then_field (piece_field (number_piece wide32))
    (then_field (piece_field (bytes_piece 32))
    (txs_field (text_limit version) (few_bytes version)))) (λ parts is. refl)

pub block_field : IsField block_at block_fields IsBlock
unfolding block_at AreTxs
block_field =
    let version = piece_field (ruled_piece byte_piece is_version
    (record { value = 1; is = (omega arith, refl) })) in
    renamed
    (bind_field {Is_b = HasVersion} (λ block. block.version) version
    (λ version is. versioned_field version)
    (λ version block is is_block. ap (λ (b : Block). b.version) is_block.1))
    (λ block is. record {
      version_is = is.0.1;
      number_fits = is.1.0.0;
      parent_fits = is.1.0.1.0;
      few_txs = is.1.0.1.1.0;
      txs_are_txs = is.1.0.1.1.1;
    })
    (λ block is. (
      (version_fits block.version is.version_is, is.version_is),
      ((is.number_fits, (is.parent_fits, (is.few_txs, is.txs_are_txs))), refl),
    ))
    (λ block is. refl)
