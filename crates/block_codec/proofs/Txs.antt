-- What is read as a transaction is spelled so, and what is spelled so is read.
use Rattle.std.proofs.Common.{◌≡◌, ℕ, zero, suc, ◌<◌, ◌≤◌, true, List, [], ◌∷◌, ◌++◌, length, refl, append_assoc, arith}
use Rattle.std.specs.Prelude.{nat_le}
use Rattle.std.specs.List.{flat_map, AllByRecursion}
use Rattle.std.specs.Int.{w32, to_be_bytes}
use Rattle.std.proofs.lemmas.Bool.{leb-true, le-leb, ne_eqb}
use Rattle.lc_base.specs.KeyBytes.{IsKey}
use Rattle.lc_base.specs.NameBytes.{IsName}
use Rattle.lc_base.specs.declared.value.Value.{Value}
use Rattle.lc_base.specs.declared.value.Value.TheVariants.{Text}
use Rattle.byte_fields.specs.Spelling.{string_fields, value_fields, IsBlockValue}
use Rattle.byte_fields.specs.Reading.{ruled_at, number_at}
use Rattle.byte_fields.proofs.Laws.{IsField, renamed, bind_field, then_field, made_field}
use Rattle.byte_fields.proofs.Items.{counted_field}
use Rattle.byte_fields.proofs.Pieces.{piece_field, ruled_piece, number_piece, byte_piece, wide32}
use Rattle.byte_fields.proofs.Fields.{key_field, name_field, any_bytes_field, value_field}
use Rattle.lc_base.specs.declared.limits.TheConstants.{MAX_DEPS, MAX_TEXT_BYTES}
use Rattle.block_codec.specs.declared.limits.TheConstants.{MAX_ARGS, MAX_CALL_BUDGET, MAX_SOURCE_BYTES}
use Rattle.block_codec.specs.declared.block.TheConstants.{SET, DEPLOY, CALL}
use Rattle.block_codec.specs.declared.block.Tx.{Tx}
use Rattle.block_codec.specs.declared.block.Tx.TheVariants.{Set, Deploy, Call}
use Rattle.block_codec.specs.Spelling.{IsTx, set_fields, deploy_fields, call_fields, tx_fields}
use Rattle.block_codec.specs.Reading.{dep_keys_at, set_of, set_at, deploy_of, deploy_at, args_at, call_of, call_at, is_kind, kind_at, tx_at}

-- ---- the kinds

abbrev kind_of : Tx → ℕ
kind_of (Set sender key value deps) = SET
kind_of (Deploy sender name source) = DEPLOY
kind_of (Call sender contract function args budget) = CALL

-- what follows the kind
abbrev after_kind : Tx → List (List ℕ)
after_kind (Set sender key value deps) = set_fields sender key value deps
after_kind (Deploy sender name source) = deploy_fields sender name source
after_kind (Call sender contract function args budget) = call_fields sender contract function args budget

-- a transaction of this kind, whose texts have at most `most` bytes
abbrev HasKind : ℕ → ℕ → Tx → Type 0
HasKind most kind tx = (kind_of tx ≡ kind) × IsTx most tx

-- ---- a Set

-- at most MAX_DEPS keys
AreDeps : List (List ℕ) → Type 0
AreDeps keys = (length keys ≤ MAX_DEPS) × AllByRecursion IsKey keys

dep_fields : List (List ℕ) → List (List ℕ)
dep_fields keys = (length keys ∷ []) ∷ flat_map string_fields keys

deps_field : IsField dep_keys_at dep_fields AreDeps
unfolding dep_keys_at dep_fields AreDeps
deps_field =
    let count = piece_field (ruled_piece byte_piece (λ n. nat_le n MAX_DEPS) (record { value = 0; is = (omega arith, refl) })) in
    renamed (counted_field count key_field)
    (λ keys is. (leb-true _ _ is.0.1, is.1)) (λ keys is. ((omega (arith, is.0), le-leb _ _ is.0), is.1)) (λ keys is. refl)

-- the parts of a Set, in order
abbrev SetParts : Type 0
SetParts = List ℕ × (List ℕ × (Value × List (List ℕ)))

abbrev set_parts : Tx → SetParts
set_parts (Set sender key value deps) = (sender, (key, (value, deps)))
set_parts (Deploy sender name source) = ([], ([], (Text [], [])))
set_parts (Call sender contract function args budget) = ([], ([], (Text [], [])))

abbrev AreSetParts : ℕ → SetParts → Type 0
AreSetParts most parts =
    IsKey parts.0 × (IsKey parts.1.0 × (IsBlockValue most parts.1.1.0 × AreDeps parts.1.1.1))

is_set : (most : ℕ) (tx : Tx) → AreSetParts most (set_parts tx) × (tx ≡ set_of (set_parts tx))
    → HasKind most SET tx
unfolding AreDeps
is_set most (Set sender key value deps) is = (refl, record { sender_is_key = is.0.0; key_is_key = is.0.1.0; value_is_value = is.0.1.1.0; few_deps = is.0.1.1.1.0; deps_are_keys = is.0.1.1.1.1 })
is_set most (Deploy sender name source) is = absurd cc
is_set most (Call sender contract function args budget) is = absurd cc

set_is : (most : ℕ) (tx : Tx) → HasKind most SET tx
    → AreSetParts most (set_parts tx) × (tx ≡ set_of (set_parts tx))
unfolding AreDeps
set_is most (Set sender key value deps) is = let s = is.1 in ((s.sender_is_key, (s.key_is_key, (s.value_is_value, (s.few_deps, s.deps_are_keys)))), refl)
set_is most (Deploy sender name source) is = absurd cc
set_is most (Call sender contract function args budget) is = absurd cc

same_set : (tx : Tx) → tx ≡ set_of (set_parts tx) → string_fields (set_parts tx).0 ++ (string_fields (set_parts tx).1.0 ++ (value_fields (set_parts tx).1.1.0 ++ dep_fields (set_parts tx).1.1.1)) ≡ after_kind tx
unfolding dep_fields
same_set (Set sender key value deps) is = simp append_assoc
same_set (Deploy sender name source) is = absurd cc
same_set (Call sender contract function args budget) is = absurd cc

set_field : (most : ℕ) → most ≤ MAX_TEXT_BYTES → IsField (set_at most) after_kind (HasKind most SET)
unfolding set_at
set_field most few =
    let value = value_field most few in
    let parts = then_field key_field (then_field key_field (then_field value deps_field)) in
    renamed (made_field set_of set_parts parts (λ parts is. refl)) (is_set most) (set_is most) (λ tx is. same_set tx is.1)

-- ---- a Deploy

-- the parts of a Deploy, in order
abbrev DeployParts : Type 0
DeployParts = List ℕ × (List ℕ × List ℕ)

abbrev deploy_parts : Tx → DeployParts
deploy_parts (Set sender key value deps) = ([], ([], []))
deploy_parts (Deploy sender name source) = (sender, (name, source))
deploy_parts (Call sender contract function args budget) = ([], ([], []))

abbrev AreDeployParts : DeployParts → Type 0
AreDeployParts parts = IsKey parts.0 × (IsName parts.1.0 × (length parts.1.1 ≤ MAX_SOURCE_BYTES))

is_deploy : (most : ℕ) (tx : Tx)
    → AreDeployParts (deploy_parts tx) × (tx ≡ deploy_of (deploy_parts tx)) → HasKind most DEPLOY tx
is_deploy most (Set sender key value deps) is = absurd cc
is_deploy most (Deploy sender name source) is = (refl, record { sender_is_key = is.0.0; name_is_name = is.0.1.0; short_source = is.0.1.1 })
is_deploy most (Call sender contract function args budget) is = absurd cc

deploy_is : (most : ℕ) (tx : Tx) → HasKind most DEPLOY tx
    → AreDeployParts (deploy_parts tx) × (tx ≡ deploy_of (deploy_parts tx))
deploy_is most (Set sender key value deps) is = absurd cc
deploy_is most (Deploy sender name source) is = let d = is.1 in ((d.sender_is_key, (d.name_is_name, d.short_source)), refl)
deploy_is most (Call sender contract function args budget) is = absurd cc

same_deploy : (tx : Tx) → tx ≡ deploy_of (deploy_parts tx) → string_fields (deploy_parts tx).0 ++ (string_fields (deploy_parts tx).1.0 ++ string_fields (deploy_parts tx).1.1) ≡ after_kind tx
same_deploy (Set sender key value deps) is = absurd cc
same_deploy (Deploy sender name source) is = simp append_assoc
same_deploy (Call sender contract function args budget) is = absurd cc

deploy_field : (most : ℕ) → IsField deploy_at after_kind (HasKind most DEPLOY)
unfolding deploy_at
deploy_field most = renamed (made_field deploy_of deploy_parts (then_field key_field (then_field name_field (any_bytes_field MAX_SOURCE_BYTES (omega arith)))) (λ parts is. refl)) (is_deploy most) (deploy_is most) (λ tx is. same_deploy tx is.1)

-- ---- a Call

-- at most MAX_ARGS values, whose texts have at most `most` bytes
AreArgs : ℕ → List Value → Type 0
AreArgs most args = (length args ≤ MAX_ARGS) × AllByRecursion (IsBlockValue most) args

arg_fields : List Value → List (List ℕ)
arg_fields args = (length args ∷ []) ∷ flat_map value_fields args

args_field : (most : ℕ) → most ≤ MAX_TEXT_BYTES → IsField (args_at most) arg_fields (AreArgs most)
unfolding args_at arg_fields AreArgs
args_field most few =
    let count = piece_field (ruled_piece byte_piece (λ n. nat_le n MAX_ARGS) (record { value = 0; is = (omega arith, refl) })) in
    renamed (counted_field count (value_field most few))
    (λ args is. (leb-true _ _ is.0.1, is.1)) (λ args is. ((omega (arith, is.0), le-leb _ _ is.0), is.1)) (λ args is. refl)

budget_field : IsField (ruled_at (λ n. nat_le n MAX_CALL_BUDGET) (number_at w32)) (λ n. to_be_bytes w32 n ∷ []) (λ n. n ≤ MAX_CALL_BUDGET)
budget_field =
    renamed (piece_field (ruled_piece (number_piece wide32) (λ n. nat_le n MAX_CALL_BUDGET) (record { value = 0; is = (omega arith, refl) })))
    (λ n is. leb-true _ _ is.1) (λ n is. (omega (arith, is), le-leb _ _ is)) (λ n is. refl)

-- the parts of a Call, in order
abbrev CallParts : Type 0
CallParts = List ℕ × (List ℕ × (List ℕ × (List Value × ℕ)))

abbrev call_parts : Tx → CallParts
call_parts (Set sender key value deps) = ([], ([], ([], ([], 0))))
call_parts (Deploy sender name source) = ([], ([], ([], ([], 0))))
call_parts (Call sender contract function args budget) = (sender, (contract, (function, (args, budget))))

abbrev AreCallParts : ℕ → CallParts → Type 0
AreCallParts most parts = IsKey parts.0 × (IsName parts.1.0 × (IsName parts.1.1.0 × (AreArgs most parts.1.1.1.0 × (parts.1.1.1.1 ≤ MAX_CALL_BUDGET))))

is_call : (most : ℕ) (tx : Tx) → AreCallParts most (call_parts tx) × (tx ≡ call_of (call_parts tx))
    → HasKind most CALL tx
unfolding AreArgs
is_call most (Set sender key value deps) is = absurd cc
is_call most (Deploy sender name source) is = absurd cc
is_call most (Call sender contract function args budget) is =
    let p = is.0 in
    (refl, record { sender_is_key = p.0; contract_is_name = p.1.0; function_is_name = p.1.1.0; few_args = p.1.1.1.0.0; args_are_values = p.1.1.1.0.1; low_budget = p.1.1.1.1 })

call_is : (most : ℕ) (tx : Tx) → HasKind most CALL tx
    → AreCallParts most (call_parts tx) × (tx ≡ call_of (call_parts tx))
unfolding AreArgs
call_is most (Set sender key value deps) is = absurd cc
call_is most (Deploy sender name source) is = absurd cc
call_is most (Call sender contract function args budget) is = let c = is.1 in ((c.sender_is_key, (c.contract_is_name, (c.function_is_name, ((c.few_args, c.args_are_values), c.low_budget)))), refl)

same_call : (tx : Tx) → tx ≡ call_of (call_parts tx)
    → string_fields (call_parts tx).0 ++ (string_fields (call_parts tx).1.0 ++ (string_fields (call_parts tx).1.1.0 ++ (arg_fields (call_parts tx).1.1.1.0 ++ to_be_bytes w32 (call_parts tx).1.1.1.1 ∷ []))) ≡ after_kind tx
unfolding arg_fields
same_call (Set sender key value deps) is = absurd cc
same_call (Deploy sender name source) is = absurd cc
same_call (Call sender contract function args budget) is = simp append_assoc

call_field : (most : ℕ) → most ≤ MAX_TEXT_BYTES
    → IsField (call_at most) after_kind (HasKind most CALL)
unfolding call_at
call_field most few = renamed (made_field call_of call_parts (then_field key_field (then_field name_field (then_field name_field (then_field (args_field most few) budget_field)))) (λ parts is. refl)) (is_call most) (call_is most) (λ tx is. same_call tx is.1)

-- ---- a transaction

kinds_field : (most : ℕ) → most ≤ MAX_TEXT_BYTES
    → (kind : ℕ) → (kind < 256) × (is_kind kind ≡ true)
    → IsField (kind_at most kind) after_kind (HasKind most kind)
kinds_field most few zero is = absurd cc
kinds_field most few (suc zero) is = set_field most few
kinds_field most few (suc (suc zero)) is = deploy_field most
kinds_field most few (suc (suc (suc zero))) is = call_field most few
kinds_field most few (suc (suc (suc (suc n)))) is = let kind = suc (suc (suc (suc n))) in absurd (cc (is.1, ne_eqb kind SET (omega arith), ne_eqb kind DEPLOY (omega arith), ne_eqb kind CALL (omega arith)))

kinds_are : (most : ℕ) (tx : Tx) → IsTx most tx
    → ((kind_of tx < 256) × (is_kind (kind_of tx) ≡ true)) × HasKind most (kind_of tx) tx
kinds_are most (Set sender key value deps) is = ((omega arith, refl), (refl, is))
kinds_are most (Deploy sender name source) is = ((omega arith, refl), (refl, is))
kinds_are most (Call sender contract function args budget) is = ((omega arith, refl), (refl, is))

same_tx : (tx : Tx) → (kind_of tx ∷ []) ∷ after_kind tx ≡ tx_fields tx
same_tx (Set sender key value deps) = refl
same_tx (Deploy sender name source) = refl
same_tx (Call sender contract function args budget) = refl

pub tx_field : (most : ℕ) → most ≤ MAX_TEXT_BYTES → IsField (tx_at most) tx_fields (IsTx most)
unfolding tx_at
tx_field most few =
    let kind = piece_field (ruled_piece byte_piece is_kind (record { value = SET; is = (omega arith, refl) })) in
    renamed (bind_field {Is_b = HasKind most} kind_of kind (kinds_field most few) (λ kind tx is is_tx. is_tx.0)) (λ tx is. is.1.1) (kinds_are most) (λ tx is. same_tx tx)
