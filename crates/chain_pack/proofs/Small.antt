-- What is drawn is lawful, short and cheap, so a drawn block keeps to the limits.
use Rattle.std.proofs.Common.{◌≡◌, ℕ, zero, suc, ◌*◌, ◌<◌, ◌≤◌, ◌^◌, Bool, true, false, cond, pos}
use Rattle.std.proofs.Common.{List, [], ◌∷◌, ◌++◌, length, refl, ap, arith, length-append}
use Rattle.std.specs.Prelude.{◌==◌}
use Rattle.std.specs.List.{concat, flat_map, sum_by, AllByRecursion}
use Rattle.std.proofs.Math.Nat.{mod-lt}
use Rattle.std.proofs.lemmas.List.Folds.{concat-append}
use Rattle.std.proofs.lemmas.List.Sums.{sum_by-cons}
use Rattle.std.specs.Int.{w16, to_be_bytes}
use Rattle.std.specs.Cmp.Lexicographic.{bytes_decides}
use Rattle.lc_base.specs.KeyBytes.{IsKey}
use Rattle.lc_base.specs.NameBytes.{IsName}
use Rattle.lc_base.specs.declared.digest.Digest.{Digest}
use Rattle.byte_fields.specs.Spelling.{string_fields, int_bytes}
use Rattle.block_codec.specs.Spelling.{IsTx, tx_fields, Spells}
use Rattle.block_codec.specs.Placement.{tx_budget, is_same_digest, new_placement}
use Rattle.block_codec.specs.declared.placement.Placement.TheVariants.{Next}
use Rattle.block_codec.specs.declared.limits.TheConstants.{MAX_BLOCKS, MAX_FIRST_TEXT_BYTES, MAX_ROWS_BEFORE_BLOCK}
use Rattle.block_codec.specs.declared.block.Tx.{Tx}
use Rattle.block_codec.specs.declared.block.Tx.TheVariants.{Set}
use Rattle.lc_base.specs.declared.value.Value.TheVariants.{Int}
use Rattle.block_codec.proofs.Placements.{placed_is_next}
use Rattle.byte_fields.proofs.WrittenItems.{all_more}
use Rattle.chain_pack.specs.Draws.{number_below, number_of_key, key_drawn, draw_list}
use Rattle.chain_pack.specs.GeneratedTransactions.{sender, contract, function, deploy, call_with}
use Rattle.chain_pack.specs.GeneratedTransactions.{set_drawn, later_txs, txs_drawn}
use Rattle.chain_pack.specs.Generator.{block_drawn, spelling, IsPlaced}
use Rattle.chain_pack.specs.declared.limits.TheConstants.{FEW_KEYS, MANY_KEYS, ARGS, VALUES}
use Rattle.chain_pack.specs.declared.limits.TheConstants.{DEP_COUNTS, SETS, MAX_TXS_MADE}
use Rattle.chain_pack.proofs.Keys.{raw_key_is_key}

-- ---- draws

number_is_below : (bound state : ℕ) → 0 < bound → (number_below bound state).0 < bound
unfolding number_below
number_is_below bound state some = mod-lt _ some

by_side : (few : Bool) (state : ℕ) → (number_below (cond few FEW_KEYS MANY_KEYS) state).0 < 2 ^ 32
by_side true state = omega (arith, number_is_below FEW_KEYS state (omega arith))
by_side false state = omega (arith, number_is_below MANY_KEYS state (omega arith))

key_number_is_small : (state : ℕ) → (number_of_key state).0 < 2 ^ 32
unfolding number_of_key
key_number_is_small state = let side = number_below 2 state in by_side (side.0 == 0) side.1

key_is_key : (state : ℕ) → IsKey (key_drawn state).0
unfolding key_drawn
key_is_key state = raw_key_is_key (number_of_key state).0 (key_number_is_small state)

sender_is_key : IsKey sender
sender_is_key = record { some = omega arith; short = omega arith; good = refl }

-- ---- items

length_repeated : {A : Type 0} (item : ℕ → A × ℕ) (count state : ℕ) → length (draw_list item count state).0 ≡ count
unfolding draw_list
length_repeated item zero state = refl
length_repeated item (suc count) state = omega (arith, length_repeated item count state, length-append (draw_list item count state).0 ((item (draw_list item count state).1).0 ∷ []))

pub all_repeated : {A : Type 0} (Is : A → Type 0) (item : ℕ → A × ℕ) → ((state : ℕ) → Is (item state).0) → (count state : ℕ) → AllByRecursion Is (draw_list item count state).0
unfolding draw_list
all_repeated Is item each zero state = tt
all_repeated Is item each (suc count) state = all_more Is (draw_list item count state).0 (item (draw_list item count state).1).0 (all_repeated Is item each count state) (each (draw_list item count state).1)

-- ---- transactions

-- A transaction that spells few bytes and has a small budget.
pub record IsSmall (tx : Tx) : Type 0 where
  pub lawful : IsTx MAX_FIRST_TEXT_BYTES tx
  pub short : length (concat (tx_fields tx)) ≤ 300
  pub cheap : tx_budget tx ≤ 10000

-- a key takes at most 66 bytes as a field
keys_short : (keys : List (List ℕ)) → AllByRecursion IsKey keys → length (concat (flat_map string_fields keys)) ≤ 66 * length keys
keys_short [] is = omega arith
keys_short (key ∷ keys) is = let short = is.0.short in omega (arith, short, keys_short keys is.1, length-append key (concat (flat_map string_fields keys)))

set_is_small : (key : List ℕ) (value : ℕ) (deps : List (List ℕ)) → IsKey key → value < 1000 → AllByRecursion IsKey deps → length deps ≤ 2 → IsSmall (Set sender key (Int (pos value)) deps)
set_is_small key value deps is_key small are_keys few = record {
  lawful = record { sender_is_key = sender_is_key; key_is_key = is_key; value_is_value = omega (arith, small); few_deps = omega (arith, few); deps_are_keys = are_keys };
  short = omega (arith, is_key.short, keys_short deps are_keys, few, length-append key ((0 ∷ int_bytes (pos value)) ++ length deps ∷ concat (flat_map string_fields deps)), length-append (int_bytes (pos value)) (length deps ∷ concat (flat_map string_fields deps)));
  cheap = omega arith;
}

set_drawn_is_small : (state : ℕ) → IsSmall (set_drawn state).0
unfolding set_drawn
set_drawn_is_small state =
    let key = key_drawn state in
    let value = number_below VALUES key.1 in
    let count = number_below DEP_COUNTS value.1 in
    let few = number_is_below DEP_COUNTS value.1 (omega arith) in
    let long = length_repeated key_drawn count.0 count.1 in
    set_is_small key.0 value.0 (draw_list key_drawn count.0 count.1).0 (key_is_key state) (number_is_below VALUES key.1 (omega arith)) (all_repeated IsKey key_drawn key_is_key count.0 count.1) (omega (arith, few, long))

contract_is_name : IsName contract
contract_is_name = record { some = omega arith; short = omega arith; good = refl }

function_is_name : IsName function
function_is_name = record { some = omega arith; short = omega arith; good = refl }

deploy_is_small : IsSmall deploy
deploy_is_small = record {
  lawful = record { sender_is_key = sender_is_key; name_is_name = contract_is_name; short_source = omega arith };
  short = omega arith;
  cheap = omega arith;
}

call_is_small : (argument : ℕ) → argument < 16 → IsSmall (call_with argument)
call_is_small argument small = record {
  lawful = record { sender_is_key = sender_is_key; contract_is_name = contract_is_name; function_is_name = function_is_name; few_args = omega arith; args_are_values = (omega (arith, small), tt); low_budget = omega arith };
  short = omega (arith);
  cheap = omega arith;
}

-- ---- blocks

-- Few transactions, each of them small.
pub record AreSmall (txs : List Tx) : Type 0 where
  pub few : length txs ≤ 5
  pub small : AllByRecursion IsSmall txs

later_are_small : (state : ℕ) → AreSmall (later_txs state).0
unfolding later_txs
later_are_small state =
    let argument = number_below ARGS state in
    let long = length_repeated set_drawn SETS argument.1 in
    record {
      few = omega (arith, long);
      small = (call_is_small argument.0 (number_is_below ARGS state (omega arith)), all_repeated IsSmall set_drawn set_drawn_is_small SETS argument.1);
    }

by_number : (first : Bool) (state : ℕ) → AreSmall (cond first (deploy ∷ [], state) (later_txs state)).0
by_number true state = record { few = omega arith; small = (deploy_is_small, tt) }
by_number false state = later_are_small state

drawn_are_small : (number state : ℕ) → AreSmall (txs_drawn number state).0
unfolding txs_drawn
drawn_are_small number state = by_number (number == 0) state

small_are_lawful : (txs : List Tx) → AllByRecursion IsSmall txs → AllByRecursion (IsTx MAX_FIRST_TEXT_BYTES) txs
small_are_lawful [] is = tt
small_are_lawful (tx ∷ txs) is = (is.0.lawful, small_are_lawful txs is.1)

small_are_short : (txs : List Tx) → AllByRecursion IsSmall txs → length (concat (flat_map tx_fields txs)) ≤ 300 * length txs
small_are_short [] is = omega arith
small_are_short (tx ∷ txs) is =
    let short = is.0.short in
    omega (arith, short, small_are_short txs is.1, ap length (concat-append (tx_fields tx) (flat_map tx_fields txs)), length-append (concat (tx_fields tx)) (concat (flat_map tx_fields txs)))

small_are_cheap : (txs : List Tx) → AllByRecursion IsSmall txs → sum_by tx_budget txs ≤ 10000 * length txs
small_are_cheap [] is = omega arith
small_are_cheap (tx ∷ txs) is = let cheap = is.0.cheap in omega (arith, cheap, small_are_cheap txs is.1, sum_by-cons tx_budget tx txs)

-- a drawn block is spelled by its fields, within the limits
pub drawn_is_spelled : (number state : ℕ) (parent : Digest) → number < 2 ^ 32 → length parent.0 ≡ 32 → Spells (spelling (block_drawn number parent state).0) (block_drawn number parent state).0
unfolding block_drawn spelling
drawn_is_spelled number state parent fits digest =
    let txs = (txs_drawn number state).0 in
    let small = drawn_are_small number state in
    let few = small.few in
    record {
      lawful = record { version_is = refl; number_fits = fits; parent_fits = digest; few_txs = omega (arith, few); txs_are_txs = small_are_lawful txs small.small };
      spelled = refl;
      short = omega (arith, few, small_are_short txs small.small, digest, length-append parent.0 (to_be_bytes w16 (length txs) ++ concat (flat_map tx_fields txs)));
    }

-- and is the next one after its parent
same_digest : (digest : Digest) → is_same_digest digest digest ≡ true
same_digest digest = (bytes_decides digest.0 digest.0).1 refl

is_next : (number state : ℕ) (parent : Digest) → number < MAX_BLOCKS → (rows : ℕ) → rows ≤ MAX_ROWS_BEFORE_BLOCK → new_placement false number rows parent (block_drawn number parent state).0 ≡ Next
unfolding block_drawn
is_next number state parent room rows few_rows =
    let block = (block_drawn number parent state).0 in
    let small = drawn_are_small number state in
    let few = small.few in
    placed_is_next false number rows parent block (record {
      room = omega (arith, room);
      few_rows = few_rows;
      number = refl;
      parent_is = same_digest parent;
      version_is = refl;
      cheap = omega (arith, few, small_are_cheap block.txs small.small);
    })

pub drawn_is_placed : (number state : ℕ) (parent : Digest) → IsPlaced number parent (block_drawn number parent state).0
unfolding block_drawn
drawn_is_placed number state parent = record { version_is = refl; next = is_next number state parent }

-- it has few transactions
pub drawn_are_few : (number state : ℕ) (parent : Digest) → length (block_drawn number parent state).0.txs ≤ MAX_TXS_MADE
unfolding block_drawn
drawn_are_few number state parent = let small = drawn_are_small number state in small.few
