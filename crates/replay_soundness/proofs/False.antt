-- Blocks by which the false laws are refuted.
use Rattle.std.proofs.Common.{◌≡◌, ℕ, zero, suc, ℤ, pos, ◌<◌, ◌^◌, false, List, [], ◌∷◌, length, get_or, take, None, Some, subst, refl, arith, inl, inr, codes}
use Rattle.std.specs.Int.{w64}
use Rattle.std.specs.Int.RustNames.{FitsSigned}
use Rattle.std.specs.List.{All, AllPairs}
use Rattle.std.specs.Cmp.Lexicographic.{bytes_decides}
use Rattle.std.proofs.lemmas.List.Elements.{All-nil, All-cons}
use Rattle.sha2.proofs.Facts256.{length-sha256}
use Rattle.lc_base.specs.History.{StandsBefore}
use Rattle.lc_base.specs.declared.digest.Digest.{Digest}
use Rattle.lc_base.specs.declared.row.Row.{Row}
use Rattle.lc_base.specs.declared.value.Value.TheVariants as values
use Rattle.contract_tree.specs.Tree.{FunctionTree, statements, no_statement}
use Rattle.contract_tree.specs.Tree as tree
use Rattle.contract_semantics.specs.Builtins.{call_by_name}
use Rattle.contract_semantics.specs.Calls.{call_result}
use Rattle.block_codec.specs.Placement.{digest_of, no_parent, placement}
use Rattle.block_codec.specs.Spelling.{IsBlock}
use Rattle.block_codec.specs.declared.block.TheConstants.{FIRST_VERSION}
use Rattle.block_codec.specs.declared.block.Tx.{Tx}
use Rattle.block_codec.specs.declared.block.Tx.TheVariants.{Set, Deploy, Call}
use Rattle.block_codec.specs.declared.block.Block.{Block}
use Rattle.block_codec.specs.declared.placement.Placement.TheVariants.{Next}
use Rattle.chain_input.specs.chain_exec.Compiled.{Compiler, compiled_in}
use Rattle.chain_input.specs.chain_exec.Replay.{replay}
use Rattle.chain_input.proofs.chain_exec.TheLaws.{one_compiler}
use Rattle.chain_input.specs.chain_replay.Chain.{IsChain, placement_in}
use Rattle.root_laws.specs.TypedLedger.{IsTypedRow}
use Rattle.replay_soundness.specs.TypedChains.{IsLawfulChain}
use Rattle.replay_soundness.specs.FalseLaws.{PlacesDoNotMatter, LimitsDoNotMatter, CompilersDoNotMatter}

-- the first block, with one transaction
abbrev first : Tx → Block
first tx = record { version = FIRST_VERSION; number = 0; parent = no_parent; txs = tx ∷ [] }

-- a Set of `raw/a`, and its row
abbrev set : ℤ → Tx
set z = Set (codes "s") (codes "raw/a") (values.Int z) []

abbrev row : ℤ → Row
row z = record { key = codes "raw/a"; block = 0; tx = 0; value = values.Int z; deps = [] }

both_are : (block other : Block) → IsBlock block → IsBlock other → All IsBlock (block ∷ other ∷ [])
both_are block other is more = All-cons IsBlock block (other ∷ []) is (All-cons IsBlock other [] more (All-nil IsBlock))

-- ---- blocks of one number

abbrev twice : List Block
twice = first (set (pos 1)) ∷ first (set (pos 1)) ∷ []

is_first : IsBlock (first (set (pos 1)))
is_first = record {
  version_is = refl;
  number_fits = omega arith;
  parent_fits = refl;
  few_txs = omega arith;
  txs_are_txs = (
    record {
      sender_is_key = record { some = omega arith; short = omega arith; good = refl };
      key_is_key = record { some = omega arith; short = omega arith; good = refl };
      value_is_value = record { sfits = omega arith };
      few_deps = omega arith;
      deps_are_keys = tt;
    },
    tt,
  );
}

rows_of_twice : (replay compiled_in twice).rows ≡ row (pos 1) ∷ row (pos 1) ∷ []
unfolding replay
rows_of_twice = refl

not_before : (a : Row) → StandsBefore a a → ⊥
not_before a (inl earlier) = omega (arith, earlier)
not_before a (inr same) = same.2 refl

pub places_matter : PlacesDoNotMatter → ⊥
places_matter law =
    let typed = law compiled_in twice (one_compiler.is_compiler, both_are (first (set (pos 1))) (first (set (pos 1))) is_first is_first) in
    let ordered : AllPairs StandsBefore (row (pos 1) ∷ row (pos 1) ∷ []) = subst (AllPairs StandsBefore) rows_of_twice typed.history.lawful.ordered in
    not_before (row (pos 1)) (ordered 0 1 (row (pos 1)) (omega arith) (omega arith))

-- ---- a block past its limits

abbrev large : Block
large = first (set (pos (2 ^ 64)))

rows_of_large : (replay compiled_in (large ∷ [])).rows ≡ row (pos (2 ^ 64)) ∷ []
unfolding replay
rows_of_large = refl

placed : placement_in compiled_in [] large ≡ Next
unfolding replay
placed = refl

one_is_chain : (compile : Compiler) (block : Block) → placement_in compile [] block ≡ Next → IsChain compile (block ∷ [])
one_is_chain compile block next i d within =
    let none : 0 ≡ i = omega (arith, within) in
    subst (λ (n : ℕ). placement_in compile (take n (block ∷ [])) (get_or (block ∷ []) n d) ≡ Next) none next

not_within : FitsSigned w64 (pos (2 ^ 64)) → ⊥
not_within fits = let low : 2 ^ 64 < 2 ^ 63 = fits.sfits in omega (arith, low)

pub limits_matter : LimitsDoNotMatter → ⊥
limits_matter law =
    let typed = law compiled_in (large ∷ []) (one_compiler.is_compiler, one_is_chain compiled_in large placed) in
    let rows : All IsTypedRow (row (pos (2 ^ 64)) ∷ []) = subst (All IsTypedRow) rows_of_large typed.history.typed in
    not_within (rows 0 (row (pos (2 ^ 64))) (omega arith)).value_is_value

-- ---- contracts with literals that are no values

-- put "c/k" = 18446744073709551616;
abbrev puts_large : List FunctionTree
puts_large = record { at = 0; name = codes "f"; params = []; body = statements (tree.Put 0 (tree.Text 0 (codes "c/k")) (tree.Int 0 (pos (2 ^ 64))) None) no_statement } ∷ []

abbrev compiles_large : Compiler
compiles_large edition source = Some puts_large

abbrev deploying : Block
deploying = first (Deploy (codes "s") (codes "c") [])

abbrev calling : Digest → Block
calling parent = record { version = FIRST_VERSION; number = 1; parent = parent; txs = Call (codes "s") (codes "c") (codes "f") [] 100 ∷ [] }

abbrev called : List Block
called = deploying ∷ calling (digest_of deploying) ∷ []

abbrev written : Row
written = record { key = codes "c/k"; block = 1; tx = 0; value = values.Int (pos (2 ^ 64)); deps = [] }

rows_of_called : (parent : Digest) → (replay compiles_large (deploying ∷ calling parent ∷ [])).rows ≡ written ∷ []
unfolding replay call_result call_by_name
rows_of_called parent = refl

is_deploying : IsBlock deploying
is_deploying = record {
  version_is = refl;
  number_fits = omega arith;
  parent_fits = refl;
  few_txs = omega arith;
  txs_are_txs = (
    record {
      sender_is_key = record { some = omega arith; short = omega arith; good = refl };
      name_is_name = record { some = omega arith; short = omega arith; good = refl };
      short_source = omega arith;
    },
    tt,
  );
}

is_calling : (parent : Digest) → length parent.0 ≡ 32 → IsBlock (calling parent)
is_calling parent long = record {
  version_is = refl;
  number_fits = omega arith;
  parent_fits = long;
  few_txs = omega arith;
  txs_are_txs = (
    record {
      sender_is_key = record { some = omega arith; short = omega arith; good = refl };
      contract_is_name = record { some = omega arith; short = omega arith; good = refl };
      function_is_name = record { some = omega arith; short = omega arith; good = refl };
      few_args = omega arith;
      args_are_values = tt;
      low_budget = omega arith;
    },
    tt,
  );
}

deploying_next : placement_in compiles_large [] deploying ≡ Next
unfolding replay
deploying_next = refl

parent_next : (parent digest : Digest)
    → placement false 1 0 None parent (calling parent) digest ≡ Next
parent_next parent digest = rw ((bytes_decides parent.0 parent.0).1 refl) refl

calling_next : placement_in compiles_large (deploying ∷ []) (calling (digest_of deploying)) ≡ Next
unfolding replay
calling_next = parent_next (digest_of deploying) (digest_of (calling (digest_of deploying)))

two_are_chain : (compile : Compiler) (block other : Block) → placement_in compile [] block ≡ Next → placement_in compile (block ∷ []) other ≡ Next → IsChain compile (block ∷ other ∷ [])
two_are_chain compile block other next more zero d within = next
two_are_chain compile block other next more (suc zero) d within = more
two_are_chain compile block other next more (suc (suc i)) d within = absurd (omega (arith, within))

pub compilers_matter : CompilersDoNotMatter → ⊥
compilers_matter law =
    let chain : IsLawfulChain compiles_large called = record {
      lawful = both_are deploying (calling (digest_of deploying)) is_deploying (is_calling (digest_of deploying) (length-sha256 _));
      chained = two_are_chain compiles_large deploying (calling (digest_of deploying)) deploying_next calling_next;
    } in
    let typed = law compiles_large called chain in
    let rows : All IsTypedRow (written ∷ []) = subst (All IsTypedRow) (rows_of_called (digest_of deploying)) typed.history.typed in
    not_within (rows 0 written (omega arith)).value_is_value
