-- Bytes are read as a leaf exactly if they begin with its spelling.
use Rattle.std.proofs.Common.{◌≡◌, ℕ, zero, suc, ◌<◌, true, List, [], ◌∷◌, Option, Some, None, refl, arith, append_assoc}
use Rattle.std.specs.Prelude.{nat_lt}
use Rattle.std.proofs.lemmas.Bool.{ltb-true}
use Rattle.lc_base.specs.declared.name_limits.TheConstants.{MAX_KEY_BYTES}
use Rattle.lc_base.specs.KeyBytes.{IsKey, bad_key_byte}
use Rattle.byte_fields.specs.Spelling.{string_fields}
use Rattle.byte_fields.specs.Reading.{key_unless_empty, key_or_empty_at}
use Rattle.byte_fields.proofs.Laws.{IsField, renamed, bind_field, ret_field, then_field, made_field}
use Rattle.byte_fields.proofs.Pieces.{piece_field, ruled_piece, number_piece, byte_piece, bytes_piece, wide32, wide64}
use Rattle.byte_fields.proofs.Fields.{IsString, key_field, key_or_none_field}
use Rattle.prov_entry.specs.declared.entry.Leaf.{Leaf}
use Rattle.prov_entry.specs.Spelling.{IsKeyIfAny, IsLeaf, key_or_empty, next_fields, leaf_fields}
use Rattle.entry_views.specs.Codecs.{Codec}
use Rattle.entry_views.specs.Reading.{flagged_at, next_at, leaf_of, leaf_at}

-- ---- a key, or the empty string

same_or_empty : (key : List ℕ) → key_or_empty (key_unless_empty key) ≡ key
same_or_empty [] = refl
same_or_empty (byte ∷ key) = refl

is_if_any : (key : Option (List ℕ)) → IsString 0 MAX_KEY_BYTES bad_key_byte (key_or_empty key) × (key ≡ key_unless_empty (key_or_empty key)) → IsKeyIfAny key
is_if_any None is = tt
is_if_any (Some []) is = absurd cc
is_if_any (Some (byte ∷ key)) is = record { some = omega arith; short = is.0.short; good = is.0.good }

if_any_is : (key : Option (List ℕ)) → IsKeyIfAny key → IsString 0 MAX_KEY_BYTES bad_key_byte (key_or_empty key) × (key ≡ key_unless_empty (key_or_empty key))
if_any_is None is = (record { long = omega arith; short = omega arith; good = refl }, refl)
if_any_is (Some []) is = absurd (omega (arith, is.some))
if_any_is (Some (byte ∷ key)) is = (record { long = omega arith; short = is.short; good = is.good }, refl)

key_if_any_field : IsField key_or_empty_at (λ key. string_fields (key_or_empty key)) IsKeyIfAny
unfolding key_or_empty_at
key_if_any_field = renamed (made_field key_unless_empty key_or_empty key_or_none_field (λ key is. same_or_empty key)) is_if_any if_any_is (λ key is. refl)

-- ---- the next key

abbrev flag_of : Option (List ℕ) → ℕ
flag_of None = 0
flag_of (Some key) = 1

-- what follows the flag
abbrev after_flag : Option (List ℕ) → List (List ℕ)
after_flag None = []
after_flag (Some key) = string_fields key

abbrev HasFlag : ℕ → Option (List ℕ) → Type 0
HasFlag zero None = Unit {0}
HasFlag zero (Some key) = ⊥
HasFlag (suc flag) None = ⊥
HasFlag (suc flag) (Some key) = IsKey key

flagged_field : (flag : ℕ) → (flag < 256) × (nat_lt flag 2 ≡ true) → IsField (flagged_at flag) after_flag (HasFlag flag)
flagged_field zero is = renamed (ret_field None) is_none none_is same_none
  where
    is_none : (key : Option (List ℕ)) → key ≡ None → HasFlag 0 key
    is_none None is = tt
    is_none (Some key) is = absurd cc

    none_is : (key : Option (List ℕ)) → HasFlag 0 key → key ≡ None
    none_is None is = refl
    none_is (Some key) is = absurd is

    same_none : (key : Option (List ℕ)) → key ≡ None → [] ≡ after_flag key
    same_none None is = refl
    same_none (Some key) is = absurd cc
flagged_field (suc flag) is = renamed (made_field Some key_or_empty key_field (λ key is_key. refl)) is_some some_is same_some
  where
    is_some : (key : Option (List ℕ)) → IsKey (key_or_empty key) × (key ≡ Some (key_or_empty key)) → HasFlag (suc flag) key
    is_some None is = absurd cc
    is_some (Some key) is = is.0

    some_is : (key : Option (List ℕ)) → HasFlag (suc flag) key → IsKey (key_or_empty key) × (key ≡ Some (key_or_empty key))
    some_is None is = absurd is
    some_is (Some key) is = (is, refl)

    same_some : (key : Option (List ℕ)) → IsKey (key_or_empty key) × (key ≡ Some (key_or_empty key)) → string_fields (key_or_empty key) ≡ after_flag key
    same_some None is = absurd cc
    same_some (Some key) is = refl

flags_are : (flag : ℕ) (key : Option (List ℕ)) → (flag < 256) × (nat_lt flag 2 ≡ true) → HasFlag flag key → flag_of key ≡ flag
flags_are zero None is has = refl
flags_are zero (Some key) is has = absurd has
flags_are (suc flag) None is has = absurd has
flags_are (suc flag) (Some key) is has = let lt : suc flag < 2 = ltb-true _ _ is.1 in omega arith

are_nexts : (key : Option (List ℕ)) → ((flag_of key < 256) × (nat_lt (flag_of key) 2 ≡ true)) × HasFlag (flag_of key) key → IsKeyIfAny key
are_nexts None is = tt
are_nexts (Some key) is = is.1

nexts_are : (key : Option (List ℕ)) → IsKeyIfAny key → ((flag_of key < 256) × (nat_lt (flag_of key) 2 ≡ true)) × HasFlag (flag_of key) key
nexts_are None is = ((omega arith, refl), tt)
nexts_are (Some key) is = ((omega arith, refl), is)

same_nexts : (key : Option (List ℕ)) → (flag_of key ∷ []) ∷ after_flag key ≡ next_fields key
same_nexts None = refl
same_nexts (Some key) = refl

-- What is read as the next key of a leaf is spelled so, and the other way round.
pub next_field : IsField next_at next_fields IsKeyIfAny
unfolding next_at
next_field =
    let flag = ruled_piece byte_piece (λ flag. nat_lt flag 2) (record { value = 0; is = (omega arith, refl) }) in
    renamed (bind_field {Is_b = HasFlag} flag_of (piece_field flag) flagged_field flags_are) are_nexts nexts_are (λ key is. same_nexts key)

-- ---- a leaf

abbrev leaf_parts : Leaf → Option (List ℕ) × (Option (List ℕ) × (ℕ × (List ℕ × (ℕ × List ℕ))))
leaf_parts leaf = (leaf.key, (leaf.next, (leaf.newest_block, (leaf.newest.0, (leaf.open_count, leaf.open_digest.0)))))

-- What is read as a leaf is spelled so, and the other way round.
pub leaf_field : IsField leaf_at leaf_fields IsLeaf
unfolding leaf_at
leaf_field =
    let digest = piece_field (bytes_piece 32) in
    renamed (made_field leaf_of leaf_parts (then_field key_if_any_field (then_field next_field (then_field (piece_field (number_piece wide32)) (then_field digest (then_field (piece_field (number_piece wide64)) digest))))) (λ parts is. refl))
    (λ leaf is. let p = is.0 in record { key_is_key = p.0; next_is_key = p.1.0; newest_block_fits = p.1.1.0; newest_fits = p.1.1.1.0; open_count_fits = p.1.1.1.1.0; open_digest_fits = p.1.1.1.1.1 })
    (λ leaf is. ((is.key_is_key, (is.next_is_key, (is.newest_block_fits, (is.newest_fits, (is.open_count_fits, is.open_digest_fits))))), refl))
    (λ leaf is. simp append_assoc)

-- How leaves are spelled and read.
abbrev pub leaf_codec : Codec Leaf
leaf_codec = record { fields = leaf_fields; lawful = IsLeaf; read = leaf_at; agrees = leaf_field }
