-- All bytes are read as a block exactly if they spell it.
use Rattle.std.proofs.Common.{◌≡◌, ℕ, ◌-◌, min, ◌<◌, ◌≤◌, Bool, true, false, cond, eqb, ltb, List, [], ◌++◌, length, Result, Ok, Err, refl, sym, ap, subst, ◌∙◌, inl, inr, arith}
use Rattle.std.specs.Prelude.{IfOk, IfErr, IfSome}
use Rattle.std.specs.List.{concat}
use Rattle.std.proofs.lemmas.Bool.{eqb-true, ltb-true, cases_lt, lt-ltb, le-ltb}
use Rattle.std.proofs.lemmas.List.{append-nil, nil_from_length}
use Rattle.byte_fields.specs.Reading.{Field, all_read}
use Rattle.byte_fields.specs.Spelling.{IsBytes}
use Rattle.lc_base.specs.Answers.{Answers}
use Rattle.block_codec.specs.declared.limits.TheConstants.{MAX_BLOCK_BYTES}
use Rattle.block_codec.specs.declared.block.Block.{Block}
use Rattle.block_codec.specs.Spelling.{IsBlock, Spells, IsFaultOffset, IsDecoder, block_fields}
use Rattle.block_codec.specs.Reading.{block_at, whole_block, with_offset, block_in}
use Rattle.block_codec.specs.Decoding.{fault_offset}
use Rattle.block_codec.specs.declared.decoding.DecodeError.{DecodeError}
use Rattle.block_codec.specs.declared.decoding.DecodeError.TheVariants.{Malformed, Memory}
use Rattle.byte_fields.proofs.Laws.{left_of}
use Rattle.byte_fields.proofs.LongestPrefixes.{longest_prefix, left_within}
use Rattle.block_codec.proofs.Blocks.{block_field}

-- a read that reached the end
read_to_end : (read : Block × List ℕ) (b : Bool) (block : Block) → eqb (length read.1) 0 ≡ b → cond b (Ok read.0) (Err (length read.1)) ≡ Ok block → (length read.1 ≡ 0) × (read.0 ≡ block)
read_to_end read true block is e = (eqb-true _ _ is, cc)
read_to_end read false block is e = absurd cc

all_takes : (bytes : List ℕ) (block : Block) → IsBytes bytes → (r : Field Block) → block_at bytes ≡ r → all_read r ≡ Ok block → IsBlock block × (bytes ≡ concat (block_fields block))
all_takes bytes block fits (Ok read) e got =
    let t = block_field.takes bytes read.0 read.1 fits e in
    let ended = read_to_end read (eqb (length read.1) 0) block refl got in
    let whole : bytes ≡ concat (block_fields read.0) = t.parts ∙ ap (λ (rest : List ℕ). concat (block_fields read.0) ++ rest) (nil_from_length read.1 ended.0) ∙ append-nil (concat (block_fields read.0)) in
    subst (λ (b : Block). IsBlock b × (bytes ≡ concat (block_fields b))) ended.1 (t.is, whole)
all_takes bytes block fits (Err left) e got = absurd cc

pub whole_takes : (bytes : List ℕ) (block : Block) → IsBytes bytes → whole_block bytes ≡ Ok block → IsBlock block × (bytes ≡ concat (block_fields block))
unfolding whole_block
whole_takes bytes block fits e = all_takes bytes block fits (block_at bytes) refl e

pub whole_again : (bytes : List ℕ) (block : Block) → IsBlock block → bytes ≡ concat (block_fields block) → whole_block bytes ≡ Ok block
unfolding whole_block
whole_again bytes block is e =
    let read : block_at bytes ≡ Ok (block, []) = ap block_at (e ∙ sym (append-nil (concat (block_fields block)))) ∙ block_field.again block [] is in
    ap all_read read

-- ---- within the greatest length

in_length : (total : ℕ) (r : Result Block ℕ) (block : Block) → with_offset total r ≡ Ok block → (total ≤ MAX_BLOCK_BYTES) × (r ≡ Ok block)
in_length total (Ok found) block e =
    elim (cases_lt MAX_BLOCK_BYTES total) [
      | inl long ↦ absurd (cc (lt-ltb MAX_BLOCK_BYTES total long))
      | inr short ↦ (short, sym (ap (λ (b : Bool). cond b (Err MAX_BLOCK_BYTES) (Ok found)) (le-ltb MAX_BLOCK_BYTES total short)) ∙ e)
    ]
in_length total (Err left) block e = absurd cc

-- what is read is spelled so
pub is_spelled : (bytes : List ℕ) (block : Block) → IsBytes bytes → block_in bytes ≡ Ok block → Spells bytes block
unfolding block_in
is_spelled bytes block fits e =
    let l = in_length (length bytes) (whole_block bytes) block e in
    let t = whole_takes bytes block fits l.1 in
    record { lawful = t.0; spelled = t.1; short = l.0 }

-- what is spelled so is read
pub is_read : (bytes : List ℕ) (block : Block) → Spells bytes block → block_in bytes ≡ Ok block
unfolding block_in
is_read bytes block is =
    ap (with_offset (length bytes)) (whole_again bytes block is.lawful is.spelled)
    ∙ ap (λ (b : Bool). cond b (Err MAX_BLOCK_BYTES) (Ok block)) (le-ltb MAX_BLOCK_BYTES (length bytes) is.short)

-- ---- the offset of a fault

ended : (read : Block × List ℕ) (b : Bool) (left : ℕ) → cond b (Ok read.0) (Err (length read.1)) ≡ Err left → length read.1 ≡ left
ended read true left e = absurd cc
ended read false left e = cc

-- what is left if all bytes were read, and if a field was not
none_left : (r : Field Block) (block : Block) → all_read r ≡ Ok block → left_of r ≡ 0
none_left (Ok read) block e = (read_to_end read (eqb (length read.1) 0) block refl e).0
none_left (Err left) block e = absurd cc

fault_left : (r : Field Block) (left : ℕ) → all_read r ≡ Err left → left_of r ≡ left
fault_left (Ok read) left e = ended read (eqb (length read.1) 0) left e
fault_left (Err l) left e = cc

pub left_is : (bytes : List ℕ) (left : ℕ) → IsBytes bytes → whole_block bytes ≡ Err left → left ≤ length bytes
unfolding whole_block
left_is bytes left fits e = let same = fault_left (block_at bytes) left e in let within = left_within block_field bytes fits in omega (arith, same, within)

too_long : (total : ℕ) (b : Bool) (block : Block) (fault : ℕ) → ltb MAX_BLOCK_BYTES total ≡ b → cond b (Err MAX_BLOCK_BYTES) (Ok block) ≡ Err fault → (MAX_BLOCK_BYTES < total) × (MAX_BLOCK_BYTES ≡ fault)
too_long total true block fault is e = (ltb-true _ _ is, cc)
too_long total false block fault is e = absurd cc

offset_at : (bytes : List ℕ) (fault : ℕ) → IsBytes bytes → (r : Result Block ℕ) → all_read (block_at bytes) ≡ r → with_offset (length bytes) r ≡ Err fault → fault ≡ min (length bytes - left_of (block_at bytes)) MAX_BLOCK_BYTES
offset_at bytes fault fits (Ok block) e got =
    let long = too_long (length bytes) (ltb MAX_BLOCK_BYTES (length bytes)) block fault refl got in
    let none = none_left (block_at bytes) block e in
    omega (arith, long.0, long.1, none)
offset_at bytes fault fits (Err left) e got =
    let same = fault_left (block_at bytes) left e in
    let told : min (length bytes - left) MAX_BLOCK_BYTES ≡ fault = cc in
    omega (arith, same, told)

-- a fault is reported at the end of the longest prefix that is whole fields of some block
pub is_invalid : (bytes : List ℕ) (fault : ℕ) → IsBytes bytes → block_in bytes ≡ Err fault → IsFaultOffset bytes fault
unfolding block_in whole_block
is_invalid bytes fault fits e = record {
  reach = length bytes - left_of (block_at bytes);
  longest = longest_prefix block_field bytes fits (length bytes - left_of (block_at bytes)) refl;
  offset_is = offset_at bytes fault fits (all_read (block_at bytes)) refl e;
}

-- so reading decides what bytes spell
pub decided : IsDecoder block_in
decided = record {
  found = λ bytes block fits e. is_spelled bytes block fits e;
  again = λ bytes block fits is. is_read bytes block is;
  invalid = is_invalid;
}

-- the result for a spelled block
pub only_this : (bytes : List ℕ) (result : Result Block DecodeError) (block : Block) → Answers (λ b. b) fault_offset result (block_in bytes) → Spells bytes block → Answers (λ b. b) fault_offset result (Ok block)
only_this bytes (Ok found) block told is = let f = is_read bytes block is in sym f ∙ told
only_this bytes (Err (Malformed offset)) block told is = let f = is_read bytes block is in absurd cc
only_this bytes (Err Memory) block told is = tt

pub found_this : (bytes : List ℕ) (result : Result Block DecodeError) → IsBytes bytes → Answers (λ b. b) fault_offset result (block_in bytes) → IfOk result (Spells bytes)
found_this bytes (Ok block) fits told = is_spelled bytes block fits told
found_this bytes (Err error) fits told = tt

pub offset_this : (bytes : List ℕ) (result : Result Block DecodeError) → IsBytes bytes → Answers (λ b. b) fault_offset result (block_in bytes) → IfErr result (λ error. IfSome (fault_offset error) (IsFaultOffset bytes))
offset_this bytes (Ok block) fits told = tt
offset_this bytes (Err (Malformed offset)) fits told = is_invalid bytes offset fits told
offset_this bytes (Err Memory) fits told = tt
