-- Right decoders agree on every input of bytes.
use Rattle.std.proofs.Common.{◌≡◌, ℕ, min, List, Result, Ok, Err, refl, sym, ap, ◌∙◌, arith}
use Rattle.byte_fields.specs.Prefixes.{IsLongestPrefix}
use Rattle.byte_fields.specs.Spelling.{IsBytes}
use Rattle.block_codec.specs.declared.limits.TheConstants.{MAX_BLOCK_BYTES}
use Rattle.block_codec.specs.declared.block.Block.{Block}
use Rattle.block_codec.specs.Spelling.{IsBlock, block_fields, IsFaultOffset, Decoder, IsDecoder}

longest_once : (bytes : List ℕ) (m n : ℕ) → IsLongestPrefix block_fields IsBlock bytes m → IsLongestPrefix block_fields IsBlock bytes n → m ≡ n
longest_once bytes m n a b = omega (arith, a.longest n b.good, b.longest m a.good)

-- bytes are invalid at one offset only
offset_once : (bytes : List ℕ) (m n : ℕ) → IsFaultOffset bytes m → IsFaultOffset bytes n → m ≡ n
offset_once bytes m n a b =
    let same : a.reach ≡ b.reach = longest_once bytes a.reach b.reach a.longest b.longest in
    a.offset_is ∙ ap (λ (reach : ℕ). min reach MAX_BLOCK_BYTES) same ∙ sym b.offset_is

agree_by : (a b : Decoder) → IsDecoder a → IsDecoder b → (bytes : List ℕ) → IsBytes bytes → (r s : Result Block ℕ) → a bytes ≡ r → b bytes ≡ s → r ≡ s
agree_by a b da db bytes fits (Ok block) s ea eb = sym (db.again bytes block fits (da.found bytes block fits ea)) ∙ eb
agree_by a b da db bytes fits (Err m) (Ok block) ea eb = let f = da.again bytes block fits (db.found bytes block fits eb) in absurd cc
agree_by a b da db bytes fits (Err m) (Err n) ea eb = ap Err (offset_once bytes m n (da.invalid bytes m fits ea) (db.invalid bytes n fits eb))

pub decoders_agree : (a b : Decoder) → IsDecoder a → IsDecoder b → (bytes : List ℕ) → IsBytes bytes → a bytes ≡ b bytes
decoders_agree a b da db bytes fits = agree_by a b da db bytes fits (a bytes) (b bytes) refl refl
