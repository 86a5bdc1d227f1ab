-- What writing a block, or a part of one, returns.
use Rattle.std.specs.Prelude.{◌≡◌, ℕ, nat_le, Bool, true, false, List, ◌++◌, length, Result, OnOk, IsErrOf}
use Rattle.std.specs.List.{concat}
use Rattle.lc_base.specs.declared.value.Value.{Value}
use Rattle.lc_base.specs.declared.value.Value.TheVariants.{Int, Text, Gone}
use Rattle.block_codec.specs.declared.error.EncodeError.{EncodeError}
use Rattle.block_codec.specs.declared.error.EncodeError.TheVariants.{Limit}

-- The fields of a lawful value are appended, and only an unlawful value is refused with `Limit`.
pub record Encodes {T : Type 0} (fields : List (List ℕ)) (Is : Type 0) (old new : List ℕ)
    (result : Result T EncodeError) : Type 0 where
  pub written : OnOk result (new ≡ old ++ concat fields)
  pub lawful : OnOk result Is
  pub limit : IsErrOf result Limit → Is → ⊥

-- Whether a block may have the value, if its texts have at most `most` bytes.
abbrev pub may_be_in_block : ℕ → Value → Bool
may_be_in_block most (Int number) = true
may_be_in_block most (Text text) = nat_le (length text) most
may_be_in_block most Gone = false
